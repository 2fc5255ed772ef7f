-- The turns of the code that holds and releases ids: one id, at the place k where it was found, and a list of them one after the other.
use Rattle.std.proofs.Common.{◌≡◌, ℕ, ◌+◌, ◌-◌, ◌*◌, ◌%◌, ◌^◌, ◌<◌, ◌≤◌, List, length, get_or, drop, set, sym, ◌∙◌, drop_of_length-le, rules, le-ltb, lt-ltb}
use Rattle.std.proofs.Math.Seq.{set-get_or}
use Rattle.base.specs.Rest.{drop_next}
use Rattle.registry.specs.Words.{state_at}
use Rattle.registry.specs.Holders.{place_of, one_more, one_less, on_state, held, released, each_id}

-- ---- one id

module _ (places n id k : ℕ) (rg : List ℕ) (e : k ≡ place_of n rg id) where
  changed : (f : ℕ → ℕ) → k < n → set rg (2 * places + k) (f (state_at places rg k)) ≡ on_state places n id f rg
  changed f l = rw (← e, lt-ltb k n l)

  unchanged : (f : ℕ → ℕ) → n ≤ k → rg ≡ on_state places n id f rg
  unchanged f l = rw (← e, le-ltb k n l)

  pub hold_found : (v : ℕ) → k < n → v ≡ (state_at places rg k + 4) % 2 ^ 64 → set rg (2 * places + k) v ≡ held places n id rg
  unfolding held
  hold_found v l h = rw h (changed one_more l)

  pub hold_none : n ≤ k → rg ≡ held places n id rg
  unfolding held
  hold_none l = unchanged one_more l

  pub release_found : k < n → 4 ≤ state_at places rg k → set rg (2 * places + k) (state_at places rg k - 4) ≡ released places n id rg
  unfolding released
  release_found l some = rw (le-ltb (state_at places rg k) 4 some) at (changed one_less l)

  pub release_few : k < n → state_at places rg k < 4 → rg ≡ released places n id rg
  unfolding released
  release_few l few =
      sym (set-get_or rg (2 * places + k) 0) ∙ rw (lt-ltb (state_at places rg k) 4 few) at (changed one_less l)

  pub release_none : n ≤ k → rg ≡ released places n id rg
  unfolding released
  release_none l = unchanged one_less l

pub ruleset one_id = (rules, hold_found, hold_none, release_found, release_few, release_none)

-- ---- a list of ids

-- The first j are done: with the others, rg becomes what all make of rg₀, the registry as it was lent.
abbrev pub EachFrom : (ℕ → List ℕ → List ℕ) → List ℕ → List ℕ → List ℕ → ℕ → Type 0
EachFrom change ids rg₀ rg j = (j ≤ length ids) × (length rg ≡ length rg₀) × (each_id change (drop j ids) rg ≡ each_id change ids rg₀)

module _ (change : ℕ → List ℕ → List ℕ) (j : ℕ) (ids rg ys : List ℕ) where
  pub id_turn : (rg' : List ℕ) → each_id change (drop j ids) rg ≡ ys → j < length ids → rg' ≡ change (get_or ids j 0) rg
      → each_id change (drop (j + 1) ids) rg' ≡ ys
  unfolding each_id
  id_turn rg' e l h = rw h (rw (drop_next ids j l) at e)

  pub ids_done : each_id change (drop j ids) rg ≡ ys → length ids ≤ j → rg ≡ ys
  unfolding each_id
  ids_done e l = rw (drop_of_length-le ids l) at e

pub ruleset id_each = (rules, id_turn, ids_done)
