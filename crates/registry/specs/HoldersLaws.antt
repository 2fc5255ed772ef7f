-- Laws of holding and releasing: nothing but holders changes, and those of each id by as often as it is held or released.
use Rattle.std.specs.Prelude.{◌≡◌, ℕ, ◌+◌, ◌-◌, ◌*◌, ◌%◌, ◌^◌, ◌<◌, ◌≤◌, List, [], ◌∷◌, length, ◌==◌, nat_eq, slice_set, refl}
use Rattle.std.proofs.Common.{◌∙◌, get_or-set_same, get_or-set_other, arith, lt-ltb, le-ltb, eqb-true, eq-eqb, ne_eqb, sym, ap}
use Rattle.std.proofs.Math.Decide.{ℕ_discrete, dec_lt}
use Rattle.std.proofs.Math.Logic.{by_cases}
use Rattle.base.specs.Below.{one}
use Rattle.base.specs.SumLaws.{one_le}
use Rattle.base.specs.Distinct.{Differ}
use Rattle.base.specs.FirstLaws.{first_is, first_passes}
use Rattle.registry.specs.Words.{id_at, state_at, holders}
use Rattle.registry.specs.Holders.{place_of, on_state, one_more, one_less, held, released, each_id, held_all, released_all}
use Rattle.registry.specs.Rules.{RegisteredRules}
use Rattle.registry.specs.StatesOnly.{StatesOnly, ByAt, by_keeps, states_only_none, states_only_as, states_only_one, states_only_then, same_ids, states_only_differ, flags_same_registered}

-- ---- what stays

-- The flags of a state stay.
abbrev pub SameFlags : ℕ → ℕ → ℕ → Type 0
SameFlags k state state' = state' % 4 ≡ state % 4

-- Outside the states every word stays, and of each state the flags.
abbrev pub HoldersOnly : ℕ → List ℕ → List ℕ → Type 0
HoldersOnly places rg rg' = StatesOnly SameFlags places rg rg'

module _ (places : ℕ) where
  pub holders_only_refl : (rg : List ℕ) → HoldersOnly places rg rg
  holders_only_refl = states_only_none places SameFlags (λ k state. refl)

  pub holders_only_trans : (rg rg' rg'' : List ℕ) → HoldersOnly places rg rg' → HoldersOnly places rg' rg'' → HoldersOnly places rg rg''
  holders_only_trans = states_only_then places SameFlags SameFlags SameFlags (λ k s s' s'' h g. g ∙ h)

-- The rules of registered ids do not speak of holders.
pub holders_only_registered :
    (places : ℕ) (rg rg' : List ℕ) → HoldersOnly places rg rg' → (n : ℕ) → n ≤ places → (next : ℕ)
    → RegisteredRules places n next rg → RegisteredRules places n next rg'
holders_only_registered places rg rg' only n fit next =
    flags_same_registered places rg rg' only n fit next (λ k l. omega (arith, only.states k)) (λ k l. omega (arith, only.states k))

-- ---- the place of an id

module _ (n : ℕ) (rg : List ℕ) (id : ℕ) where
  pub place_holds : place_of n rg id < n → id_at rg (place_of n rg id) ≡ id
  unfolding place_of
  place_holds l = eqb-true (id_at rg (place_of n rg id)) id (first_passes (λ k. nat_eq (id_at rg k) id) n l)

  -- Where ids differ, it is the only one that has the id.
  pub place_is : (k : ℕ) → Differ n (id_at rg) → k < n → id_at rg k ≡ id → place_of n rg id ≡ k
  unfolding place_of
  place_is k differ l e =
      first_is (λ k. nat_eq (id_at rg k) id) n k l (eq-eqb (id_at rg k) id e)
      (λ j u. ne_eqb (id_at rg j) id (λ h. differ k l j u (h ∙ sym e)))

-- ---- one id

module _ (places n : ℕ) (rg : List ℕ) (fit : n ≤ places) (long : 5 * places + 1 ≤ length rg) where
  module _ (id : ℕ) (f : ℕ → ℕ) where
    abbrev p : ℕ
    p = place_of n rg id

    change_only : ((s : ℕ) → f s % 4 ≡ s % 4) → HoldersOnly places rg (on_state places n id f rg)
    change_only keeps =
        by_cases (dec_lt p n)
        (λ l.
        rw (lt-ltb p n l)
        (states_only_as places (ByAt f (λ k. k ≡ p)) SameFlags (by_keeps (λ s. s % 4) f keeps (λ k. k ≡ p)) rg
        (slice_set rg (2 * places + p) (f (state_at places rg p))) (states_only_one places f p rg (omega arith) long)))
        (λ none'. rw (le-ltb p n (omega arith)) (holders_only_refl places rg))

    module _ (k : ℕ) (l : k < n) where
      -- The state at k changes where k has the id, and nowhere else.
      change_here : Differ n (id_at rg) → id_at rg k ≡ id → state_at places (on_state places n id f rg) k ≡ f (state_at places rg k)
      change_here differ e =
          rw (place_is n rg id k differ l e, lt-ltb k n l) (get_or-set_same rg (2 * places + k) (f (state_at places rg k)) 0 (omega arith))

      change_other : ¬ (id_at rg k ≡ id) → state_at places (on_state places n id f rg) k ≡ state_at places rg k
      change_other d =
          by_cases (dec_lt p n)
          (λ u.
          let apart : ¬ (k ≡ p) = λ e. d (ap (id_at rg) e ∙ place_holds n rg id u) in
          rw (lt-ltb p n u) (get_or-set_other rg (2 * places + p) (2 * places + k) (f (state_at places rg p)) 0 (omega arith)))
          (λ none'. rw (le-ltb p n (omega arith)))

  module _ (id : ℕ) where
    pub held_only : HoldersOnly places rg (held places n id rg)
    unfolding held
    held_only = change_only id one_more (λ s. omega arith)

    pub released_only : HoldersOnly places rg (released places n id rg)
    unfolding released
    released_only = change_only id one_less less_flags
      where
        less_flags : (s : ℕ) → one_less s % 4 ≡ s % 4
        less_flags s = by_cases (dec_lt s 4) (λ few. rw (lt-ltb s 4 few)) (λ some. rw (le-ltb s 4 (omega arith)) (omega arith))

    module _ (differ : Differ n (id_at rg)) (k : ℕ) (l : k < n) where
      -- The holders at k change by as often as its id is the one.
      pub held_holders :
          holders (state_at places rg k) + 1 < 2 ^ 62
          → holders (state_at places (held places n id rg) k) ≡ holders (state_at places rg k) + one (id_at rg k == id)
      unfolding held
      held_holders room =
          by_cases (ℕ_discrete (id_at rg k) id)
          (λ e. omega (arith, change_here id one_more k l differ e, ap one (eq-eqb (id_at rg k) id e)))
          (λ d. omega (arith, change_other id one_more k l d, ap one (ne_eqb (id_at rg k) id d)))

      pub released_holders :
          holders (state_at places (released places n id rg) k) ≡ holders (state_at places rg k) - one (id_at rg k == id)
      unfolding released
      released_holders =
          by_cases (ℕ_discrete (id_at rg k) id)
          (λ e. omega (arith, change_here id one_less k l differ e, less (state_at places rg k), ap one (eq-eqb (id_at rg k) id e)))
          (λ d. omega (arith, change_other id one_less k l d, ap one (ne_eqb (id_at rg k) id d)))
        where
          less : (s : ℕ) → holders (one_less s) ≡ holders s - 1
          less s = by_cases (dec_lt s 4) (λ few. rw (lt-ltb s 4 few) (omega arith)) (λ some. rw (le-ltb s 4 (omega arith)) (omega arith))

-- ---- a list of ids

-- How often x stands in a list.
unfoldable pub count : ℕ → List ℕ → ℕ
count x [] = 0
count x (y ∷ ys) = one (x == y) + count x ys

module _ (places : ℕ) (change : ℕ → List ℕ → List ℕ)
    (once : (id : ℕ) (rg : List ℕ) → 5 * places + 1 ≤ length rg → HoldersOnly places rg (change id rg)) where
  each_only : (ids rg : List ℕ) → 5 * places + 1 ≤ length rg → HoldersOnly places rg (each_id change ids rg)
  unfolding each_id
  each_only [] rg long = holders_only_refl places rg
  each_only (id ∷ ids) rg long =
      let rg' : List ℕ = change id rg in
      let only : HoldersOnly places rg rg' = once id rg long in
      holders_only_trans places rg rg' (each_id change ids rg') only (each_only ids rg' (omega (arith, only.same_length)))

module _ (places n : ℕ) (fit : n ≤ places) where
  pub held_all_only : (ids rg : List ℕ) → 5 * places + 1 ≤ length rg → HoldersOnly places rg (held_all places n ids rg)
  held_all_only = each_only places (held places n) (λ id rg long. held_only places n rg fit long id)

  pub released_all_only : (ids rg : List ℕ) → 5 * places + 1 ≤ length rg → HoldersOnly places rg (released_all places n ids rg)
  released_all_only = each_only places (released places n) (λ id rg long. released_only places n rg fit long id)

  module _ (k : ℕ) (l : k < n) where
    pub held_all_holders : (ids rg : List ℕ) → 5 * places + 1 ≤ length rg → Differ n (id_at rg)
        → holders (state_at places rg k) + length ids < 2 ^ 62
        → holders (state_at places (held_all places n ids rg) k) ≡ holders (state_at places rg k) + count (id_at rg k) ids
    unfolding each_id count
    held_all_holders [] rg long differ room = omega arith
    held_all_holders (id ∷ ids) rg long differ room =
        let rg' : List ℕ = held places n id rg in
        let only : HoldersOnly places rg rg' = held_only places n rg fit long id in
        let one_id : holders (state_at places rg' k) ≡ holders (state_at places rg k) + one (id_at rg k == id) =
        held_holders places n rg fit long id differ k l (omega arith) in
        let rest =
        held_all_holders ids rg' (omega (arith, only.same_length)) (states_only_differ places rg rg' only n fit differ)
        (omega (arith, one_id, one_le (id_at rg k == id))) in
        omega (arith, rest, one_id, ap (λ x. count x ids) (same_ids places rg rg' only k (omega arith)))

    pub released_all_holders : (ids rg : List ℕ) → 5 * places + 1 ≤ length rg → Differ n (id_at rg)
        → holders (state_at places (released_all places n ids rg) k) ≡ holders (state_at places rg k) - count (id_at rg k) ids
    unfolding each_id count
    released_all_holders [] rg long differ = omega arith
    released_all_holders (id ∷ ids) rg long differ =
        let rg' : List ℕ = released places n id rg in
        let only : HoldersOnly places rg rg' = released_only places n rg fit long id in
        let one_id : holders (state_at places rg' k) ≡ holders (state_at places rg k) - one (id_at rg k == id) =
        released_holders places n rg fit long id differ k l in
        let rest = released_all_holders ids rg' (omega (arith, only.same_length)) (states_only_differ places rg rg' only n fit differ) in
        omega (arith, rest, one_id, ap (λ x. count x ids) (same_ids places rg rg' only k (omega arith)))
