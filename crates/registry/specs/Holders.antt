-- Document 01, "Holders": plus one per accepted entry of a registered id, minus one per entry leaving, never under 0. n ids are
-- registered, in a registry of `places` places; an id that is not registered has no holders to count.
use Rattle.std.specs.Prelude.{ℕ, ◌+◌, ◌-◌, ◌*◌, ◌%◌, ◌^◌, List, [], ◌∷◌, nat_eq, nat_lt, slice_set}
use Rattle.base.specs.Below.{first}
use Rattle.base.specs.Choose.{pick}
use Rattle.registry.specs.Words.{id_at, state_at}

-- The place of an id: the first of n that has it, else n.
unfoldable pub place_of : ℕ → List ℕ → ℕ → ℕ
place_of n rg id = first (λ k. nat_eq (id_at rg k) id) n

-- The registry with the state of an id changed, if the id is registered.
abbrev pub on_state : ℕ → ℕ → ℕ → (ℕ → ℕ) → List ℕ → List ℕ
on_state places n id f rg =
    let k = place_of n rg id in
    pick (nat_lt k n) (slice_set rg (2 * places + k) (f (state_at places rg k))) rg

-- One holder more. A state is a word, so it wraps, which no sound registry comes near.
abbrev pub one_more : ℕ → ℕ
one_more state = (state + 4) % 2 ^ 64

-- One holder less, never under 0.
abbrev pub one_less : ℕ → ℕ
one_less state = pick (nat_lt state 4) state (state - 4)

unfoldable pub held : ℕ → ℕ → ℕ → List ℕ → List ℕ
held places n id rg = on_state places n id one_more rg

unfoldable pub released : ℕ → ℕ → ℕ → List ℕ → List ℕ
released places n id rg = on_state places n id one_less rg

-- One after the other, for each of a list of ids.
unfoldable pub each_id : (ℕ → List ℕ → List ℕ) → List ℕ → List ℕ → List ℕ
each_id change [] rg = rg
each_id change (id ∷ ids) rg = each_id change ids (change id rg)

abbrev pub held_all : ℕ → ℕ → List ℕ → List ℕ → List ℕ
held_all places n ids rg = each_id (held places n) ids rg

abbrev pub released_all : ℕ → ℕ → List ℕ → List ℕ → List ℕ
released_all places n ids rg = each_id (released places n) ids rg
