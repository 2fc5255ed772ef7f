-- Walks over the slots, and the two that end somewhere: the search for an id and the walk for a free place.
use Rattle.std.specs.Prelude.{Bool, not, List, ℕ, ◌+◌, ◌*◌, ◌/◌, ◌%◌, ◌^◌, eqb, ltb, Option, None, Some}
use Rattle.base.specs.Choose.{pick}
use Rattle.base.specs.Below.{first}
use Rattle.table.specs.Slots.{is_empty, is_live, id_at, entry_at}
use Rattle.table.specs.declared.CapabilityEntry.{CapabilityEntry}
use Rattle.table.specs.declared.Search.{Search}

-- Home: id times 0x9E3779B97F4A7C15, keeping 64 bits, shifted right 32, remainder by the slot count.
unfoldable pub home_of : ℕ → ℕ → ℕ
home_of id slots = (id * 0x9E3779B97F4A7C15) % 2 ^ 64 / 2 ^ 32 % slots

-- Walks go up by one and around: the slot that the walk of an id meets after t steps.
unfoldable pub walk : ℕ → ℕ → ℕ → ℕ
walk id slots t = (home_of id slots + t) % slots

-- A search stops at the id or at an empty slot; removed slots are passed.
abbrev pub stops : List ℕ → ℕ → ℕ → Bool
stops ws id i = pick (is_live ws i) (eqb (id_at ws i) id) (is_empty ws i)

-- How many steps it takes to stop, or as many as there are slots.
unfoldable pub steps_to_stop : List ℕ → ℕ → ℕ → ℕ
steps_to_stop ws slots id = first (λ t. stops ws id (walk id slots t)) slots

-- Where a search over n slots ended, and its visits: it takes t steps to stop, at slot i, or does not stop.
abbrev pub ended : List ℕ → ℕ → ℕ → ℕ → Search
ended ws n t i =
    pick (ltb t n) (record { found = pick (is_live ws i) (Some i) None; visits = t + 1 }) (record { found = None; visits = t })

-- The search. On 0 slots it visits none.
unfoldable pub search : List ℕ → ℕ → ℕ → Search
search ws slots id = let t = steps_to_stop ws slots id in ended ws slots t (walk id slots t)

-- The search over n slots only, and from slot i on instead of home.
unfoldable pub search_from : List ℕ → ℕ → ℕ → ℕ → ℕ → Search
search_from ws slots id i n = let t = first (λ t. stops ws id ((i + t) % slots)) n in ended ws n t ((i + t) % slots)

-- The entry of the slot where the search ended.
abbrev pub got_at : List ℕ → Option ℕ → Option CapabilityEntry
got_at ws (Some i) = Some (entry_at ws i)
got_at ws None = None

unfoldable pub got : List ℕ → ℕ → ℕ → Option CapabilityEntry
got ws slots id = got_at ws (search ws slots id).found

-- Place at the first slot not live.
unfoldable pub steps_to_free : List ℕ → ℕ → ℕ → ℕ
steps_to_free ws slots id = first (λ t. not (is_live ws (walk id slots t))) slots

unfoldable pub free_for : List ℕ → ℕ → ℕ → ℕ
free_for ws slots id = walk id slots (steps_to_free ws slots id)
