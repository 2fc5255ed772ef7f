-- `registry_look::count_entry` meets its contract: the place that the index answers has a counter, and it has room.
use Rattle.std.proofs.Common.{◌≡◌, sym, ◌∙◌, List, ℕ, ◌<◌, arith, length, Option, Some, None}
use Rattle.base.specs.Place.{place_of, place_holds}
use Rattle.registry.specs.Counts.{add_one, count_entry}
use Rattle.registry_look.proofs.count_entry.Goals as goal
use Rattle.registry_look.proofs.count_entry.Goals.{In-Some}

module _ (ids : List ℕ) (id : ℕ) (counts : List ℕ) (p : Option ℕ) (e : p ≡ place_of ids id) where
  present : (k : ℕ) → p ≡ Some k → add_one k counts ≡ count_entry ids id counts
  unfolding count_entry
  present k told = rw (sym e ∙ told)

  absent : p ≡ None → counts ≡ count_entry ids id counts
  unfolding count_entry
  absent told = rw (sym e ∙ told)

-- The arm of a place: it is one of the ids.
inside : (c : In-Some) → c.in-Some.k
    < length c.args.ids.now.words.now
inside c = (place_holds _ _ _ (sym c.place_of.ensures ∙ c.in-Some.is)).0

pub offset_bounds-counts-k : goal.offset_bounds-counts-k
offset_bounds-counts-k c = omega (arith, inside (goal.at.offset_bounds-counts-k c).In-Some)

pub bounds-counts-k : goal.bounds-counts-k
bounds-counts-k c = omega (arith, inside (goal.at.bounds-counts-k c).In-Some)

pub bounds-counts-k-in-Some : goal.bounds-counts-k-in-Some
bounds-counts-k-in-Some c = omega (arith, inside (goal.at.bounds-counts-k-in-Some c).In-Some)

pub returns-in-Some : goal.returns-in-Some
returns-in-Some c = present _ _ _ _ c.place_of.ensures _ c.in-Some.is

pub returns-in_default : goal.returns-in_default
returns-in_default c = absent _ _ _ _ c.place_of.ensures c.in_default.is
