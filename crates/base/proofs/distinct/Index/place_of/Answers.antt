-- `base::distinct::Index::place_of` meets its contract: the walk from the end of the list finds the last place.
use Rattle.std.proofs.Common.{◌≡◌, List, ℕ, zero, suc, ◌-◌, ◌≤◌, Option, arith, length}
use Rattle.std.proofs.lemmas.Grind.{common_steps}
use Rattle.std.specs.Option.{SomeIff}
use Rattle.base.specs.Place.{last_of, place_of}
use Rattle.base.proofs.distinct.Index.place_of.Goals as goal

placed : (xs : List ℕ) (word at : ℕ) (r : Option ℕ) → at ≡ last_of xs word (length xs) → SomeIff r (1 ≤ at) (at - 1) → r ≡ place_of xs word
unfolding place_of
placed xs word zero r e told = rw (← e) (grind (arith, common_steps))
placed xs word (suc k) r e told = rw (← e) (grind (arith, common_steps))

pub returns : goal.returns
returns c = placed _ _ _ _ c.last_of-at.ensures c.checked_sub.ensures
