use Rattle.std.proofs.Common.{◌≡◌, ℕ, ◌+◌, ◌<◌, ◌≤◌, List, [], ◌∷◌, length, get_or, drop, drop_of_length-le, rules}
use Rattle.base.specs.Rest.{drop_next}
use Rattle.registry.specs.PlaceLists.{all_below_at}
use Rattle.registry.specs.Descent.{marked}
use Rattle.registry.proofs.descent.mark.Goals as goal

module _ (places j : ℕ) (order rg ys : List ℕ) (e : marked places (drop j order) rg ≡ ys) where
  turn : (rg' : List ℕ) → j < length order → rg' ≡ marked places (get_or order j 0 ∷ []) rg → marked places (drop (j + 1) order) rg' ≡ ys
  unfolding marked
  turn rg' l h = rw h (rw (drop_next order j l) at e)

  done : length order ≤ j → rg ≡ ys
  unfolding marked
  done l = rw (drop_of_length-le order l) at e

ruleset laws = (rules, all_below_at, turn, done)

pub loop-k-preserved : goal.loop-k-preserved
loop-k-preserved c = search laws

pub returns : goal.returns
returns c = search laws
