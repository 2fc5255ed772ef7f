use Rattle.std.proofs.Common.{◌≡◌, ap, ◌∙◌, Bool, true, List, ℕ, ◌<◌, arith, rules, ltb-true, ltb, length, get_or}
use Rattle.base.specs.Below.{all}
use Rattle.base.specs.AllLaws.{all_at, all_tests}
use Rattle.table.specs.Sound.{ends_here}
use Rattle.table_look.proofs.all_found.Goals as goal

module _ (ws : List ℕ) (slots : ℕ) (live : List ℕ) (j i : ℕ) (this : i ≡ get_or live j 0) where
  below : all (length live) (λ j. ltb (get_or live j 0) slots) ≡ true → j < length live → i < slots
  below listed l =
      omega (arith, ltb-true (get_or live j 0) slots (all_at (length live) (λ j. ltb (get_or live j 0) slots) listed j l))

  -- What is tested is the search of the j-th slot.
  tested : (r : Bool) → r ≡ ends_here ws slots i → r ≡ ends_here ws slots (get_or live j 0)
  tested r e = e ∙ ap (ends_here ws slots) this

ruleset laws = (rules, all_tests, below, tested)

pub loop-i-init : goal.loop-i-init
loop-i-init c = search laws

pub is_found-requires : goal.is_found-requires
is_found-requires c = search laws

pub loop-i-preserved : goal.loop-i-preserved
loop-i-preserved c = search laws

pub returns-then-not-is_found : goal.returns-then-not-is_found
returns-then-not-is_found c = search laws
