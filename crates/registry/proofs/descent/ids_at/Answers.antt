use Rattle.std.proofs.Common.{◌≡◌, ℕ, ◌+◌, ◌<◌, ◌≤◌, List, length, get_or, set, rules}
use Rattle.base.specs.Written.{written, write_starts, write_goes, write_ends}
use Rattle.registry.specs.Words.{id_at}
use Rattle.registry.specs.Children.{ids_at}
use Rattle.registry.specs.ChildrenLaws.{ids_at-length, ids_at_each}
use Rattle.registry.specs.PlaceLists.{all_below_at}
use Rattle.registry.proofs.descent.ids_at.Invariants.{WritingIds}
use Rattle.registry.proofs.descent.ids_at.Goals as goal

starts : (rg order ids : List ℕ) → length order ≤ length ids → WritingIds rg order ids ids 0
starts rg order ids enough = write_starts (ids_at rg order) ids (rw ids_at-length enough)

module _ (rg order ids₀ ids : List ℕ) (j : ℕ) (writing : WritingIds rg order ids₀ ids j) where
  goes : (id : ℕ) → j < length order → id ≡ id_at rg (get_or order j 0) → WritingIds rg order ids₀ (set ids j id) (j + 1)
  goes id l is = rw (is, ← ids_at_each rg order j l) (write_goes _ _ _ _ _ _ writing (rw ids_at-length l))

  ends : length order ≤ j → ids ≡ written (ids_at rg order) ids₀
  ends u = write_ends _ _ _ _ _ _ writing (rw ids_at-length u)

ruleset laws = (rules, all_below_at, starts, goes, ends)

pub loop-j-init : goal.loop-j-init
loop-j-init c = search laws

pub loop-j-preserved : goal.loop-j-preserved
loop-j-preserved c = search laws

pub returns : goal.returns
returns c = search laws
