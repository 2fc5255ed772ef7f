-- `table_look::all_found` meets its contract: the searches of the first j slots end where they must.
use Rattle.std.proofs.Common.{◌≡◌, true, get_or}
use Rattle.base.specs.Below.{all}
use Rattle.table.specs.Sound.{ends_here}
use Rattle.table_look.proofs.all_found.Given as goal

abbrev pub invariant-loop-i : goal.invariant-loop-i
invariant-loop-i l = all l.i-index (λ j. ends_here l.table.words.now l.table.slots (get_or l.live j 0)) ≡ true
