-- `table::copy::copy_from` meets its contract. The invariant: copying the entries from i on, into the table as it is by now, gives the
-- whole; and the table is bounded, so that the words lent suffice.
use Rattle.std.proofs.Common.{◌≡◌, ◌-◌, length}
use Rattle.table.specs.Insert.{scratch_entries, leaves}
use Rattle.table.specs.Copy.{insert_all}
use Rattle.table.proofs.CodeCopy.{Bounded}
use Rattle.table.proofs.copy.copy_from.Given as goal

abbrev pub invariant-loop-i : goal.invariant-loop-i
invariant-loop-i l =
    (length l.words ≡ length l.initial.words)
    × Bounded l.count l.i (leaves l.words l.s)
    × (insert_all (scratch_entries l.scratch l.i (l.count - l.i)) (leaves l.words l.s)
    ≡ insert_all (scratch_entries l.scratch 0 l.count) (leaves l.initial.words l.initial.s))
