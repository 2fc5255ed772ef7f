-- `table::insert::empty_slots` meets its contract. The invariant: the first i slots are emptied.
use Rattle.std.proofs.Common.{◌≡◌, length}
use Rattle.table.specs.Insert.{emptied}
use Rattle.table.proofs.insert.empty_slots.Given as goal

abbrev pub invariant-loop-i : goal.invariant-loop-i
invariant-loop-i l = (length l.words ≡ length l.initial.words) × (l.words ≡ emptied l.initial.words l.i)
