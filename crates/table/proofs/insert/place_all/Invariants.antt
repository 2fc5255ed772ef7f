-- `table::insert::place_all` meets its contract. The invariant: placing the entries from i on into the words as they are by now gives
-- the whole.
use Rattle.std.proofs.Common.{◌≡◌, ◌-◌, length}
use Rattle.table.specs.Insert.{scratch_entries, place_all}
use Rattle.table.proofs.insert.place_all.Given as goal

abbrev pub invariant-loop-i : goal.invariant-loop-i
invariant-loop-i l =
    (length l.words ≡ length l.initial.words)
    × (place_all (scratch_entries l.scratch l.i (l.count - l.i)) l.words l.slots
    ≡ place_all (scratch_entries l.scratch 0 l.count) l.initial.words l.slots)
