-- `table::view::Table::nth_entry` meets its contract. The invariant: of the live entries from slot i on, the one after `past` others is the
-- answer.
use Rattle.std.proofs.Common.{◌≡◌, ◌-◌}
use Rattle.table.specs.Insert.{live_entries}
use Rattle.table.specs.Copy.{nth_of}
use Rattle.table.proofs.view.Table.nth_entry.Given as goal

abbrev pub invariant-loop-i : goal.invariant-loop-i
invariant-loop-i l = (nth_of (live_entries l.self.words.now l.i (l.self.slots - l.i)) l.past
    ≡ nth_of (live_entries l.self.words.now 0 l.self.slots) l.n)
