-- `table::view::Table::gather` meets its contract. The invariant: gathering from slot i on, into what the scratch holds by now, gives the
-- whole.
use Rattle.std.proofs.Common.{◌≡◌, ◌-◌, ◌≤◌}
use Rattle.table.specs.Insert.{gathered}
use Rattle.table.proofs.view.Table.gather.Given as goal

abbrev pub invariant-loop-i : goal.invariant-loop-i
invariant-loop-i l =
    (l.count ≤ l.i)
    × (gathered l.self.words.now l.i (l.self.slots - l.i) (record { kept = l.scratch; count = l.count })
    ≡ gathered l.self.words.now 0 l.self.slots (record { kept = l.initial.scratch; count = 0 }))
