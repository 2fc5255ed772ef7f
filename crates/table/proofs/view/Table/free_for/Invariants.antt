-- `table::view::Table::free_for` meets its contract. The invariant: after so many steps the walk stands at slot i, and the steps to a free
-- slot are those that are still to be counted.
use Rattle.std.proofs.Common.{◌≡◌, ◌<◌}
use Rattle.table.specs.Walk.{walk, steps_to_free}
use Rattle.table.proofs.CodeWalk.{free_from}
use Rattle.table.proofs.view.Table.free_for.Given as goal

abbrev pub invariant-loop : goal.invariant-loop
invariant-loop l =
    (l.i < l.self.slots) × (l.i ≡ walk l.id l.self.slots l.counter)
    × (steps_to_free l.self.words.now l.self.slots l.id ≡ free_from l.self.words.now l.self.slots l.id l.counter)
