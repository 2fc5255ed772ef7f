-- `table::view::Table::find_from` meets its contract. The invariant: after `passed` visits the search goes on at slot i, and answers that
-- many visits more than the search from there on.
use Rattle.std.proofs.Common.{◌≡◌, ◌-◌, ◌<◌}
use Rattle.table.specs.Walk.{search_from}
use Rattle.table.proofs.CodeWalk.{later}
use Rattle.table.proofs.view.Table.find_from.Given as goal

abbrev pub invariant-loop-passed : goal.invariant-loop-passed
invariant-loop-passed l =
    (l.i < l.self.slots) × (search_from l.self.words.now l.self.slots l.id l.from l.n
    ≡ later l.passed (search_from l.self.words.now l.self.slots l.id l.i (l.n - l.passed)))
