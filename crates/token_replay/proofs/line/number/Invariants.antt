-- `line::number` meets its contract: before each turn the digits passed spell the value.
use Rattle.std.proofs.Common.{◌≡◌}
use Rattle.token_replay.specs.Line.{spelt}
use Rattle.token_replay.proofs.line.number.Given as goal

abbrev pub invariant-loop-i : goal.invariant-loop-i
invariant-loop-i l = l.value ≡ spelt l.line l.at l.i
