use Rattle.std.proofs.Common.{rules}
use Rattle.revocation_steps.proofs.queues.new_queues.Invariants.{starts, ends, counts}
use Rattle.revocation_steps.proofs.queues.new_queues.Goals as goal

ruleset laws = (rules, starts, ends, counts)

pub loop-j-preserved : goal.loop-j-preserved
loop-j-preserved c = (
  search laws,
  search laws,
)

pub returns : goal.returns
returns c = search laws
