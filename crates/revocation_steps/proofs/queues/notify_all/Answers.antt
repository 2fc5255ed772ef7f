use Rattle.std.proofs.Common.{rules}
use Rattle.revocation_steps.proofs.queues.notify_all.Invariants.{starts, still_ready, ends, goes}
use Rattle.revocation_steps.proofs.queues.notify_all.Goals as goal

ruleset laws = (rules, starts, still_ready, ends, goes)

pub loop-id-preserved : goal.loop-id-preserved
loop-id-preserved c = search laws

pub returns : goal.returns
returns c = search laws
