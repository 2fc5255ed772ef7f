use Rattle.std.proofs.Common.{rules}
use Rattle.revocation_steps.proofs.queues.free_queues.Invariants.{starts, done, counts}
use Rattle.revocation_steps.proofs.queues.free_queues.Goals as goal

ruleset laws = (rules, starts, done, counts)

pub loop-q-init : goal.loop-q-init
loop-q-init c = search laws

pub loop-q-preserved : goal.loop-q-preserved
loop-q-preserved c = (search laws, counts _ _ _ _ c.loop-q.invariant.1 _ c.is_free.ensures)

pub returns : goal.returns
returns c = search laws
