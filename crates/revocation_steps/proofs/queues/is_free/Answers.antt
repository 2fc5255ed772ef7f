-- The length is read where the queue stands.
use Rattle.std.proofs.Common.{ap, arith, eqb}
use Rattle.revocation_steps.proofs.AtQueues.{length_here, queue_from, queue_inside}
use Rattle.revocation_steps.proofs.queues.is_free.Goals as goal

pub bounds-mem-first : goal.bounds-mem-first
bounds-mem-first c = omega (arith, queue_inside _ _ _ _ c.requires.0 c.requires.1 c.requires.2)

pub returns : goal.returns
returns c = ap (λ n. eqb n 0) (length_here _ _ _ _ (queue_from _ _ _ c.requires.1 c.requires.2))
