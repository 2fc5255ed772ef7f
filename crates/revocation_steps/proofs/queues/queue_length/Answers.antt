-- The length is read where the queue stands.
use Rattle.revocation_steps.proofs.AtQueues.{length_here}
use Rattle.revocation_steps.proofs.queues.queue_length.Goals as goal

pub returns : goal.returns
returns c = length_here _ _ _ _ c.queue_at.ensures
