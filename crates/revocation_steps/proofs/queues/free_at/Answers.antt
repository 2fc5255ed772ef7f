-- The queue is lent to `revocation::queues::free`.
use Rattle.revocation.specs.Queue.{freed}
use Rattle.revocation_steps.specs.Revocation.{free_step}
use Rattle.steps.proofs.Lending.{lent_back}
use Rattle.revocation_steps.proofs.queues.free_at.Goals as goal

pub returns : goal.returns
unfolding free_step
returns c =
    lent_back _ _ _ _ _ c.queue.ensures freed _ c.free.ensures
