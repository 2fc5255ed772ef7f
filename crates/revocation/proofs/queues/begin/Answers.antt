-- `revocation::queues::begin` meets its contract: the notice, and then the three words before the ring.
use Rattle.revocation.specs.Queue.{begun}
use Rattle.revocation.proofs.queues.begin.Goals as goal

pub returns : goal.returns
unfolding begun
returns c = cc
