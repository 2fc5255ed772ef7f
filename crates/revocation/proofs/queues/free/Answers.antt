-- `revocation::queues::free` meets its contract: one word is written.
use Rattle.std.proofs.Common.{rules}
use Rattle.revocation.specs.Queue.{freed}
use Rattle.revocation.proofs.queues.free.Goals as goal

pub returns : goal.returns
unfolding freed
returns c = search rules
