-- `registry::holders::hold` meets its contract: the state where the id was found goes up by one holder.
use Rattle.registry.proofs.Holding.{one_id}
use Rattle.registry.proofs.holders.hold.Goals as goal

pub returns-then-k-n : goal.returns-then-k-n
returns-then-k-n c = search one_id

pub returns-else-k-n : goal.returns-else-k-n
returns-else-k-n c = search one_id
