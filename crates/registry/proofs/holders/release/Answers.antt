-- `registry::holders::release` meets its contract: the state where the id was found goes down by one holder, if it has one.
use Rattle.registry.proofs.Holding.{one_id}
use Rattle.registry.proofs.holders.release.Goals as goal

pub returns-then-rg-at-ge4 : goal.returns-then-rg-at-ge4
returns-then-rg-at-ge4 c = search one_id

pub returns-else-rg-at-ge4 : goal.returns-else-rg-at-ge4
returns-else-rg-at-ge4 c = search one_id

pub returns-else-k-n : goal.returns-else-k-n
returns-else-k-n c = search one_id
