use Rattle.registry.proofs.Holding.{id_each}
use Rattle.registry.proofs.holders.release_all.Goals as goal

pub loop-id-preserved : goal.loop-id-preserved
loop-id-preserved c = search id_each

pub returns : goal.returns
returns c = search id_each
