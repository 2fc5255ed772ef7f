use Rattle.table.proofs.CodeRebuild.{place_laws}
use Rattle.table.proofs.insert.place_all.Goals as goal

pub loop-i-preserved : goal.loop-i-preserved
loop-i-preserved c = search place_laws

pub returns : goal.returns
returns c = search place_laws
