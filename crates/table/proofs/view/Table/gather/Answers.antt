use Rattle.table.proofs.CodeRebuild.{gather_laws}
use Rattle.table.proofs.view.Table.gather.Goals as goal

pub loop-i-preserved : goal.loop-i-preserved
loop-i-preserved c = search gather_laws

pub returns-clause-result_after : goal.returns-clause-result_after
returns-clause-result_after c = search gather_laws
