use Rattle.table.proofs.CodeWalk.{free_laws}
use Rattle.table.proofs.view.Table.free_for.Goals as goal

pub loop-preserved : goal.loop-preserved
loop-preserved c = search free_laws
