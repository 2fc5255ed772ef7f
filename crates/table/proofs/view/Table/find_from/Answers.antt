use Rattle.std.proofs.Common.{rules}
use Rattle.table.proofs.CodeWalk.{find_laws}
use Rattle.table.proofs.view.Table.find_from.Goals as goal

pub loop-passed-init : goal.loop-passed-init
loop-passed-init c = search find_laws

pub returns-then-has_id : goal.returns-then-has_id
returns-then-has_id c = (search find_laws, search rules)

pub loop-passed-preserved : goal.loop-passed-preserved
loop-passed-preserved c = search find_laws

pub returns : goal.returns
returns c = (search find_laws, search rules)
