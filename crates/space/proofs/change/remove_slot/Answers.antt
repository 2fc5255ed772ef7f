-- `space::change::remove_slot` meets its contract: the table gives the entry up, and the space takes its counts.
use Rattle.space.proofs.CodeChange.{change_laws}
use Rattle.space.proofs.change.remove_slot.Goals as goal

pub returns : goal.returns
returns c = search change_laws
