-- `space::change::accept` meets its contract: the table takes the entry, the space its counts.
use Rattle.space.proofs.CodeChange.{change_laws}
use Rattle.space.proofs.change.accept.Goals as goal

pub returns-clause-sp_after : goal.returns-clause-sp_after
returns-clause-sp_after c = search change_laws
