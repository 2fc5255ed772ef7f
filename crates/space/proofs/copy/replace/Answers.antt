-- `space::copy::replace` meets its contract: the table is made anew, the space takes its counts and the generation.
use Rattle.space.proofs.CodeChange.{change_laws}
use Rattle.space.proofs.copy.replace.Goals as goal

pub returns-clause-sp_after : goal.returns-clause-sp_after
returns-clause-sp_after c = search change_laws

pub returns-clause-value : goal.returns-clause-value
returns-clause-value c = search change_laws
