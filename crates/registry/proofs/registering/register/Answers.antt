-- `registry::registering::register` meets its contract: its four words are written one after the other.
use Rattle.registry.specs.Registering.{registered}
use Rattle.registry.proofs.registering.register.Goals as goal

pub returns : goal.returns
unfolding registered
returns c = cc
