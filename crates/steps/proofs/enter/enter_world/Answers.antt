-- What was found sound is what every step asks for.
use Rattle.steps.proofs.Entering.{entering}
use Rattle.steps.proofs.enter.enter_world.Goals as goal

pub returns-clause-sound : goal.returns-clause-sound
returns-clause-sound c = search entering

pub returns-clause-ready : goal.returns-clause-ready
returns-clause-ready c = search entering
