-- The word goes up by k, wrapping.
use Rattle.steps.specs.Steps.{add_step}
use Rattle.steps.proofs.registered.add.Goals as goal

pub returns : goal.returns
unfolding add_step
returns c = cc
