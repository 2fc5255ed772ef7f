-- The registry is lent to `registry::registering::register`, then the count of registered ids is set.
use Rattle.steps.specs.Steps.{register_step}
use Rattle.steps.proofs.Lending.{lends}
use Rattle.steps.proofs.registered.register.Goals as goal

pub returns : goal.returns
unfolding register_step
returns c = search lends
