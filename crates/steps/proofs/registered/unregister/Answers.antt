-- The registry is lent to `registry::registering::unregister`, then the count of registered ids is set.
use Rattle.steps.specs.Steps.{unregister_step}
use Rattle.steps.proofs.Lending.{lends}
use Rattle.steps.proofs.registered.unregister.Goals as goal

pub returns : goal.returns
unfolding unregister_step
returns c = search lends
