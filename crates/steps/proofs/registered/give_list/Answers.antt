-- The registry is lent to `registry::registering::give_list`.
use Rattle.steps.specs.Steps.{list_step}
use Rattle.steps.proofs.Lending.{lends}
use Rattle.steps.proofs.registered.give_list.Goals as goal

pub returns : goal.returns
unfolding list_step
returns c = search lends
