-- The registry is lent to `registry::ids::recycle`, then the count of recycled ids is set.
use Rattle.steps.specs.Steps.{recycle_step}
use Rattle.steps.proofs.Lending.{lends}
use Rattle.steps.proofs.registered.recycle.Goals as goal

pub returns : goal.returns
unfolding recycle_step
returns c = search lends
