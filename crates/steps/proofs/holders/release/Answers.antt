-- The registry is lent to `registry::holders::release`.
use Rattle.steps.specs.Steps.{release_step}
use Rattle.steps.proofs.Lending.{lends}
use Rattle.steps.proofs.holders.release.Goals as goal

pub returns : goal.returns
unfolding release_step
returns c = search lends
