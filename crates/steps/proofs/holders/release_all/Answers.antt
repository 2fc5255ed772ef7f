-- The registry is lent to `registry::holders::release_all`.
use Rattle.steps.specs.Steps.{release_all_step}
use Rattle.steps.proofs.Lending.{lends}
use Rattle.steps.proofs.holders.release_all.Goals as goal

pub returns : goal.returns
unfolding release_all_step
returns c = search lends
