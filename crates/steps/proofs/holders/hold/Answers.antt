-- The registry is lent to `registry::holders::hold`.
use Rattle.steps.specs.Steps.{hold_step}
use Rattle.steps.proofs.Lending.{lends}
use Rattle.steps.proofs.holders.hold.Goals as goal

pub returns : goal.returns
unfolding hold_step
returns c = search lends
