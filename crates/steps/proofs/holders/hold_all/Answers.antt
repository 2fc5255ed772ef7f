-- The registry is lent to `registry::holders::hold_all`.
use Rattle.steps.specs.Steps.{hold_all_step}
use Rattle.steps.proofs.Lending.{lends}
use Rattle.steps.proofs.holders.hold_all.Goals as goal

pub returns : goal.returns
unfolding hold_all_step
returns c = search lends
