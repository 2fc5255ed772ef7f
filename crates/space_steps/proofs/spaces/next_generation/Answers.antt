-- The space is lent to `space::next_generation`.
use Rattle.steps.specs.Steps.{next_step}
use Rattle.steps.proofs.Lending.{lends}
use Rattle.space_steps.proofs.spaces.next_generation.Goals as goal

pub next_generation-requires : goal.next_generation-requires
next_generation-requires c = search lends

pub returns : goal.returns
unfolding next_step
returns c = search lends
