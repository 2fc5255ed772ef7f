-- The words of a space of a world that is ready are in range.
use Rattle.steps.proofs.Lending.{lent_in_range}
use Rattle.space_steps.proofs.spaces.read.Goals as goal

pub invariant_of-result : goal.invariant_of-result
invariant_of-result c =
    let (ready, there) = c.requires in
    record { in_range = lent_in_range _ _ _ _ _ c.space.ensures ready there }
