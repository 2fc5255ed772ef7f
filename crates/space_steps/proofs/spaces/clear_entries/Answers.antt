-- The space is lent to `space::clear`.
use Rattle.steps.proofs.Lending.{lends}
use Rattle.space_steps.proofs.spaces.clear_entries.Goals as goal

pub clear-requires : goal.clear-requires
clear-requires c = search lends
