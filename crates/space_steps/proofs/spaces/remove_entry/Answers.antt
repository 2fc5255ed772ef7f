-- The space is lent to `space::remove`.
use Rattle.steps.proofs.Lending.{lends}
use Rattle.space_steps.proofs.spaces.remove_entry.Goals as goal

pub remove-requires : goal.remove-requires
remove-requires c = search lends
