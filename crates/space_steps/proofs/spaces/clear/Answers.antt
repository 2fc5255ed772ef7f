-- The ids are read, then the space is cleared, then they are released.
use Rattle.steps.proofs.ChangingEntries.{clear_done}
use Rattle.space_steps.proofs.spaces.clear.Goals as goal

pub returns : goal.returns
returns c =
    clear_done _ _ _ _ _ _ c.ids_of-count.ensures.0 c.clear_entries.ensures
    c.release_all.ensures
