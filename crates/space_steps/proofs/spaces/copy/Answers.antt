-- The ids on both sides are read, then the entries copied, then the source's held and the target's released.
use Rattle.space_steps.proofs.Copying.{copied_answer}
use Rattle.steps.proofs.ChangingEntries.{copy_done}
use Rattle.space_steps.proofs.spaces.copy.Goals as goal

pub returns-clause-mem_after : goal.returns-clause-mem_after
returns-clause-mem_after c = copy_done _ _ _ _ _ _ _ _ _ c.ids_of-accepted.ensures.0 c.ids_of-gone.ensures.0
    c.copy_entries-moved.ensures.mem_after
    c.hold_all.ensures c.release_all.ensures

pub returns-clause-value : goal.returns-clause-value
returns-clause-value c = copied_answer _ _ _ _ _ _ _ c.copy_entries-moved.ensures.value c.ids_of-accepted.ensures.0
    c.ids_of-accepted.ensures.2
