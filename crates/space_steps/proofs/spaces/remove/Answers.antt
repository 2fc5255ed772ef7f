-- An entry that was found has left, and is no longer held.
use Rattle.steps.proofs.ChangingEntries.{removing}
use Rattle.space_steps.proofs.spaces.remove.Goals as goal

pub returns-then-is_some-clause-mem_after : goal.returns-then-is_some-clause-mem_after
returns-then-is_some-clause-mem_after c = search removing

pub returns-else-is_some-clause-mem_after : goal.returns-else-is_some-clause-mem_after
returns-else-is_some-clause-mem_after c = search removing
