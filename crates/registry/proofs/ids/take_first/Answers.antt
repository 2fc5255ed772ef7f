-- `registry::ids::take_first` meets its contract: the smallest of the recycled ids is the first, and the others move down over it.
use Rattle.registry.specs.Ids.{first_taken}
use Rattle.registry.proofs.ids.take_first.Goals as goal

pub returns-clause-rg_after : goal.returns-clause-rg_after
unfolding first_taken
returns-clause-rg_after c = c.shift_down.ensures
