-- The sums are those of Starts.antt, in the words of the code.
use Rattle.world.proofs.Starts.{starts}
use Rattle.world.proofs.regions.space_at.Goals as goal

pub overflow_mul-result : goal.overflow_mul-result
overflow_mul-result c = search starts

pub overflow_add-result : goal.overflow_add-result
overflow_add-result c = search starts

pub returns : goal.returns
returns c = search starts
