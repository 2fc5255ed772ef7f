-- The memory has the head's words.
use Rattle.std.proofs.Common.{arith}
use Rattle.world.specs.Regions.{length_for}
use Rattle.world_look.proofs.holdings_sound.Goals as goal

pub bounds-mem-11 : goal.bounds-mem-11
unfolding length_for
bounds-mem-11 c = omega arith
