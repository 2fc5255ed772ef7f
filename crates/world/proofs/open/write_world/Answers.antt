-- The three steps are those of the definition.
use Rattle.std.proofs.Common.{arith}
use Rattle.world.specs.Regions.{length_for}
use Rattle.world.proofs.Opening.{all_written}
use Rattle.world.proofs.open.write_world.Goals as goal

pub open_head-requires : goal.open_head-requires
unfolding length_for
open_head-requires c = omega arith

pub returns : goal.returns
returns c =
    all_written _ _ _ _ _ _ c.open_head.ensures c.open_spaces.ensures c.open_queues.ensures
