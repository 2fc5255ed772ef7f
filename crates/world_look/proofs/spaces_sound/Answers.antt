use Rattle.std.proofs.Common.{arith}
use Rattle.base.specs.AllLaws.{all_done, all_stops}
use Rattle.world.specs.Sound.{spaces_test}
use Rattle.world_look.proofs.spaces_sound.Goals as goal

pub returns-then-not-space_sound-clause-value : goal.returns-then-not-space_sound-clause-value
unfolding spaces_test
returns-then-not-space_sound-clause-value c = all_stops _ _ _ _ c.loop-s-test.true c.space_sound.ensures.value
    c.if-not-space_sound.true

pub returns-clause-value : goal.returns-clause-value
unfolding spaces_test
returns-clause-value c =
    let looked = c.loop-s.invariant in all_done _ _ _ looked.sound (omega arith) (omega arith)
