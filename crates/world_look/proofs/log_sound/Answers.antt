-- What is lent is the log.
use Rattle.std.proofs.Common.{◌∙◌, arith}
use Rattle.world.specs.Regions.{log, length_for}
use Rattle.world.specs.Sound.{logged_test}
use Rattle.world.specs.Views.{lent_view}
use Rattle.world_look.proofs.log_sound.Goals as goal

pub bounds-mem-13 : goal.bounds-mem-13
unfolding length_for
bounds-mem-13 c = omega arith

pub returns : goal.returns
unfolding logged_test
returns c =
    let lent = lent_view c.args.d log c.args.mem.now _ _ c.log.ensures.is c.log.ensures.ends in
    c.log_sound.ensures ∙ rw lent
