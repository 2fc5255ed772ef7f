-- The space's words are lent from `start` to `end`.
use Rattle.std.proofs.Common.{arith, length-take, length-drop}
use Rattle.base.specs.Written.{written}
use Rattle.world.specs.Open.{open_space}
use Rattle.world.specs.Regions.{space, width_of}
use Rattle.world.specs.Views.{lent_region}
use Rattle.world.proofs.open.open_space.Goals as goal

pub put_words-requires : goal.put_words-requires
unfolding width_of
put_words-requires c = simp (length-take, length-drop) (omega arith)

pub returns : goal.returns
unfolding open_space written
returns c =
    let args = c.args in
    lent_region args.d (space args.s) _ _ _ (open_space args.quota) _ c.space.ensures.is c.space.ensures.ends
    c.put_words.ensures
