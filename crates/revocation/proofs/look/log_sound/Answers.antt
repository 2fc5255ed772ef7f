-- `revocation::look::log_sound` meets its contract: what is lent to `distinct` is the first n pairs.
use Rattle.std.proofs.Common.{◌∙◌, arith}
use Rattle.base.specs.Choose.{both_goes}
use Rattle.base.specs.Distinct.{differ_take}
use Rattle.revocation.specs.Sound.{log_test}
use Rattle.revocation.proofs.look.log_sound.Goals as goal

pub returns-then-pairs_coded : goal.returns-then-pairs_coded
unfolding log_test
returns-then-pairs_coded c =
    both_goes _ _ _ _ c.pairs_coded.ensures c.if-pairs_coded.true
    (c.distinct.ensures ∙ differ_take _ _ (omega arith))
