-- The log is lent to `revocation::log::append`, then the count of logged pairs is set.
use Rattle.std.proofs.Common.{refl, ◌+◌, length}
use Rattle.revocation.specs.Log.{appended}
use Rattle.world.specs.Numbers.{logged_of}
use Rattle.revocation_steps.specs.Revocation.{log_step}
use Rattle.steps.proofs.Lending.{lent_and_word}
use Rattle.revocation_steps.proofs.log.append_pairs.Goals as goal

pub returns : goal.returns
unfolding log_step
returns c =
    let args = c.args in
    let n = logged_of args.mem.now in
    lent_and_word _ _ _ _ _ c.log.ensures (appended n args.pairs.now) _ 13
    (n + length args.pairs.now) _ refl c.append.ensures
