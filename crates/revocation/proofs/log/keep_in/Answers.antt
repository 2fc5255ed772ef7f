-- `revocation::log::keep_in` meets its contract: fresh arrays index nothing, and words that differ are indexed.
use Rattle.std.proofs.Common.{◌∙◌, arith}
use Rattle.std.proofs.lemmas.List.{length-replicate}
use Rattle.std.proofs.lemmas.Grind.{common_steps}
use Rattle.base.specs.Chain.{chained_none}
use Rattle.base.specs.Distinct.{differ_exactly}
use Rattle.revocation.proofs.log.keep_in.Goals as goal

pub of-requires-clause-chained : goal.of-requires-clause-chained
of-requires-clause-chained g c =
    chained_none c.args.lg.now _ g.row.H (omega arith) (omega arith) (rw length-replicate (omega arith))

pub unwrap-log-requires : goal.unwrap-log-requires
unwrap-log-requires g c =
    let some = c.of.ensures.value ∙ (differ_exactly _ _).1 c.requires.differ in
    grind (arith, common_steps)
