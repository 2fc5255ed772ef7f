-- `base::distinct::distinct_in` meets its contract: fresh arrays index nothing.
use Rattle.std.proofs.Common.{arith}
use Rattle.base.specs.Chain.{chained_none}
use Rattle.std.proofs.lemmas.List.{length-replicate}
use Rattle.base.proofs.distinct.distinct_in.Goals as goal

pub of-requires-clause-chained : goal.of-requires-clause-chained
of-requires-clause-chained g c =
    chained_none c.args.xs.now _ g.row.H (omega arith) (omega arith) (rw length-replicate (omega arith))
