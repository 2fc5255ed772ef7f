-- `base::distinct::distinct` meets its contract: a list of one word or none has no two places.
use Rattle.std.proofs.Common.{sym, arith}
use Rattle.base.specs.Distinct.{differ_exactly}
use Rattle.base.proofs.distinct.distinct.Goals as goal

pub returns-then-xs-le1 : goal.returns-then-xs-le1
returns-then-xs-le1 c = sym ((differ_exactly _ _).1 (λ j l i u e. omega arith))
