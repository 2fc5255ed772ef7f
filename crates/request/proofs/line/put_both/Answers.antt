-- `request::line::put_both` meets its contract: two writings one behind the other are one of the joint bytes.
use Rattle.std.proofs.Common.{arith}
use Rattle.request.specs.Laid.{laid_laid}
use Rattle.request.proofs.line.put_both.Goals as goal

pub returns : goal.returns
returns c =
    laid_laid _ _ _ _ _ c.put-end.ensures _ _ _
    c.put.ensures (omega arith)
