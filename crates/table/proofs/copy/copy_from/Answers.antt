use Rattle.std.proofs.Common.{arith}
use Rattle.table.proofs.CodeCopy.{bounded_asks, bounded_goes, copy_goes, copy_laws}
use Rattle.table.proofs.copy.copy_from.Goals as goal

pub loop-i-init : goal.loop-i-init
loop-i-init c = search copy_laws

pub copy_entry-s-requires : goal.copy_entry-s-requires
copy_entry-s-requires c =
    (bounded_asks _ _ _ _ c.loop-i.invariant.1 (omega arith) (omega arith) (omega arith), omega arith)

pub loop-i-preserved : goal.loop-i-preserved
loop-i-preserved c =
    let inv = c.loop-i.invariant in
    let next = c.copy_entry-s.ensures in (
      omega arith,
      bounded_goes _ _ _ _ inv.1 (omega arith) (omega arith) (omega arith) _ _ _ next,
      copy_goes _ _ _ _ _ _ _ inv.2 (omega arith) c.entry_at.ensures next,
    )

pub returns : goal.returns
returns c = search copy_laws
