-- The source is lent to `space::gather` and `space::generation`, then the target to `space::replace`.
use Rattle.std.proofs.Common.{ℕ}
use Rattle.std.proofs.Math.ListN.{length-replicate}
use Rattle.space.specs.Copy.{copied_space}
use Rattle.steps.specs.Steps.{space_of}
use Rattle.space_steps.proofs.Copying.{replace_asks, copied_target, copied_moves}
use Rattle.steps.proofs.Lending.{lent, lent_back}
use Rattle.space_steps.proofs.spaces.copy_entries.Goals as goal

pub replace-requires : goal.replace-requires
replace-requires c =
    replace_asks _ _ _ _ c.requires.0 c.requires.1 c.requires.2 _ _ _ _ _
    c.read-from.ensures (lent _ _ _ _ _ c.space.ensures)
    (length-replicate {A = ℕ} 2048 0) c.gather-count.ensures

pub returns-clause-mem_after : goal.returns-clause-mem_after
returns-clause-mem_after c =
    let source = c.read-from.ensures in
    let target = lent _ _ _ _ _ c.space.ensures in lent_back _ _ _ _ _ c.space.ensures
    (copied_space (space_of c.args.d c.args.source c.args.mem.now)) _
    (copied_target _ _ _ _ c.requires.0 c.requires.1 c.requires.2 _ _ _ _ _ source target (length-replicate {A = ℕ} 2048 0)
    c.gather-count.ensures _ _ c.generation-generation.ensures c.replace.ensures.sp_after)

pub returns-clause-value : goal.returns-clause-value
returns-clause-value c =
    let source = c.read-from.ensures in
    let target = lent _ _ _ _ _ c.space.ensures in
    copied_moves _ _ _ _ c.requires.0 c.requires.1 c.requires.2 _ _ _ _ _ source target (length-replicate {A = ℕ} 2048 0)
    c.gather-count.ensures _ c.replace.ensures.value
