-- The space is lent to `space::lookup`.
use Rattle.steps.specs.Steps.{lookup_step}
use Rattle.steps.proofs.Lending.{lent, lends}
use Rattle.space_steps.proofs.spaces.lookup.Goals as goal

pub lookup-requires : goal.lookup-requires
lookup-requires c = search lends

pub returns-clause-mem_after : goal.returns-clause-mem_after
unfolding lookup_step
returns-clause-mem_after c =
    let mem = c.args.mem.now in
    let here = lent _ _ mem _ _ c.space.ensures in search lends
