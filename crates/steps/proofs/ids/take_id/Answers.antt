-- The recycled ids are looked at first, then the next one.
use Rattle.std.proofs.Common.{ap, ◌∙◌}
use Rattle.registry.specs.Ids.{first_taken}
use Rattle.registry.specs.Words.{recycled_at}
use Rattle.world.specs.Numbers.{recycled_of}
use Rattle.steps.proofs.Lending.{lent, lent_back}
use Rattle.steps.proofs.laws.Taking.{takes_recycled}
use Rattle.steps.proofs.ids.take_id.Goals as goal

pub returns-then-recycled-gt0-clause-mem_after : goal.returns-then-recycled-gt0-clause-mem_after
returns-then-recycled-gt0-clause-mem_after c =
    let at = c.registry.ensures in
    let mem = c.args.mem.now in
    let places = c.args.d.places in (takes_recycled _ _ _ _ c.if-recycled-gt0.true
    (lent_back _ _ _ _ _ at (first_taken places (recycled_of mem)) _ c.take_first-id.ensures.rg_after)
    (c.take_first-id.ensures.value ∙ ap (λ rg. recycled_at places rg 0) (lent _ _ _ _ _ at))).0

pub returns-then-recycled-gt0-clause-value : goal.returns-then-recycled-gt0-clause-value
returns-then-recycled-gt0-clause-value c =
    let at = c.registry.ensures in
    let mem = c.args.mem.now in
    let places = c.args.d.places in (takes_recycled _ _ _ _ c.if-recycled-gt0.true
    (lent_back _ _ _ _ _ at (first_taken places (recycled_of mem)) _ c.take_first-id.ensures.rg_after)
    (c.take_first-id.ensures.value ∙ ap (λ rg. recycled_at places rg 0) (lent _ _ _ _ _ at))).1
