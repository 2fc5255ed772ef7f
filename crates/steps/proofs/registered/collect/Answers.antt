-- The registry is lent to `registry::registering::collect`, then the count of registered ids is set to how many are left.
use Rattle.std.proofs.Common.{ap, ◌∙◌}
use Rattle.registry.specs.Registering.{collected}
use Rattle.world.specs.Numbers.{registered_of}
use Rattle.steps.specs.Steps.{collect_step}
use Rattle.steps.proofs.Lending.{lent, lent_and_word}
use Rattle.steps.proofs.registered.collect.Goals as goal

pub returns : goal.returns
unfolding collect_step
returns c =
    let at = c.registry.ensures in
    let args = c.args in
    let after = collected args.d.places args.p (registered_of args.mem.now) in
    let (left, words) = c.collect-left.ensures in
    lent_and_word _ _ _ _ _ at (λ rg. (after rg).words) _ 11 _ _ (left ∙ ap (λ rg. (after rg).left) (lent _ _ _ _ _ at)) words
