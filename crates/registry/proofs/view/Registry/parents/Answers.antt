use Rattle.std.proofs.Common.{refl, arith, rules}
use Rattle.registry.specs.Children.{parents}
use Rattle.registry.proofs.Counting.{counting, counting_goes}
use Rattle.registry.proofs.view.Registry.parents.Goals as goal

ruleset laws = (rules, counting)

pub loop-k-init : goal.loop-k-init
loop-k-init c = search laws

pub loop-k-preserved : goal.loop-k-preserved
loop-k-preserved c = counting_goes _ _ _ _ c.loop-k.invariant c.loop-k-test.true _ refl (omega arith)

pub returns : goal.returns
unfolding parents
returns c = search laws
