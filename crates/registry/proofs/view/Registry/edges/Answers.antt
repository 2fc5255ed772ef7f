use Rattle.std.proofs.Common.{rules}
use Rattle.registry.specs.Children.{edges}
use Rattle.registry.proofs.Counting.{counting}
use Rattle.registry.proofs.view.Registry.edges.Goals as goal

ruleset laws = (rules, counting)

pub loop-k-init : goal.loop-k-init
loop-k-init c = search laws

pub loop-k-preserved : goal.loop-k-preserved
loop-k-preserved c = search laws

pub returns : goal.returns
unfolding edges
returns c = search laws
