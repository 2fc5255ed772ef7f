use Rattle.std.proofs.Common.{rules}
use Rattle.registry.specs.Words.{children}
use Rattle.registry.proofs.Counting.{counting}
use Rattle.registry.proofs.view.Registry.child_count.Goals as goal

ruleset laws = (rules, counting)

pub loop-k-init : goal.loop-k-init
loop-k-init c = search laws

pub loop-k-preserved : goal.loop-k-preserved
loop-k-preserved c = search laws

pub returns : goal.returns
unfolding children
returns c = search laws
