use Rattle.std.proofs.Common.{rules}
use Rattle.base.specs.FirstLaws.{some_up}
use Rattle.registry.proofs.Naming.{names_it, names_other}
use Rattle.registry.proofs.view.Registry.has_child.Goals as goal

ruleset laws = (rules, some_up, names_it, names_other)

pub loop-j-init : goal.loop-j-init
loop-j-init c = search laws

pub returns-then-self-j : goal.returns-then-self-j
returns-then-self-j c = search laws

pub loop-j-preserved : goal.loop-j-preserved
loop-j-preserved c = search laws

pub returns : goal.returns
returns c = search laws
