use Rattle.std.proofs.Common.{rules}
use Rattle.base.specs.AllLaws.{all_tests}
use Rattle.registry_look.proofs.holders_within.Goals as goal

ruleset laws = (rules, all_tests)

pub loop-k-init : goal.loop-k-init
loop-k-init c = search laws

pub loop-k-preserved : goal.loop-k-preserved
loop-k-preserved c = search laws

pub returns-then-not-within : goal.returns-then-not-within
returns-then-not-within c = search laws
