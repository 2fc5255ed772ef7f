use Rattle.std.proofs.Common.{rules}
use Rattle.base.specs.AllLaws.{all_tests}
use Rattle.revocation.proofs.look.reasons_listed.Goals as goal

ruleset laws = (rules, all_tests)

pub loop-i-init : goal.loop-i-init
loop-i-init c = search laws

pub loop-i-preserved : goal.loop-i-preserved
loop-i-preserved c = search laws

pub returns-then-not-reason_listed : goal.returns-then-not-reason_listed
returns-then-not-reason_listed c = search laws
