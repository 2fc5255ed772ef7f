use Rattle.std.proofs.Common.{rules}
use Rattle.base.specs.AllLaws.{all_tests}
use Rattle.revocation.proofs.look.pids_differ.Goals as goal

ruleset laws = (rules, all_tests)

pub loop-j-init : goal.loop-j-init
loop-j-init c = search laws

pub loop-j-preserved : goal.loop-j-preserved
loop-j-preserved c = search laws

pub returns-then-not-pid_new : goal.returns-then-not-pid_new
returns-then-not-pid_new c = search laws
