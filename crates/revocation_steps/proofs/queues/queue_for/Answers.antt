use Rattle.std.proofs.Common.{rules}
use Rattle.base.specs.FirstLaws.{first_up}
use Rattle.revocation_steps.proofs.AtQueues.{test_says}
use Rattle.revocation_steps.proofs.queues.queue_for.Goals as goal

ruleset laws = (rules, first_up, test_says)

pub loop-q-init : goal.loop-q-init
loop-q-init c = search laws

pub returns-then-is_queue_of : goal.returns-then-is_queue_of
returns-then-is_queue_of c = search laws

pub loop-q-preserved : goal.loop-q-preserved
loop-q-preserved c = search laws

pub returns : goal.returns
returns c = search laws
