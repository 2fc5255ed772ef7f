use Rattle.std.proofs.Common.{rules}
use Rattle.revocation_steps.proofs.Notifying.{ready_notified}
use Rattle.revocation_steps.proofs.queues.notify_pids.Invariants.{starts, still_ready, ends, goes}
use Rattle.revocation_steps.proofs.queues.notify_pids.Goals as goal

ruleset laws = (rules, starts, still_ready, ends, goes)

pub loop-pid-preserved : goal.loop-pid-preserved
loop-pid-preserved c = search (rules, starts, still_ready, ends, goes, ready_notified)

pub returns-clause-mem_after : goal.returns-clause-mem_after
returns-clause-mem_after c = search laws
