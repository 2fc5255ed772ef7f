-- No queue is before the first; then each is counted.
use Rattle.std.proofs.Common.{sym, arith}
use Rattle.base.specs.SumLaws.{sum-zero}
use Rattle.notification_calls.proofs.Counting.{used_at, queue_counted}
use Rattle.notification_calls.proofs.stats.used_queues.Goals as goal

pub loop-q-init : goal.loop-q-init
loop-q-init c = (omega arith, sym (sum-zero (used_at c.args.d c.args.mem.now)))

pub loop-q-preserved : goal.loop-q-preserved
loop-q-preserved c = queue_counted _ _ _ _ c.queue_length.ensures _ c.loop-q.invariant
