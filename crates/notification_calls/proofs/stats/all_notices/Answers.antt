-- No notice is before the first queue; then those of each are counted.
use Rattle.std.proofs.Common.{sym, arith}
use Rattle.base.specs.SumLaws.{sum-zero}
use Rattle.world.specs.Sound.{lengths}
use Rattle.notification_calls.proofs.Counting.{notices_counted}
use Rattle.notification_calls.proofs.stats.all_notices.Goals as goal

pub loop-q-init : goal.loop-q-init
loop-q-init c = (omega arith, sym (sum-zero (lengths c.args.d c.args.mem.now)))

pub loop-q-preserved : goal.loop-q-preserved
loop-q-preserved c =
    notices_counted _ _ _ _ c.queue_length-notices.ensures _ c.requires c.loop-q-test.true c.loop-q.invariant
