-- Those of the queues before q are counted; a queue has at most 256, so the number stays far below 2^64.
use Rattle.std.proofs.Common.{◌≡◌, ◌≤◌, ◌*◌}
use Rattle.base.specs.Below.{sum}
use Rattle.world.specs.Sound.{lengths}
use Rattle.notification_calls.proofs.stats.all_notices.Given as goal

abbrev pub invariant-loop-q : goal.invariant-loop-q
invariant-loop-q l = (l.notices ≤ 256 * l.q) × (l.notices ≡ sum (lengths l.d l.mem) l.q)
