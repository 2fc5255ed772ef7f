-- Those before q are counted.
use Rattle.std.proofs.Common.{◌≡◌, ◌≤◌}
use Rattle.base.specs.Below.{sum}
use Rattle.notification_calls.proofs.Counting.{used_at}
use Rattle.notification_calls.proofs.stats.used_queues.Given as goal

abbrev pub invariant-loop-q : goal.invariant-loop-q
invariant-loop-q l = (l.used ≤ l.q) × (l.used ≡ sum (used_at l.d l.mem) l.q)
