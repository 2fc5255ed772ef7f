-- No place before q passes, so the first from q on is the first.
use Rattle.std.proofs.Common.{◌≡◌, ◌-◌, eqb, ltb}
use Rattle.base.specs.Below.{first_from}
use Rattle.base.specs.Choose.{both}
use Rattle.world.specs.Sound.{pids, lengths}
use Rattle.revocation_steps.specs.Revocation.{queue_for}
use Rattle.revocation_steps.proofs.queues.queue_for.Given as goal

abbrev pub invariant-loop-q : goal.invariant-loop-q
invariant-loop-q l =
    queue_for l.d l.mem l.pid
    ≡ first_from (λ q. both (ltb 0 (lengths l.d l.mem q)) (eqb (pids l.d l.mem q) l.pid)) (l.d.queues - l.q) l.q
