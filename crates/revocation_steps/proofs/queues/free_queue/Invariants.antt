-- No place before q passes, so the first from q on is the first.
use Rattle.std.proofs.Common.{◌≡◌, ◌-◌, eqb}
use Rattle.base.specs.Below.{first_from}
use Rattle.world.specs.Sound.{lengths}
use Rattle.revocation_steps.specs.Revocation.{free_queue}
use Rattle.revocation_steps.proofs.queues.free_queue.Given as goal

abbrev pub invariant-loop-q : goal.invariant-loop-q
invariant-loop-q l = free_queue l.d l.mem ≡ first_from (λ q. eqb (lengths l.d l.mem q) 0) (l.d.queues - l.q) l.q
