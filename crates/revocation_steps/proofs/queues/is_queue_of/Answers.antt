-- The words are read where the queue stands.
use Rattle.std.proofs.Common.{◌≡◌, List, ℕ, ◌+◌, ◌<◌, ◌≤◌, arith, eqb, ltb, lt-ltb, le-ltb, get_or}
use Rattle.base.specs.Choose.{both}
use Rattle.world.specs.Regions.{queue, StartsAt}
use Rattle.world.specs.Sound.{pids, lengths}
use Rattle.world.specs.declared.Numbers.{Numbers}
use Rattle.revocation_steps.proofs.AtQueues.{pid_here, length_here, queue_from, queue_inside}
use Rattle.revocation_steps.proofs.queues.is_queue_of.Goals as goal

module _ (d : Numbers) (mem : List ℕ) (q at pid : ℕ) (starts : StartsAt d (queue q) at) where
  used : 0 < get_or mem (at + 2) 0 → eqb (get_or mem (at + 0) 0) pid ≡ both (ltb 0 (lengths d mem q)) (eqb (pids d mem q) pid)
  used some = rw (← length_here d mem q at starts, ← pid_here d mem q at starts, lt-ltb 0 (get_or mem (at + 2) 0) some)

  unused : get_or mem (at + 2) 0 ≤ 0 → ltb 0 (get_or mem (at + 2) 0) ≡ both (ltb 0 (lengths d mem q)) (eqb (pids d mem q) pid)
  unused none = rw (← length_here d mem q at starts, le-ltb 0 (get_or mem (at + 2) 0) none)

pub bounds-mem-at : goal.bounds-mem-at
bounds-mem-at c = omega (arith, queue_inside _ _ _ _ c.requires.0 c.requires.1 c.requires.2)

pub returns-then-mem-at-gt0 : goal.returns-then-mem-at-gt0
returns-then-mem-at-gt0 c = used _ _ _ _ _ (queue_from _ _ _ c.requires.1 c.requires.2) c.if-mem-at-gt0.true

pub returns-else-mem-at-gt0 : goal.returns-else-mem-at-gt0
returns-else-mem-at-gt0 c = unused _ _ _ _ _ (queue_from _ _ _ c.requires.1 c.requires.2) c.if-mem-at-gt0.false
