-- Those before j are counted; with those from j on they are the answer.
use Rattle.std.proofs.Common.{Bool, not, List, ◌≡◌, ℕ, ◌+◌, ◌<◌, ◌≤◌, zero-add, arith, ltb, length, get_or, drop, drop_of_length-le}
use Rattle.base.specs.Below.{one}
use Rattle.base.specs.Choose.{both}
use Rattle.base.specs.Rest.{drop_next}
use Rattle.world.specs.declared.Numbers.{Numbers}
use Rattle.revocation_steps.specs.Revocation.{queue_for, is_in, new_queues}
use Rattle.revocation_steps.proofs.queues.new_queues.Given as goal

module _ (d : Numbers) (mem listed : List ℕ) where
  pub record Counting (count j : ℕ) : Type 0 where
    pub left : count + new_queues d mem (drop j listed) ≡ new_queues d mem listed

  pub starts : Counting 0 0
  starts = record { left = zero-add (new_queues d mem listed) }

  module _ (count j : ℕ) (counting : Counting count j) where
    pub ends : length listed ≤ j → count ≡ new_queues d mem listed
    unfolding new_queues
    ends u =
        let all : count + 0 ≡ new_queues d mem listed = rw (drop_of_length-le listed u) at counting.left in
        omega (arith, all)

    module _ (l : j < length listed) where
      abbrev pub is_new : Bool
      is_new = both (not (ltb (queue_for d mem (get_or listed j 0)) d.queues)) (not (is_in (get_or listed j 0) (drop (j + 1) listed)))

      pub next : new_queues d mem (drop j listed) ≡ one is_new + new_queues d mem (drop (j + 1) listed)
      unfolding new_queues
      next = rw (drop_next listed j l)

      pub counts : (b : Bool) (v : ℕ) → b ≡ is_new → v ≡ one b → Counting (count + v) (j + 1)
      counts b v e h = rw (h, e) (record { left = omega (arith, next, counting.left) })

abbrev pub invariant-loop-j : goal.invariant-loop-j
invariant-loop-j l = (l.count ≤ l.j) × Counting l.d l.mem l.listed l.count l.j
