-- The ids before j are queued; with those from j on the memory becomes the answer.
use Rattle.std.proofs.Common.{List, ◌≡◌, refl, ℕ, ◌+◌, ◌<◌, ◌≤◌, length, get_or, drop, drop_of_length-le}
use Rattle.base.specs.Rest.{drop_next}
use Rattle.world.specs.declared.Numbers.{Numbers}
use Rattle.steps.specs.Ready.{QueuesReady}
use Rattle.revocation_steps.specs.Revocation.{notify_pids, notify_all}
use Rattle.revocation_steps.proofs.queues.notify_all.Given as goal

module _ (d : Numbers) (listed ids : List ℕ) (time : ℕ) (mem₀ : List ℕ) where
  pub record Notifying (mem : List ℕ) (j : ℕ) : Type 0 where
    pub ready : QueuesReady d mem
    pub left : notify_all d listed (drop j ids) time mem ≡ notify_all d listed ids time mem₀

  pub starts : QueuesReady d mem₀ → Notifying mem₀ 0
  starts ready = record { ready = ready; left = refl }

  module _ (mem : List ℕ) (j : ℕ) (notifying : Notifying mem j) where
    pub still_ready : QueuesReady d mem
    still_ready = notifying.ready

    pub ends : length ids ≤ j → mem ≡ notify_all d listed ids time mem₀
    unfolding notify_all
    ends u = rw (drop_of_length-le ids u) at notifying.left

    pub goes : j < length ids → (after : List ℕ) → after ≡ notify_pids d listed (get_or ids j 0) time mem → QueuesReady d after
        → Notifying after (j + 1)
    unfolding notify_all
    goes l after e ready = record { ready = ready; left = rw e (rw (drop_next ids j l) at notifying.left) }

abbrev pub invariant-loop-id : goal.invariant-loop-id
invariant-loop-id l =
    Notifying l.d l.listed l.ids l.time l.initial.mem l.mem l.id-index
