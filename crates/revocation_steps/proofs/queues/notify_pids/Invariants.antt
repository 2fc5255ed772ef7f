-- The pids before j have their notice; with those from j on the memory becomes the answer.
use Rattle.std.proofs.Common.{List, ◌≡◌, refl, ℕ, ◌+◌, ◌<◌, ◌≤◌, arith, length, get_or, drop, drop_of_length-le}
use Rattle.base.specs.Rest.{drop_next}
use Rattle.revocation.specs.Reason.{number_of}
use Rattle.revocation.specs.declared.RevocationReason.TheVariants.{ParentRevoked}
use Rattle.world.specs.declared.Numbers.{Numbers}
use Rattle.steps.specs.Ready.{QueuesReady}
use Rattle.revocation_steps.specs.Revocation.{notify_step, notify_pids}
use Rattle.revocation_steps.proofs.Notifying.{ready_notified}
use Rattle.revocation_steps.proofs.queues.notify_pids.Given as goal

module _ (d : Numbers) (listed : List ℕ) (id time : ℕ) (mem₀ : List ℕ) where
  pub record Notifying (mem : List ℕ) (j : ℕ) : Type 0 where
    pub ready : QueuesReady d mem
    pub left : notify_pids d (drop j listed) id time mem ≡ notify_pids d listed id time mem₀

  pub starts : QueuesReady d mem₀ → Notifying mem₀ 0
  starts ready = record { ready = ready; left = refl }

  module _ (mem : List ℕ) (j : ℕ) (notifying : Notifying mem j) where
    pub still_ready : QueuesReady d mem
    still_ready = notifying.ready

    pub ends : length listed ≤ j → mem ≡ notify_pids d listed id time mem₀
    unfolding notify_pids
    ends u = rw (drop_of_length-le listed u) at notifying.left

    pub goes :
        (reason : ℕ) → reason ≡ number_of ParentRevoked → j < length listed → (after : List ℕ)
        → after ≡ notify_step d (get_or listed j 0) id time reason mem → Notifying after (j + 1)
    unfolding notify_pids
    goes reason parent l after e =
        record {
          ready = rw e (ready_notified d mem notifying.ready (get_or listed j 0) id time reason (omega arith));
          left = rw (e, parent) (rw (drop_next listed j l) at notifying.left);
        }

abbrev pub invariant-loop-pid : goal.invariant-loop-pid
invariant-loop-pid l =
    Notifying l.d l.listed l.id l.time l.initial.mem l.mem l.pid-index
