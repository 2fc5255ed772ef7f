-- The steps of a cascade keep what the steps and a notice ask of a memory, from that and from ranges alone, where the memory need not be
-- sound. A notice asks only of the length and of the queues.
use Rattle.std.proofs.Common.{◌≡◌, List, ℕ, ◌+◌, ◌≤◌, ◌<◌, length}
use Rattle.registry.specs.Descent.{marked}
use Rattle.registry.specs.MarkedLaws.{marked_only}
use Rattle.registry.specs.PlaceLists.{AllBelow}
use Rattle.steps.specs.Ready.{Ready, QueuesReady}
use Rattle.world.specs.Numbers.{logged_of}
use Rattle.world.specs.Regions.{registry, queue, length_for, view, on_region}
use Rattle.world.specs.Views.{registry_words}
use Rattle.world.specs.declared.Numbers.{Numbers}
use Rattle.revocation_steps.specs.Revocation.{log_step}
use Rattle.steps.specs.Steps.{add_step}
use Rattle.steps.proofs.laws.Kept.{Apart}
use Rattle.steps.proofs.laws.ReadyKept.{Stays, registry_stays}
use Rattle.revocation_steps.proofs.laws.LogSteps.{log_step_holdings, log_step_queue}
use Rattle.steps.proofs.laws.RegistrySteps.{add_step_changes}
use Rattle.revocation_steps.proofs.laws.CascadeSteps.{marks}

-- ---- what a notice asks

module _ (d : Numbers) (mem : List ℕ) (ready : QueuesReady d mem) where
  enough : length_for d ≤ length mem
  enough = ready.fits.long_enough

  pub queues_ready_kept :
      (after : List ℕ) → length after ≡ length mem → ((q : ℕ) → q < d.queues → view d (queue q) after ≡ view d (queue q) mem)
      → QueuesReady d after
  queues_ready_kept after same_length same_queue = record {
    fits = record { in_range = ready.fits.in_range; long_enough = rw same_length enough };
    firsts = λ q l. rw (same_queue q l) (ready.firsts q l);
    lengths = λ q l. rw (same_queue q l) (ready.lengths q l);
  }

  pub queues_ready_apart : (after : List ℕ) → Apart d mem after → QueuesReady d after
  queues_ready_apart after apart = queues_ready_kept after apart.same_length apart.same_queue

  pub queues_ready_marked : (ks : List ℕ) → AllBelow d.places ks → QueuesReady d (on_region d registry (marked d.places ks) mem)
  queues_ready_marked ks inside = queues_ready_apart _ (marks d mem enough ks inside).apart

  pub queues_ready_added : (i k : ℕ) → 6 ≤ i → i < 11 → QueuesReady d (add_step i k mem)
  queues_ready_added i k low high = queues_ready_apart _ (add_step_changes d mem enough i k low high).apart

  pub queues_ready_logged : (pairs : List ℕ) → logged_of mem + length pairs ≤ d.pairs → QueuesReady d (log_step d pairs mem)
  queues_ready_logged pairs fits =
      queues_ready_kept _ (log_step_holdings d mem enough pairs fits).same_length (log_step_queue d mem enough pairs fits)

-- ---- what the steps ask

module _ (d : Numbers) (mem : List ℕ) (ready : Ready d mem) where
  pub mark_stays : (ks : List ℕ) → AllBelow d.places ks → Stays d mem (on_region d registry (marked d.places ks) mem)
  mark_stays ks inside =
      registry_stays d mem ready (marked d.places ks)
      (marked_only d.places ks _ inside (registry_words d mem ready.fits.long_enough)).same_length
