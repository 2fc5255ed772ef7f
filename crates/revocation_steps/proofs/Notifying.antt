-- The three ways of a notice: behind the others of a queue, as the first of a new one, or lost where no place is free. The code found
-- place q for the pid and f free.
use Rattle.std.proofs.Common.{List, ◌≡◌, refl, sym, ap₂, ℕ, ◌<◌, ◌≤◌, arith, lt-ltb, le-ltb, ltb-true, ne_eqb, eqb, ltb, length}
use Rattle.std.proofs.Math.Decide.{dec_lt, ℕ_discrete}
use Rattle.std.proofs.Math.Logic.{by_cases}
use Rattle.base.specs.Choose.{pick, both, both_left}
use Rattle.base.specs.FirstLaws.{first_passes}
use Rattle.revocation.specs.Queue.{pushed, begun}
use Rattle.revocation.specs.QueueLaws.{length_pushed, length_begun, first_pushed, short_pushed, begun_sound}
use Rattle.revocation.specs.Sound.{SoundQueue}
use Rattle.revocation.specs.Words.{first_of, length_of}
use Rattle.world.specs.Regions.{queue, view, on_region}
use Rattle.world.specs.Sound.{pids, lengths}
use Rattle.world.specs.Views.{Change, length_kept, view_same, view_other, queue_words}
use Rattle.world.specs.declared.Numbers.{Numbers}
use Rattle.steps.specs.Ready.{QueuesReady}
use Rattle.revocation_steps.specs.Revocation.{queue_for, free_queue, notify_step}

-- The queue of a pid is in use.
pub queue_used : (d : Numbers) (mem : List ℕ) (pid q : ℕ) → q ≡ queue_for d mem pid → q < d.queues → 0 < lengths d mem q
queue_used d mem pid q e l =
    let passes = first_passes (λ q. both (ltb 0 (lengths d mem q)) (eqb (pids d mem q) pid)) d.queues (rw (← e) l) in
    ltb-true 0 (lengths d mem q) (both_left _ (eqb (pids d mem q) pid) (rw (← e) at passes))

module _ (d : Numbers) (pid id time reason : ℕ) (mem : List ℕ) where
  abbrev notified : ℕ → ℕ → List ℕ
  notified q f =
      pick (ltb q d.queues) (on_region d (queue q) (pushed id time reason) mem)
      (pick (ltb f d.queues) (on_region d (queue f) (begun pid id time reason) mem) mem)

  module _ (q : ℕ) (e : q ≡ queue_for d mem pid) where
    by_places : (f : ℕ) → f ≡ free_queue d mem → notified q f ≡ notify_step d pid id time reason mem
    unfolding notify_step
    by_places f h = ap₂ notified e h

    pub notify_pushes : q < d.queues → on_region d (queue q) (pushed id time reason) mem ≡ notify_step d pid id time reason mem
    notify_pushes l = rw (lt-ltb q d.queues l) at (by_places (free_queue d mem) refl)

    module _ (u : d.queues ≤ q) (f : ℕ) (h : f ≡ free_queue d mem) where
      pub notify_begins : f < d.queues → on_region d (queue f) (begun pid id time reason) mem ≡ notify_step d pid id time reason mem
      notify_begins l = rw (le-ltb q d.queues u, lt-ltb f d.queues l) at (by_places f h)

      pub notify_stays : d.queues ≤ f → mem ≡ notify_step d pid id time reason mem
      notify_stays v = rw (le-ltb q d.queues u, le-ltb f d.queues v) at (by_places f h)

-- ---- after a notice the queues can take the next

module _ (d : Numbers) (mem : List ℕ) (ready : QueuesReady d mem) where
  module _ (q : ℕ) (l : q < d.queues) where
    abbrev qu : List ℕ
    qu = view d (queue q) mem

    long : 771 ≤ length qu
    long = queue_words d mem ready.fits.long_enough q l

    module _ (f : List ℕ → List ℕ) (kept : length (f qu) ≡ length qu) (coded : first_of (f qu) < 256) (short : length_of (f qu) ≤ 256) where
      change : Change d (queue q) f mem
      change = record { valid = l; long = ready.fits.long_enough; kept = kept }

      after_queue : QueuesReady d (on_region d (queue q) f mem)
      after_queue = record {
        fits = record {
          in_range = ready.fits.in_range;
          long_enough = rw (length_kept d (queue q) f mem change)
              ready.fits.long_enough;
        };
        firsts = λ p u.
            by_cases (ℕ_discrete p q)
            (λ e some. rw (e, view_same d (queue q) f mem change) coded)
            (λ other. rw (view_other d (queue q) f mem change (queue p) u (ne_eqb q p (λ e. other (sym e)))) (ready.firsts p u));
        lengths = λ p u.
            by_cases (ℕ_discrete p q)
            (λ e. rw (e, view_same d (queue q) f mem change) short)
            (λ other. rw (view_other d (queue q) f mem change (queue p) u (ne_eqb q p (λ e. other (sym e)))) (ready.lengths p u));
      }

  pub ready_notified : (pid id time reason : ℕ) → reason ≤ 3 → QueuesReady d (notify_step d pid id time reason mem)
  ready_notified pid id time reason listed =
      let q = queue_for d mem pid in
      let f = free_queue d mem in
      by_cases (dec_lt q d.queues)
      (λ l.
      let coded : first_of (view d (queue q) mem) < 256 = ready.firsts q l (queue_used d mem pid q refl l) in
      rw (← notify_pushes d pid id time reason mem q refl l)
      (after_queue q l (pushed id time reason) (length_pushed id time reason _)
      (first_pushed id time reason _ (long q l) coded (ready.lengths q l))
      (short_pushed id time reason _ (long q l) coded (ready.lengths q l))))
      (λ none.
      by_cases (dec_lt f d.queues)
      (λ l.
      let sound : SoundQueue (begun pid id time reason (view d (queue f) mem)) = begun_sound pid id time reason _ (long f l) listed in
      rw (← notify_begins d pid id time reason mem q refl (omega arith) f refl l)
      (after_queue f l (begun pid id time reason) (length_begun pid id time reason _) sound.coded_first sound.short))
      (λ full. rw (← notify_stays d pid id time reason mem q refl (omega arith) f refl (omega arith)) ready))
