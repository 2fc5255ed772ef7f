-- One queue changes, by a notice or because it is no more: of the memory nothing but queues changes, and a sound memory is kept where that
-- queue is sound and its pid differs from those of the others. So notices for many pids, of many ids, keep it too.
use Rattle.std.proofs.Common.{◌≡◌, refl, sym, ◌∙◌, ◌≢◌, Bool, true, false, true≢false, List, [], ◌∷◌, ℕ, ◌≤◌, ◌<◌, arith, ltb-true, ltb-false, lt-ltb, eq-eqb, ne_eqb, eqb, ltb, length, get_or}
use Rattle.std.proofs.Math.Decide.{ℕ_discrete, dec_lt}
use Rattle.std.proofs.Math.Logic.{by_cases}
use Rattle.base.specs.Choose.{pick, both, both_left, both_make}
use Rattle.base.specs.FirstLaws.{first_passes, first_before}
use Rattle.revocation.specs.Reason.{number_of}
use Rattle.revocation.specs.declared.RevocationReason.TheVariants.{ParentRevoked}
use Rattle.revocation.specs.Queue.{pushed, begun, freed}
use Rattle.revocation.specs.QueueLaws.{length_pushed, length_begun, length_freed, pid_pushed, pid_begun, length_of_freed, begun_sound, pushed_sound}
use Rattle.revocation.specs.Sound.{SoundQueue, PidsDiffer}
use Rattle.revocation.specs.Words.{pid_of, length_of}
use Rattle.world.specs.Regions.{space, registry, log, queue, view, on_region}
use Rattle.world.specs.Sound.{pids, lengths, SoundAt}
use Rattle.world.specs.Views.{Change, length_kept, view_same, view_other, past_kept, head_kept, numbers_kept, queue_words}
use Rattle.world.specs.declared.Numbers.{Numbers}
use Rattle.revocation_steps.specs.Revocation.{queue_for, free_queue, notify_step, notify_pids, notify_all, free_step}
use Rattle.steps.proofs.laws.Kept.{Kept, kept_refl, kept_trans}
use Rattle.revocation_steps.proofs.laws.SameHoldings.{SameHoldings, holdings_refl, holdings_trans, holdings_kept}

-- ---- nothing but queues changes, and the memory is kept

pub record QueuesKept (d : Numbers) (mem mem' : List ℕ) : Type 0 where
  pub kept : Kept d mem mem'
  pub holdings : SameHoldings d mem mem'
  pub same_head : (j : ℕ) → j < 16 → get_or mem' j 0 ≡ get_or mem j 0
  pub same_log : view d log mem' ≡ view d log mem

pub queues_refl : (d : Numbers) (mem : List ℕ) → SoundAt d mem → QueuesKept d mem mem
queues_refl d mem sound = record {
  kept = kept_refl d mem sound;
  holdings = holdings_refl d mem;
  same_head = λ j l. refl;
  same_log = refl;
}

pub queues_trans : (d : Numbers) (mem mem' mem'' : List ℕ) → QueuesKept d mem mem' → QueuesKept d mem' mem'' → QueuesKept d mem mem''
queues_trans d mem mem' mem'' h g = record {
  kept = kept_trans d mem mem' mem'' h.kept g.kept;
  holdings = holdings_trans d mem mem' mem'' h.holdings g.holdings;
  same_head = λ j l. g.same_head j l ∙ h.same_head j l;
  same_log = g.same_log ∙ h.same_log;
}

-- ---- one queue changes

module _ (d : Numbers) (mem : List ℕ) (sound : SoundAt d mem) (q : ℕ) (inside : q < d.queues) (f : List ℕ → List ℕ)
    (same_length : length (f (view d (queue q) mem)) ≡ length (view d (queue q) mem))
  where
    abbrev after : List ℕ
    after = on_region d (queue q) f mem

    in_queue : Change d (queue q) f mem
    in_queue = record { valid = inside; long = sound.long_enough; kept = same_length }

    pub changed_here : view d (queue q) (on_region d (queue q) f mem) ≡ f (view d (queue q) mem)
    changed_here = view_same d (queue q) f mem in_queue

    pub changed_elsewhere :
        (i : ℕ) → i < d.queues → i ≢ q → view d (queue i) (on_region d (queue q) f mem) ≡ view d (queue i) mem
    changed_elsewhere i l other = view_other d (queue q) f mem in_queue (queue i) l (ne_eqb q i (λ e. other (sym e)))

    holdings : SameHoldings d mem after
    holdings = record {
      numbers = numbers_kept d (queue q) f mem in_queue refl;
      same_length = length_kept d (queue q) f mem in_queue;
      past = past_kept d (queue q) f mem in_queue;
      same_word = λ j l other. head_kept d (queue q) f mem in_queue refl j (omega arith);
      same_registry = view_other d (queue q) f mem in_queue registry tt refl;
      same_space = λ s l. view_other d (queue q) f mem in_queue (space s) l refl;
    }

    same_log : view d log after ≡ view d log mem
    same_log = view_other d (queue q) f mem in_queue log tt refl

    -- No other queue has the pid of this one, where it is one still.
    abbrev NewPid : Type 0
    NewPid = (i : ℕ) → i < d.queues → i ≢ q → 0 < lengths d mem i → pids d mem i ≢ pid_of (f (view d (queue q) mem))

    module _ (is_sound : 0 < length_of (f (view d (queue q) mem)) → SoundQueue (f (view d (queue q) mem)))
        (new : 0 < length_of (f (view d (queue q) mem)) → NewPid)
      where
        each : (i : ℕ) → i < d.queues → 0 < lengths d after i → SoundQueue (view d (queue i) after)
        each i l some =
            by_cases (ℕ_discrete i q)
            (λ same. rw (same, changed_here) (is_sound (rw (same, changed_here) at some)))
            (λ other. rw (changed_elsewhere i l other) (sound.queues i l (rw (changed_elsewhere i l other) at some)))

        other_pid :
            (i : ℕ) → i < d.queues → i ≢ q → 0 < lengths d after i → 0 < lengths d after q → pids d after i ≢ pids d after q
        other_pid i l other some some' e =
            let stays = changed_elsewhere i l other in
            new (rw changed_here at some') i l other (rw stays at some) (rw (stays, changed_here) at e)

        pub queue_changed : QueuesKept d mem (on_region d (queue q) f mem)
        queue_changed = record {
          kept =
              holdings_kept d mem sound after holdings
              (record {
                fit = rw logged sound.logged_fit;
                coded = rw (logged, same_log) sound.pairs_coded;
                differ = rw (logged, same_log) sound.pairs_differ;
              })
              (record { each = each; differ = apart });
          holdings = holdings;
          same_head = head_kept d (queue q) f mem in_queue refl;
          same_log = same_log;
        }
          where
            logged : get_or after 13 0 ≡ get_or mem 13 0
            logged = head_kept d (queue q) f mem in_queue refl 13 (omega arith)

            apart : PidsDiffer d.queues (pids d after) (lengths d after)
            apart j l i u some some' e =
                by_cases (ℕ_discrete j q)
                (λ last. other_pid i (omega arith) (λ w. omega arith) some (rw last at some') (rw last at e))
                (λ other.
                by_cases (ℕ_discrete i q)
                (λ first_one. other_pid j l other some' (rw first_one at some) (sym (rw first_one at e)))
                (λ other'.
                let w = changed_elsewhere i (omega arith) other' in
                let w' = changed_elsewhere j l other in
                sound.pids_differ j l i u (rw w at some) (rw w' at some') (rw (w, w') at e)))

module _ (d : Numbers) (mem : List ℕ) (sound : SoundAt d mem) where
  long : (q : ℕ) → q < d.queues → 771 ≤ length (view d (queue q) mem)
  long q l = queue_words d mem sound.long_enough q l

  -- Two places with one pid are one queue.
  one_queue : (i j : ℕ) → i < d.queues → j < d.queues → i ≢ j → 0 < lengths d mem i → 0 < lengths d mem j → pids d mem i ≢ pids d mem j
  one_queue i j l u other some some' e =
      by_cases (dec_lt i j)
      (λ less. sound.pids_differ j u i less some some' e)
      (λ more. sound.pids_differ i l j (omega arith) some' some (sym e))

  -- ---- a queue is no more

  pub free_step_queues : (q : ℕ) → q < d.queues → QueuesKept d mem (free_step d q mem)
  unfolding free_step
  free_step_queues q l =
      let none : length_of (freed (view d (queue q) mem)) ≡ 0 = length_of_freed (view d (queue q) mem) (long q l) in
      queue_changed d mem sound q l freed (length_freed (view d (queue q) mem)) (λ some. absurd (omega arith))
      (λ some. absurd (omega arith))

  pub free_step_kept : (q : ℕ) → q < d.queues → Kept d mem (free_step d q mem)
  free_step_kept q l = (free_step_queues q l).kept

  -- ---- a notice for a pid

  module _ (pid id time reason : ℕ) (coded : reason ≤ 3) where
    -- The place is a queue, and of this pid.
    abbrev is_for : ℕ → Bool
    is_for q = both (ltb 0 (lengths d mem q)) (eqb (pids d mem q) pid)

    behind_others : queue_for d mem pid < d.queues
        → QueuesKept d mem (on_region d (queue (queue_for d mem pid)) (pushed id time reason) mem)
    behind_others l =
        let q : ℕ = queue_for d mem pid in
        let qu : List ℕ = view d (queue q) mem in
        let found : is_for q ≡ true = first_passes is_for d.queues l in
        let some : 0 < length_of qu = ltb-true 0 (length_of qu) (both_left _ (eqb (pid_of qu) pid) found) in
        let is : SoundQueue qu = sound.queues q l some in
        queue_changed d mem sound q l (pushed id time reason) (length_pushed id time reason qu)
        (λ some'. pushed_sound id time reason qu (long q l) coded is)
        (λ some' i u other there e.
        one_queue i q u l other there some (e ∙ pid_pushed id time reason qu (long q l) is.coded_first is.short))

    in_new_queue :
        d.queues ≤ queue_for d mem pid → free_queue d mem < d.queues
        → QueuesKept d mem (on_region d (queue (free_queue d mem)) (begun pid id time reason) mem)
    in_new_queue none l =
        let q : ℕ = free_queue d mem in
        let qu : List ℕ = view d (queue q) mem in
        queue_changed d mem sound q l (begun pid id time reason) (length_begun pid id time reason qu)
        (λ some. begun_sound pid id time reason qu (long q l) coded)
        (λ some i u other there e.
        let same : pids d mem i ≡ pid = e ∙ pid_begun pid id time reason qu (long q l) in
        true≢false
        (sym (both_make _ _ (lt-ltb 0 (lengths d mem i) there) (eq-eqb (pids d mem i) pid same))
        ∙ first_before is_for d.queues i (omega arith)))

    pub notify_step_queues : QueuesKept d mem (notify_step d pid id time reason mem)
    unfolding notify_step
    notify_step_queues = go (ltb (queue_for d mem pid) d.queues) refl (ltb (free_queue d mem) d.queues) refl
      where
        go :
            (b : Bool) → ltb (queue_for d mem pid) d.queues ≡ b → (c : Bool) → ltb (free_queue d mem) d.queues ≡ c
            → QueuesKept d mem
            (pick b (on_region d (queue (queue_for d mem pid)) (pushed id time reason) mem)
            (pick c (on_region d (queue (free_queue d mem)) (begun pid id time reason) mem) mem))
        go true e c h = behind_others (ltb-true _ d.queues e)
        go false e true h = in_new_queue (ltb-false _ d.queues e) (ltb-true _ d.queues h)
        go false e false h = queues_refl d mem sound

    pub notify_step_kept : Kept d mem (notify_step d pid id time reason mem)
    notify_step_kept = notify_step_queues.kept

-- ---- notices for many pids, of many ids

pub notify_pids_queues :
    (d : Numbers) (mem : List ℕ) → SoundAt d mem → (listed : List ℕ) (id time : ℕ)
    → QueuesKept d mem (notify_pids d listed id time mem)
unfolding notify_pids
notify_pids_queues d mem sound [] id time = queues_refl d mem sound
notify_pids_queues d mem sound (pid ∷ listed) id time =
    let one_more = notify_step_queues d mem sound pid id time (number_of ParentRevoked) (omega arith) in
    queues_trans d mem _ _ one_more
    (notify_pids_queues d (notify_step d pid id time (number_of ParentRevoked) mem) one_more.kept.sound listed id time)

pub notify_all_queues :
    (d : Numbers) (mem : List ℕ) → SoundAt d mem → (listed ids : List ℕ) (time : ℕ) → QueuesKept d mem (notify_all d listed ids time mem)
unfolding notify_all
notify_all_queues d mem sound listed [] time = queues_refl d mem sound
notify_all_queues d mem sound listed (id ∷ later) time =
    let one_more = notify_pids_queues d mem sound listed id time in
    queues_trans d mem _ _ one_more (notify_all_queues d (notify_pids d listed id time mem) one_more.kept.sound listed later time)
