-- What one step leaves of the notices of each pid: a notice joins those of its pid, of which the last 256 stay; a queue that is no more has
-- none; and those of every other pid are as they were.
use Rattle.std.proofs.Common.{Bool, true, false, not, true≢false, List, [], ◌∷◌, ◌++◌, ◌≢◌, ◌⊎◌, ⊎_elim, ◌≡◌, refl, sym, ap, subst, ◌∙◌, ℕ, ◌+◌, ◌≤◌, ◌<◌, arith, ltb-true, lt-ltb, le-ltb, eqb-true, eq-eqb, ne_eqb, eqb, ltb, length}
use Rattle.std.proofs.Math.Decide.{ℕ_discrete, dec_lt}
use Rattle.std.proofs.Math.Logic.{by_cases}
use Rattle.base.specs.Below.{one}
use Rattle.base.specs.Choose.{pick, both, both_left, both_right, both_make, refuted}
use Rattle.base.specs.FirstLaws.{first_passes, first_is, first_none, first_ext}
use Rattle.base.specs.SumLaws.{sum_update}
use Rattle.revocation.specs.NoticesLaws.{last_words, notices_pushed, notices_begun}
use Rattle.revocation.specs.Queue.{pushed, begun, freed, notices}
use Rattle.revocation.specs.QueueLaws.{length_pushed, length_begun, length_freed, pid_pushed, pid_begun, length_of_begun, length_of_freed, length_grows, length_stays}
use Rattle.revocation.specs.Sound.{SoundQueue}
use Rattle.revocation.specs.Words.{pid_of, length_of}
use Rattle.world.specs.Regions.{queue, view, on_region}
use Rattle.world.specs.Sound.{pids, lengths, SoundAt}
use Rattle.world.specs.Views.{length_view, queue_words}
use Rattle.world.specs.declared.Numbers.{Numbers}
use Rattle.revocation_steps.specs.Revocation.{queue_for, free_queue, notify_step, free_step, free_queues}
use Rattle.revocation_steps.proofs.Notifying.{notify_pushes, notify_begins}
use Rattle.revocation_steps.proofs.laws.QueueSteps.{changed_here, changed_elsewhere, notify_step_queues}
use Rattle.revocation_steps.proofs.laws.SameQueues.{notices_of}

-- The queue is one, and of the pid.
abbrev pub is_for : ℕ → List ℕ → Bool
is_for pid qu = both (ltb 0 (length_of qu)) (eqb (pid_of qu) pid)

for_is : (pid : ℕ) (qu : List ℕ) → is_for pid qu ≡ true → (0 < length_of qu) × (pid_of qu ≡ pid)
for_is pid qu e = (
  ltb-true 0 (length_of qu) (both_left _ (eqb (pid_of qu) pid) e),
  eqb-true (pid_of qu) pid (both_right (ltb 0 (length_of qu)) _ e),
)

-- It is not the queue of another pid.
for_other : (pid other : ℕ) (qu : List ℕ) → other ≢ pid → (0 < length_of qu → pid_of qu ≡ pid) → is_for other qu ≡ false
for_other pid other qu apart is = refuted (is_for other qu) (λ e. let (some, named) = for_is other qu e in apart (sym named ∙ is some))

for_none : (pid : ℕ) (qu : List ℕ) → length_of qu ≡ 0 → is_for pid qu ≡ false
for_none pid qu none = rw none

-- ---- the queue of a pid

module _ (d : Numbers) (mem : List ℕ) where
  pub queue_holds :
      (pid : ℕ) → queue_for d mem pid < d.queues
      → (0 < lengths d mem (queue_for d mem pid)) × (pids d mem (queue_for d mem pid) ≡ pid)
  queue_holds pid l =
      for_is pid (view d (queue (queue_for d mem pid)) mem) (first_passes (λ q. is_for pid (view d (queue q) mem)) d.queues l)

  -- Pids differ, so any queue of the pid is its queue,
  module _ (sound : SoundAt d mem) (pid q : ℕ) (l : q < d.queues) (some : 0 < lengths d mem q) (is : pids d mem q ≡ pid) where
    pub queue_is : queue_for d mem pid ≡ q
    queue_is =
        first_is (λ q. is_for pid (view d (queue q) mem)) d.queues q l
        (both_make _ _ (lt-ltb 0 (lengths d mem q) some) (eq-eqb (pids d mem q) pid is))
        (λ k u.
        refuted (is_for pid (view d (queue k) mem))
        (λ e. let (some', is') = for_is pid (view d (queue k) mem) e in sound.pids_differ q l k u some' some (is' ∙ sym is)))

    -- and its notices are the pid's.
    pub notices_are : notices_of d mem pid ≡ notices (view d (queue q) mem)
    notices_are = rw (queue_is, lt-ltb q d.queues l)

  pub notices_none : (pid : ℕ) → d.queues ≤ queue_for d mem pid → notices_of d mem pid ≡ []
  notices_none pid none = rw (le-ltb (queue_for d mem pid) d.queues none)

-- ---- what a notice does

-- These words joined the notices of the pid, of which the last 256 stay; it has a queue then, one less is free if it had none; and nothing
-- changed for any other pid.
pub record Joined (d : Numbers) (pid : ℕ) (words mem after : List ℕ) : Type 0 where
  pub here : notices_of d after pid ≡ last_words 768 (notices_of d mem pid ++ words)
  pub others : (x : ℕ) → x ≢ pid → notices_of d after x ≡ notices_of d mem x
  pub has_queue : queue_for d after pid < d.queues
  pub other_queues : (x : ℕ) → x ≢ pid → queue_for d after x ≡ queue_for d mem x
  pub free : free_queues d mem ≡ free_queues d after + one (not (ltb (queue_for d mem pid) d.queues))

-- ---- one queue changes

module _ (d : Numbers) (mem : List ℕ) (sound : SoundAt d mem) (q : ℕ) (inside : q < d.queues) (f : List ℕ → List ℕ)
    (same_length : length (f (view d (queue q) mem)) ≡ length (view d (queue q) mem))
  where
    abbrev qu : List ℕ
    qu = view d (queue q) mem

    abbrev after : List ℕ
    after = on_region d (queue q) f mem

    here : view d (queue q) after ≡ f qu
    here = changed_here d mem sound q inside f same_length

    elsewhere : (i : ℕ) → i < d.queues → i ≢ q → view d (queue i) after ≡ view d (queue i) mem
    elsewhere = changed_elsewhere d mem sound q inside f same_length

    -- For a pid whose queue it is not, before or after, nothing changes.
    module _ (pid : ℕ) (not_before : is_for pid qu ≡ false) (not_after : is_for pid (f qu) ≡ false) where
      pub other_queue : queue_for d (on_region d (queue q) f mem) pid ≡ queue_for d mem pid
      other_queue =
          first_ext _ _ d.queues
          (λ i l.
          by_cases (ℕ_discrete i q)
          (λ e. rw (e, here) (not_after ∙ sym not_before))
          (λ other. ap (is_for pid) (elsewhere i l other)))

      pub other_notices : notices_of d (on_region d (queue q) f mem) pid ≡ notices_of d mem pid
      other_notices =
          let p : ℕ = queue_for d mem pid in
          rw other_queue
          (by_cases (dec_lt p d.queues)
          (λ l.
          let passes = first_passes (λ i. is_for pid (view d (queue i) mem)) d.queues l in
          let apart : p ≢ q = λ e. true≢false (sym passes ∙ ap (λ i. is_for pid (view d (queue i) mem)) e ∙ not_before) in
          ap (λ ws. pick (ltb p d.queues) (notices ws) []) (elsewhere p l apart))
          (λ none. rw (le-ltb p d.queues (omega arith))))

    free_changed : free_queues d after + one (eqb (length_of qu) 0) ≡ free_queues d mem + one (eqb (length_of (f qu)) 0)
    unfolding free_queues
    free_changed =
        sum_update (λ i. one (eqb (lengths d mem i) 0)) (λ i. one (eqb (lengths d after i) 0)) d.queues q inside
        (λ i l other. ap (λ ws. one (eqb (length_of ws) 0)) (elsewhere i l other))
        ∙ ap (λ ws. free_queues d mem + one (eqb (length_of ws) 0)) here

    -- It becomes the queue of the pid where this has none and it is free, or stays it.
    module _ (pid : ℕ) (was : 0 < lengths d mem q → pids d mem q ≡ pid)
        (free : eqb (lengths d mem q) 0 ≡ not (ltb (queue_for d mem pid) d.queues))
        (some : 0 < length_of (f qu)) (is : pid_of (f qu) ≡ pid) (sound_after : SoundAt d after)
      where
        joins : (words : List ℕ) → notices (f qu) ≡ last_words 768 (notices_of d mem pid ++ words) → Joined d pid words mem after
        joins words holds = record {
          here = notices_are d after sound_after pid q inside (rw here some) (rw here is) ∙ ap notices here ∙ holds;
          others = λ x apart. other_notices x (for_other pid x qu apart was) (for_other pid x (f qu) apart (λ some. is));
          has_queue = rw (queue_is d after sound_after pid q inside (rw here some) (rw here is)) inside;
          other_queues = λ x apart. other_queue x (for_other pid x qu apart was) (for_other pid x (f qu) apart (λ some. is));
          free =
              let used : one (eqb (length_of (f qu)) 0) ≡ 0 = ap one (ne_eqb (length_of (f qu)) 0 (λ e. omega arith)) in
              omega (arith, free_changed, ap one free);
        }

-- ---- a notice for a pid

module _ (d : Numbers) (mem : List ℕ) (sound : SoundAt d mem) (pid id time reason : ℕ) (coded : reason ≤ 3) where
  abbrev words : List ℕ
  words = id ∷ time ∷ reason ∷ []

  long : (q : ℕ) → q < d.queues → 771 ≤ length (view d (queue q) mem)
  long q l = queue_words d mem sound.long_enough q l

  sound_after : SoundAt d (notify_step d pid id time reason mem)
  sound_after = (notify_step_queues d mem sound pid id time reason coded).kept.sound

  pushed_some : (qu : List ℕ) → 771 ≤ length qu → SoundQueue qu → 0 < length_of (pushed id time reason qu)
  pushed_some qu long is =
      by_cases (dec_lt (length_of qu) 256)
      (λ room. omega (arith, length_grows id time reason qu long is.coded_first room))
      (λ full. omega (arith, length_stays id time reason qu long is.coded_first (omega (arith, is.short))))

  -- Behind the others of its queue,
  behind : queue_for d mem pid < d.queues → Joined d pid words mem (notify_step d pid id time reason mem)
  behind l =
      let q : ℕ = queue_for d mem pid in
      let qu : List ℕ = view d (queue q) mem in
      let (some, is) = queue_holds d mem pid l in
      let sq : SoundQueue qu = sound.queues q l some in
      let step = notify_pushes d pid id time reason mem q refl l in
      let free : eqb (length_of qu) 0 ≡ not (ltb q d.queues) =
      ne_eqb (length_of qu) 0 (λ e. omega arith) ∙ sym (ap not (lt-ltb q d.queues l)) in
      subst (Joined d pid words mem) step
      (joins d mem sound q l (pushed id time reason) (length_pushed id time reason qu) pid (λ some. is) free
      (pushed_some qu (long q l) sq) (pid_pushed id time reason qu (long q l) sq.coded_first sq.short ∙ is)
      (subst (SoundAt d) (sym step) sound_after) words
      (notices_pushed id time reason qu (long q l) sq.coded_first sq.short
      ∙ ap (λ ws. last_words 768 (ws ++ words)) (sym (notices_are d mem sound pid q l some is))))

  -- or as the first of a new one.
  in_new : d.queues ≤ queue_for d mem pid → free_queue d mem < d.queues → Joined d pid words mem (notify_step d pid id time reason mem)
  in_new none l =
      let q : ℕ = free_queue d mem in
      let qu : List ℕ = view d (queue q) mem in
      let empty : length_of qu ≡ 0 = eqb-true (length_of qu) 0 (first_passes (λ q. eqb (lengths d mem q) 0) d.queues l) in
      let step = notify_begins d pid id time reason mem (queue_for d mem pid) refl none q refl l in
      let free : eqb (length_of qu) 0 ≡ not (ltb (queue_for d mem pid) d.queues) =
      eq-eqb (length_of qu) 0 empty ∙ sym (ap not (le-ltb (queue_for d mem pid) d.queues none)) in
      subst (Joined d pid words mem) step
      (joins d mem sound q l (begun pid id time reason) (length_begun pid id time reason qu) pid (λ some. absurd (omega arith)) free
      (omega (arith, length_of_begun pid id time reason qu (long q l))) (pid_begun pid id time reason qu (long q l))
      (subst (SoundAt d) (sym step) sound_after) words
      (notices_begun pid id time reason qu (long q l)
      ∙ ap (λ ws. last_words 768 (ws ++ words)) (sym (notices_none d mem pid none))))

  pub notify_joins :
      (queue_for d mem pid < d.queues) ⊎ (free_queue d mem < d.queues)
      → Joined d pid (id ∷ time ∷ reason ∷ []) mem (notify_step d pid id time reason mem)
  notify_joins place =
      by_cases (dec_lt (queue_for d mem pid) d.queues) behind
      (λ none. ⊎_elim (λ l. absurd (omega arith)) (in_new (omega arith)) place)

-- ---- a queue is no more

module _ (d : Numbers) (mem : List ℕ) (sound : SoundAt d mem) (pid : ℕ) (l : queue_for d mem pid < d.queues) where
  abbrev old : ℕ
  old = queue_for d mem pid

  abbrev words_of : List ℕ
  words_of = view d (queue old) mem

  empty : length_of (freed words_of) ≡ 0
  empty = length_of_freed words_of (omega (arith, length_view d (queue old) mem l sound.long_enough))

  pub freed_others : (x : ℕ) → x ≢ pid → notices_of d (free_step d (queue_for d mem pid) mem) x ≡ notices_of d mem x
  unfolding free_step
  freed_others x apart =
      other_notices d mem sound old l freed (length_freed words_of) x
      (for_other pid x words_of apart (λ some. (queue_holds d mem pid l).1)) (for_none x (freed words_of) empty)

  pub freed_none : notices_of d (free_step d (queue_for d mem pid) mem) pid ≡ []
  unfolding free_step
  freed_none =
      notices_none d (on_region d (queue old) freed mem) pid
      (omega (arith, first_none (λ i. is_for pid (view d (queue i) (on_region d (queue old) freed mem))) d.queues fails))
    where
      fails : (i : ℕ) → i < d.queues → is_for pid (view d (queue i) (on_region d (queue old) freed mem)) ≡ false
      fails i u =
          by_cases (ℕ_discrete i old)
          (λ e. rw (e, changed_here d mem sound old l freed (length_freed words_of)) (for_none pid (freed words_of) empty))
          (λ other.
          rw (changed_elsewhere d mem sound old l freed (length_freed words_of) i u other)
          (refuted (is_for pid (view d (queue i) mem))
          (λ e. let (some, is) = for_is pid (view d (queue i) mem) e in other (sym (queue_is d mem sound pid i u some is)))))
