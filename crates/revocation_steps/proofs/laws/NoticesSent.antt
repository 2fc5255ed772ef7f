-- Notices for many pids, of many ids: each listed pid gets each id in turn, as often as it is listed, and nothing is lost, where as many
-- queues are free as are needed; of each pid's notices the last 256 stay.
use Rattle.std.proofs.Common.{Bool, true, false, not, true≢false, List, [], ◌∷◌, ◌++◌, append_assoc, append-nil, ◌≢◌, ◌⊎◌, inl, inr, ◌≡◌, refl, sym, ap, ◌∙◌, ℕ, ◌+◌, ◌-◌, ◌≤◌, ◌<◌, arith, lt-ltb, le-ltb, eq-eqb, ne_eqb, eqb, ltb, length}
use Rattle.std.proofs.Math.Decide.{ℕ_discrete, dec_lt}
use Rattle.std.proofs.Math.Logic.{by_cases}
use Rattle.base.specs.Below.{one}
use Rattle.base.specs.Choose.{pick, both, both_true, both_false}
use Rattle.base.specs.FirstLaws.{first_before}
use Rattle.base.specs.SumLaws.{sum_const_zero}
use Rattle.revocation.specs.Reason.{number_of}
use Rattle.revocation.specs.declared.RevocationReason.TheVariants.{ParentRevoked}
use Rattle.revocation.specs.NoticesLaws.{last_words, length_notices, last_last}
use Rattle.world.specs.Regions.{queue, view}
use Rattle.world.specs.Sound.{lengths, SoundAt}
use Rattle.world.specs.declared.Numbers.{Numbers}
use Rattle.revocation_steps.specs.Revocation.{queue_for, free_queue, notify_step, notify_pids, notify_all, free_queues, is_in, new_queues}
use Rattle.revocation_steps.proofs.laws.NoticeSteps.{Joined, queue_holds, notify_joins}
use Rattle.revocation_steps.proofs.laws.QueueSteps.{notify_step_queues, notify_pids_queues}
use Rattle.revocation_steps.proofs.laws.SameQueues.{notices_of}

-- ---- as many queues are free as are needed

abbrev pub Room : Numbers → List ℕ → List ℕ → Type 0
Room d mem listed = new_queues d mem listed ≤ free_queues d mem

-- Where one is free, there is a first one.
some_free : (d : Numbers) (mem : List ℕ) → 0 < free_queues d mem → free_queue d mem < d.queues
unfolding free_queues
some_free d mem some =
    by_cases (dec_lt (free_queue d mem) d.queues) (λ l. l)
    (λ none.
    let all_used = sum_const_zero (λ q. one (eqb (lengths d mem q) 0)) d.queues
    (λ q l. ap one (first_before (λ q. eqb (lengths d mem q) 0) d.queues q (omega arith))) in
    absurd (omega arith))

-- A listed pid without a queue needs one.
needs_one :
    (d : Numbers) (mem : List ℕ) (pid : ℕ) → ltb (queue_for d mem pid) d.queues ≡ false → (listed : List ℕ) → is_in pid listed ≡ true
    → 0 < new_queues d mem listed
unfolding new_queues
needs_one d mem pid none [] e = absurd (true≢false (sym e))
needs_one d mem pid none (x ∷ listed) e =
    by_cases (ℕ_discrete x pid)
    (λ same. rw (same, none) (go (is_in pid listed) (needs_one d mem pid none listed)))
    (λ other. let later = needs_one d mem pid none listed (rw (ne_eqb pid x (λ h. other (sym h))) at e) in omega arith)
  where
    go : (b : Bool) → (b ≡ true → 0 < new_queues d mem listed) → 0 < one (not b) + new_queues d mem listed
    go true more = omega (arith, more refl)
    go false more = omega arith

-- Once it has one, one less is needed, and none less where it had one.
module _ (d : Numbers) (mem after : List ℕ) (pid : ℕ) (there : ltb (queue_for d after pid) d.queues ≡ true)
    (others : (x : ℕ) → x ≢ pid → queue_for d after x ≡ queue_for d mem x)
  where
    abbrev had : Bool
    had = ltb (queue_for d mem pid) d.queues

    one_less : (listed : List ℕ) → new_queues d mem listed ≡ new_queues d after listed + one (both (not had) (is_in pid listed))
    unfolding new_queues
    one_less [] = rw (both_false (not had))
    one_less (x ∷ listed) =
        by_cases (ℕ_discrete x pid)
        (λ same. rw (same, there, eq-eqb pid pid refl) (go had (is_in pid listed) (one_less listed)))
        (λ other. rw (others x other, ne_eqb pid x (λ e. other (sym e))) (omega (arith, one_less listed)))
      where
        go :
            (b i : Bool) → new_queues d mem listed ≡ new_queues d after listed + one (both (not b) i)
            → one (both (not b) (not i)) + new_queues d mem listed ≡ 0 + new_queues d after listed + one (both (not b) true)
        go true i ih = omega arith
        go false true ih = omega arith
        go false false ih = omega arith

module _ (d : Numbers) (mem : List ℕ) (listed : List ℕ) (room : Room d mem listed) (pid : ℕ) (among : is_in pid listed ≡ true) where
  -- So each listed pid has or gets its queue, and the room stays.
  placed : (queue_for d mem pid < d.queues) ⊎ (free_queue d mem < d.queues)
  placed =
      by_cases (dec_lt (queue_for d mem pid) d.queues) inl
      (λ none.
      let needed = needs_one d mem pid (le-ltb (queue_for d mem pid) d.queues (omega arith)) listed among in
      inr (some_free d mem (omega arith)))

  room_stays : (words after : List ℕ) → Joined d pid words mem after → Room d after listed
  room_stays words after joined =
      let less = one_less d mem after pid (lt-ltb (queue_for d after pid) d.queues joined.has_queue) joined.other_queues listed in
      let less' = rw (among, both_true) at less in
      omega (arith, joined.free, less')

-- ---- what a pid gets

-- The words of one id, as parent_revoked, as often as the pid is listed; and of many ids in turn.
unfoldable pub words_for : ℕ → List ℕ → ℕ → ℕ → List ℕ
words_for pid [] id time = []
words_for pid (x ∷ listed) id time = pick (eqb x pid) (id ∷ time ∷ number_of ParentRevoked ∷ []) [] ++ words_for pid listed id time

unfoldable pub sent_to : ℕ → List ℕ → List ℕ → ℕ → List ℕ
sent_to pid listed [] time = []
sent_to pid listed (id ∷ later) time = words_for pid listed id time ++ sent_to pid listed later time

-- ---- it joins its notices

module _ (d : Numbers) where
  -- There are at most 256 notices,
  few_words : (mem : List ℕ) → SoundAt d mem → (pid : ℕ) → length (notices_of d mem pid) ≤ 768
  few_words mem sound pid =
      let q : ℕ = queue_for d mem pid in
      by_cases (dec_lt q d.queues)
      (λ l.
      let (some, is) = queue_holds d mem pid l in
      rw (lt-ltb q d.queues l) (omega (arith, length_notices (view d (queue q) mem), (sound.queues q l some).short)))
      (λ none. rw (le-ltb q d.queues (omega arith)) (omega arith))

  -- so all stay where none joins.
  pub all_stay : (mem : List ℕ) → SoundAt d mem → (pid : ℕ) → last_words 768 (notices_of d mem pid ++ []) ≡ notices_of d mem pid
  all_stay mem sound pid =
      let none : length (notices_of d mem pid) - 768 ≡ 0 = omega (arith, few_words mem sound pid) in
      rw (append-nil (notices_of d mem pid), none) refl

  module _ (listed : List ℕ) where
    -- Each pid got these words, and there is room still.
    pub record Sent (words : ℕ → List ℕ) (mem after : List ℕ) : Type 0 where
      pub got : (pid : ℕ) → notices_of d after pid ≡ last_words 768 (notices_of d mem pid ++ words pid)
      pub room : Room d after listed

    sent_refl : (mem : List ℕ) → SoundAt d mem → Room d mem listed → Sent (λ pid. []) mem mem
    sent_refl mem sound room = record { got = λ pid. sym (all_stay mem sound pid); room = room }

    sent_trans :
        (words words' : ℕ → List ℕ) (mem mid after : List ℕ) → Sent words mem mid → Sent words' mid after
        → Sent (λ pid. words pid ++ words' pid) mem after
    sent_trans words words' mem mid after h g = record {
      got = λ pid.
          g.got pid
          ∙ ap (λ ws. last_words 768 (ws ++ words' pid)) (h.got pid)
          ∙ last_last 768 (notices_of d mem pid ++ words pid) (words' pid)
          ∙ ap (last_words 768) (append_assoc (notices_of d mem pid) (words pid) (words' pid));
      room = g.room;
    }

    module _ (time : ℕ) where
      one_sent :
          (mem : List ℕ) → SoundAt d mem → Room d mem listed → (id x : ℕ) → is_in x listed ≡ true
          → Sent (λ pid. pick (eqb x pid) (id ∷ time ∷ number_of ParentRevoked ∷ []) []) mem
          (notify_step d x id time (number_of ParentRevoked) mem)
      one_sent mem sound room id x among =
          let joined = notify_joins d mem sound x id time (number_of ParentRevoked) (omega arith) (placed d mem listed room x among) in
          record {
            got = λ pid.
                by_cases (ℕ_discrete x pid)
                (λ same. rw (← same, eq-eqb x x refl) joined.here)
                (λ other. rw (ne_eqb x pid other) (joined.others pid (λ e. other (sym e)) ∙ sym (all_stay mem sound pid)));
            room = room_stays d mem listed room x among _ _ joined;
          }

      pids_sent :
          (served : List ℕ) (mem : List ℕ) → SoundAt d mem → Room d mem listed
          → ((x : ℕ) → is_in x served ≡ true → is_in x listed ≡ true) → (id : ℕ)
          → Sent (λ pid. words_for pid served id time) mem (notify_pids d served id time mem)
      unfolding notify_pids words_for
      pids_sent [] mem sound room among id = sent_refl mem sound room
      pids_sent (x ∷ served) mem sound room among id =
          let one_more = one_sent mem sound room id x (among x (rw (eq-eqb x x refl))) in
          let sound₁ = (notify_step_queues d mem sound x id time (number_of ParentRevoked) (omega arith)).kept.sound in
          sent_trans _ _ mem (notify_step d x id time (number_of ParentRevoked) mem) _ one_more
          (pids_sent served (notify_step d x id time (number_of ParentRevoked) mem) sound₁ one_more.room (λ y e. among y (later y x e)) id)
        where
          later : (y x : ℕ) → is_in y served ≡ true → is_in y (x ∷ served) ≡ true
          later y x e = go (eqb y x)
            where
              go : (b : Bool) → pick b true (is_in y served) ≡ true
              go true = refl
              go false = e

      pub all_sent :
          (ids : List ℕ) (mem : List ℕ) → SoundAt d mem → Room d mem listed
          → Sent (λ pid. sent_to pid listed ids time) mem (notify_all d listed ids time mem)
      unfolding notify_all sent_to
      all_sent [] mem sound room = sent_refl mem sound room
      all_sent (id ∷ later) mem sound room =
          let first_id = pids_sent listed mem sound room (λ x e. e) id in
          let sound₁ = (notify_pids_queues d mem sound listed id time).kept.sound in
          sent_trans _ _ mem (notify_pids d listed id time mem) _ first_id
          (all_sent later (notify_pids d listed id time mem) sound₁ first_id.room)
