-- When each answer of the calls that list and of those for notifications is given, on a sound memory: 21 exactly for a field out of its
-- range or an area too short, 25 exactly where a pid has no queue and no place is free, 0 exactly in the rest.
use Rattle.std.proofs.Common.{Bool, true, false, List, ◌↔◌, ◌⊎◌, inl, inr, ⊎_elim, ◌≡◌, refl, ℕ, ◌^◌, ◌≤◌, ◌<◌, arith, ltb-true, ltb-false, leb-true, leb-false, leb, ltb, length}
use Rattle.answers.specs.Answer.{Answer, Done, BadField, PidTableFull, BadWorld}
use Rattle.base.specs.Choose.{when}
use Rattle.revocation.specs.Reason.{reason_of, name_of}
use Rattle.revocation_steps.specs.Revocation.{queue_for}
use Rattle.steps.specs.Enter.{on_world}
use Rattle.steps.specs.Replies.{WithArea, into_area, refusal}
use Rattle.steps.specs.Steps.{place_in}
use Rattle.base.specs.Cases.{when_by_cases}
use Rattle.steps.proofs.laws.Cases.{Exactly, given, not_given}
use Rattle.steps.proofs.laws.Entered.{world_by_cases, world_called}
use Rattle.steps.proofs.laws.Listed.{into_by_cases}
use Rattle.world.specs.Numbers.{numbers_of}
use Rattle.world.specs.Sound.{Sound}
use Rattle.world.specs.declared.Numbers.{Numbers}
use Rattle.notification_calls.specs.Calls.{notify_out, notices_for, peek_out, drain_out}
use Rattle.revocation_reads.specs.Calls.{descendants, descendants_out, reason_out}
use Rattle.revocation_laws.proofs.laws.NoticeWays.{NoPlace, HasPlace, TooShort, LongEnough, notify_by_cases, peek_by_cases, drain_peeks}

-- ---- lists

-- The area is too short.
listed_told_21 : (xs area : List ℕ) → ((into_area xs area).reply.answer ≡ BadField) ↔ (length area < length xs)
listed_told_21 xs area =
    into_by_cases xs area (λ (l : WithArea). (l.reply.answer ≡ BadField) ↔ (length area < length xs)) (λ short. given refl short)
    (λ fits. not_given Done BadField (λ e. omega arith) (λ short. omega arith))

listed_told_0 : (xs area : List ℕ) → ((into_area xs area).reply.answer ≡ Done) ↔ (length xs ≤ length area)
listed_told_0 xs area =
    into_by_cases xs area (λ (l : WithArea). (l.reply.answer ≡ Done) ↔ (length xs ≤ length area))
    (λ short. not_given BadField Done (λ e. omega arith) (λ fits. omega arith)) (λ fits. given refl fits)

-- A field is tested first.
module _ (b : Bool) (area : List ℕ) (rest : WithArea) (Bad Good : Type 0) (is_bad : b ≡ true → Bad) (is_good : b ≡ false → Good)
    (not_both : Bad → Good → ⊥)
  where
    abbrev tested : WithArea
    tested = when b (record { reply = refusal BadField; area = area }) rest

    tested_told_21 : (Short : Type 0) → (rest.reply.answer ≡ BadField) ↔ Short → (tested.reply.answer ≡ BadField) ↔ (Bad ⊎ Short)
    tested_told_21 Short told =
        when_by_cases (λ (l : WithArea). (l.reply.answer ≡ BadField) ↔ (Bad ⊎ Short)) _ _ b (λ e. given refl (inl (is_bad e)))
        (λ e. (λ short. inr (told.0 short), ⊎_elim (λ bad. absurd (not_both bad (is_good e))) (λ short. told.1 short)))

    tested_told_0 : (Long : Type 0) → (rest.reply.answer ≡ Done) ↔ Long → (tested.reply.answer ≡ Done) ↔ (Good × Long)
    tested_told_0 Long told =
        when_by_cases (λ (l : WithArea). (l.reply.answer ≡ Done) ↔ (Good × Long)) _ _ b
        (λ e. not_given BadField Done (λ e. omega arith) (λ (good, long). not_both (is_bad e) good))
        (λ e. (λ done. (is_good e, told.0 done), λ (good, long). told.1 long))

module _ (reason : ℕ) (area : List ℕ) where
  pub reason_told_21 :
      ((reason_out reason area).reply.answer ≡ BadField) ↔ ((3 < reason) ⊎ (length area < length (name_of (reason_of reason))))
  unfolding reason_out
  reason_told_21 =
      tested_told_21 (ltb 3 reason) area _ (3 < reason) (reason ≤ 3) (ltb-true 3 reason) (ltb-false 3 reason) (λ over coded. omega arith) _
      (listed_told_21 (name_of (reason_of reason)) area)

  pub reason_told_0 : ((reason_out reason area).reply.answer ≡ Done) ↔ ((reason ≤ 3) × (length (name_of (reason_of reason)) ≤ length area))
  unfolding reason_out
  reason_told_0 =
      tested_told_0 (ltb 3 reason) area _ (3 < reason) (reason ≤ 3) (ltb-true 3 reason) (ltb-false 3 reason) (λ over coded. omega arith) _
      (listed_told_0 (name_of (reason_of reason)) area)

module _ (mem : List ℕ) (sound : Sound mem) where
  abbrev d : Numbers
  d = numbers_of mem

  unsound : {A : Type 0} → ¬ Sound mem → A
  unsound bad = absurd (bad sound)

  pub descendants_told_21 :
      (id : ℕ) (area : List ℕ)
      → ((descendants_out mem id area).reply.answer ≡ BadField)
      ↔ ((2 ^ 48 ≤ id) ⊎ (length area < length (descendants (numbers_of mem) mem (place_in (numbers_of mem) mem id))))
  unfolding descendants_out
  descendants_told_21 id area =
      rw (world_called _ mem _ sound)
      (tested_told_21 (leb (2 ^ 48) id) area _ (2 ^ 48 ≤ id) (id < 2 ^ 48) (leb-true (2 ^ 48) id) (leb-false (2 ^ 48) id)
      (λ over fits. omega arith) _ (listed_told_21 (descendants d mem (place_in d mem id)) area))

  -- ---- notifications

  module _ (pid : ℕ) (area : List ℕ) where
    pub peek_told_21 :
        ((peek_out mem pid area).reply.answer ≡ BadField)
        ↔ (length area < length (notices_for (numbers_of mem) mem (queue_for (numbers_of mem) mem pid)))
    peek_told_21 =
        peek_by_cases mem pid area (λ (l : WithArea). (l.reply.answer ≡ BadField) ↔ TooShort mem pid area) unsound
        (λ sound short. given refl short)
        (λ sound fits. not_given Done BadField (λ e. omega arith) (λ short. omega arith))

    pub drain_told_21 :
        ((drain_out mem pid area).reply.reply.answer ≡ BadField)
        ↔ (length area < length (notices_for (numbers_of mem) mem (queue_for (numbers_of mem) mem pid)))
    drain_told_21 = rw (drain_peeks mem pid area) peek_told_21

  module _ (pid id reason time : ℕ) where
    pub notify_told_21 : ((notify_out mem pid id reason time).reply.answer ≡ BadField) ↔ ((2 ^ 48 ≤ id) ⊎ (3 < reason))
    notify_told_21 =
        notify_by_cases mem pid id reason time (Exactly BadField ((2 ^ 48 ≤ id) ⊎ (3 < reason))) unsound
        (λ sound over. given refl (inl over))
        (λ sound fits over. given refl (inr over))
        (λ sound fits coded full.
        not_given PidTableFull BadField (λ e. omega arith) (⊎_elim (λ over. omega arith) (λ over. omega arith)))
        (λ sound fits coded room. not_given Done BadField (λ e. omega arith) (⊎_elim (λ over. omega arith) (λ over. omega arith)))

    -- With good fields, by whether there is a place.
    module _ (fits : id < 2 ^ 48) (coded : reason ≤ 3) where
      by_place :
          (a : Answer) (A : Type 0) → (NoPlace mem pid → (PidTableFull ≡ a) ↔ A) → (HasPlace mem pid → (Done ≡ a) ↔ A)
          → ((notify_out mem pid id reason time).reply.answer ≡ a) ↔ A
      by_place a A full room =
          notify_by_cases mem pid id reason time (Exactly a A) unsound (λ sound over. absurd (omega arith))
          (λ sound fits over. absurd (omega arith)) (λ sound fits coded. full) (λ sound fits coded. room)

      not_both_places : NoPlace mem pid → HasPlace mem pid → ⊥
      not_both_places (none, full) = ⊎_elim (λ l. omega arith) (λ l. omega arith)

      pub notify_told_25 : ((notify_out mem pid id reason time).reply.answer ≡ PidTableFull) ↔ NoPlace mem pid
      notify_told_25 =
          by_place PidTableFull _ (given refl)
          (λ room. not_given Done PidTableFull (λ e. omega arith) (λ full. not_both_places full room))

      pub notify_told_0 : ((notify_out mem pid id reason time).reply.answer ≡ Done) ↔ HasPlace mem pid
      notify_told_0 = by_place Done _ (λ full. not_given PidTableFull Done (λ e. omega arith) (not_both_places full)) (given refl)

-- ---- 0 of the calls that list

sound_told_0 :
    (mem area : List ℕ) (call : Numbers → WithArea) (Fits : Type 0) → ((call (numbers_of mem)).reply.answer ≡ Done) ↔ Fits
    → ((on_world (λ a. record { reply = refusal a; area = area }) mem call).reply.answer ≡ Done) ↔ (Sound mem × Fits)
sound_told_0 mem area call Fits told =
    world_by_cases (λ (l : WithArea). (l.reply.answer ≡ Done) ↔ (Sound mem × Fits)) _ mem _
    (λ bad. not_given BadWorld Done (λ e. omega arith) (λ (sound, fits). bad sound))
    (λ sound. (λ done. (sound, told.0 done), λ (sound, fits). told.1 fits))

module _ (mem : List ℕ) where
  pub descendants_told_0 :
      (id : ℕ) (area : List ℕ)
      → ((descendants_out mem id area).reply.answer ≡ Done)
      ↔ (Sound mem
      × ((id < 2 ^ 48) × (length (descendants (numbers_of mem) mem (place_in (numbers_of mem) mem id)) ≤ length area)))
  unfolding descendants_out
  descendants_told_0 id area =
      sound_told_0 mem area _ _
      (tested_told_0 (leb (2 ^ 48) id) area _ (2 ^ 48 ≤ id) (id < 2 ^ 48) (leb-true (2 ^ 48) id) (leb-false (2 ^ 48) id)
      (λ over fits. omega arith) _ (listed_told_0 (descendants (numbers_of mem) mem (place_in (numbers_of mem) mem id)) area))

  module _ (pid : ℕ) (area : List ℕ) where
    abbrev Fits : Type 0
    Fits = Sound mem × LongEnough mem pid area

    pub peek_told_0 : ((peek_out mem pid area).reply.answer ≡ Done) ↔ (Sound mem × LongEnough mem pid area)
    peek_told_0 =
        peek_by_cases mem pid area (λ (l : WithArea). (l.reply.answer ≡ Done) ↔ Fits)
        (λ bad. not_given BadWorld Done (λ e. omega arith) (λ (sound, fits). bad sound))
        (λ sound short. not_given BadField Done (λ e. omega arith) (λ (sound, fits). omega arith))
        (λ sound fits. given refl (sound, fits))

    pub drain_told_0 : ((drain_out mem pid area).reply.reply.answer ≡ Done) ↔ (Sound mem × LongEnough mem pid area)
    drain_told_0 = rw (drain_peeks mem pid area) peek_told_0
