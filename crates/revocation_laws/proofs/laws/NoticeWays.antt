-- The ways through the calls for notifications: what holds of each ending holds of the whole. And a drain answers what a peek answers.
use Rattle.std.proofs.Common.{Bool, true, false, not, List, ◌⊎◌, inl, inr, ⊎_elim, ◌≡◌, refl, sym, ℕ, ◌^◌, ◌≤◌, ◌<◌, ltb-true, ltb-false, ltb, length, Result, Ok, Err}
use Rattle.std.proofs.lemmas.Bool.{not-true}
use Rattle.answers.specs.Answer.{Answer, BadField, PidTableFull, BadWorld}
use Rattle.answers.specs.declared.Refusal.{Refusal}
use Rattle.base.specs.Choose.{both, both_left, both_right, when}
use Rattle.revocation_steps.specs.Revocation.{queue_for, free_queue, notify_step}
use Rattle.steps.specs.Enter.{entered_world, go_on, on_world}
use Rattle.steps.specs.Replies.{Left, WithArea, done, refusal, refuse, Reply}
use Rattle.base.specs.Cases.{when_by_cases, when_below, when_from}
use Rattle.steps.proofs.laws.Entered.{world_by_cases}
use Rattle.world.specs.Numbers.{numbers_of}
use Rattle.world.specs.Sound.{Sound}
use Rattle.world.specs.declared.Numbers.{Numbers}
use Rattle.notification_calls.specs.Calls.{notify_out, notices_for, peeked, peek_out, without, drain_out}

-- ---- a notice for a pid

-- The pid has no queue and no place is free; or one of the two.
abbrev pub NoPlace : List ℕ → ℕ → Type 0
NoPlace mem pid =
    ((numbers_of mem).queues ≤ queue_for (numbers_of mem) mem pid) × ((numbers_of mem).queues ≤ free_queue (numbers_of mem) mem)

abbrev pub HasPlace : List ℕ → ℕ → Type 0
HasPlace mem pid =
    (queue_for (numbers_of mem) mem pid < (numbers_of mem).queues) ⊎ (free_queue (numbers_of mem) mem < (numbers_of mem).queues)

one_holds : (a b : Bool) → both (not a) (not b) ≡ false → (a ≡ true) ⊎ (b ≡ true)
one_holds true b e = inl refl
one_holds false true e = inr refl
one_holds false false e = inl (sym e)

module _ (mem : List ℕ) (pid id reason time : ℕ) (P : Left Reply → Type 0) where
  abbrev d : Numbers
  d = numbers_of mem

  pub notify_by_cases :
      (¬ Sound mem → P (refuse mem BadWorld)) → (Sound mem → 2 ^ 48 ≤ id → P (refuse mem BadField))
      → (Sound mem → id < 2 ^ 48 → 3 < reason → P (refuse mem BadField))
      → (Sound mem → id < 2 ^ 48 → reason ≤ 3 → NoPlace mem pid → P (refuse mem PidTableFull))
      → (Sound mem → id < 2 ^ 48 → reason ≤ 3 → HasPlace mem pid
      → P (record { reply = done 0; memory = notify_step (numbers_of mem) pid id time reason mem }))
      → P (notify_out mem pid id reason time)
  unfolding notify_out
  notify_by_cases bad over uncoded full goes =
      let q : ℕ = queue_for d mem pid in
      let f : ℕ = free_queue d mem in
      let n : ℕ = d.queues in
      world_by_cases P (refuse mem) mem _ bad
      (λ sound.
      when_from P _ _ (2 ^ 48) id (over sound)
      (λ fits.
      when_below P _ _ 3 reason (uncoded sound fits)
      (λ coded.
      when_by_cases P _ _ (both (not (ltb q n)) (not (ltb f n)))
      (λ e.
      full sound fits coded
      (ltb-false q n (not-true _ (both_left _ _ e)), ltb-false f n (not-true _ (both_right (not (ltb q n)) _ e))))
      (λ e.
      goes sound fits coded
      (⊎_elim (λ h. inl (ltb-true q n h)) (λ h. inr (ltb-true f n h)) (one_holds (ltb q n) (ltb f n) e))))))

-- ---- the notices of a pid

-- The reply of what a call does, refused or by a test, is what is replied.
replies :
    (bad : Answer → Left WithArea) (test : Numbers → Bool) (short long : Numbers → Left WithArea) (seen : Result Numbers Refusal)
    → (go_on bad (λ d. when (test d) (short d) (long d)) seen).reply
    ≡ go_on (λ a. (bad a).reply) (λ d. when (test d) (short d).reply (long d).reply) seen
unfolding when
replies bad test short long (Err why) = refl
replies bad test short long (Ok numbers) = go (test numbers)
  where
    go : (b : Bool) → (when b (short numbers) (long numbers)).reply ≡ when b (short numbers).reply (long numbers).reply
    go true = refl
    go false = refl

-- The area is too short for them.
abbrev pub TooShort : List ℕ → ℕ → List ℕ → Type 0
TooShort mem pid area = length area < length (notices_for (numbers_of mem) mem (queue_for (numbers_of mem) mem pid))

abbrev pub LongEnough : List ℕ → ℕ → List ℕ → Type 0
LongEnough mem pid area = length (notices_for (numbers_of mem) mem (queue_for (numbers_of mem) mem pid)) ≤ length area

module _ (mem : List ℕ) (pid : ℕ) (area : List ℕ) where
  abbrev words : ℕ
  words = length (notices_for (numbers_of mem) mem (queue_for (numbers_of mem) mem pid))

  pub peek_by_cases :
      (P : WithArea → Type 0) → (¬ Sound mem → P (record { reply = refusal BadWorld; area = area }))
      → (Sound mem → TooShort mem pid area → P (record { reply = refusal BadField; area = area }))
      → (Sound mem → LongEnough mem pid area → P (peeked (numbers_of mem) mem (queue_for (numbers_of mem) mem pid) area))
      → P (peek_out mem pid area)
  unfolding peek_out
  peek_by_cases P bad short goes =
      world_by_cases P _ mem _ bad (λ sound. when_below P _ _ (length area) words (short sound) (goes sound))

  pub drain_by_cases :
      (P : Left WithArea → Type 0)
      → (¬ Sound mem → P (record { reply = record { reply = refusal BadWorld; area = area }; memory = mem }))
      → (Sound mem → TooShort mem pid area → P (record { reply = record { reply = refusal BadField; area = area }; memory = mem }))
      → (Sound mem → LongEnough mem pid area
      → P (record {
        reply = peeked (numbers_of mem) mem (queue_for (numbers_of mem) mem pid) area;
        memory = without (numbers_of mem) mem (queue_for (numbers_of mem) mem pid);
      }))
      → P (drain_out mem pid area)
  unfolding drain_out
  drain_by_cases P bad short goes =
      world_by_cases P _ mem _ bad (λ sound. when_below P _ _ (length area) words (short sound) (goes sound))

  pub drain_peeks : (drain_out mem pid area).reply ≡ peek_out mem pid area
  unfolding drain_out peek_out on_world
  drain_peeks =
      replies (λ a. record { reply = record { reply = refusal a; area = area }; memory = mem })
      (λ d. ltb (length area) (length (notices_for d mem (queue_for d mem pid))))
      (λ d. record { reply = record { reply = refusal BadField; area = area }; memory = mem })
      (λ d. record { reply = peeked d mem (queue_for d mem pid) area; memory = without d mem (queue_for d mem pid) }) (entered_world mem)
