-- The notices of the queue at place q, by whether there is such a place.
use Rattle.std.proofs.Common.{true, false, List, [], ◌∷◌, ◌≡◌, refl, sym, ap, ◌∙◌, ℕ, ◌*◌, ◌<◌, ◌≤◌, arith, lt-ltb, le-ltb, ltb, length}
use Rattle.std.proofs.Math.Decide.{dec_lt}
use Rattle.std.proofs.Math.Logic.{by_cases}
use Rattle.revocation.specs.NoticesLaws.{length_notices}
use Rattle.revocation_steps.specs.Revocation.{queue_for, free_step}
use Rattle.std.specs.Prelude.{Ok}
use Rattle.answers.specs.Answer.{Answer, BadField}
use Rattle.base.specs.Choose.{when_yes, when_no}
use Rattle.steps.specs.Enter.{entered_world, go_on, on_world}
use Rattle.steps.specs.Replies.{Left, WithArea, refusal}
use Rattle.steps.proofs.laws.Ready.{queues_ready_at}
use Rattle.world.specs.Regions.{queue, view}
use Rattle.world.specs.Sound.{SoundAt, lengths}
use Rattle.world.specs.declared.Numbers.{Numbers}
use Rattle.notification_calls.specs.Calls.{notices_for, count_for, peeked, peek_out, without, drain_out}

no_words : (xs : List ℕ) → length xs ≡ 0 → xs ≡ []
no_words [] none = refl
no_words (x ∷ xs) none = absurd (omega arith)

module _ (d : Numbers) (mem : List ℕ) (q : ℕ) where
  pub count_there : q < d.queues → lengths d mem q ≡ count_for d mem q
  count_there l = rw (lt-ltb q d.queues l)

  pub count_past : d.queues ≤ q → 0 ≡ count_for d mem q
  count_past u = rw (le-ltb q d.queues u)

  pub without_there : q < d.queues → free_step d q mem ≡ without d mem q
  without_there l = rw (lt-ltb q d.queues l)

  pub without_past : d.queues ≤ q → mem ≡ without d mem q
  without_past u = rw (le-ltb q d.queues u)

  -- Where it has notices there is such a place.
  pub there : 0 < count_for d mem q → q < d.queues
  there some = by_cases (dec_lt q d.queues) (λ l. l) (λ past. absurd (omega (arith, count_past (omega arith))))

  pub words_for_count : length (notices_for d mem q) ≡ 3 * count_for d mem q
  words_for_count =
      by_cases (dec_lt q d.queues)
      (λ l. rw (lt-ltb q d.queues l) (length_notices (view d (queue q) mem)))
      (λ past. rw (le-ltb q d.queues (omega arith)))

  pub none_for : 0 ≡ count_for d mem q → notices_for d mem q ≡ []
  none_for none = no_words (notices_for d mem q) (omega (arith, words_for_count))

  pub few_for : SoundAt d mem → count_for d mem q ≤ 256
  few_for sound =
      by_cases (dec_lt q d.queues)
      (λ l. rw (lt-ltb q d.queues l) ((queues_ready_at d mem sound).lengths q l))
      (λ past. omega (arith, count_past (omega arith)))

  -- An area of n words is too short for them, or long enough.
  area_short : (n : ℕ) → n < 3 * count_for d mem q → ltb n (length (notices_for d mem q)) ≡ true
  area_short n l = ap (ltb n) words_for_count ∙ lt-ltb n (3 * count_for d mem q) l

  area_long : (n : ℕ) → 3 * count_for d mem q ≤ n → ltb n (length (notices_for d mem q)) ≡ false
  area_long n l = ap (ltb n) words_for_count ∙ le-ltb n (3 * count_for d mem q) l

-- ---- the code found place q for the pid, and so many notices there

entered : {A : Type 0} (refuse : Answer → A) (call : Numbers → A) (mem : List ℕ) (d : Numbers) → entered_world mem ≡ Ok d
    → on_world refuse mem call ≡ call d
unfolding on_world
entered refuse call mem d is = ap (go_on refuse call) is

module _ (mem : List ℕ) (pid : ℕ) (area : List ℕ) (d : Numbers) (good : entered_world mem ≡ Ok d) (q count : ℕ)
    (is_queue : q ≡ queue_for d mem pid) (counted : count ≡ count_for d mem q)
  where
    found : count ≡ count_for d mem (queue_for d mem pid)
    found = counted ∙ ap (count_for d mem) is_queue

    module _ (l : length area < 3 * count) where
      short : ltb (length area) (length (notices_for d mem (queue_for d mem pid))) ≡ true
      short = area_short d mem (queue_for d mem pid) (length area) (rw found at l)

      pub peek_short : peek_out mem pid area ≡ record { reply = refusal BadField; area = area }
      unfolding peek_out
      peek_short = entered _ _ mem d good ∙ when_yes _ _ _ short

      pub drain_short :
          drain_out mem pid area ≡ record { reply = record { reply = refusal BadField; area = area }; memory = mem }
      unfolding drain_out
      drain_short = entered _ _ mem d good ∙ when_yes _ _ _ short

    module _ (u : 3 * count ≤ length area) where
      long : ltb (length area) (length (notices_for d mem (queue_for d mem pid))) ≡ false
      long = area_long d mem (queue_for d mem pid) (length area) (rw found at u)

      pub peek_fits : peek_out mem pid area ≡ peeked d mem q area
      unfolding peek_out
      peek_fits = entered _ _ mem d good ∙ when_no _ _ _ long ∙ ap (λ q. peeked d mem q area) (sym is_queue)

      pub drain_fits : drain_out mem pid area ≡ record { reply = peeked d mem q area; memory = without d mem q }
      unfolding drain_out
      drain_fits =
          entered _ _ mem d good ∙ when_no _ _ _ long
          ∙ ap {B = Left WithArea} (λ q. record { reply = peeked d mem q area; memory = without d mem q }) (sym is_queue)
