-- When each answer of an opening is given: 21 exactly for a record that is not good, 26 exactly for a good one and a short length, 0
-- exactly in the rest. And a refused opening changes nothing.
use Rattle.std.specs.Prelude.{Bool, true, false, not, leb, List, ◌↔◌, ◌≢◌, ◌≡◌, refl, ℕ, ◌≤◌, ◌<◌, length}
use Rattle.std.proofs.Common.{le-leb, true≢false, sym, ap, subst, ◌∙◌, arith}
use Rattle.std.proofs.Math.Decide.{dec_lt}
use Rattle.std.proofs.Math.Logic.{by_cases}
use Rattle.std.proofs.lemmas.Bool.{lt-leb}
use Rattle.answers.specs.Number.{number_of}
use Rattle.answers.specs.Answer.{Done, BadField, BadWorld}
use Rattle.base.specs.Choose.{when_yes, when_no}
use Rattle.world.specs.Open.{OpenOut, Good, record_test, opened, opening, good, good_test}
use Rattle.world.specs.Regions.{length_for}
use Rattle.world.specs.declared.Numbers.{Numbers}

module _ (d : Numbers) (quotas mem : List ℕ) where
  -- The three answers, in order.
  pub opening_21 : record_test d quotas ≡ false → opening d quotas mem ≡ record { answer = BadField; memory = mem }
  unfolding opening
  opening_21 h = when_yes (not (record_test d quotas)) _ _ (ap not h)

  pub opening_26 : record_test d quotas ≡ true → length mem < length_for d
      → opening d quotas mem ≡ record { answer = BadWorld; memory = mem }
  unfolding opening
  opening_26 h l =
      when_no (not (record_test d quotas)) _ _ (ap not h)
      ∙ when_yes (not (leb (length_for d) (length mem))) _ _ (ap not (lt-leb (length_for d) (length mem) l))

  pub opening_0 : record_test d quotas ≡ true → length_for d ≤ length mem
      → opening d quotas mem ≡ record { answer = Done; memory = opened d quotas mem }
  unfolding opening
  opening_0 h l =
      when_no (not (record_test d quotas)) _ _ (ap not h)
      ∙ when_no (not (leb (length_for d) (length mem))) _ _ (ap not (le-leb (length_for d) (length mem) l))

  -- What holds of each of the three ways holds of the opening.
  pub opening_by_cases :
      (P : OpenOut → Type 0) → (¬ Good d quotas → P (record { answer = BadField; memory = mem }))
      → (Good d quotas → length mem < length_for d → P (record { answer = BadWorld; memory = mem }))
      → (Good d quotas → length_for d ≤ length mem → P (record { answer = Done; memory = opened d quotas mem }))
      → P (opening d quotas mem)
  opening_by_cases P bad short long = go (record_test d quotas) refl
    where
      go : (b : Bool) → record_test d quotas ≡ b → P (opening d quotas mem)
      go true is =
          by_cases (dec_lt (length mem) (length_for d))
          (λ under. subst P (sym (opening_26 is under)) (short (good d quotas is) under))
          (λ over. let fits : length_for d ≤ length mem = omega arith in subst P (sym (opening_0 is fits))
          (long (good d quotas is) fits))
      go false is = subst P (sym (opening_21 is)) (bad (λ ok. true≢false (sym (good_test d quotas ok) ∙ is)))

  pub open_told_21 : ((opening d quotas mem).answer ≡ BadField) ↔ (¬ Good d quotas)
  open_told_21 =
      opening_by_cases (λ out. (out.answer ≡ BadField) ↔ (¬ Good d quotas))
      (λ bad. (λ e. bad, λ none. refl))
      (λ ok short. (λ e. absurd (omega (arith, ap number_of e)), λ none. absurd (none ok)))
      (λ ok long. (λ e. absurd (omega (arith, ap number_of e)), λ none. absurd (none ok)))

  pub open_told_26 : ((opening d quotas mem).answer ≡ BadWorld) ↔ (Good d quotas × (length mem < length_for d))
  open_told_26 =
      opening_by_cases (λ out. (out.answer ≡ BadWorld) ↔ (Good d quotas × (length mem < length_for d)))
      (λ bad. (λ e. absurd (omega (arith, ap number_of e)), λ (ok, short). absurd (bad ok)))
      (λ ok short. (λ e. (ok, short), λ any. refl))
      (λ ok long. (λ e. absurd (omega (arith, ap number_of e)), λ (ok, short). absurd (omega arith)))

  pub open_told_0 : ((opening d quotas mem).answer ≡ Done) ↔ (Good d quotas × (length_for d ≤ length mem))
  open_told_0 =
      opening_by_cases (λ out. (out.answer ≡ Done) ↔ (Good d quotas × (length_for d ≤ length mem)))
      (λ bad. (λ e. absurd (omega (arith, ap number_of e)), λ (ok, long). absurd (bad ok)))
      (λ ok short. (λ e. absurd (omega (arith, ap number_of e)), λ (ok, long). absurd (omega arith)))
      (λ ok long. (λ e. (ok, long), λ any. refl))

  pub open_unchanged : (opening d quotas mem).answer ≢ Done → (opening d quotas mem).memory ≡ mem
  open_unchanged =
      opening_by_cases (λ out. out.answer ≢ Done → out.memory ≡ mem) (λ bad refused. refl) (λ ok short refused. refl)
      (λ ok long refused. absurd (refused refl))
