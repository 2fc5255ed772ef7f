-- A list that goes to a lent area: refused where the area is too short, else written whole.
use Rattle.std.proofs.Common.{◌≡◌, ℕ, ◌<◌, ◌≤◌, ltb, List, length, ap, ◌∙◌, le-ltb, lt-ltb}
use Rattle.answers.specs.Answer.{BadField}
use Rattle.base.specs.Choose.{when_yes, when_no}
use Rattle.base.specs.Written.{written}
use Rattle.steps.specs.Replies.{WithArea, done, refusal, into_area}
use Rattle.base.specs.Cases.{when_below}

module _ (xs area : List ℕ) where
  pub into_by_cases :
      (P : WithArea → Type 0) → (length area < length xs → P (record { reply = refusal BadField; area = area }))
      → (length xs ≤ length area → P (record { reply = done (length xs); area = written xs area })) → P (into_area xs area)
  unfolding into_area
  into_by_cases P short fits = when_below P _ _ (length area) (length xs) short fits

  -- As code goes, which counted n.
  module _ (n : ℕ) (counted : length xs ≡ n) where
    pub into_short : length area < n → into_area xs area ≡ record { reply = refusal BadField; area = area }
    unfolding into_area
    into_short l = when_yes _ _ _ (ap (ltb (length area)) counted ∙ lt-ltb (length area) n l)

    pub into_fits : n ≤ length area → into_area xs area ≡ record { reply = done n; area = written xs area }
    unfolding into_area
    into_fits l =
        when_no _ _ _ (ap (ltb (length area)) counted ∙ le-ltb (length area) n l)
        ∙ ap {B = WithArea} (λ n. record { reply = done n; area = written xs area }) counted
