-- A choice by cases: what holds of either way holds of the choice. And a chain of choices, link by link.
use Rattle.std.specs.Prelude.{Bool, true, false, not, ◌≡◌, refl, ℕ, ◌≤◌, ◌<◌, leb, ltb}
use Rattle.std.proofs.Common.{sym, ap, ◌∙◌, ltb-true, ltb-false, leb-true, leb-false, lt-ltb, le-ltb, le-leb}
use Rattle.std.proofs.lemmas.Bool.{not-true, not-false, lt-leb}
use Rattle.base.specs.Choose.{pick, when, when_yes, when_no}

module _ {A : Type 0} (P : A → Type 0) (a rest : A) where
  pub pick_by_cases : (b : Bool) → (b ≡ true → P a) → (b ≡ false → P rest) → P (pick b a rest)
  pick_by_cases true here later = here refl
  pick_by_cases false here later = later refl

  pub when_by_cases : (b : Bool) → (b ≡ true → P a) → (b ≡ false → P rest) → P (when b a rest)
  unfolding when
  when_by_cases = pick_by_cases

  -- Whatever the test says.
  pub either : (b : Bool) → P a → P rest → P (when b a rest)
  either b here later = when_by_cases b (λ e. here) (λ e. later)

  -- The tests of most refusals: k is below n, it is n or more, it is not below n.
  pub when_below : (k n : ℕ) → (k < n → P a) → (n ≤ k → P rest) → P (when (ltb k n) a rest)
  when_below k n under over = when_by_cases (ltb k n) (λ e. under (ltb-true k n e)) (λ e. over (ltb-false k n e))

  pub when_from : (n k : ℕ) → (n ≤ k → P a) → (k < n → P rest) → P (when (leb n k) a rest)
  when_from n k over under = when_by_cases (leb n k) (λ e. over (leb-true n k e)) (λ e. under (leb-false n k e))

  pub unless_below : (k n : ℕ) → (n ≤ k → P a) → (k < n → P rest) → P (when (not (ltb k n)) a rest)
  unless_below k n over under =
      when_by_cases (not (ltb k n))
      (λ e. over (ltb-false k n (not-true (ltb k n) e)))
      (λ e. under (ltb-true k n (not-false (ltb k n) e)))

-- One link of a chain of choices, as code goes through it: a test that holds ends the chain, one that does not goes on.
module _ {A : Type 0} (b : Bool) (this rest out : A) where
  pub when_ends : b ≡ true → out ≡ this → out ≡ when b this rest
  when_ends test is = is ∙ sym (when_yes b this rest test)

  pub when_goes_on : b ≡ false → out ≡ rest → out ≡ when b this rest
  when_goes_on test is = is ∙ sym (when_no b this rest test)

pub not_below : (k n : ℕ) → n ≤ k → not (ltb k n) ≡ true
not_below k n over = ap not (le-ltb k n over)

pub is_below : (k n : ℕ) → k < n → not (ltb k n) ≡ false
is_below k n under = ap not (lt-ltb k n under)

-- A chain of refusals whose tests are of numbers.
pub ruleset chooses = (when_ends, when_goes_on, lt-ltb, le-ltb, le-leb, lt-leb, not_below, is_below)

-- What is stated where a test holds, and where it does not.
abbrev pub stated : Bool → Type 0 → Type 0 → Type 0
stated true a b = a
stated false a b = b
