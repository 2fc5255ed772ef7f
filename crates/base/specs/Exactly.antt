-- Tests and what they say: each is true exactly when its fact holds. `simp tests` turns "the test is true" into the rule that it tests.
use Rattle.std.specs.Prelude.{◌≡◌, refl, ◌↔◌, Bool, true, false, not, ℕ, zero, suc, ◌<◌, ◌≤◌, eqb, leb}
use Rattle.std.proofs.Common.{sym, true≢false, arith, leb-true, le-leb, eqb-true, eq-eqb, ne_eqb}
use Rattle.std.proofs.lemmas.Bool.{eqb-false, not-true}
use Rattle.base.specs.Choose.{pick, both, both_left, both_right, both_make}
use Rattle.base.specs.Below.{all, one}
use Rattle.base.specs.AllLaws.{all_at, all_make}

-- `ltb a b` is `leb (suc a) b`, so this one says both.
pub leb_exactly : (a b : ℕ) → (leb a b ≡ true) ↔ (a ≤ b)
leb_exactly a b = (leb-true a b, le-leb a b)

pub eqb_exactly : (a b : ℕ) → (eqb a b ≡ true) ↔ (a ≡ b)
eqb_exactly a b = (eqb-true a b, eq-eqb a b)

pub unequal_exactly : (a b : ℕ) → (not (eqb a b) ≡ true) ↔ (a ≡ b → ⊥)
unequal_exactly a b = (λ h. eqb-false a b (not-true (eqb a b) h), λ f. rw (ne_eqb a b f))

pub both_exactly : (a b : Bool) → (both a b ≡ true) ↔ ((a ≡ true) × (b ≡ true))
both_exactly a b = (λ h. (both_left a b h, both_right a b h), λ h. both_make a b h.0 h.1)

-- A test that is asked only where b holds.
pub asked_exactly : (b c : Bool) → (pick b c true ≡ true) ↔ (b ≡ true → c ≡ true)
asked_exactly true c = (λ h _. h, λ f. f refl)
asked_exactly false c = (λ _ e. cc, λ _. refl)

-- One that the number 0 passes unasked.
pub some_exactly : (n : ℕ) (c : Bool) → (pick (eqb n 0) true c ≡ true) ↔ (0 < n → c ≡ true)
some_exactly zero c = (λ _ l. absurd (omega arith), λ _. refl)
some_exactly (suc n) c = rw (ne_eqb (suc n) 0 (λ e. omega arith)) (λ h _. h, λ f. f (omega arith))

pub all_exactly : (n : ℕ) (p : ℕ → Bool) → (all n p ≡ true) ↔ ((k : ℕ) → k < n → p k ≡ true)
all_exactly n p = (all_at n p, all_make n p)

pub ruleset tests = (leb_exactly, eqb_exactly, unequal_exactly, both_exactly, asked_exactly, some_exactly, all_exactly)

-- Two tests that say the same are one.
pub same_test : (a b : Bool) → (a ≡ true) ↔ (b ≡ true) → a ≡ b
same_test true b h = sym (h.0 refl)
same_test false true h = h.1 refl
same_test false false h = refl

pub eqb_swap : (a b : ℕ) → eqb a b ≡ eqb b a
eqb_swap a b = same_test (eqb a b) (eqb b a) (λ h. eq-eqb b a (sym (eqb-true a b h)), λ h. eq-eqb a b (sym (eqb-true b a h)))

-- A test counted as a number.
pub one_exactly : (b : Bool) → (one b ≡ 1) ↔ (b ≡ true)
one_exactly true = (λ e. refl, λ e. refl)
one_exactly false = (λ e. absurd (omega (arith, e)), λ e. absurd (true≢false (sym e)))
