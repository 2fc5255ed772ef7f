-- Laws of `first`: it is at most n, below n it passes, and what stands before it fails; what has these three is it. Then the turns of
-- a loop that looks for it, in terms of `first_from`.
use Rattle.std.specs.Prelude.{◌≡◌, refl, ◌↔◌, Bool, true, false, ℕ, zero, suc, ◌+◌, ◌-◌, ◌<◌, ◌≤◌, ltb}
use Rattle.std.proofs.Common.{sym, ap₂, ◌∙◌, ⊎_elim, true≢false, eq-or-lt_of_le, add-one, arith, ltb-true, lt-ltb, le-ltb}
use Rattle.std.proofs.Math.Nat.{sub-zero}
use Rattle.base.specs.Choose.{pick}
use Rattle.base.specs.Below.{first_from, first}

-- A test has one answer.
clash : (b : Bool) → b ≡ true → b ≡ false → ⊥
clash b yes' no' = true≢false (sym yes' ∙ no')

-- ---- from t on

from_le : (p : ℕ → Bool) (n t : ℕ) → first_from p n t ≤ t + n
unfolding first_from
from_le p zero t = omega arith
from_le p (suc n) t = go (p t) (from_le p n (suc t))
  where
    go : (b : Bool) → first_from p n (suc t) ≤ suc t + n → pick b t (first_from p n (suc t)) ≤ t + suc n
    go true ih = omega arith
    go false ih = omega arith

from_passes : (p : ℕ → Bool) (n t : ℕ) → first_from p n t < t + n → p (first_from p n t) ≡ true
unfolding first_from
from_passes p zero t l = absurd (omega arith)
from_passes p (suc n) t l = go (p t) refl (from_passes p n (suc t)) l
  where
    r : ℕ
    r = first_from p n (suc t)

    go : (b : Bool) → p t ≡ b → (r < suc t + n → p r ≡ true) → pick b t r < t + suc n → p (pick b t r) ≡ true
    go true e ih l = e
    go false e ih l = ih (omega arith)

from_before : (p : ℕ → Bool) (n t k : ℕ) → t ≤ k → k < first_from p n t → p k ≡ false
unfolding first_from
from_before p zero t k l u = absurd (omega arith)
from_before p (suc n) t k l u = go (p t) refl (from_before p n (suc t) k) u
  where
    r : ℕ
    r = first_from p n (suc t)

    go : (b : Bool) → p t ≡ b → (suc t ≤ k → k < r → p k ≡ false) → k < pick b t r → p k ≡ false
    go true e ih u = absurd (omega arith)
    go false e ih u = ⊎_elim (λ here. rw here at e) (λ later. ih later u) (eq-or-lt_of_le l)

from_ext : (p q : ℕ → Bool) (n t : ℕ) → ((k : ℕ) → t ≤ k → k < t + n → p k ≡ q k) → first_from p n t ≡ first_from q n t
unfolding first_from
from_ext p q zero t f = refl
from_ext p q (suc n) t f =
    ap₂ (λ b r. pick b t r) (f t (omega arith) (omega arith)) (from_ext p q n (suc t) (λ k l u. f k (omega arith) (omega arith)))

-- ---- from 0 on

pub first-le : (p : ℕ → Bool) (n : ℕ) → first p n ≤ n
unfolding first
first-le p n = omega (arith, from_le p n 0)

pub first_passes : (p : ℕ → Bool) (n : ℕ) → first p n < n → p (first p n) ≡ true
unfolding first
first_passes p n l = from_passes p n 0 (omega arith)

pub first_before : (p : ℕ → Bool) (n k : ℕ) → k < first p n → p k ≡ false
unfolding first
first_before p n k l = from_before p n 0 k (omega arith) l

pub first_ext : (p q : ℕ → Bool) (n : ℕ) → ((k : ℕ) → k < n → p k ≡ q k) → first p n ≡ first q n
unfolding first
first_ext p q n f = from_ext p q n 0 (λ k l u. f k (omega arith))

-- It is at most any number that passes.
pub first-le_of : (p : ℕ → Bool) (n t : ℕ) → t < n → p t ≡ true → first p n ≤ t
first-le_of p n t l h =
    let past : ¬ (t < first p n) = λ later. clash (p t) h (first_before p n t later) in
    omega arith

pub first_is : (p : ℕ → Bool) (n t : ℕ) → t < n → p t ≡ true → ((k : ℕ) → k < t → p k ≡ false) → first p n ≡ t
first_is p n t l h f =
    let short : ¬ (first p n < t) = λ less. clash (p (first p n)) (first_passes p n (omega arith)) (f (first p n) less) in
    omega (arith, first-le_of p n t l h)

pub first_none : (p : ℕ → Bool) (n : ℕ) → ((k : ℕ) → k < n → p k ≡ false) → first p n ≡ n
first_none p n f =
    let short : ¬ (first p n < n) = λ less. clash (p (first p n)) (first_passes p n less) (f (first p n) less) in
    omega (arith, first-le p n)

-- ---- the turns of a loop that looks: n numbers are left to try, t is the next

pub from_start : (p : ℕ → Bool) (n : ℕ) → first p n ≡ first_from p n 0
unfolding first
from_start p n = refl

pub from_none : (p : ℕ → Bool) (n t : ℕ) → n ≡ 0 → first_from p n t ≡ t
unfolding first_from
from_none p n t e = rw e

pub from_here : (p : ℕ → Bool) (n m t : ℕ) → n ≡ suc m → p t ≡ true → first_from p n t ≡ t
unfolding first_from
from_here p n m t e h = rw (e, h)

pub from_next : (p : ℕ → Bool) (n m t : ℕ) → n ≡ suc m → p t ≡ false → first_from p n t ≡ first_from p m (suc t)
unfolding first_from
from_next p n m t e h = rw (e, h)

-- The same in the code's words.
pub from_step : (p : ℕ → Bool) (n m t : ℕ) → n ≡ suc m → p t ≡ false → first_from p n t ≡ first_from p m (t + 1)
from_step p n m t e h = rw add-one (from_next p n m t e h)

-- Where 0 fails, it is one more than the first of the tests that follow.
from_after : (p : ℕ → Bool) (n t : ℕ) → first_from p n (suc t) ≡ suc (first_from (λ k. p (suc k)) n t)
unfolding first_from
from_after p zero t = refl
from_after p (suc n) t = go (p (suc t)) (from_after p n (suc t))
  where
    go : (b : Bool) {r s : ℕ} → r ≡ suc s → pick b (suc t) r ≡ suc (pick b t s)
    go true e = refl
    go false e = e

pub first_after : (p : ℕ → Bool) (n : ℕ) → p 0 ≡ false → first p (n + 1) ≡ first (λ k. p (k + 1)) n + 1
unfolding first
first_after p n h = simp add-one (from_next p (suc n) n 0 refl h ∙ from_after p n 0)

-- A loop that counts t up to n, whose invariant is `r ≡ first_from p (n - t) t`.
pub first_up_start : (p : ℕ → Bool) (n : ℕ) → first p n ≡ first_from p (n - 0) 0
first_up_start p n = rw sub-zero (from_start p n)

pub first_up_found : (p : ℕ → Bool) (n t r : ℕ) → r ≡ first_from p (n - t) t → t < n → p t ≡ true → t ≡ r
first_up_found p n t r e l h = sym (e ∙ from_here p (n - t) (n - (t + 1)) t (omega arith) h)

pub first_up_next : (p : ℕ → Bool) (n t r : ℕ) → r ≡ first_from p (n - t) t → t < n → p t ≡ false → r ≡ first_from p (n - (t + 1)) (t + 1)
first_up_next p n t r e l h = e ∙ from_step p (n - t) (n - (t + 1)) t (omega arith) h

pub first_up_done : (p : ℕ → Bool) (n t r : ℕ) → r ≡ first_from p (n - t) t → n ≤ t → t ≡ r
first_up_done p n t r e l = sym (e ∙ from_none p (n - t) t (omega arith))

pub ruleset first_up = (first_up_start, first_up_found, first_up_next, first_up_done)

-- The same loop where only is asked whether one passes, and what its answer says.
pub some_up_found : (p : ℕ → Bool) (n t : ℕ) → first p n ≡ first_from p (n - t) t → t < n → p t ≡ true → true ≡ ltb (first p n) n
some_up_found p n t e l h = sym (lt-ltb (first p n) n (omega (arith, first-le_of p n t l h)))

pub some_up_done : (p : ℕ → Bool) (n t : ℕ) → first p n ≡ first_from p (n - t) t → n ≤ t → false ≡ ltb (first p n) n
some_up_done p n t e u = sym (le-ltb (first p n) n (omega (arith, first_up_done p n t (first p n) e u)))

pub ruleset some_up = (first_up_start, first_up_next, some_up_found, some_up_done)

pub first_some_exactly : (p : ℕ → Bool) (n : ℕ) → (ltb (first p n) n ≡ true) ↔ ((k : ℕ) × ((k < n) × (p k ≡ true)))
first_some_exactly p n = (
  λ h. let l : first p n < n = ltb-true (first p n) n h in (first p n, (l, first_passes p n l)),
  λ (k, (l, h)). lt-ltb (first p n) n (omega (arith, first-le_of p n k l h)),
)
