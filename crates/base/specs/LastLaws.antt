-- Laws of `last`: it is at most n, the number before it passes, and what passes is below it.
use Rattle.std.specs.Prelude.{◌≡◌, refl, Bool, true, false, not, ℕ, zero, suc, ◌<◌, ◌≤◌, eqb}
use Rattle.std.proofs.Common.{sym, ap, ◌∙◌, true≢false, arith, ne_eqb}
use Rattle.base.specs.Choose.{pick, both, both_true, both_false}
use Rattle.base.specs.Below.{all, last}

pub last_here : (p : ℕ → Bool) (n : ℕ) → p n ≡ true → last p (suc n) ≡ suc n
unfolding last
last_here p n h = rw h

pub last_past : (p : ℕ → Bool) (n : ℕ) → p n ≡ false → last p (suc n) ≡ last p n
unfolding last
last_past p n h = rw h

pub last_le : (p : ℕ → Bool) (n : ℕ) → last p n ≤ n
unfolding last
last_le p zero = omega arith
last_le p (suc n) = go (p n) (last_le p n)
  where
    go : (b : Bool) → last p n ≤ n → pick b (suc n) (last p n) ≤ suc n
    go true ih = omega arith
    go false ih = omega arith

pub last_passes : (p : ℕ → Bool) (n k : ℕ) → last p n ≡ suc k → p k ≡ true
unfolding last
last_passes p zero k e = absurd (omega arith)
last_passes p (suc n) k e = go (p n) refl (last_passes p n k) e
  where
    go : (b : Bool) → p n ≡ b → (last p n ≡ suc k → p k ≡ true) → pick b (suc n) (last p n) ≡ suc k → p k ≡ true
    go true h ih e = let this : n ≡ k = omega arith in rw this at h
    go false h ih e = ih e

-- What passes is below it.
pub last_after : (p : ℕ → Bool) (n k : ℕ) → k < n → p k ≡ true → k < last p n
unfolding last
last_after p zero k l h = absurd (omega arith)
last_after p (suc n) k l h = go (p n) refl (last_after p n k)
  where
    go : (b : Bool) → p n ≡ b → (k < n → p k ≡ true → k < last p n) → k < pick b (suc n) (last p n)
    go true e ih = l
    go false e ih =
        let other : ¬ (k ≡ n) = λ q. true≢false (sym h ∙ ap p q ∙ e) in
        ih (omega arith) h

-- What passes p passes q: so the last of p is not above the last of q.
pub last_last : (p q : ℕ → Bool) → ((k : ℕ) → p k ≡ true → q k ≡ true) → (n : ℕ) → last p (last q n) ≡ last p n
unfolding last
last_last p q within zero = refl
last_last p q within (suc n) = go (q n) refl (p n) refl (last_last p q within n)
  where
    go : (b : Bool) → q n ≡ b → (a : Bool) → p n ≡ a → last p (last q n) ≡ last p n
        → last p (pick b (suc n) (last q n)) ≡ pick a (suc n) (last p n)
    go true e a h ih = rw h
    go false e true h ih = absurd (true≢false (sym (within n h) ∙ e))
    go false e false h ih = ih

-- None passes exactly where it is 0.
pub last_none : (p : ℕ → Bool) (n : ℕ) → all n (λ k. not (p k)) ≡ eqb (last p n) 0
unfolding last all
last_none p zero = refl
last_none p (suc n) = go (p n) (last_none p n)
  where
    go : (b : Bool) → all n (λ k. not (p k)) ≡ eqb (last p n) 0 → both (all n (λ k. not (p k))) (not b) ≡ eqb (pick b (suc n) (last p n)) 0
    go true ih = rw (ne_eqb (suc n) 0 (λ e. omega arith)) (both_false (all n (λ k. not (p k))))
    go false ih = both_true (all n (λ k. not (p k))) ∙ ih
