-- Laws of `all`: what it says at each number, how it is shown, and how a loop that tests one number a turn builds it.
use Rattle.std.specs.Prelude.{◌≡◌, refl, Bool, true, false, ℕ, zero, suc, ◌+◌, ◌<◌, ◌≤◌}
use Rattle.std.proofs.Common.{sym, ap, ap₂, ◌∙◌, true≢false, le_antisymm, add-one, arith, below_none, below_more}
use Rattle.base.specs.Choose.{both, both_left, both_right, both_make, both_swap, refuted}
use Rattle.base.specs.Below.{all}

pub all_at : (n : ℕ) (p : ℕ → Bool) → all n p ≡ true → (k : ℕ) → k < n → p k ≡ true
unfolding all
all_at zero p h k l = below_none (λ k. p k ≡ true) k l
all_at (suc n) p h k l =
    below_more (λ k. p k ≡ true) n (all_at n p (both_left (all n p) (p n) h)) (both_right (all n p) (p n) h) k (omega arith)

pub all_make : (n : ℕ) (p : ℕ → Bool) → ((k : ℕ) → k < n → p k ≡ true) → all n p ≡ true
unfolding all
all_make zero p f = refl
all_make (suc n) p f = both_make (all n p) (p n) (all_make n p (λ k l. f k (omega arith))) (f n (omega arith))

-- One that fails is enough.
pub all_fails : (n m : ℕ) (p : ℕ → Bool) → n < m → p n ≡ false → all m p ≡ false
all_fails n m p l h = refuted (all m p) (λ e. true≢false (sym (all_at m p e n l) ∙ h))

pub all_ext : (n : ℕ) (p q : ℕ → Bool) → ((k : ℕ) → k < n → p k ≡ q k) → all n p ≡ all n q
unfolding all
all_ext zero p q f = refl
all_ext (suc n) p q f = ap₂ both (all_ext n p q (λ k l. f k (omega arith))) (f n (omega arith))

-- Both tests of each are each test of all.
pub all_both : (n : ℕ) (p q : ℕ → Bool) → all n (λ k. both (p k) (q k)) ≡ both (all n p) (all n q)
unfolding all
all_both zero p q = refl
all_both (suc n) p q = ap (λ b. both b (both (p n) (q n))) (all_both n p q) ∙ both_swap (all n p) (all n q) (p n) (q n)

-- ---- the turns of `while i < n { if p(i) { i += 1; } else { return false; } } true`, whose invariant is `all i p ≡ true`

pub all_none : (p : ℕ → Bool) → all 0 p ≡ true
unfolding all
all_none p = refl

pub all_more : (n : ℕ) (p : ℕ → Bool) → all n p ≡ true → p n ≡ true → all (n + 1) p ≡ true
unfolding all
all_more n p h here = rw add-one (both_make (all n p) (p n) h here)

pub all_done : (i n : ℕ) (p : ℕ → Bool) → all i p ≡ true → i ≤ n → n ≤ i → true ≡ all n p
all_done i n p h l m = sym h ∙ ap (λ k. all k p) (le_antisymm l m)

pub all_broken : (i n : ℕ) (p : ℕ → Bool) → i < n → p i ≡ false → false ≡ all n p
all_broken i n p l h = sym (all_fails i n p l h)

pub ruleset all_loop = (all_none, all_more, all_done, all_broken)

-- The same where the test is a call, and the turn goes by its answer r.
pub all_goes : (i : ℕ) (p : ℕ → Bool) (r : Bool) → all i p ≡ true → r ≡ p i → r ≡ true → all (i + 1) p ≡ true
all_goes i p r h e yes' = all_more i p h (sym e ∙ yes')

pub all_stops : (i n : ℕ) (p : ℕ → Bool) (r : Bool) → i < n → r ≡ p i → r ≡ false → false ≡ all n p
all_stops i n p r l e no' = all_broken i n p l (sym e ∙ no')

pub ruleset all_tests = (all_none, all_goes, all_done, all_stops)
