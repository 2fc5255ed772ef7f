-- Laws of `sum`, and of counting by it: sums go term by term, a change of one term changes the sum by as much, and a count of n
-- tests is at most n, n where all pass.
use Rattle.std.specs.Prelude.{◌≡◌, refl, ◌≢◌, Bool, true, false, ℕ, zero, suc, ◌+◌, ◌-◌, ◌<◌, ◌≤◌}
use Rattle.std.proofs.Common.{ap, ◌∙◌, add-suc, add-zero, add-sub_of_le, le_antisymm, add-one, arith}
use Rattle.std.proofs.Math.Decide.{ℕ_discrete}
use Rattle.std.proofs.Math.Logic.{by_cases}
use Rattle.base.specs.Below.{sum, one}

-- ---- term by term

pub sum_ext : (f g : ℕ → ℕ) (n : ℕ) → ((k : ℕ) → k < n → f k ≡ g k) → sum f n ≡ sum g n
unfolding sum
sum_ext f g zero e = refl
sum_ext f g (suc n) e = omega (arith, sum_ext f g n (λ k l. e k (omega arith)), e n (omega arith))

pub sum-le : (f g : ℕ → ℕ) (n : ℕ) → ((k : ℕ) → k < n → f k ≤ g k) → sum f n ≤ sum g n
unfolding sum
sum-le f g zero h = omega arith
sum-le f g (suc n) h = omega (arith, sum-le f g n (λ k l. h k (omega arith)), h n (omega arith))

pub sum-add : (f g : ℕ → ℕ) (n : ℕ) → sum (λ k. f k + g k) n ≡ sum f n + sum g n
unfolding sum
sum-add f g zero = omega arith
sum-add f g (suc n) = omega (arith, sum-add f g n)

pub sum_const_zero : (f : ℕ → ℕ) (n : ℕ) → ((k : ℕ) → k < n → f k ≡ 0) → sum f n ≡ 0
unfolding sum
sum_const_zero f zero e = refl
sum_const_zero f (suc n) e = omega (arith, sum_const_zero f n (λ k l. e k (omega arith)), e n (omega arith))

-- ---- its terms

-- The first m terms, then the n from m on.
pub sum_split : (f : ℕ → ℕ) (m n : ℕ) → sum f (m + n) ≡ sum f m + sum (λ k. f (m + k)) n
unfolding sum
sum_split f m zero = omega (arith, ap (sum f) (add-zero m))
sum_split f m (suc n) = omega (arith, ap (sum f) (add-suc m n), sum_split f m n)

pub sum_grows : (f : ℕ → ℕ) (m n : ℕ) → m ≤ n → sum f m ≤ sum f n
sum_grows f m n h = omega (arith, sum_split f m (n - m), ap (sum f) (add-sub_of_le h))

pub sum_positive : (f : ℕ → ℕ) (n i : ℕ) → i < n → f i ≤ sum f n
unfolding sum
sum_positive f n i l = omega (arith, sum_grows f (suc i) n l)

-- Where g and f differ at i alone, their sums differ as their terms at i do.
pub sum_update : (f g : ℕ → ℕ) (n i : ℕ) → i < n → ((k : ℕ) → k < n → k ≢ i → g k ≡ f k) → sum g n + f i ≡ sum f n + g i
unfolding sum
sum_update f g zero i l e = absurd (omega arith)
sum_update f g (suc n) i l e =
    by_cases (ℕ_discrete i n)
    (λ here. omega (arith, sum_ext g f n (λ k u. e k (omega arith) (omega arith)), ap f here, ap g here))
    (λ other. omega (arith, sum_update f g n i (omega arith) (λ k u. e k (omega arith)), e n (omega arith) (omega arith)))

-- ---- counts: sums of 0 and 1

pub sum_ones_le : (f : ℕ → ℕ) (n : ℕ) → ((k : ℕ) → k < n → f k ≤ 1) → sum f n ≤ n
unfolding sum
sum_ones_le f zero h = omega arith
sum_ones_le f (suc n) h = omega (arith, sum_ones_le f n (λ k l. h k (omega arith)), h n (omega arith))

pub sum_ones : (f : ℕ → ℕ) (n : ℕ) → ((k : ℕ) → k < n → f k ≡ 1) → sum f n ≡ n
unfolding sum
sum_ones f zero h = refl
sum_ones f (suc n) h = omega (arith, sum_ones f n (λ k l. h k (omega arith)), h n (omega arith))

pub one_le : (b : Bool) → one b ≤ 1
one_le true = omega arith
one_le false = omega arith

pub sum_one_le : (p : ℕ → Bool) (n : ℕ) → sum (λ k. one (p k)) n ≤ n
sum_one_le p n = sum_ones_le (λ k. one (p k)) n (λ k l. one_le (p k))

pub sum_one_all : (p : ℕ → Bool) (n : ℕ) → ((k : ℕ) → k < n → p k ≡ true) → sum (λ k. one (p k)) n ≡ n
sum_one_all p n h = sum_ones (λ k. one (p k)) n (λ k l. ap one (h k l))

-- ---- the turns of a loop that adds, whose invariant is `s ≡ sum f i`

pub sum-zero : (f : ℕ → ℕ) → sum f 0 ≡ 0
unfolding sum
sum-zero f = refl

pub sum_more : (f : ℕ → ℕ) (n : ℕ) → sum f (n + 1) ≡ sum f n + f n
unfolding sum
sum_more f n = rw add-one

pub sum_goes : (f : ℕ → ℕ) (i s v : ℕ) → s ≡ sum f i → v ≡ f i → s + v ≡ sum f (i + 1)
sum_goes f i s v e h = omega (arith, sum_more f i)

pub sum_stays : (f : ℕ → ℕ) (i s : ℕ) → s ≡ sum f i → 0 ≡ f i → s ≡ sum f (i + 1)
sum_stays f i s e h = omega (arith, sum_more f i)

pub sum_done : (f : ℕ → ℕ) (i n s : ℕ) → s ≡ sum f i → i ≤ n → n ≤ i → s ≡ sum f n
sum_done f i n s e l m = e ∙ ap (sum f) (le_antisymm l m)
