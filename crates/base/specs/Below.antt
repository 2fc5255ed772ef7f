-- What holds of the numbers below n: that all pass a test, the least and the greatest that pass it, and how many or how much they
-- come to.
use Rattle.std.specs.Prelude.{Bool, true, false, ℕ, zero, suc, ◌+◌}
use Rattle.base.specs.Choose.{pick, both}

-- Each number below n passes the test.
unfoldable pub all : ℕ → (ℕ → Bool) → Bool
all zero p = true
all (suc n) p = both (all n p) (p n)

-- The first of t, t + 1, .., t + n - 1 that passes the test, else t + n.
unfoldable pub first_from : (ℕ → Bool) → ℕ → ℕ → ℕ
first_from p zero t = t
first_from p (suc n) t = let r = first_from p n (suc t) in pick (p t) t r

-- The least number below n that passes the test, else n.
unfoldable pub first : (ℕ → Bool) → ℕ → ℕ
unfolding first_from
first p n = first_from p n 0

-- One more than the greatest number below n that passes the test, or 0 where none does.
unfoldable pub last : (ℕ → Bool) → ℕ → ℕ
last p zero = 0
last p (suc n) = let r = last p n in pick (p n) (suc n) r

-- f 0 + f 1 + .. + f (n - 1).
unfoldable pub sum : (ℕ → ℕ) → ℕ → ℕ
sum f zero = 0
sum f (suc n) = sum f n + f n

-- 1 for a test that holds, 0 for one that does not: `sum (λ i. one (p i)) n` counts the numbers below n that pass.
abbrev pub one : Bool → ℕ
one true = 1
one false = 0
