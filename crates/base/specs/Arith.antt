-- The least power of two at or above a number, with the facts that single it out.
use Rattle.std.specs.Prelude.{◌≡◌, refl, Bool, ℕ, zero, suc, ◌*◌, ◌^◌, ◌<◌, ◌≤◌, leb}
use Rattle.std.proofs.Common.{⊎_elim, le_antisymm, eq-or-lt_of_le, arith, leb-true, le-leb, pow_mono}
use Rattle.std.proofs.Math.Decide.{dec_lt}
use Rattle.std.proofs.Math.Logic.{by_cases}
use Rattle.base.specs.Below.{first}
use Rattle.base.specs.FirstLaws.{first-le, first_passes, first-le_of}

-- 2 ^ k is at or above n.
abbrev reaches : ℕ → ℕ → Bool
reaches n k = leb n (2 ^ k)

-- The least k such that 2 ^ k is at or above n. It is at most n, since 2 ^ n is above n.
abbrev exponent : ℕ → ℕ
exponent n = first (reaches n) n

-- The least power of two at or above n.
unfoldable pub next_power : ℕ → ℕ
next_power n = 2 ^ exponent n

under_power : (n : ℕ) → n < 2 ^ n
under_power zero = omega arith
under_power (suc n) = omega (arith, under_power n)

pub next_of-zero : next_power 0 ≡ 1
unfolding next_power first
next_of-zero = refl

-- It is a power of two,
pub next_is_power : (n : ℕ) → (k : ℕ) × (next_power n ≡ 2 ^ k)
unfolding next_power
next_is_power n = (exponent n, refl)

-- at or above n,
pub next_le : (n : ℕ) → n ≤ next_power n
unfolding next_power
next_le n =
    ⊎_elim
    (λ e. rw e (omega (arith, under_power n)))
    (λ l. leb-true n (2 ^ exponent n) (first_passes (reaches n) n l))
    (eq-or-lt_of_le (first-le (reaches n) n))

-- and at most any other that is:
pub next_least : (n k : ℕ) → n ≤ 2 ^ k → next_power n ≤ 2 ^ k
unfolding next_power
next_least n k h =
    by_cases (dec_lt k n)
    (λ l. pow_mono (first-le_of (reaches n) n k l (le-leb n (2 ^ k) h)))
    (λ far. pow_mono (omega (arith, first-le (reaches n) n)))

-- which no other power is that is at or above n,
pub next_is : (n k : ℕ) → n ≤ 2 ^ k → 2 ^ k < 2 * n → next_power n ≡ 2 ^ k
unfolding next_power
next_is n k h u =
    let below : ¬ (exponent n < k) = λ l. omega (arith, pow_mono l, next_le n) in
    le_antisymm (next_least n k h) (pow_mono (omega arith))

-- and it grows with n.
pub next_mono : (m n : ℕ) → m ≤ n → next_power m ≤ next_power n
next_mono m n h = let (k, e) = next_is_power n in rw e (next_least m k (omega (arith, next_le n, e)))
