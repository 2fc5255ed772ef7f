-- Laws of `bit`: what the machine's operations do to each bit, and that a number is determined by its bits.
use Rattle.std.specs.Prelude.{ℕ, zero, suc, ◌+◌, ◌-◌, ◌*◌, ◌/◌, ◌%◌, ◌^◌, ◌≤◌, ◌<◌, min, max, ◌≡◌, refl}
use Rattle.std.proofs.Common.{sym, ap, ◌∙◌, mod-lt, lt_of_lt_of_le, pow-suc, one-add, arith, lit<, pow_mono, pow-add, shr-shr}
use Rattle.std.proofs.Math.Arith.{bin_ind}
use Rattle.std.proofs.Math.Nat.{div-eq_of_lt}
use Rattle.std.proofs.Math.Pow.{field, mod-mod-pow}
use Rattle.std.proofs.lemmas.Nat.{and_shr, or_shr}
use Rattle.std.proofs.lemmas.Nat.Bits.{and_high}
use Rattle.std.specs.Int.Bits.{bit_and, bit_or, and_step, or_step}
use Rattle.token.specs.Bits.{bit}

pub bit_of_and : (a b i : ℕ) → bit (bit_and a b) i ≡ min (bit a i) (bit b i)
bit_of_and a b i = rw and_shr (omega (arith, and_step (a / 2 ^ i) (b / 2 ^ i)))

pub bit_of_or : (a b i : ℕ) → bit (bit_or a b) i ≡ max (bit a i) (bit b i)
bit_of_or a b i = rw or_shr (omega (arith, or_step (a / 2 ^ i) (b / 2 ^ i)))

-- the bits above the first are those of the half
bit_half : (n i : ℕ) → bit n (suc i) ≡ bit (n / 2) i
bit_half n i = rw (← one-add i, ← shr-shr n 1 i)

-- the complement, at a width of w bits
pub bit_not : (w a i : ℕ) → a < 2 ^ w → i < w → bit ((2 ^ w - 1) - a) i ≡ 1 - bit a i
bit_not zero a i ha hi = omega arith
bit_not (suc w) a zero ha hi = omega (arith, pow-suc 2 w)
bit_not (suc w) a (suc i) ha hi =
    let p = pow-suc 2 w in
    let half : ((2 ^ suc w - 1) - a) / 2 ≡ (2 ^ w - 1) - a / 2 = omega arith in
    rw (bit_half ((2 ^ suc w - 1) - a) i, bit_half a i, half) (bit_not w (a / 2) i (omega arith) (omega arith))

-- a number below 2^k has none of the bits from k on
pub bit_above : (k n i : ℕ) → n < 2 ^ k → k ≤ i → bit n i ≡ 0
bit_above k n i h le = rw (div-eq_of_lt (lt_of_lt_of_le h (pow_mono le)))

-- the remainder by 2^k keeps the bits below k
pub bit_mod : (k n i : ℕ) → i < k → bit (n % 2 ^ k) i ≡ bit n i
bit_mod k n i h =
    let j = k - suc i in
    let e : k ≡ (j + 1) + i = omega arith in
    rw (e, field n (j + 1) i, mod-mod-pow (n / 2 ^ i) j 1)

-- one bit, taken where it stands
pub and_one : (n i : ℕ) → bit_and n (2 ^ i) ≡ bit n i * 2 ^ i
and_one n i =
    let alone : 2 ^ i ≡ 2 ^ (1 + i) - 2 ^ i = omega (arith, pow-add 2 1 i) in
    ap (bit_and n) alone ∙ and_high n 1 i

-- what holds of 0 and of 1 holds of a bit
pub of_bit : (P : ℕ → Type 0) → P 0 → P 1 → (n i : ℕ) → P (bit n i)
of_bit P p0 p1 n i = go (bit n i) (mod-lt (n / 2 ^ i) (lit< tt))
  where
    go : (b : ℕ) → b < 2 → P b
    go zero h = p0
    go (suc zero) h = p1
    go (suc (suc b)) h = absurd (omega arith)

-- ---- a number is determined by its bits

halves : (a b : ℕ) → ((i : ℕ) → bit a i ≡ bit b i) → (i : ℕ) → bit (a / 2) i ≡ bit (b / 2) i
halves a b h i = sym (bit_half a i) ∙ h (suc i) ∙ bit_half b i

no_bits : (b : ℕ) → ((i : ℕ) → bit 0 i ≡ bit b i) → 0 ≡ b
no_bits =
    bin_ind (λ b. ((i : ℕ) → bit 0 i ≡ bit b i) → 0 ≡ b) (λ h. refl)
    (λ b ih h. omega (arith, ih (halves 0 b h), h 0))

pub by_bits : (a b : ℕ) → ((i : ℕ) → bit a i ≡ bit b i) → a ≡ b
by_bits =
    bin_ind (λ a. (b : ℕ) → ((i : ℕ) → bit a i ≡ bit b i) → a ≡ b) no_bits
    (λ a ih b h. omega (arith, ih (b / 2) (halves a b h), h 0))

pub or_assoc : (a b c : ℕ) → bit_or (bit_or a b) c ≡ bit_or a (bit_or b c)
or_assoc a b c =
    by_bits (bit_or (bit_or a b) c) (bit_or a (bit_or b c))
    (λ i. omega (arith, bit_of_or (bit_or a b) c i, bit_of_or a b i, bit_of_or a (bit_or b c) i, bit_of_or b c i))
