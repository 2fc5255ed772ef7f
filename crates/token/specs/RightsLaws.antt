-- What the definitions of Rights.antt mean for each right: a right is a number i below 32, and a set of rights has it
-- where its bit i is 1. By `by_bits` of BitsLaws.antt these laws determine each result.
use Rattle.std.specs.Prelude.{ℕ, ◌-◌, ◌*◌, ◌^◌, ◌≤◌, ◌<◌, min, max, true, ◌↔◌, ◌≡◌, refl, eqb}
use Rattle.std.proofs.Common.{mod-lt, one-mul, arith, eqb-true, eq-eqb, ne_eqb, lit<, pow_pos}
use Rattle.std.proofs.Math.Decide.{dec_lt}
use Rattle.std.proofs.Math.Logic.{by_cases}
use Rattle.std.proofs.Math.Pow.{ones_sub-lt}
use Rattle.std.specs.Int.Bits.{bit_and}
use Rattle.token.specs.Bits.{bit}
use Rattle.token.specs.BitsLaws.{bit_of_and, bit_of_or, bit_not, bit_above, bit_mod, by_bits, of_bit, and_one}
use Rattle.token.specs.Rights.{READ, WRITE, EXECUTE, GRANT, REVOKE, DELETE, MODIFY, CREATE, ALL}
use Rattle.token.specs.Rights.{holds, common, either, others, without, to_flags}

pub all_is_the_eight :
    either READ (either WRITE (either EXECUTE (either GRANT (either REVOKE (either DELETE (either MODIFY CREATE)))))) ≡ ALL
all_is_the_eight = refl

in_the_first : (a b i : ℕ) → bit (bit_and a b) i ≤ bit a i
in_the_first a b i = omega (arith, bit_of_and a b i)

pub contains_is_subset : (a b : ℕ) → (holds a b ≡ true) ↔ ((i : ℕ) → bit b i ≤ bit a i)
contains_is_subset a b = (
  λ h i. rw (eqb-true (bit_and a b) b h) at (in_the_first a b i),
  λ h. eq-eqb (bit_and a b) b (by_bits (bit_and a b) b (λ i. omega (arith, bit_of_and a b i, h i))),
)

pub contains_one_right : (a i : ℕ) → holds a (2 ^ i) ≡ eqb (bit a i) 1
contains_one_right a i =
    rw (and_one a i)
    (of_bit (λ b. eqb (b * 2 ^ i) (2 ^ i) ≡ eqb b 1)
    (ne_eqb (0 * 2 ^ i) (2 ^ i) (omega (arith, pow_pos i)))
    (eq-eqb (1 * 2 ^ i) (2 ^ i) (one-mul (2 ^ i)))
    a i)

pub intersection_is_what_both_have : (a b i : ℕ) → bit (common a b) i ≡ min (bit a i) (bit b i)
intersection_is_what_both_have = bit_of_and

pub union_is_what_either_has : (a b i : ℕ) → bit (either a b) i ≡ max (bit a i) (bit b i)
union_is_what_either_has = bit_of_or

pub complement_is_the_others : (a i : ℕ) → a < 2 ^ 32 → i < 32 → bit (others a) i ≡ 1 - bit a i
complement_is_the_others = bit_not 32

pub complement_has_32_bits : (a i : ℕ) → 32 ≤ i → bit (others a) i ≡ 0
complement_has_32_bits a i = bit_above 32 (others a) i (ones_sub-lt 32 a)

pub remove_keeps_what_the_other_has_not : (a b i : ℕ) → a < 2 ^ 32 → b < 2 ^ 32 → bit (without a b) i ≡ bit a i - bit b i
remove_keeps_what_the_other_has_not a b i ha hb =
    by_cases (dec_lt i 32)
    (λ low. omega (arith, bit_of_and a (others b) i, complement_is_the_others b i hb low))
    (λ high. omega (arith, bit_of_and a (others b) i, bit_above 32 a i ha (omega arith)))

pub flags_are_low_four_bits : (a i : ℕ) → i < 4 → bit (to_flags a) i ≡ bit a i
flags_are_low_four_bits = bit_mod 4

pub flags_have_no_other_bit : (a i : ℕ) → 4 ≤ i → bit (to_flags a) i ≡ 0
flags_have_no_other_bit a i = bit_above 4 (to_flags a) i (mod-lt a (lit< tt))
