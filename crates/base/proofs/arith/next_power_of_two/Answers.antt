-- `base::arith::next_power_of_two` meets its contract: the bits of n - 1, which its leading zeros leave of 64, are the exponent.
use Rattle.std.proofs.Common.{◌≡◌, sym, ℕ, ◌-◌, ◌*◌, ◌%◌, ◌^◌, ◌<◌, ◌≤◌, mod-eq_of_lt, one-mul, arith, pow_mono}
use lib.Count.{count_leading_zeros, leading_length}
use Rattle.base.specs.Arith.{next_power, next_of-zero, next_is}
use Rattle.base.proofs.arith.next_power_of_two.Goals as goal

-- How many bits n - 1 has.
abbrev bits : ℕ → ℕ
bits n = 64 - count_leading_zeros 64 (n - 1)

module _ (n : ℕ) (pos : 0 < n) (small : n ≤ 2 ^ 63) where
  around : (n ≤ 2 ^ bits n) × (2 ^ bits n < 2 * n)
  around =
      let l = leading_length 64 (n - 1) (omega arith) in
      let length : bits n ≡ l.0 = omega (arith, l.1) in
      rw length (omega (arith, l.2, l.3))

  below : bits n < 64
  below = let above : ¬ (64 ≤ bits n) = λ g. omega (arith, pow_mono g, around) in omega arith

  shifted : (1 * 2 ^ bits n) % 2 ^ 64 ≡ next_power n
  shifted =
      let word : 1 * 2 ^ bits n < 2 ^ 64 = omega (arith, around) in
      rw (mod-eq_of_lt word, one-mul) (sym (next_is n (bits n) around.0 around.1))

pub returns-then-n-eq0 : goal.returns-then-n-eq0
returns-then-n-eq0 c = cc next_of-zero

pub overflow_shl-result : goal.overflow_shl-result
overflow_shl-result c = below c.args.n (omega arith) (omega arith)

pub returns : goal.returns
returns c = shifted c.args.n (omega arith) (omega arith)
