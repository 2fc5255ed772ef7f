-- The slot counts that are powers of two: those that are their own next power of two.
use Rattle.std.proofs.Common.{◌≡◌, sym, ◌∙◌, ℕ, ◌^◌, ◌≤◌, arith, pow_pos}
use Rattle.base.specs.Arith.{next_power, next_is_power, next_is}
use Rattle.table.specs.Insert.{slots_for}

pub own_is_power : (n : ℕ) → next_power n ≡ n → (k : ℕ) × (n ≡ 2 ^ k)
own_is_power n e = let (k, power) = next_is_power n in (k, sym e ∙ power)

pub power_is_own : (k entries : ℕ) → 2 ^ k ≤ slots_for entries → next_power (2 ^ k) ≡ 2 ^ k
power_is_own k entries l = next_is (2 ^ k) k (omega arith) (omega (arith, pow_pos k))
