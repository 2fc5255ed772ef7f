-- The turns of a loop that counts places: each counts for f of it, 0 or 1, so that the count is a sum of f.
use Rattle.std.proofs.Common.{◌≡◌, ℕ, ◌+◌, ◌<◌, ◌≤◌, sym, arith}
use Rattle.base.specs.Below.{sum}
use Rattle.base.specs.SumLaws.{sum-zero, sum_goes, sum_stays, sum_done}

-- The first k of n places are counted.
pub record Counting (f : ℕ → ℕ) (n count k : ℕ) : Type 0 where
  pub inside : k ≤ n
  pub few : count ≤ k
  pub sum_is : count ≡ sum f k

module _ (f : ℕ → ℕ) (n : ℕ) where
  pub counting_starts : Counting f n 0 0
  counting_starts = record { inside = omega arith; few = omega arith; sum_is = sym (sum-zero f) }

  module _ (count k : ℕ) (counting : Counting f n count k) where
    pub counting_ends : n ≤ k → count ≡ sum f n
    counting_ends u = sum_done f k n count counting.sum_is counting.inside u

    module _ (l : k < n) where
      pub counting_goes : (v : ℕ) → v ≡ f k → v ≤ 1 → Counting f n (count + v) (k + 1)
      counting_goes v e single =
          record { inside = omega arith; few = omega (arith, counting.few); sum_is = sum_goes f k count v counting.sum_is e }

      pub counting_stays : 0 ≡ f k → Counting f n count (k + 1)
      counting_stays e =
          record { inside = omega arith; few = omega (arith, counting.few); sum_is = sum_stays f k count counting.sum_is e }

pub ruleset counting = (counting_starts, counting_goes, counting_stays, counting_ends)
