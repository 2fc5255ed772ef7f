-- `base::distinct::bucket` meets its contract: the upper half h of the product is below 2 ^ 32, so h / 2 ^ 32 of n is less than n.
use Rattle.std.proofs.Common.{ap, ℕ, ◌*◌, ◌/◌, ◌^◌, ◌<◌, ◌≤◌, lt_of_lt_of_le, mul_comm, mul-le-mul_left, mul-lt-mul_of_pos_right, div-lt_iff_lt-mul, arith, lit<, shr_lt}
use Rattle.base.specs.Chain.{bucket_of}
use Rattle.base.proofs.distinct.bucket.Goals as goal

module _ (h n : ℕ) (half : h < 2 ^ 32) (pos : 0 < n) where
  product : h * n < 2 ^ 32 * n
  product = mul-lt-mul_of_pos_right half pos

  word : n ≤ 2 ^ 32 → h * n < 2 ^ 64
  word l = lt_of_lt_of_le product (mul-le-mul_left (2 ^ 32) l)

  share : h * n / 2 ^ 32 < n
  share = (div-lt_iff_lt-mul (lit< tt)).1 (rw (mul_comm n (2 ^ 32)) product)

pub returns : goal.returns
unfolding bucket_of
returns c = (
  ap (λ p. p / 2 ^ 32 * c.args.n / 2 ^ 32) c.wrapping_mul.ensures,
  share _ _ (shr_lt 32 32 c.wrapping_mul.type_inv) (omega arith),
)
