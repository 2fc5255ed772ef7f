-- `table::walk::home` meets its contract: where `slots & (slots - 1)` is 0 the slot count is a power of two, and the mask is the
-- remainder.
use Rattle.std.proofs.Common.{◌≡◌, refl, ap, sym, ◌∙◌, Bool, true, ℕ, ◌+◌, ◌-◌, ◌/◌, ◌%◌, ◌^◌, ◌<◌, ◌≤◌, mod-lt, arith, eqb-true, bit_and, eqb}
use lib.Bits.{and_mask}
use Rattle.base.specs.Choose.{pick}
use Rattle.base.specs.Below.{all, first}
use Rattle.base.specs.AllLaws.{all_at}
use Rattle.base.specs.Arith.{next_power, next_is_power}
use Rattle.table.specs.Walk.{home_of}
use Rattle.table.proofs.walk.home.Goals as goal

-- n and n - 1 have no bit in common only where n is a power of two: computed for each n from 1 to 512.
apart : ℕ → Bool
apart n = pick (eqb (bit_and n (n - 1)) 0) (eqb (next_power n) n) true

all_apart : all 512 (λ m. apart (m + 1)) ≡ true
unfolding all apart next_power first
all_apart = refl

power : (n : ℕ) → apart n ≡ true → bit_and n (n - 1) ≡ 0 → next_power n ≡ n
unfolding apart
power n a e = eqb-true (next_power n) n (rw (ap (λ x. eqb x 0) e) at a)

mask : (n : ℕ) → 0 < n → n ≤ 512 → bit_and n (n - 1) ≡ 0 → (x : ℕ) → bit_and x (n - 1) ≡ x % n
mask n l u e x =
    let up : n - 1 + 1 ≡ n = omega arith in
    let (k, f) = next_is_power n in
    let is : n ≡ 2 ^ k = sym (power n (rw up at (all_at 512 (λ m. apart (m + 1)) all_apart (n - 1) (omega arith))) e) ∙ f in
    rw is (and_mask x k)

pub returns-then-slots-mask-eq0 : goal.returns-then-slots-mask-eq0
unfolding home_of
returns-then-slots-mask-eq0 c =
    let n = c.args.slots in
    let e = mask n (omega arith) (omega arith) c.if-slots-mask-eq0.true (c.wrapping_mul.result / 2 ^ 32) in
    (rw (e, c.wrapping_mul.ensures), rw e (mod-lt _ (omega arith)))

pub returns : goal.returns
unfolding home_of
returns c = (rw c.wrapping_mul.ensures, mod-lt _ (omega arith))
