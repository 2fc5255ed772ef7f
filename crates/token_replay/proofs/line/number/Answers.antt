use Rattle.std.proofs.Common.{◌≡◌, refl, List, ℕ, zero, suc, ◌+◌, ◌*◌, ◌^◌, ◌≤◌, ◌<◌, pow-suc, add-one, arith, rules, get_or}
use Rattle.std.proofs.Math.Nat.{pow-le-pow_right}
use Rattle.token_replay.specs.Line.{digit_of, spelt}
use Rattle.token_replay.proofs.line.number.Goals as goal

below : (line : List ℕ) (at n : ℕ) → spelt line at n < 16 ^ n
unfolding spelt
below line at zero = omega arith
below line at (suc n) = rw pow-suc (omega (arith, below line at n))

-- fewer than 16 digits leave room for one more
room : (line : List ℕ) (at i n v : ℕ) → v ≡ spelt line at i → i < n → n ≤ 16 → v < 2 ^ 60
room line at i n v is more most =
    omega (arith, below line at i, pow-le-pow_right {n = 16} (omega arith) {i = i} {j = 15} (omega arith))

starts : (line : List ℕ) (at : ℕ) → 0 ≡ spelt line at 0
unfolding spelt
starts line at = refl

goes : (line : List ℕ) (at i v r : ℕ) → v ≡ spelt line at i → r ≡ v * 16 + digit_of (get_or line (at + i) 0)
    → r ≡ spelt line at (i + 1)
unfolding spelt
goes line at i v r is more = rw (more, is, add-one i) refl

ends : (line : List ℕ) (at i n v : ℕ) → v ≡ spelt line at i → i ≤ n → n ≤ i → v ≡ spelt line at n
ends line at i n v is within past = let same : i ≡ n = omega arith in cc

ruleset number_laws = (rules, room, starts, goes, ends)

pub loop-i-init : goal.loop-i-init
loop-i-init c = search number_laws

pub with_digit-value-requires : goal.with_digit-value-requires
with_digit-value-requires c = search number_laws

pub loop-i-preserved : goal.loop-i-preserved
loop-i-preserved c = search number_laws
