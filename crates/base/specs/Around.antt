-- Walking around c places: from place h the t-th step stands at (h + t) % c. Once around meets each place once.
use Rattle.std.specs.Prelude.{◌≡◌, ◌⊎◌, ℕ, ◌+◌, ◌-◌, ◌%◌, ◌<◌, ◌≤◌}
use Rattle.std.proofs.Common.{ap, inl, inr, ⊎_elim, mod-eq_of_lt, arith}
use Rattle.std.proofs.Math.Decide.{dec_lt}
use Rattle.std.proofs.Math.Logic.{by_cases}
use Rattle.std.proofs.Math.Nat.{mod-eq-sub-mod}
use Rattle.base.specs.Below.{sum}
use Rattle.base.specs.SumLaws.{sum_ext, sum_split, sum_grows}

-- Below twice c the remainder by c is the number itself, or c less.
pub wrap : (a c : ℕ) → a < c + c → ((a < c) × (a % c ≡ a)) ⊎ ((c ≤ a) × (a % c + c ≡ a))
wrap a c l =
    by_cases (dec_lt a c)
    (λ under. inl (under, mod-eq_of_lt under))
    (λ over.
    let past : c ≤ a = omega arith in
    let less : a - c < c = omega arith in
    inr (past, omega (arith, mod-eq-sub-mod past, mod-eq_of_lt less)))

-- The sum over one walk around. It is cut after m = c - h steps, where the walk passes from the last place to place 0.
pub sum_around : (f : ℕ → ℕ) (c h : ℕ) → h < c → sum (λ t. f ((h + t) % c)) c ≡ sum f c
sum_around f c h l =
    let walk : ℕ → ℕ = λ t. f ((h + t) % c) in
    let m : ℕ = c - h in
    let up : sum walk m ≡ sum (λ t. f (h + t)) m = sum_ext walk (λ t. f (h + t)) m (λ t u. ap f (mod-eq_of_lt (omega arith))) in
    let past : (t : ℕ) → t < h → (h + (m + t)) % c ≡ t =
    λ t u. ⊎_elim (λ w. omega arith) (λ w. omega arith) (wrap (h + (m + t)) c (omega arith)) in
    let over : sum (λ t. walk (m + t)) h ≡ sum f h = sum_ext (λ t. walk (m + t)) f h (λ t u. ap f (past t u)) in
    let walked : sum walk (m + h) ≡ sum walk c = ap (sum walk) (omega arith) in
    let whole : sum f (h + m) ≡ sum f c = ap (sum f) (omega arith) in
    omega (arith, sum_split walk m h, sum_split f h m)

pub sum_around_le : (f : ℕ → ℕ) (c h k : ℕ) → h < c → k ≤ c → sum (λ t. f ((h + t) % c)) k ≤ sum f c
sum_around_le f c h k l m = omega (arith, sum_grows (λ t. f ((h + t) % c)) k c m, sum_around f c h l)
