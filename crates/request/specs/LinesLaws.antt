-- The digits of a number: the fewest that hold it are those of a line. How long a line is.
use Rattle.std.specs.Prelude.{◌≡◌, refl, Bool, true, false, List, ℕ, zero, suc, ◌+◌, ◌-◌, ◌/◌, ◌^◌, ◌<◌, ◌≤◌, ltb, length, take}
use Rattle.std.proofs.Common.{ap, ◌∙◌, le_antisymm, add-one, arith, lt-ltb, le-ltb, length-append, length-take}
use Rattle.std.proofs.Math.Nat.{pow-le-pow_right}
use Rattle.base.specs.Choose.{pick}
use Rattle.io.specs.Digits.{last_digits, IsDigitCount}
use Rattle.request.specs.Lines.{width, decimal, hex, line_of}

length_digits : (b k n : ℕ) → length (last_digits b k n) ≡ k
length_digits b zero n = refl
length_digits b (suc k) n = simp (length-append, length_digits b k (n / b)) (add-one k)

-- A number below b ^ m has no more than m digits, or the least.
fewest_most : (b least n k m : ℕ) → 0 < b → least ≤ m → n < b ^ m → IsDigitCount b least n k → k ≤ m
fewest_most b least n k m some l small fewest =
    let over : ¬ (m < k) = λ u. omega (arith, fewest.2 (omega arith), pow-le-pow_right {n = b} some {i = m} {j = k - 1} (omega arith)) in
    omega arith

-- ---- what `io::decimal` and `io::hex` leave in a text: it fits, with the byte that ends it, and spells the number

module _ (n k : ℕ) (small : n < 10000) (fewest : IsDigitCount 10 1 n k) where
  decimal_most : k ≤ 4
  decimal_most = fewest_most 10 1 n k 4 (omega arith) (omega arith) small fewest

  fewest_width : k ≡ width n
  fewest_width = go k decimal_most fewest
    where
      go : (k : ℕ) → k ≤ 4 → IsDigitCount 10 1 n k → k ≡ width n
      go zero l f = absurd (omega (arith, f.0))
      go (suc zero) l f = rw (lt-ltb n 10 f.1)
      go (suc (suc zero)) l f = rw (le-ltb n 10 (f.2 (omega arith)), lt-ltb n 100 f.1)
      go (suc (suc (suc zero))) l f =
          let more : 100 ≤ n = f.2 (omega arith) in
          rw (le-ltb n 10 (omega arith), le-ltb n 100 more, lt-ltb n 1000 f.1)
      go (suc (suc (suc (suc zero)))) l f =
          let more : 1000 ≤ n = f.2 (omega arith) in
          rw (le-ltb n 10 (omega arith), le-ltb n 100 (omega arith), le-ltb n 1000 more)
      go (suc (suc (suc (suc (suc k))))) l f = absurd (omega arith)

  pub decimal_fits : (at size : ℕ) (text : List ℕ) → at + 5 ≤ size → at + length (take k text) + 1 ≤ size
  decimal_fits at size text room = simp length-take (omega (arith, decimal_most))

  pub spelt_decimal : (text : List ℕ) → take k text ≡ last_digits 10 k n → take k text ≡ decimal n
  unfolding decimal
  spelt_decimal text is = is ∙ ap (λ k. last_digits 10 k n) fewest_width

module _ (value k : ℕ) (small : value < 2 ^ 64) (fewest : IsDigitCount 16 16 value k) where
  hex_most : k ≤ 16
  hex_most = fewest_most 16 16 value k 16 (omega arith) (omega arith) small fewest

  pub hex_fits : (at size : ℕ) (text : List ℕ) → at + 17 ≤ size → at + length (take k text) + 1 ≤ size
  hex_fits at size text room = simp length-take (omega (arith, hex_most))

  pub spelt_hex : (text : List ℕ) → take k text ≡ last_digits 16 k value → take k text ≡ hex value
  unfolding hex
  spelt_hex text is = is ∙ ap (λ k. last_digits 16 k value) (le_antisymm hex_most fewest.0)

-- ---- lengths

pub length_hex : (value : ℕ) → length (hex value) ≡ 16
unfolding hex
length_hex value = length_digits 16 16 value

pub length_decimal : (n : ℕ) → length (decimal n) ≡ width n
unfolding decimal
length_decimal n = length_digits 10 (width n) n

pub width_4 : (n : ℕ) → width n ≤ 4
width_4 n = go (ltb n 10) (ltb n 100) (ltb n 1000)
  where
    go : (a b c : Bool) → pick a 1 (pick b 2 (pick c 3 4)) ≤ 4
    go true b c = omega arith
    go false true c = omega arith
    go false false true = omega arith
    go false false false = omega arith

pub width_2 : (n : ℕ) → n < 100 → width n ≤ 2
width_2 n small = rw (lt-ltb n 100 small) (go (ltb n 10))
  where
    go : (a : Bool) → pick a 1 2 ≤ 2
    go true = omega arith
    go false = omega arith

pub length_line : (number op answer value : ℕ) → op < 100 → answer < 100 → length (line_of number op answer value) ≤ 28
unfolding line_of
length_line number op answer value a b =
    simp (length-append, length_decimal, length_hex) (omega (arith, width_4 number, width_2 op a, width_2 answer b))
