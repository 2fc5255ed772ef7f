-- Where the regions lie: each below the length, no two over one another, and the whole within document 01's bound in bytes.
use Rattle.std.specs.Prelude.{Bool, true, false, ◌≢◌, ◌⊎◌, ◌≡◌, ℕ, zero, suc, ◌+◌, ◌*◌, ◌≤◌, ◌<◌, eqb, refl}
use Rattle.std.proofs.Common.{true≢false, inl, inr, sym, ap₂, ◌∙◌, mul-le-mul_right, suc-mul, eq-eqb, eqb-true, arith, mul-le-mul_left}
use Rattle.std.proofs.Math.Decide.{dec_lt, le_ind}
use Rattle.std.proofs.Math.Logic.{by_cases}
use Rattle.base.specs.Arith.{next_power, next_least}
use Rattle.base.specs.Below.{first, first_from}
use Rattle.base.specs.Choose.{both, both_left, both_right, both_make, refuted}
use Rattle.world.specs.Numbers.{InRange}
use Rattle.world.specs.Regions.{Region, head, space, registry, log, queue, width_of, length_for, start_of, size_of}
use Rattle.world.specs.declared.Numbers.{Numbers}

-- A region that the memory has.
abbrev pub Valid : Numbers → Region → Type 0
Valid d head = Unit
Valid d (space s) = s < d.spaces
Valid d registry = Unit
Valid d log = Unit
Valid d (queue q) = q < d.queues

-- ---- the memory as five bands, one after the other, each cut into equal parts; a region is a part

abbrev pub band : Region → ℕ
band head = 0
band (space s) = 1
band registry = 2
band log = 3
band (queue q) = 4

abbrev pub index : Region → ℕ
index head = 0
index (space s) = s
index registry = 0
index log = 0
index (queue q) = q

-- The two are one region: one band, one part.
abbrev pub same : Region → Region → Bool
same r r' = both (eqb (band r) (band r')) (eqb (index r) (index r'))

region_at : ℕ → ℕ → Region
region_at zero i = head
region_at (suc zero) i = space i
region_at (suc (suc zero)) i = registry
region_at (suc (suc (suc zero))) i = log
region_at (suc (suc (suc (suc b)))) i = queue i

region_at_band : (r : Region) → region_at (band r) (index r) ≡ r
unfolding region_at
region_at_band head = refl
region_at_band (space s) = refl
region_at_band registry = refl
region_at_band log = refl
region_at_band (queue q) = refl

pub same_is : (r r' : Region) → same r r' ≡ true → r ≡ r'
same_is r r' h =
    let e : band r ≡ band r' = eqb-true (band r) (band r') (both_left _ (eqb (index r) (index r')) h) in
    let i : index r ≡ index r' = eqb-true (index r) (index r') (both_right (eqb (band r) (band r')) _ h) in
    sym (region_at_band r) ∙ ap₂ region_at e i ∙ region_at_band r'

pub distinct : (r r' : Region) → r ≢ r' → same r r' ≡ false
distinct r r' differ = refuted (same r r') (λ e. differ (same_is r r' e))

-- How many parts a band has, and how many words a part.
parts : Numbers → ℕ → ℕ
parts d zero = 1
parts d (suc zero) = d.spaces
parts d (suc (suc zero)) = 1
parts d (suc (suc (suc zero))) = 1
parts d (suc (suc (suc (suc b)))) = d.queues

words : Numbers → ℕ → ℕ
words d zero = 16
words d (suc zero) = width_of d
words d (suc (suc zero)) = 5 * d.places + 1
words d (suc (suc (suc zero))) = d.pairs
words d (suc (suc (suc (suc b)))) = 771

-- Where a band begins.
edge : Numbers → ℕ → ℕ
edge d zero = 0
edge d (suc b) = edge d b + parts d b * words d b

room : (i n w : ℕ) → i < n → i * w + w ≤ n * w
room i n w l = omega (arith, mul-le-mul_right w l, suc-mul i w)

module _ (d : Numbers) where
  start_is : (r : Region) → start_of d r ≡ edge d (band r) + index r * words d (band r)
  unfolding start_of edge parts words
  start_is head = omega arith
  start_is (space s) = omega arith
  start_is registry = omega arith
  start_is log = omega arith
  start_is (queue q) = omega arith

  size_is : (r : Region) → size_of d r ≡ words d (band r)
  unfolding words
  size_is head = refl
  size_is (space s) = refl
  size_is registry = refl
  size_is log = refl
  size_is (queue q) = refl

  index_in : (r : Region) → Valid d r → index r < parts d (band r)
  unfolding parts
  index_in head v = omega arith
  index_in (space s) v = v
  index_in registry v = omega arith
  index_in log v = omega arith
  index_in (queue q) v = v

  edge_grows : (a b : ℕ) → a ≤ b → edge d a ≤ edge d b
  unfolding edge
  edge_grows a b l = le_ind (λ c. edge d a ≤ edge d c) (omega arith) (λ c k h. omega arith) b l

  -- A region ends within its band, and so by the end of the memory's length.
  in_band : (r : Region) → Valid d r → start_of d r + size_of d r ≤ edge d (suc (band r))
  unfolding edge
  in_band r v = rw size_is (omega (arith, start_is r, room (index r) (parts d (band r)) (words d (band r)) (index_in r v)))

  band_le : (r : Region) → band r ≤ 4
  band_le head = omega arith
  band_le (space s) = omega arith
  band_le registry = omega arith
  band_le log = omega arith
  band_le (queue q) = omega arith

  all_bands : edge d 5 ≡ length_for d
  unfolding edge parts words length_for
  all_bands = omega arith

  pub inside : (r : Region) → Valid d r → start_of d r + size_of d r ≤ length_for d
  inside r v = omega (arith, in_band r v, edge_grows (suc (band r)) 5 (omega (arith, band_le r)), all_bands)

  -- Of two regions the one of the earlier band, or of the earlier part, ends before the other starts.
  earlier_band : (r r' : Region) → Valid d r → band r < band r' → start_of d r + size_of d r ≤ start_of d r'
  earlier_band r r' v l = omega (arith, in_band r v, edge_grows (suc (band r)) (band r') l, start_is r')

  earlier_part : (r r' : Region) → band r ≡ band r' → index r < index r' → start_of d r + size_of d r ≤ start_of d r'
  earlier_part r r' e l = rw (start_is r, size_is, start_is r', e) (omega (arith, room (index r) (index r') (words d (band r')) l))

  pub apart : (r r' : Region) → Valid d r → Valid d r' → same r r' ≡ false
      → (start_of d r + size_of d r ≤ start_of d r') ⊎ (start_of d r' + size_of d r' ≤ start_of d r)
  apart r r' v v' differ =
      by_cases (dec_lt (band r) (band r')) (λ l. inl (earlier_band r r' v l)) (λ n.
      by_cases (dec_lt (band r') (band r)) (λ l. inr (earlier_band r' r v' l)) (λ n'.
      let e : band r ≡ band r' = omega arith in
      by_cases (dec_lt (index r) (index r')) (λ l. inl (earlier_part r r' e l)) (λ m.
      by_cases (dec_lt (index r') (index r)) (λ l. inr (earlier_part r' r (sym e) l)) (λ m'.
      absurd (true≢false (sym (both_make _ _ (eq-eqb (band r) (band r') e) (eq-eqb (index r) (index r') (omega arith))) ∙ differ))))))

-- ---- document 01's bound

module _ (d : Numbers) (ok : InRange d) where
  pub width_le : width_of d ≤ 2056
  unfolding width_of
  width_le = omega (arith, next_least (2 * d.most) 9 (omega arith), ok)

  pub bound : 8 * length_for d ≤ 8192 + 33280 * d.spaces + 16384 * (d.places + 1) + 64 * d.pairs + 32768 * d.queues
  unfolding length_for
  bound = omega (arith, mul-le-mul_left d.spaces width_le)

  pub length-le : length_for d ≤ 184940
  unfolding length_for
  length-le = omega (arith, mul-le-mul_left d.spaces width_le)

-- The request stream's world, and the largest that can be opened.
pub stream_length : length_for (record { spaces = 4; most = 32; places = 512; pairs = 512; queues = 2 }) ≡ 5687
unfolding length_for width_of next_power first first_from
stream_length = refl

largest_length : length_for (record { spaces = 64; most = 256; places = 4095; pairs = 8192; queues = 32 }) ≡ 184940
unfolding length_for width_of next_power first first_from
largest_length = refl
