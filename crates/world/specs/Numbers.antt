-- The head of the memory: words 0 to 4 are the opening numbers S, M, R, V, P; then 5 next id, 6 epoch, 7 to 10 the four statistics
-- (created, delegated, revoked, deleted), 11 registered, 12 recycled, 13 logged; 14 and 15 are spare.
use Rattle.std.specs.Prelude.{Bool, true, List, ◌≡◌, ℕ, ◌≤◌, ◌<◌, leb, get_or, set}
use Rattle.std.proofs.Common.{arith, leb-true, le-leb, get_or-set_other}
use Rattle.base.specs.Choose.{both, both_left, both_right, both_make}
use Rattle.world.specs.declared.Numbers.{Numbers}

abbrev pub numbers_of : List ℕ → Numbers
numbers_of mem =
    record { spaces = get_or mem 0 0; most = get_or mem 1 0; places = get_or mem 2 0; pairs = get_or mem 3 0; queues = get_or mem 4 0 }

-- The words of the head behind them: next, the epoch, the four statistics, and how many are registered, recycled and logged.
abbrev pub next_word : ℕ
next_word = 5

abbrev pub epoch_word : ℕ
epoch_word = 6

abbrev pub created_word : ℕ
created_word = 7

abbrev pub delegated_word : ℕ
delegated_word = 8

abbrev pub revoked_word : ℕ
revoked_word = 9

abbrev pub deleted_word : ℕ
deleted_word = 10

abbrev pub registered_word : ℕ
registered_word = 11

abbrev pub recycled_word : ℕ
recycled_word = 12

abbrev pub logged_word : ℕ
logged_word = 13

abbrev pub next_of : List ℕ → ℕ
next_of mem = get_or mem next_word 0

abbrev pub epoch_of : List ℕ → ℕ
epoch_of mem = get_or mem epoch_word 0

abbrev pub registered_of : List ℕ → ℕ
registered_of mem = get_or mem registered_word 0

abbrev pub recycled_of : List ℕ → ℕ
recycled_of mem = get_or mem recycled_word 0

abbrev pub logged_of : List ℕ → ℕ
logged_of mem = get_or mem logged_word 0

-- S 1..64, M 1..256, R 1..4,095, V 1..8,192, P 1..32.
pub record InRange (d : Numbers) : Type 0 where
  pub spaces : (1 ≤ d.spaces) × (d.spaces ≤ 64)
  pub most : (1 ≤ d.most) × (d.most ≤ 256)
  pub places : (1 ≤ d.places) × (d.places ≤ 4095)
  pub pairs : (1 ≤ d.pairs) × (d.pairs ≤ 8192)
  pub queues : (1 ≤ d.queues) × (d.queues ≤ 32)

abbrev pub between : ℕ → ℕ → ℕ → Bool
between low high n = both (leb low n) (leb n high)

unfoldable pub in_range_test : Numbers → Bool
in_range_test d =
    both (between 1 64 d.spaces)
    (both (between 1 256 d.most) (both (between 1 4095 d.places) (both (between 1 8192 d.pairs) (between 1 32 d.queues))))

-- The test holds exactly of numbers in range.
between_is : (low high n : ℕ) → between low high n ≡ true → (low ≤ n) × (n ≤ high)
between_is low high n h =
    (leb-true low n (both_left (leb low n) (leb n high) h), leb-true n high (both_right (leb low n) (leb n high) h))

between_make : (low high n : ℕ) → (low ≤ n) × (n ≤ high) → between low high n ≡ true
between_make low high n h = both_make (leb low n) (leb n high) (le-leb low n h.0) (le-leb n high h.1)

pub in_range : (d : Numbers) → in_range_test d ≡ true → InRange d
unfolding in_range_test
in_range d h = search (between_is, both_left, both_right) depth 12

pub in_range_passes : (d : Numbers) → InRange d → in_range_test d ≡ true
unfolding in_range_test
in_range_passes d h = search (between_make, both_make) depth 12

-- The numbers are the first five words: memories with the same first five words have the same numbers.
pub numbers_by_words : (mem mem' : List ℕ) → ((i : ℕ) → i < 5 → get_or mem' i 0 ≡ get_or mem i 0) → numbers_of mem' ≡ numbers_of mem
numbers_by_words mem mem' at = rw (at 0 (omega arith), at 1 (omega arith), at 2 (omega arith), at 3 (omega arith), at 4 (omega arith))

pub numbers_set : (mem : List ℕ) (i v : ℕ) → 5 ≤ i → numbers_of (set mem i v) ≡ numbers_of mem
numbers_set mem i v l = numbers_by_words mem (set mem i v) (λ j u. get_or-set_other mem i j v 0 (omega arith))
