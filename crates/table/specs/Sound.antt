-- Document 01, "Sound memory", what it says of one table: a rule a field, in its order and words; the tests below, in the same order.
-- One test serves `differ` and `met`. `most` is M, the largest quota.
use Rattle.std.specs.Prelude.{Bool, true, false, ◌≡◌, List, ℕ, ◌+◌, ◌*◌, ◌^◌, ◌≤◌, ◌<◌, eqb, leb, Option, None, Some}
use Rattle.base.specs.Arith.{next_power}
use Rattle.base.specs.Below.{all, sum, one}
use Rattle.base.specs.Choose.{pick, both}
use Rattle.base.specs.Compacted.{compacted}
use Rattle.table.specs.Slots.{kind_at, is_empty, is_removed, is_live, id_at}
use Rattle.table.specs.Walk.{walk, search}
use Rattle.table.specs.Insert.{slots_for}
use Rattle.table.specs.declared.CapTable.{CapTable}

-- 0 slots or a power of two from 8 to the larger of 8 and the next power of two at or above 2M.
pub data Capacity (most slots : ℕ) : Type 0 where
  no_slots : slots ≡ 0 → Capacity most slots
  some_slots : (k : ℕ) → slots ≡ 2 ^ k → 8 ≤ slots → slots ≤ slots_for most → Capacity most slots

-- The entry of slot i is met on its own walk, after `steps` steps, before an empty slot.
pub record Met (ws : List ℕ) (slots i : ℕ) : Type 0 where
  pub steps : ℕ
  pub within : steps < slots
  pub there : walk (id_at ws i) slots steps ≡ i
  pub before : (s : ℕ) → s < steps → is_empty ws (walk (id_at ws i) slots s) ≡ false

pub record Sound (most : ℕ) (ws : List ℕ) (t : CapTable) : Type 0 where
  pub coded : (i : ℕ) → i < t.slots → kind_at ws i ≤ 2
  pub capacity : Capacity most t.slots
  pub live_agrees : sum (λ i. one (is_live ws i)) t.slots ≡ t.full
  pub removed_agrees : sum (λ i. one (is_removed ws i)) t.slots ≡ t.tombstones
  pub room : 4 * (t.full + t.tombstones) ≤ 3 * t.slots
  pub unused : t.full ≡ 0 → t.slots ≡ 0
  pub within : t.full ≤ most
  pub differ : (i j : ℕ) → i < t.slots → j < t.slots → is_live ws i ≡ true → is_live ws j ≡ true → id_at ws i ≡ id_at ws j → i ≡ j
  pub met : (i : ℕ) → i < t.slots → is_live ws i ≡ true → Met ws t.slots i

-- ---- the tests

abbrev pub coded_at : List ℕ → ℕ → Bool
coded_at ws i = leb (kind_at ws i) 2

abbrev pub coded_test : List ℕ → ℕ → Bool
coded_test ws slots = all slots (λ i. coded_at ws i)

abbrev pub capacity_test : ℕ → ℕ → Bool
capacity_test most slots =
    pick (eqb slots 0) true (both (leb 8 slots) (both (leb slots (slots_for most)) (eqb (next_power slots) slots)))

abbrev pub agree_test : List ℕ → CapTable → Bool
agree_test ws t =
    both (eqb (sum (λ i. one (is_live ws i)) t.slots) t.full) (eqb (sum (λ i. one (is_removed ws i)) t.slots) t.tombstones)

abbrev pub room_test : CapTable → Bool
room_test t = leb (4 * (t.full + t.tombstones)) (3 * t.slots)

abbrev pub unused_test : CapTable → Bool
unused_test t = pick (eqb t.full 0) (eqb t.slots 0) true

abbrev pub most_test : ℕ → CapTable → Bool
most_test most t = leb t.full most

-- Ids differ and each entry is met on its own walk where a search of the id of each live slot ends at that slot.
abbrev pub ends_at : Option ℕ → ℕ → Bool
ends_at (Some i) j = eqb i j
ends_at None j = false

abbrev pub ends_here : List ℕ → ℕ → ℕ → Bool
ends_here ws slots i = ends_at (search ws slots (id_at ws i)).found i

abbrev pub found_at : List ℕ → ℕ → ℕ → Bool
found_at ws slots i = pick (is_live ws i) (ends_here ws slots i) true

abbrev pub found_test : List ℕ → ℕ → Bool
found_test ws slots = all slots (λ i. found_at ws slots i)

unfoldable pub sound_test : ℕ → List ℕ → CapTable → Bool
sound_test most ws t =
    both (coded_test ws t.slots)
    (both (capacity_test most t.slots)
    (both (agree_test ws t) (both (room_test t) (both (unused_test t) (both (most_test most t) (found_test ws t.slots))))))

-- The numbers of the live ones of the first n slots, over what stood there: the look lists them first, and searches then.
unfoldable pub live_slots : List ℕ → ℕ → List ℕ → List ℕ
live_slots ws n xs = compacted (λ i. i) (is_live ws) n xs
