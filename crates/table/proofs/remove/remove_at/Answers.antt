-- `table::remove::remove_at` meets its contract: it goes by what the slot is, and the test of the live count is `removed_at`'s.
use Rattle.std.proofs.Common.{◌≡◌, List, ℕ, ◌+◌, ◌-◌, ◌<◌, ◌≤◌, rules, lt-ltb, le-ltb, None, Some}
use Rattle.table.specs.Slots.{slot_at, put_mark}
use Rattle.table.specs.Insert.{none, removed_at, held_at}
use Rattle.table.specs.declared.CapabilityEntry.{CapabilityEntry}
use Rattle.table.specs.declared.CapTable.{CapTable}
use Rattle.table.specs.declared.Slot.{Slot}
use Rattle.table.specs.declared.Slot.TheVariants.{Full}
use Rattle.table.proofs.CodeSlots.{Other, full_slot, other_slot}
use Rattle.table.proofs.remove.remove_at.Goals as goal

module _ (ws : List ℕ) (i : ℕ) (s : Slot) (is : s ≡ slot_at ws i) where
  module _ (tag : Other s) where
    same : (t : CapTable) → record { words = ws; counts = t; moved = 0 } ≡ removed_at ws t i
    unfolding removed_at
    same t = rw (other_slot ws i s is tag)

    nothing : None ≡ held_at ws i
    nothing = rw (other_slot ws i s is tag)

  module _ (e : CapabilityEntry) (full : s ≡ Full e) where
    entry : Some e ≡ held_at ws i
    entry = let (lives, has) = full_slot ws i s is e full in rw (lives, has)

    module _ (after : List ℕ) (t : CapTable) (mark : after ≡ put_mark ws i) where
      stays :
          1 < t.full
          → record { words = after; counts = record { slots = t.slots; full = t.full - 1; tombstones = t.tombstones + 1 }; moved = 0 }
          ≡ removed_at ws t i
      unfolding removed_at
      stays l = rw (mark, (full_slot ws i s is e full).0, lt-ltb 1 t.full l)

      goes : t.full ≤ 1 → record { words = after; counts = none; moved = 0 } ≡ removed_at ws t i
      unfolding removed_at
      goes l = rw (mark, (full_slot ws i s is e full).0, le-ltb 1 t.full l)

pub returns-in_default : goal.returns-in_default
returns-in_default c = search (same, nothing, rules)

pub returns-then-t-gt1-clause-left_value : goal.returns-then-t-gt1-clause-left_value
returns-then-t-gt1-clause-left_value c = search (stays, entry, rules)

pub returns-then-t-gt1-clause-moved_value : goal.returns-then-t-gt1-clause-moved_value
returns-then-t-gt1-clause-moved_value c = search (stays, rules)

pub returns-else-t-gt1-clause-left_value : goal.returns-else-t-gt1-clause-left_value
returns-else-t-gt1-clause-left_value c = search (goes, entry, rules)

pub returns-else-t-gt1-clause-moved_value : goal.returns-else-t-gt1-clause-moved_value
returns-else-t-gt1-clause-moved_value c = search (goes, entry, rules)
