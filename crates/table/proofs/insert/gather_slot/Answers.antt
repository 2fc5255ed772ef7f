-- `table::insert::gather_slot` meets its contract: gathering one slot goes by what it is.
use Rattle.std.proofs.Common.{◌≡◌, List, ℕ, ◌+◌, add-zero, rules}
use Rattle.table.specs.Slots.{slot_at, put_entry}
use Rattle.table.specs.Insert.{holds, gathered}
use Rattle.table.specs.declared.CapabilityEntry.{CapabilityEntry}
use Rattle.table.specs.declared.Slot.{Slot}
use Rattle.table.specs.declared.Slot.TheVariants.{Full}
use Rattle.table.proofs.CodeSlots.{Other, full_slot, other_slot}
use Rattle.table.proofs.insert.gather_slot.Goals as goal

module _ (ws : List ℕ) (i : ℕ) (s : Slot) (is : s ≡ slot_at ws i) (kept : List ℕ) (count : ℕ) where
  live : (after : List ℕ) (e : CapabilityEntry) → s ≡ Full e → after ≡ put_entry kept count e
      → holds after (count + 1) ≡ gathered ws i 1 (holds kept count)
  unfolding gathered
  live after e full put = let (lives, has) = full_slot ws i s is e full in rw (put, has, lives)

  other : Other s → holds kept count ≡ gathered ws i 1 (holds kept count)
  unfolding gathered
  other tag = rw (other_slot ws i s is tag, add-zero)

pub returns-in-Full-clause-result_after : goal.returns-in-Full-clause-result_after
returns-in-Full-clause-result_after c = search (live, rules)

pub returns : goal.returns
returns c = search (other, rules)
