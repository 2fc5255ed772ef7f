-- What the code learns of a slot by matching it: a full one is live and has its entry, and one with another variant's tag is not live.
use Rattle.std.proofs.Common.{◌≡◌, refl, ◌⊎◌, ⊎_elim, Bool, true, false, List, ℕ, arith}
use denote.Enum.Declared.{tag_of}
use Rattle.base.specs.Choose.{pick}
use Rattle.table.specs.Slots.{is_empty, is_live, entry_at, slot_at}
use Rattle.table.specs.declared.CapabilityEntry.{CapabilityEntry}
use Rattle.table.specs.declared.Slot.{Slot}
use Rattle.table.specs.declared.Slot.TheVariants.{Empty, Tombstone, Full}
use Rattle.table.specs.contracts.Slot.{the_type}

-- `slot_at` by its two tests.
abbrev slot_of : List ℕ → ℕ → Bool → Bool → Slot
slot_of ws i live empty = pick live (Full (entry_at ws i)) (pick empty Empty Tombstone)

-- The tag of an empty slot, or of a mark.
abbrev pub Other : Slot → Type 0
Other s = (tag_of the_type s ≡ 0) ⊎ (tag_of the_type s ≡ 1)

module _ (ws : List ℕ) (i : ℕ) (s : Slot) (is : s ≡ slot_at ws i) where
  pub full_slot : (e : CapabilityEntry) → s ≡ Full e → (is_live ws i ≡ true) × (e ≡ entry_at ws i)
  unfolding slot_at
  full_slot e full = go (is_live ws i) (is_empty ws i) is
    where
      go : (live empty : Bool) → s ≡ slot_of ws i live empty → (live ≡ true) × (e ≡ entry_at ws i)
      go true empty is = (refl, cc)
      go false true is = (cc, cc)
      go false false is = (cc, cc)

  pub other_slot : Other s → is_live ws i ≡ false
  unfolding slot_at
  other_slot tag = go (is_live ws i) (rw is at tag)
    where
      go : (live : Bool) → Other (slot_of ws i live (is_empty ws i)) → live ≡ false
      go true tag = absurd (⊎_elim (λ e. omega arith) (λ e. omega arith) tag)
      go false tag = refl
