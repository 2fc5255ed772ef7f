use Rattle.std.proofs.Common.{◌≡◌, ℕ, suc, ◌+◌, ◌-◌, ◌<◌, ◌≤◌, List, length, take, set, ap, append_assoc, append-nil, add-one, arith, take-suc-set, rules}
use Rattle.std.proofs.Math.Nat.{sub-zero}
use Rattle.table.specs.Slots.{slot_at, id_of}
use Rattle.table.specs.Insert.{live_entries}
use Rattle.table.specs.declared.CapabilityEntry.{CapabilityEntry}
use Rattle.table.specs.declared.Slot.{Slot}
use Rattle.table.specs.declared.Slot.TheVariants.{Full}
use Rattle.table.proofs.CodeSlots.{Other, full_slot, other_slot}
use Rattle.space.specs.Ids.{ids_of, entry_ids}
use Rattle.space.specs.Words.{table_of}
use Rattle.space.proofs.Lent.{lent_rest}
use Rattle.space.proofs.view.Space.entry_ids.Invariants.{lent, known}
use Rattle.space.proofs.view.Space.entry_ids.Goals as goal

starts : (ids ws : List ℕ) (slots : ℕ) → known ids 0 ws slots 0 ≡ ids_of (live_entries ws 0 slots)
unfolding known
starts ids ws slots = ap (λ n. ids_of (live_entries ws 0 n)) (sub-zero slots)

module _ (ids : List ℕ) (count : ℕ) (ws : List ℕ) (slots i : ℕ) (all : List ℕ) (put : known ids count ws slots i ≡ all) where
  module _ (l : i < slots) (s : Slot) (is : s ≡ slot_at ws i) where
    more : slots - i ≡ suc (slots - suc i)
    more = omega arith

    passes : Other s → known ids count ws slots (i + 1) ≡ all
    unfolding known live_entries
    passes tag = rw (add-one i) (rw (more, other_slot ws i s is tag) at put)

    counts : (e : CapabilityEntry) (id : ℕ) → s ≡ Full e → id ≡ id_of e → count < length ids
        → known (set ids count id) (count + 1) ws slots (i + 1) ≡ all
    unfolding known live_entries ids_of
    counts e id full same room =
        let (lives, has) = full_slot ws i s is e full in
        rw (add-one count, add-one i, take-suc-set ids count id room, append_assoc, same, has) (rw (more, lives) at put)

ends : (sp ids : List ℕ) (slots i count : ℕ)
    → known ids count (lent sp) (table_of sp).slots i ≡ ids_of (live_entries (lent sp) 0 (table_of sp).slots)
    → slots ≡ (table_of sp).slots → slots ≤ i → take count ids ≡ entry_ids sp
unfolding known live_entries ids_of entry_ids
ends sp ids slots i count put same l =
    let none : (table_of sp).slots - i ≡ 0 = omega arith in
    rw (none, append-nil, lent_rest) at put

ruleset laws = (starts, passes, counts, ends, rules)

pub loop-i-init : goal.loop-i-init
loop-i-init c = search laws

pub loop-i-preserved : goal.loop-i-preserved
loop-i-preserved c = search laws

pub returns : goal.returns
returns c = search laws
