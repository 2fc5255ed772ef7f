use Rattle.std.proofs.Common.{◌≡◌, sym, ap, ◌∙◌, List, ◌∷◌, ℕ, suc, ◌+◌, ◌-◌, ◌<◌, ◌≤◌, add-one, arith, rules, Option, None, Some}
use Rattle.std.proofs.Math.Nat.{sub-zero}
use Rattle.table.specs.Slots.{slot_at}
use Rattle.table.specs.Insert.{live_entries}
use Rattle.table.specs.Copy.{nth_of}
use Rattle.table.specs.declared.CapabilityEntry.{CapabilityEntry}
use Rattle.table.specs.declared.Slot.{Slot}
use Rattle.table.specs.declared.Slot.TheVariants.{Full}
use Rattle.table.proofs.CodeSlots.{Other, full_slot, other_slot}
use Rattle.table.proofs.view.Table.nth_entry.Goals as goal

starts : (ws : List ℕ) (slots n : ℕ) → nth_of (live_entries ws 0 (slots - 0)) n ≡ nth_of (live_entries ws 0 slots) n
starts ws slots n = ap (λ m. nth_of (live_entries ws 0 m) n) (sub-zero slots)

-- The live entries of the slots from i on, by what slot i is.
module _ (ws : List ℕ) (slots i : ℕ) (l : i < slots) (s : Slot) (is : s ≡ slot_at ws i) where
  more : slots - i ≡ suc (slots - suc i)
  more = omega arith

  live : (e : CapabilityEntry) → s ≡ Full e → live_entries ws i (slots - i) ≡ e ∷ live_entries ws (i + 1) (slots - (i + 1))
  unfolding live_entries
  live e full = let (lives, has) = full_slot ws i s is e full in rw (more, add-one, lives, has)

  other : Other s → live_entries ws i (slots - i) ≡ live_entries ws (i + 1) (slots - (i + 1))
  unfolding live_entries
  other tag = rw (more, add-one, other_slot ws i s is tag)

module _ (ws : List ℕ) (slots i past : ℕ) (answer : Option CapabilityEntry)
    (left : nth_of (live_entries ws i (slots - i)) past ≡ answer)
  where
    passes : (s : Slot) → i < slots → s ≡ slot_at ws i → Other s → nth_of (live_entries ws (i + 1) (slots - (i + 1))) past ≡ answer
    passes s l is tag = rw (other ws slots i l s is tag) at left

    counts : (s : Slot) (e : CapabilityEntry) → i < slots → s ≡ slot_at ws i → s ≡ Full e → ¬ (past ≡ 0)
        → nth_of (live_entries ws (i + 1) (slots - (i + 1))) (past - 1) ≡ answer
    unfolding nth_of
    counts s e l is full some =
        let down : past ≡ suc (past - 1) = omega arith in
        sym (ap (nth_of (e ∷ live_entries ws (i + 1) (slots - (i + 1)))) down) ∙ (rw (live ws slots i l s is e full) at left)

    here : (s : Slot) (e : CapabilityEntry) → i < slots → s ≡ slot_at ws i → s ≡ Full e → past ≡ 0 → Some e ≡ answer
    unfolding nth_of
    here s e l is full none = rw (live ws slots i l s is e full, none) at left

    ends : slots ≤ i → None ≡ answer
    unfolding live_entries nth_of
    ends l =
        let none : slots - i ≡ 0 = omega arith in
        rw none at left

ruleset nth_laws = (starts, passes, counts, here, ends, rules)

pub returns-then-past-eq0 : goal.returns-then-past-eq0
returns-then-past-eq0 c = search nth_laws

pub loop-i-preserved : goal.loop-i-preserved
loop-i-preserved c = search nth_laws

pub returns : goal.returns
returns c = search nth_laws
