-- The live entries of a table in slot order, the list that a rebuild re-places and a copy inserts: there are as many as live slots, and
-- what is done to each of them is shown slot by slot.
use Rattle.std.proofs.Common.{◌≡◌, refl, ap, ◌∙◌, Bool, true, false, List, [], ◌∷◌, ℕ, zero, suc, ◌+◌, ◌<◌, ◌≤◌, add-zero, add-suc, suc-add, zero-add, arith, length}
use Rattle.base.specs.Choose.{pick}
use Rattle.base.specs.Below.{sum, one}
use Rattle.base.specs.SumLaws.{sum-zero, sum_grows}
use Rattle.table.specs.Slots.{is_live, entry_at}
use Rattle.table.specs.Insert.{live_entries}
use Rattle.table.specs.Sound.{Sound}
use Rattle.table.specs.declared.CapabilityEntry.{CapabilityEntry}
use Rattle.table.specs.declared.CapTable.{CapTable}
use Rattle.table.proofs.laws.Visits.{live_in}

-- ---- how many

-- Slot i adds one to the count where it is live, else nothing.
pub live_next : (ws : List ℕ) (i : ℕ) → is_live ws i ≡ true → live_in ws (suc i) ≡ live_in ws i + 1
unfolding sum
live_next ws i live = omega (arith, ap one live)

pub free_next : (ws : List ℕ) (i : ℕ) → is_live ws i ≡ false → live_in ws (suc i) ≡ live_in ws i
unfolding sum
free_next ws i free = omega (arith, ap one free)

-- Before a live slot there are fewer than there are in all.
pub live_before : (ws : List ℕ) (slots i : ℕ) → i < slots → is_live ws i ≡ true → live_in ws i < live_in ws slots
live_before ws slots i l live = omega (arith, live_next ws i live, sum_grows (λ j. one (is_live ws j)) (suc i) slots l)

length_pick : (b : Bool) (e : CapabilityEntry) (es : List CapabilityEntry) → length (pick b (e ∷ es) es) ≡ one b + length es
length_pick true e es = omega arith
length_pick false e es = omega arith

-- The live entries below slot i, then those of the n slots from i on.
length_from : (ws : List ℕ) (i n : ℕ) → live_in ws i + length (live_entries ws i n) ≡ live_in ws (i + n)
unfolding live_entries sum
length_from ws i zero = omega (arith, ap (live_in ws) (add-zero i))
length_from ws i (suc n) =
    omega (
      arith,
      length_pick (is_live ws i) (entry_at ws i) (live_entries ws (suc i) n),
      length_from ws (suc i) n,
      ap (live_in ws) (add-suc i n),
      ap (live_in ws) (suc-add i n),
    )

pub live_length : (ws : List ℕ) (slots : ℕ) → length (live_entries ws 0 slots) ≡ live_in ws slots
live_length ws slots = omega (arith, sum-zero (λ j. one (is_live ws j)), length_from ws 0 slots, ap (live_in ws) (zero-add slots))

-- In a sound table they are its live count, so at most M: as many as `copy_from` takes.
module _ (most : ℕ) (ws : List ℕ) (t : CapTable) (sound : Sound most ws t) where
  pub live_count : length (live_entries ws 0 t.slots) ≡ t.full
  live_count = live_length ws t.slots ∙ sound.live_agrees

  pub live_count_le : length (live_entries ws 0 t.slots) ≤ most
  live_count_le = omega (arith, live_count, sound.within)

-- ---- slot by slot

-- Where `run` does `step` with each entry of a list in order, what holds at first, and is kept both past a live slot with its entry's
-- step and past any other slot, holds after the run over all live entries.
module _
    (S : Type 0) (run : List CapabilityEntry → S → S) (step : CapabilityEntry → S → S) (ends : (s : S) → run [] s ≡ s)
    (goes : (e : CapabilityEntry) (es : List CapabilityEntry) (s : S) → run (e ∷ es) s ≡ run es (step e s))
    (ws : List ℕ) (slots : ℕ) (P : ℕ → S → Type 0)
    (taken : (i : ℕ) (s : S) → i < slots → is_live ws i ≡ true → P i s → P (suc i) (step (entry_at ws i) s))
    (passed : (i : ℕ) (s : S) → i < slots → is_live ws i ≡ false → P i s → P (suc i) s)
  where
    each_from : (n i : ℕ) (s : S) → i + n ≡ slots → P i s → P slots (run (live_entries ws i n) s)
    unfolding live_entries
    each_from zero i s e p = rw (ends s, ← e, add-zero) p
    each_from (suc n) i s e p = go (is_live ws i) refl (λ s. each_from n (suc i) s (omega arith))
      where
        rest : List CapabilityEntry
        rest = live_entries ws (suc i) n

        go :
            (b : Bool) → is_live ws i ≡ b → ((s : S) → P (suc i) s → P slots (run rest s))
            → P slots (run (pick b (entry_at ws i ∷ rest) rest) s)
        go true live ih = rw (goes (entry_at ws i) rest s) (ih (step (entry_at ws i) s) (taken i s (omega arith) live p))
        go false free ih = ih s (passed i s (omega arith) free p)

    pub each_live : (s : S) → P 0 s → P slots (run (live_entries ws 0 slots) s)
    each_live s p = each_from slots 0 s (zero-add slots) p
