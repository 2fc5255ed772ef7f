-- The n-th live entry: the entry of a live slot is the n-th where n live slots stand before it, the n-th is held, and past the live
-- count there is none.
use Rattle.std.proofs.Common.{◌≡◌, refl, ap, ◌∙◌, Bool, true, false, List, [], ◌∷◌, ℕ, zero, suc, ◌+◌, ◌-◌, ◌<◌, ◌≤◌, zero-add, arith, length, None, Some}
use Rattle.std.proofs.Math.Decide.{ℕ_discrete}
use Rattle.std.proofs.Math.Logic.{by_cases}
use Rattle.base.specs.Below.{one}
use Rattle.base.specs.Choose.{pick}
use Rattle.base.specs.SumLaws.{sum-zero, sum_grows}
use Rattle.table.specs.Slots.{is_live, entry_at}
use Rattle.table.specs.Insert.{live_entries}
use Rattle.table.specs.Copy.{nth_of}
use Rattle.table.specs.Sound.{Sound}
use Rattle.table.specs.declared.CapabilityEntry.{CapabilityEntry}
use Rattle.table.specs.declared.CapTable.{CapTable}
use Rattle.table.proofs.laws.Contents.{Holds}
use Rattle.table.proofs.laws.LiveEntries.{live_next, free_next, live_before, live_count}
use Rattle.table.proofs.laws.Visits.{live_in}

-- Of the n slots from a on, slot i is the live one that m others stand before.
nth_from :
    (ws : List ℕ) (n a i m : ℕ) → a ≤ i → i < a + n → is_live ws i ≡ true → live_in ws i ≡ live_in ws a + m
    → nth_of (live_entries ws a n) m ≡ Some (entry_at ws i)
unfolding live_entries nth_of
nth_from ws zero a i m l u live e = absurd (omega arith)
nth_from ws (suc n) a i m l u live e = by_cases (ℕ_discrete a i) here (λ d. later d (is_live ws a) refl (nth_from ws n (suc a) i))
  where
    rest : List CapabilityEntry
    rest = live_entries ws (suc a) n

    here : a ≡ i → nth_of (live_entries ws a (suc n)) m ≡ Some (entry_at ws i)
    here same =
        let none : m ≡ 0 = omega (arith, ap (live_in ws) same) in
        rw (same, live, none)

    later :
        ¬ (a ≡ i) → (b : Bool) → is_live ws a ≡ b
        → ((m : ℕ) → suc a ≤ i → i < suc a + n → is_live ws i ≡ true → live_in ws i ≡ live_in ws (suc a) + m
        → nth_of rest m ≡ Some (entry_at ws i))
        → nth_of (pick b (entry_at ws a ∷ rest) rest) m ≡ Some (entry_at ws i)
    later d true taken ih =
        let next = live_next ws a taken in
        let down : m ≡ suc (m - 1) = omega (arith, sum_grows (λ j. one (is_live ws j)) (suc a) i (omega arith)) in
        rw down (ih (m - 1) (omega arith) (omega arith) live (omega arith))
    later d false passed ih = ih m (omega arith) (omega arith) live (omega (arith, free_next ws a passed))

held_from : (ws : List ℕ) (n a m : ℕ) (x : CapabilityEntry) → nth_of (live_entries ws a n) m ≡ Some x → Holds ws (a + n) x
unfolding live_entries nth_of
held_from ws zero a m x e = let z : ◌≡◌ {A = ℕ} 0 1 = cc in absurd (omega arith)
held_from ws (suc n) a m x e = go (is_live ws a) refl m (λ m e. rw up at (held_from ws n (suc a) m x e)) e
  where
    rest : List CapabilityEntry
    rest = live_entries ws (suc a) n

    up : suc a + n ≡ a + suc n
    up = omega arith

    go :
        (b : Bool) → is_live ws a ≡ b → (m : ℕ) → ((m : ℕ) → nth_of rest m ≡ Some x → Holds ws (a + suc n) x)
        → nth_of (pick b (entry_at ws a ∷ rest) rest) m ≡ Some x → Holds ws (a + suc n) x
    go true live zero ih e = record { slot = a; below = omega arith; live = live; same = cc }
    go true live (suc m) ih e = ih m e
    go false free m ih e = ih m e

nth_past : (es : List CapabilityEntry) (n : ℕ) → length es ≤ n → nth_of es n ≡ None
unfolding nth_of
nth_past [] n l = refl
nth_past (e ∷ es) zero l = absurd (omega arith)
nth_past (e ∷ es) (suc n) l = nth_past es n (omega arith)

-- ---- a sound table

module _ (most : ℕ) (ws : List ℕ) (t : CapTable) (sound : Sound most ws t) where
  -- Each entry that is held is the n-th for an n below the live count: the live slots before its own.
  pub held_is_nth :
      (x : CapabilityEntry) (h : Holds ws t.slots x)
      → (live_in ws h.slot < t.full) × (nth_of (live_entries ws 0 t.slots) (live_in ws h.slot) ≡ Some x)
  held_is_nth x h = (
    omega (arith, live_before ws t.slots h.slot h.below h.live, sound.live_agrees),
    nth_from ws t.slots 0 h.slot (live_in ws h.slot) (omega arith) (omega (arith, h.below)) h.live
        (omega (arith, sum-zero (λ j. one (is_live ws j))))
        ∙ ap Some h.same,
  )

  pub nth_is_held : (n : ℕ) (x : CapabilityEntry) → nth_of (live_entries ws 0 t.slots) n ≡ Some x → Holds ws t.slots x
  nth_is_held n x e = rw zero-add at (held_from ws t.slots 0 n x e)

  pub past_the_last : (n : ℕ) → t.full ≤ n → nth_of (live_entries ws 0 t.slots) n ≡ None
  past_the_last n l = nth_past (live_entries ws 0 t.slots) n (omega (arith, live_count most ws t sound))
