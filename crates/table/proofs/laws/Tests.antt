-- The test of a table is the rules: each test is true exactly when its rule holds, and all together exactly when the table is sound.
use Rattle.std.proofs.Common.{◌≡◌, refl, ap, ◌↔◌, Bool, true, false, List, ℕ, ◌+◌, ◌*◌, ◌≤◌, arith, eqb-true, eq-eqb, ne_eqb, eqb, leb, Option, None, Some}
use Rattle.std.proofs.Math.Logic.Iff
use Rattle.base.specs.Arith.{next_power}
use Rattle.base.specs.Choose.{pick, both}
use Rattle.base.specs.Exactly.{tests, both_exactly, eqb_exactly}
use Rattle.base.specs.FirstLaws.{first_before}
use Rattle.table.specs.Slots.{id_at}
use Rattle.table.specs.Walk.{walk, stops, steps_to_stop}
use Rattle.table.specs.Insert.{slots_for}
use Rattle.table.specs.Sound.{Capacity, no_slots, some_slots, Sound, ends_at, coded_test, capacity_test, room_test, unused_test, most_test, found_test, sound_test}
use Rattle.table.specs.declared.CapTable.{CapTable}
use Rattle.table.proofs.laws.Powers.{own_is_power, power_is_own}
use Rattle.table.proofs.laws.Visits.{Coded, live_in, removed_in, passed_not_empty}
use Rattle.table.proofs.laws.Exact.{Differ, AllMet, AllFound, found_stops, live_found}

-- ---- rule by rule

pub coded_exactly : (ws : List ℕ) (slots : ℕ) → (coded_test ws slots ≡ true) ↔ Coded ws slots
coded_exactly ws slots = simp tests Iff.rfl

pub capacity_exactly : (most slots : ℕ) → (capacity_test most slots ≡ true) ↔ Capacity most slots
capacity_exactly most slots = (to (eqb slots 0) refl, from)
  where
    to :
        (b : Bool) → eqb slots 0 ≡ b
        → pick b true (both (leb 8 slots) (both (leb slots (slots_for most)) (eqb (next_power slots) slots))) ≡ true
        → Capacity most slots
    to true e h = no_slots (eqb-true slots 0 e)
    to false e h =
        let (low, (high, own)) = simp tests at h in
        let (k, power) = own_is_power slots own in
        some_slots k power low high

    from : Capacity most slots → capacity_test most slots ≡ true
    from (no_slots e) = rw (eq-eqb slots 0 e)
    from (some_slots k power low high) =
        let own : next_power slots ≡ slots = rw power (power_is_own k most (rw power at high)) in
        rw (ne_eqb slots 0 (omega arith)) (simp tests (low, (high, own)))

pub room_exactly : (t : CapTable) → (room_test t ≡ true) ↔ (4 * (t.full + t.tombstones) ≤ 3 * t.slots)
room_exactly t = simp tests Iff.rfl

pub unused_exactly : (t : CapTable) → (unused_test t ≡ true) ↔ (t.full ≡ 0 → t.slots ≡ 0)
unused_exactly t = simp tests Iff.rfl

pub within_exactly : (most : ℕ) (t : CapTable) → (most_test most t ≡ true) ↔ (t.full ≤ most)
within_exactly most t = simp tests Iff.rfl

-- A search that ends at j found it.
ends_at_iff : (f : Option ℕ) (j : ℕ) → (ends_at f j ≡ true) ↔ (f ≡ Some j)
ends_at_iff (Some i) j = (λ h. ap Some (eqb-true i j h), λ e. eq-eqb i j (cc))
ends_at_iff None j = (λ h. cc, λ e. cc)

pub searches_exactly : (ws : List ℕ) (slots : ℕ) → (found_test ws slots ≡ true) ↔ AllFound ws slots
searches_exactly ws slots = simp (tests, ends_at_iff) Iff.rfl

-- Two live slots that the search of one id finds are one.
found_differ : (ws : List ℕ) (slots : ℕ) → AllFound ws slots → Differ ws slots
found_differ ws slots found i j l u live live' same =
    let at_i = found i l live in
    let at_j = found j u live' in
    cc

-- What the search of its id finds is met on its own walk.
found_met : (ws : List ℕ) (slots : ℕ) → AllFound ws slots → AllMet ws slots
unfolding steps_to_stop
found_met ws slots found i u live =
    let (l, here, _) = found_stops ws slots (id_at ws i) i (found i u live) in
    record {
      steps = steps_to_stop ws slots (id_at ws i);
      within = l;
      there = here;
      before = λ s u.
          passed_not_empty ws (id_at ws i) (walk (id_at ws i) slots s)
          (first_before (λ t. stops ws (id_at ws i) (walk (id_at ws i) slots t)) slots s u);
    }

-- One test for two rules: ids differ, and each entry is met on its own walk.
pub found_exactly : (ws : List ℕ) (slots : ℕ) → (found_test ws slots ≡ true) ↔ (Differ ws slots × AllMet ws slots)
found_exactly ws slots =
    simp searches_exactly
    (λ found. (found_differ ws slots found, found_met ws slots found), λ (differ, met). live_found ws slots differ met)

-- ---- all rules

pub sound_exactly : (most : ℕ) (ws : List ℕ) (t : CapTable) → (sound_test most ws t ≡ true) ↔ Sound most ws t
unfolding sound_test
sound_exactly most ws t =
    let live_exactly = eqb_exactly (live_in ws t.slots) in
    let removed_exactly = eqb_exactly (removed_in ws t.slots) in
    simp (
      both_exactly,
      coded_exactly ws,
      capacity_exactly,
      live_exactly,
      removed_exactly,
      room_exactly t,
      unused_exactly t,
      within_exactly,
      found_exactly ws,
    ) (
      λ (coded, (capacity, ((live, removed), (room, (unused, (within, (differ, met))))))).
          record {
            coded = coded;
            capacity = capacity;
            live_agrees = live;
            removed_agrees = removed;
            room = room;
            unused = unused;
            within = within;
            differ = differ;
            met = met;
          },
      λ s. (s.coded, (s.capacity, ((s.live_agrees, s.removed_agrees), (s.room, (s.unused, (s.within, (s.differ, s.met))))))),
    )
