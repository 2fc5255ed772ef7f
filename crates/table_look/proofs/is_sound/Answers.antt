-- `table_look::is_sound` meets its contract: it makes the tests of `sound_test` in another order, the capacity first, which keeps the
-- rest in range.
use Rattle.std.proofs.Common.{◌≡◌, sym, ◌∙◌, Bool, true, false, true≢false, List, ℕ, ◌*◌, ◌≤◌, arith, rules}
use Rattle.base.specs.Choose.{both, both_left, both_right, both_make, refuted}
use Rattle.table.specs.Insert.{slots_for}
use Rattle.table.specs.Sound.{coded_test, capacity_test, agree_test, room_test, unused_test, most_test, found_test, sound_test}
use Rattle.table.specs.declared.CapTable.{CapTable}
use Rattle.table.proofs.laws.Room.{capacity_le, slots_few}
use Rattle.table.proofs.laws.Tests.{capacity_exactly, room_exactly, unused_exactly, within_exactly, sound_exactly}
use Rattle.table_look.proofs.is_sound.Goals.{then-is_capacity, else-is_capacity}
use Rattle.table_look.proofs.is_sound.Goals as goal

abbrev fit : ℕ → CapTable → Bool
fit most t = both (room_test t) (both (unused_test t) (most_test most t))

module _ (most : ℕ) (ws : List ℕ) (t : CapTable) (b : Bool) where
  -- A test that a sound table passes, and this one does not.
  unsound : (test : Bool) → (sound_test most ws t ≡ true → test ≡ true) → b ≡ test → b ≡ false → false ≡ sound_test most ws t
  unsound test passes e bad = sym (refuted (sound_test most ws t) (λ h. true≢false (sym (e ∙ passes h) ∙ bad)))

  no_capacity : b ≡ capacity_test most t.slots → b ≡ false → false ≡ sound_test most ws t
  no_capacity = unsound (capacity_test most t.slots) (λ h. (capacity_exactly most t.slots).1 ((sound_exactly most ws t).0 h).capacity)

  unfit : b ≡ fit most t → b ≡ false → false ≡ sound_test most ws t
  unfit =
      unsound (fit most t) (λ h.
      let s = (sound_exactly most ws t).0 h in
      both_make (room_test t) (both (unused_test t) (most_test most t)) ((room_exactly t).1 s.room)
      (both_make (unused_test t) (most_test most t) ((unused_exactly t).1 s.unused) ((within_exactly most t).1 s.within)))

asks : (most slots long : ℕ) (b : Bool) → (most ≤ 256) × (4 * slots_for most ≤ long) → b ≡ capacity_test most slots → b ≡ true
    → (slots ≤ 512) × (4 * slots ≤ long)
asks most slots long b (small, room) e good =
    omega (arith, slots_few most small, capacity_le most slots ((capacity_exactly most slots).0 (sym e ∙ good)))

few : (most slots : ℕ) (b : Bool) → most ≤ 256 → b ≡ capacity_test most slots → b ≡ true → slots ≤ 512
few most slots b small e good = (asks most slots (4 * slots_for most) b (small, omega arith) e good).0

rest :
    (most : ℕ) (ws : List ℕ) (t : CapTable) (b f r : Bool) → b ≡ capacity_test most t.slots → b ≡ true → f ≡ fit most t → f ≡ true
    → r ≡ both (coded_test ws t.slots) (both (agree_test ws t) (found_test ws t.slots)) → r ≡ sound_test most ws t
unfolding sound_test
rest most ws t b f r e good g fits last =
    let fitted : fit most t ≡ true = sym g ∙ fits in
    let used : both (unused_test t) (most_test most t) ≡ true = both_right (room_test t) (both (unused_test t) (most_test most t)) fitted in
    last
    ∙ rw (
      sym e ∙ good,
      both_left (room_test t) (both (unused_test t) (most_test most t)) fitted,
      both_left (unused_test t) (most_test most t) used,
      both_right (unused_test t) (most_test most t) used,
    )

ruleset laws = (rules, no_capacity, unfit, few, rest)

pub counts_fit-requires : goal.counts_fit-requires
counts_fit-requires c = search laws

pub slots_sound-requires : goal.slots_sound-requires
slots_sound-requires c =
    elim c.if-is_capacity.branch [
      | then-is_capacity w ↦ asks _ _ _ _ c.requires c.is_capacity.ensures w.if-is_capacity.true
      | else-is_capacity w ↦ search laws
    ]

pub returns-then-counts_fit : goal.returns-then-counts_fit
returns-then-counts_fit c =
    elim c.if-is_capacity.branch [ then-is_capacity w ↦ search laws | else-is_capacity w ↦ search laws ]

pub returns-else-counts_fit : goal.returns-else-counts_fit
returns-else-counts_fit c =
    elim c.if-is_capacity.branch [ then-is_capacity w ↦ search laws | else-is_capacity w ↦ search laws ]
