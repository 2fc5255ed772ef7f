-- What a table has been paid towards its next rebuild. A rebuild moves every live entry; the potential makes this even out: an insert
-- pays 3, its moves and what it adds to the potential come to no more than that, and nothing else raises the potential.
use Rattle.std.proofs.Common.{◌≡◌, refl, sym, ap, ◌∙◌, ◌≢◌, Bool, true, false, List, ℕ, ◌+◌, ◌-◌, ◌*◌, ◌/◌, ◌<◌, ◌≤◌, zero-add, arith, eq-eqb, ne_eqb, ltb-true, ltb-false, eqb, ltb}
use Rattle.std.proofs.Math.Decide.{ℕ_discrete}
use Rattle.std.proofs.Math.Logic.{by_cases}
use Rattle.base.specs.Below.{one}
use Rattle.base.specs.SumLaws.{sum-zero}
use Rattle.base.specs.Choose.{pick}
use Rattle.table.specs.Slots.{is_live}
use Rattle.table.specs.Insert.{crowded, made_room, placed, insert_new, none, removed_at}
use Rattle.table.specs.Sound.{Sound}
use Rattle.table.specs.declared.CapabilityEntry.{CapabilityEntry}
use Rattle.table.specs.declared.CapTable.{CapTable}
use Rattle.table.proofs.laws.LiveEntries.{live_count}
use Rattle.table.proofs.laws.Room.{room_fits}
use Rattle.table.proofs.laws.Visits.{live_in}

-- Nothing for a table of 0 slots. Else 3 for each live or removed entry, with the one to come, past half of the slots.
unfoldable pub potential : CapTable → ℕ
potential t = pick (eqb t.slots 0) 0 (3 * (t.full + t.tombstones + 1 - t.slots / 2))

potential_none : (t : CapTable) → t.slots ≡ 0 → potential t ≡ 0
unfolding potential
potential_none t e = rw (eq-eqb t.slots 0 e)

potential_some : (t : CapTable) → t.slots ≢ 0 → potential t ≡ 3 * (t.full + t.tombstones + 1 - t.slots / 2)
unfolding potential
potential_some t d = rw (ne_eqb t.slots 0 d)

-- An insert without a rebuild.
placing_pays :
    (t u : CapTable) → 4 * (t.full + t.tombstones + 1) ≤ 3 * t.slots → u.slots ≡ t.slots → u.full ≡ t.full + 1
    → u.tombstones ≤ t.tombstones → potential u ≤ potential t + 3
placing_pays t u fits s f r = omega (arith, potential_some t (omega arith), potential_some u (omega arith))

-- An insert with one: crowded as the table was, its potential pays for all the moves.
rebuild_pays :
    (t u : CapTable) → 3 * t.slots < 4 * (t.full + t.tombstones + 1) → (t.slots ≡ 0 → t.full ≡ 0) → 2 * (t.full + 1) ≤ u.slots
    → u.full ≡ t.full + 1 → u.tombstones ≡ 0 → t.full + potential u ≤ potential t + 3
rebuild_pays t u tight unused fits f r =
    by_cases (ℕ_discrete t.slots 0)
    (λ e. omega (arith, unused e, potential_some u (omega arith)))
    (λ d. omega (arith, potential_some t d, potential_some u (omega arith)))

-- A removed entry counts as it did live.
marking_pays : (t u : CapTable) → u.slots ≡ t.slots → u.full + u.tombstones ≤ t.full + t.tombstones → potential u ≤ potential t
marking_pays t u s f =
    by_cases (ℕ_discrete t.slots 0)
    (λ e. omega (arith, potential_none u (s ∙ e)))
    (λ d. omega (arith, potential_some t d, potential_some u (omega arith)))

-- A table with nothing in it, as clearing leaves it and a copy finds it.
pub none_pays : potential none ≡ 0
none_pays = potential_none none refl

-- ---- inserting, removing

pub insert_pays :
    (most : ℕ) (ws : List ℕ) (t : CapTable) (e : CapabilityEntry) → Sound most ws t
    → (insert_new ws t e).moved + potential (insert_new ws t e).counts ≤ potential t + 3
unfolding insert_new placed made_room crowded
insert_pays most ws t e s = go (crowded t) refl
  where
    bare : t.slots ≡ 0 → t.full ≡ 0
    bare e = sym s.live_agrees ∙ ap (live_in ws) e ∙ sum-zero (λ j. one (is_live ws j))

    go : (b : Bool) → crowded t ≡ b → (insert_new ws t e).moved + potential (insert_new ws t e).counts ≤ potential t + 3
    go true tight = rw (tight, live_count most ws t s) (rebuild_pays t _ (ltb-true _ _ tight) bare (room_fits t.full) refl (omega arith))
    go false fits = rw (fits, zero-add) (placing_pays t _ (ltb-false _ _ fits) refl refl (omega arith))

pub remove_pays :
    (ws : List ℕ) (t : CapTable) (i : ℕ) → is_live ws i ≡ true
    → (removed_at ws t i).moved + potential (removed_at ws t i).counts ≤ potential t
unfolding removed_at
remove_pays ws t i lives = go (ltb 1 t.full) refl
  where
    go : (b : Bool) → ltb 1 t.full ≡ b → (removed_at ws t i).moved + potential (removed_at ws t i).counts ≤ potential t
    go true more = rw (lives, more, zero-add) (marking_pays t _ refl (omega (arith, ltb-true 1 t.full more)))
    go false last = rw (lives, last, none_pays) (omega arith)
