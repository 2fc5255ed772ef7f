-- Rebuilds move few entries: over any calls on one table, from 0 slots on, all entries moved are at most three for each entry accepted.
use Rattle.std.proofs.Common.{◌≡◌, refl, Bool, true, false, List, [], ◌∷◌, ℕ, ◌+◌, ◌*◌, ◌^◌, ◌<◌, ◌≤◌, arith, ltb-true, ltb, length, Option, None, Some}
use Rattle.base.specs.Choose.{pick}
use Rattle.table.specs.Slots.{id_of}
use Rattle.table.specs.Walk.{search}
use Rattle.table.specs.Insert.{slots_for, Table, live_entries, insert_new, removed_at, none}
use Rattle.table.specs.Copy.{copied}
use Rattle.table.specs.Sound.{Sound}
use Rattle.table.specs.declared.CapabilityEntry.{CapabilityEntry}
use Rattle.table.specs.declared.CapTable.{CapTable}
use Rattle.table.proofs.laws.Copy.{copy_is_sound, copy_length, copy_pays}
use Rattle.table.proofs.laws.Exact.{search_at, absent_exactly_when_none}
use Rattle.table.proofs.laws.Insert.{insert_keeps_sound, insert_length}
use Rattle.table.proofs.laws.LiveEntries.{live_count}
use Rattle.table.proofs.laws.Potential.{potential, none_pays, insert_pays, remove_pays}
use Rattle.table.proofs.laws.Remove.{remove_keeps_sound, remove_length}
use Rattle.table.proofs.laws.Room.{capacity_le}
use Rattle.table.proofs.laws.Structure.{none_sound}

-- ---- any calls on one table

-- A call. Rights are 32 bits. The source of a copy is any sound table, so also the target itself as it then is. An insert that a quota
-- below `most` refuses changes nothing, and is a call left out.
pub data Call (most : ℕ) : Type 0 where
  insert : (e : CapabilityEntry) → e.rights.0 < 2 ^ 32 → Call most
  remove : (id : ℕ) → Call most
  clear : Call most
  copy : (source : List ℕ) (t : CapTable) → Sound most source t → Call most

-- The table after some calls, and how many entries they moved and accepted.
pub record History : Type 0 where
  pub words : List ℕ
  pub counts : CapTable
  pub moved : ℕ
  pub accepted : ℕ

-- A history goes on with the table that a call left, and the entries that it accepted.
unfoldable pub on_with : History → Table → ℕ → History
on_with h u accepted = record { words = u.words; counts = u.counts; moved = h.moved + u.moved; accepted = h.accepted + accepted }

-- An insert is accepted where its id is absent and there are fewer than `most` entries.
unfoldable pub insert_at : ℕ → CapabilityEntry → Option ℕ → History → History
insert_at most e (Some i) h = h
insert_at most e None h = pick (ltb h.counts.full most) (on_with h (insert_new h.words h.counts e) 1) h

-- A remove takes the entry where its id was found.
unfoldable pub remove_at : Option ℕ → History → History
remove_at (Some i) h = on_with h (removed_at h.words h.counts i) 0
remove_at None h = h

unfoldable pub after : {most : ℕ} → Call most → History → History
after {most} (insert e rights) h = insert_at most e (search h.words h.counts.slots (id_of e)).found h
after {most} (remove id) h = remove_at (search h.words h.counts.slots id).found h
after {most} clear h = on_with h (record { words = h.words; counts = none; moved = 0 }) 0
after {most} (copy source t sound) h = on_with h (copied source t.slots h.words) (length (live_entries source 0 t.slots))

unfoldable pub after_all : {most : ℕ} → List (Call most) → History → History
after_all {most} [] h = h
after_all {most} (call ∷ calls) h = after_all calls (after call h)

-- Words with no table in them yet.
unfoldable pub start : List ℕ → History
start ws = record { words = ws; counts = none; moved = 0; accepted = 0 }

-- ---- each call pays for its moves

-- All that the accepted entries paid, 3 each, has gone into moves or lies in the potential.
record Paid (most : ℕ) (h : History) : Type 0 where
  sound : Sound most h.words h.counts
  long : 4 * slots_for most ≤ length h.words
  paid : h.moved + potential h.counts ≤ 3 * h.accepted

module _ (most : ℕ) (h : History) (p : Paid most h) where
  on_paid :
      (u : Table) (accepted : ℕ) → Sound most u.words u.counts → length u.words ≡ length h.words
      → u.moved + potential u.counts ≤ potential h.counts + 3 * accepted → Paid most (on_with h u accepted)
  unfolding on_with
  on_paid u accepted sound same pays = record { sound = sound; long = rw same p.long; paid = omega (arith, p.paid) }

  insert_paid :
      (e : CapabilityEntry) (f : Option ℕ) → e.rights.0 < 2 ^ 32 → (search h.words h.counts.slots (id_of e)).found ≡ f
      → Paid most (insert_at most e f h)
  unfolding insert_at
  insert_paid e (Some i) rights found = p
  insert_paid e None rights found = go (ltb h.counts.full most) refl
    where
      u : Table
      u = insert_new h.words h.counts e

      go : (b : Bool) → ltb h.counts.full most ≡ b → Paid most (pick b (on_with h u 1) h)
      go true more =
          let lacks = (absent_exactly_when_none most h.words h.counts p.sound (id_of e)).0 found in
          let fewer = ltb-true h.counts.full most more in
          on_paid u 1 (insert_keeps_sound most h.words h.counts e p.sound fewer lacks rights p.long)
          (insert_length most h.words h.counts e p.sound fewer lacks rights p.long)
          (insert_pays most h.words h.counts e p.sound)
      go false full = p

  remove_paid : (id : ℕ) (f : Option ℕ) → (search h.words h.counts.slots id).found ≡ f → Paid most (remove_at f h)
  unfolding remove_at
  remove_paid id (Some i) found =
      let (l, live, same) = search_at h.words h.counts.slots id i found in
      let fits : 4 * h.counts.slots ≤ length h.words =
      omega (arith, p.long, capacity_le most h.counts.slots p.sound.capacity) in
      on_paid (removed_at h.words h.counts i) 0 (remove_keeps_sound most h.words h.counts i p.sound l live fits)
      (remove_length most h.words h.counts i p.sound l live fits)
      (omega (arith, remove_pays h.words h.counts i live))
  remove_paid id None found = p

  call_paid : (call : Call most) → Paid most (after call h)
  unfolding after
  call_paid (insert e rights) = insert_paid e (search h.words h.counts.slots (id_of e)).found rights refl
  call_paid (remove id) = remove_paid id (search h.words h.counts.slots id).found refl
  call_paid clear = on_paid (record { words = h.words; counts = none; moved = 0 }) 0
      (none_sound most h.words) refl (omega (arith, none_pays))
  call_paid (copy source t sound) =
      on_paid (copied source t.slots h.words) (length (live_entries source 0 t.slots))
      (copy_is_sound most source t h.words sound p.long)
      (copy_length most source t h.words sound p.long)
      (omega (arith, copy_pays most source t h.words sound p.long, live_count most source t sound))

calls_paid : (most : ℕ) (calls : List (Call most)) (h : History) → Paid most h → Paid most (after_all calls h)
unfolding after_all
calls_paid most [] h p = p
calls_paid most (call ∷ calls) h p = calls_paid most calls (after call h) (call_paid most h p call)

module _ (most : ℕ) (ws : List ℕ) (long : 4 * slots_for most ≤ length ws) (calls : List (Call most)) where
  all_paid : Paid most (after_all calls (start ws))
  unfolding start
  all_paid = calls_paid most calls (start ws) (record { sound = none_sound most ws; long = long; paid = omega (arith, none_pays) })

  pub moves_at_most_three_for_one : (after_all calls (start ws)).moved ≤ 3 * (after_all calls (start ws)).accepted
  moves_at_most_three_for_one = omega (arith, all_paid.paid)
