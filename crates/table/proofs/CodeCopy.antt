-- What a copy keeps at every turn, whatever entries it inserts: few slots and few live entries, so that the words lent suffice. And the
-- turns of its loop.
use Rattle.std.proofs.Common.{◌≡◌, refl, sym, ap, ◌∙◌, Bool, true, false, List, [], ◌∷◌, ℕ, suc, ◌+◌, ◌-◌, ◌*◌, ◌<◌, ◌≤◌, add-one, arith, rules, ltb-false, length}
use Rattle.std.proofs.Math.Nat.{sub-zero}
use Rattle.base.specs.Below.{one}
use Rattle.base.specs.SumLaws.{sum-zero, sum_update, sum_one_le, one_le}
use Rattle.table.specs.Slots.{is_live, entry_at, put_entry, id_of}
use Rattle.table.specs.Walk.{free_for}
use Rattle.table.specs.Insert.{slots_for, Table, leaves, live_entries, scratch_entries, emptied, place_all, rebuilt, crowded, room_for, Insertable, made_room, placed, insert_new, none}
use Rattle.table.specs.Copy.{fresh, insert_all}
use Rattle.table.specs.declared.CapabilityEntry.{CapabilityEntry}
use Rattle.table.specs.declared.CapTable.{CapTable}
use Rattle.table.specs.declared.Inserted.{Inserted}
use Rattle.table.proofs.laws.Slots.{same_live, entry_others}
use Rattle.table.proofs.laws.Walks.{walk_lt}
use Rattle.table.proofs.laws.Visits.{live_in}
use Rattle.table.proofs.laws.LiveEntries.{live_length}
use Rattle.table.proofs.laws.Room.{slots_few, room_fits, room_le}
use Rattle.table.proofs.laws.Structure.{emptied_structure}

-- ---- live slots, at most one more for each entry placed

put_live : (ws : List ℕ) (slots i : ℕ) (e : CapabilityEntry) → i < slots → live_in (put_entry ws i e) slots ≤ live_in ws slots + 1
put_live ws slots i e l =
    omega (
      arith,
      sum_update (λ j. one (is_live ws j)) (λ j. one (is_live (put_entry ws i e) j)) slots i l
          (λ j u d. ap one (same_live ws (put_entry ws i e) j (entry_others ws i j e d))),
      one_le (is_live (put_entry ws i e) i),
    )

free_lt : (ws : List ℕ) (slots id : ℕ) → 0 < slots → free_for ws slots id < slots
unfolding free_for
free_lt ws slots id pos = walk_lt id slots _ pos

all_live : (es : List CapabilityEntry) (ws : List ℕ) (slots : ℕ) → 0 < slots
    → live_in (place_all es ws slots) slots ≤ live_in ws slots + length es
unfolding place_all
all_live [] ws slots pos = omega arith
all_live (e ∷ es) ws slots pos =
    let i = free_for ws slots (id_of e) in
    omega (arith, put_live ws slots i e (free_lt ws slots (id_of e) pos), all_live es (put_entry ws i e) slots pos)

rebuilt_live : (ws : List ℕ) (slots n : ℕ) → 0 < n → 4 * n ≤ length ws → live_in (rebuilt ws slots n) n ≤ live_in ws slots
unfolding rebuilt
rebuilt_live ws slots n pos long =
    omega (arith, all_live (live_entries ws 0 slots) (emptied ws n) n pos, (emptied_structure ws n long).live_agrees, live_length ws slots)

-- ---- an insert moves no more entries than there were slots

pub insert_moves : (ws : List ℕ) (t : CapTable) (e : CapabilityEntry) → (insert_new ws t e).moved ≤ t.slots
unfolding insert_new placed made_room
insert_moves ws t e = go (crowded t) refl
  where
    go : (b : Bool) → crowded t ≡ b → (insert_new ws t e).moved ≤ t.slots
    go true tight = rw tight (omega (arith, live_length ws t.slots, sum_one_le (is_live ws) t.slots))
    go false fits = rw fits (omega arith)

-- ---- the table after i entries of a copy of `most`, whatever they are

pub record Bounded (most i : ℕ) (t : Table) : Type 0 where
  pub few_slots : t.counts.slots ≤ slots_for most
  pub few_live : t.counts.full ≤ i
  pub counted : live_in t.words t.counts.slots ≤ t.counts.full
  pub no_marks : t.counts.tombstones ≡ 0
  pub few_moves : t.moved ≤ 512 * i

-- The same with room for one more entry.
record Roomy (most i : ℕ) (t : Table) : Type 0 where
  some_slots : 0 < t.counts.slots
  few_slots : t.counts.slots ≤ slots_for most
  few_live : t.counts.full ≤ i
  counted : live_in t.words t.counts.slots ≤ t.counts.full
  no_marks : t.counts.tombstones ≡ 0

module _ (most i : ℕ) (t : Table) (small : most ≤ 256) (more : i < most) (long : 4 * slots_for most ≤ length t.words)
    (b : Bounded most i t) where
  bounded_insertable : Insertable t.words t.counts
  bounded_insertable =
      record {
        few_slots = omega (arith, slots_few most small);
        few_live = omega arith;
        few_removed = omega arith;
        held = omega arith;
        rebuild = omega (arith, room_le most t.counts.full (omega arith));
      }

  made_roomy : Roomy most i (made_room t.words t.counts)
  unfolding made_room crowded
  made_roomy = go (crowded t.counts) refl
    where
      n : ℕ
      n = room_for t.counts.full

      fits : n ≤ slots_for most
      fits = room_le most t.counts.full (omega arith)

      some : 0 < n
      some = omega (arith, room_fits t.counts.full)

      go : (c : Bool) → crowded t.counts ≡ c → Roomy most i (made_room t.words t.counts)
      go true tight = rw (tight, live_length) (record {
        some_slots = some;
        few_slots = fits;
        few_live = omega arith;
        counted = rebuilt_live t.words t.counts.slots n some (omega (arith, fits));
        no_marks = refl;
      })
      go false free = rw free (record {
        some_slots = omega (arith, ltb-false (3 * t.counts.slots) (4 * (t.counts.full + t.counts.tombstones + 1)) free);
        few_slots = b.few_slots;
        few_live = b.few_live;
        counted = b.counted;
        no_marks = b.no_marks;
      })

  bounded_next : (e : CapabilityEntry) → Bounded most (i + 1) (insert_all (e ∷ []) t)
  unfolding insert_all insert_new placed
  bounded_next e =
      let r : Table = made_room t.words t.counts in
      let roomy : Roomy most i r = made_roomy in
      let at = free_for r.words r.counts.slots (id_of e) in
      record {
        few_slots = roomy.few_slots;
        few_live = omega arith;
        counted = omega (
          arith,
          put_live r.words r.counts.slots at (fresh e) (free_lt r.words r.counts.slots (id_of e) roomy.some_slots),
        );
        no_marks = omega (arith, roomy.no_marks);
        few_moves = omega (arith, insert_moves t.words t.counts (fresh e), slots_few most small);
      }

-- ---- the turns: it stays bounded

pub bounded_starts : (most : ℕ) (ws : List ℕ) → Bounded most 0 (record { words = ws; counts = none; moved = 0 })
bounded_starts most ws = omega (arith, sum-zero (λ i. one (is_live ws i)))

module _ (most i : ℕ) (ws : List ℕ) (s : Inserted) (b : Bounded most i (leaves ws s)) (small : most ≤ 256) (more : i < most)
    (long : 4 * slots_for most ≤ length ws)
  where
    pub bounded_asks : Insertable ws s.table
    bounded_asks = bounded_insertable most i (leaves ws s) small more long b

    pub bounded_goes : (after : List ℕ) (r : Inserted) (e : CapabilityEntry) → leaves after r ≡ insert_all (e ∷ []) (leaves ws s)
        → Bounded most (i + 1) (leaves after r)
    bounded_goes after r e is = rw is (bounded_next most i (leaves ws s) small more long b e)

-- ---- the turns: the entries of the scratch are copied from entry i on

module _ (scratch : List ℕ) (count : ℕ) where
  pub copy_starts : (t : Table) → insert_all (scratch_entries scratch 0 (count - 0)) t ≡ insert_all (scratch_entries scratch 0 count) t
  copy_starts t = ap (λ n. insert_all (scratch_entries scratch 0 n) t) (sub-zero count)

  pub copy_goes : (i : ℕ) (e : CapabilityEntry) (t u whole : Table) → insert_all (scratch_entries scratch i (count - i)) t ≡ whole
      → i < count
      → e ≡ entry_at scratch i → u ≡ insert_all (e ∷ []) t → insert_all (scratch_entries scratch (i + 1) (count - (i + 1))) u ≡ whole
  unfolding scratch_entries insert_all
  copy_goes i e t u whole left l is next =
      let more : count - i ≡ suc (count - suc i) = omega arith in
      rw (next, is, add-one) (sym (ap (λ n. insert_all (scratch_entries scratch i n) t) more) ∙ left)

  pub copy_ends : (i : ℕ) (t whole : Table) → insert_all (scratch_entries scratch i (count - i)) t ≡ whole → count ≤ i → t ≡ whole
  unfolding scratch_entries insert_all
  copy_ends i t whole left l =
      let none : count - i ≡ 0 = omega arith in
      sym (ap (λ n. insert_all (scratch_entries scratch i n) t) none) ∙ left

pub ruleset copy_laws = (bounded_starts, bounded_asks, bounded_goes, copy_starts, copy_goes, copy_ends, rules)
