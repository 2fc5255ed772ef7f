-- The two ways of an insert: a crowded table is rebuilt first, any other has room.
use Rattle.std.proofs.Common.{◌≡◌, sym, ap, ◌∙◌, Bool, true, false, List, [], ◌∷◌, ℕ, ◌+◌, ◌*◌, ◌<◌, add-zero, arith, rules, ltb-false}
use Rattle.table.specs.Insert.{Table, leaves, crowded, enlarged, made_room, placed, insert_new}
use Rattle.table.specs.Copy.{fresh, insert_all}
use Rattle.table.specs.declared.CapTable.{CapTable}
use Rattle.table.specs.declared.CapabilityEntry.{CapabilityEntry}
use Rattle.table.specs.declared.Inserted.{Inserted}

module _ (ws : List ℕ) (t : CapTable) (b : Bool) (test : b ≡ crowded t) where
  pub has_room : b ≡ false → 0 < t.slots
  unfolding crowded
  has_room no' = omega (arith, ltb-false (3 * t.slots) (4 * (t.full + t.tombstones + 1)) (sym test ∙ no'))

  made : b ≡ true → made_room ws t ≡ enlarged ws t
  unfolding made_room
  made yes' = rw (← test, yes')

  kept : b ≡ false → made_room ws t ≡ record { words = ws; counts = t; moved = 0 }
  unfolding made_room
  kept no' = rw (← test, no')

  module _ (e : CapabilityEntry) (end : Table) where
    pub inserts_enlarged : (room : Table) → b ≡ true → room ≡ enlarged ws t → end ≡ placed room e → end ≡ insert_new ws t e
    unfolding insert_new
    inserts_enlarged room yes' r p = p ∙ ap (λ room. placed room e) (r ∙ sym (made yes'))

    pub inserts_placed : b ≡ false → end ≡ placed (record { words = ws; counts = t; moved = 0 }) e → end ≡ insert_new ws t e
    unfolding insert_new
    inserts_placed no' p = p ∙ ap (λ room. placed room e) (sym (kept no'))

pub ruleset insert_laws = (has_room, inserts_enlarged, inserts_placed, rules)

-- ---- the same for an entry of a copy, with what was moved before

-- A table whose moves come after m others.
after : ℕ → Table → Table
after m t = record { words = t.words; counts = t.counts; moved = m + t.moved }

module _ (ws end : List ℕ) (s r : Inserted) (e : CapabilityEntry) (b : Bool) (test : b ≡ crowded s.table) where
  copies : (room : Table) → room ≡ made_room ws s.table → leaves end r ≡ placed (after s.moved room) (fresh e)
      → leaves end r ≡ insert_all (e ∷ []) (leaves ws s)
  unfolding insert_all insert_new placed after
  copies room is p = p ∙ ap (λ room. placed (after s.moved room) (fresh e)) is

  pub copies_enlarged : (mid : List ℕ) (room : Inserted) → b ≡ true → leaves mid room ≡ enlarged ws s.table
      → leaves end r ≡ placed (record { words = mid; counts = room.table; moved = s.moved + room.moved }) (fresh e)
      → leaves end r ≡ insert_all (e ∷ []) (leaves ws s)
  unfolding after
  copies_enlarged mid room yes' is = copies (leaves mid room) (is ∙ sym (made ws s.table b test yes'))

  pub copies_placed : b ≡ false → leaves end r ≡ placed (leaves ws s) (fresh e) → leaves end r ≡ insert_all (e ∷ []) (leaves ws s)
  unfolding after
  copies_placed no' p =
      copies (record { words = ws; counts = s.table; moved = 0 }) (sym (kept ws s.table b test no')) (rw add-zero p)

pub ruleset copy_entry_laws = (has_room, copies_enlarged, copies_placed, rules)
