-- The table's functions are lent the words from the slots on, and then the space takes the counts that they answer.
use Rattle.std.proofs.Common.{◌≡◌, ℕ, ◌+◌, ◌-◌, ◌*◌, ◌<◌, List, ◌++◌, length, take, drop, set, ap, ◌∙◌, arith, length-drop, rules}
use Rattle.base.specs.Arith.{next_mono}
use Rattle.table.specs.Slots.{entry_at}
use Rattle.table.specs.Insert.{Table, Insertable, room_for, insert_new, removed_at, scratch_entries, none}
use Rattle.table.specs.Copy.{insert_all}
use Rattle.table.specs.declared.CapabilityEntry.{CapabilityEntry}
use Rattle.table.specs.declared.CapTable.{CapTable}
use Rattle.space.specs.Words.{quota_of, table_of, slot_words, with_counts, with_table, InRange}
use Rattle.space.specs.Change.{inserted_table, inserted, removed}
use Rattle.space.specs.Copy.{replacement, replaced}
use Rattle.space.proofs.Lent.{lent_rest, lent_back}

-- What is lent.
abbrev lent : List ℕ → List ℕ
lent sp = take (length sp - 8) (drop 8 sp)

-- The space once the words lent have come back.
abbrev back : List ℕ → List ℕ → List ℕ
back sp ws = take 8 sp ++ (ws ++ drop (length sp - 8) (drop 8 sp))

-- The words and counts of a table, once the space has taken them.
takes : (sp ws after : List ℕ) (r : CapTable) (moved : ℕ) (u : Table) → record { words = ws; counts = r; moved = moved } ≡ u
    → after ≡ with_counts (back sp ws) r → after ≡ with_table sp u
unfolding with_table
takes sp ws after r moved u is stored = rw (stored, lent_back, ← is)

-- ---- inserting and removing

module _ (sp : List ℕ) (t : CapTable) (counts : t ≡ table_of sp) where
  pub insertable : InRange sp → (table_of sp).full < quota_of sp → Insertable (lent sp) t
  unfolding room_for
  insertable range few =
      let long = length-drop 8 sp in
      rw (lent_rest, counts) (record {
        few_slots = range.few_slots;
        few_live = omega arith;
        few_removed = range.few_removed;
        held = omega (arith, long);
        rebuild = omega (arith, long, next_mono (2 * ((table_of sp).full + 1)) (2 * quota_of sp) (omega arith));
      })

  module _ (ws : List ℕ) (r : CapTable) (moved : ℕ) where
    module _ (e : CapabilityEntry) (is : record { words = ws; counts = r; moved = moved } ≡ insert_new (lent sp) t e) where
      pub inserts : (after : List ℕ) → after ≡ with_counts (back sp ws) r → after ≡ inserted sp e
      unfolding inserted
      inserts after = takes sp ws after r moved _ (rw (lent_rest, counts) at is)

      pub insert_moved : moved ≡ (inserted_table sp e).moved
      insert_moved = ap (λ (u : Table). u.moved) (rw (lent_rest, counts) at is)

    pub removes : (i : ℕ) (after : List ℕ) → record { words = ws; counts = r; moved = moved } ≡ removed_at (lent sp) t i
        → after ≡ with_counts (back sp ws) r → after ≡ removed sp i
    unfolding removed
    removes i after is = takes sp ws after r moved _ (rw (lent_rest, counts) at is)

pub gives : (sp : List ℕ) (i : ℕ) (e : CapabilityEntry) → e ≡ entry_at (lent sp) i → e ≡ entry_at (slot_words sp) i
gives sp i e is = rw lent_rest at is

-- ---- copying

module _ (sp scratch ws : List ℕ) (count : ℕ) (r : CapTable) (moved : ℕ)
    (is : record { words = ws; counts = r; moved = moved }
    ≡ insert_all (scratch_entries scratch 0 count) (record { words = lent sp; counts = none; moved = 0 }))
  where
    same : record { words = ws; counts = r; moved = moved } ≡ replacement sp scratch count
    unfolding replacement
    same = rw lent_rest at is

    pub replaces : (between after : List ℕ) (generation : ℕ) → between ≡ with_counts (back sp ws) r → after ≡ set between 1 generation
        → after ≡ replaced sp scratch count generation
    unfolding replaced
    replaces between after generation stored marked =
        marked ∙ ap (λ ys. set ys 1 generation) (takes sp ws between r moved _ same stored)

    pub replace_moved : moved ≡ (replacement sp scratch count).moved
    replace_moved = ap (λ (u : Table). u.moved) same

pub ruleset change_laws = (insertable, inserts, insert_moved, removes, gives, replaces, replace_moved, rules)
