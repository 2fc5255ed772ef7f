-- Every call keeps a sound space sound.
use Rattle.std.proofs.Common.{◌≡◌, ℕ, ◌*◌, ◌^◌, ◌<◌, ◌≤◌, true, List, length, sym, refl, ap, ◌∙◌, subst, arith, length-drop, length-set, Option, None, Some}
use Rattle.base.specs.Arith.{next_mono}
use Rattle.table.specs.Slots.{is_live, id_of}
use Rattle.table.specs.Insert.{Table, slots_for}
use Rattle.table.specs.Sound.{Sound}
use Rattle.table.specs.declared.CapabilityEntry.{CapabilityEntry}
use Rattle.table.proofs.laws.Copy.{copy_is_sound, copy_length}
use Rattle.table.proofs.laws.Exact.{search_at, absent_exactly_when_none}
use Rattle.table.proofs.laws.Insert.{insert_keeps_sound, insert_length}
use Rattle.table.proofs.laws.Remove.{remove_keeps_sound, remove_length}
use Rattle.table.proofs.laws.Room.{capacity_le, slots_few}
use Rattle.table.proofs.laws.Structure.{none_sound}
use Rattle.space.specs.Words.{quota_of, table_of, slot_words, with_table, with_counts, InRange}
use Rattle.space.specs.Sound.{SpaceOf}
use Rattle.space.specs.Lookup.{exactly, counted_at, counted}
use Rattle.space.specs.Change.{inserted_table, inserted, insert_out, removed_table, removed, removed_found, removed_token, cleared, next_generation}
use Rattle.space.specs.Copy.{copied_table, copied_space}
use Rattle.space.proofs.laws.Insert.{Accepts, insert_by_cases}
use Rattle.space.proofs.laws.Lookup.{exactly_at}
use Rattle.space.proofs.laws.Uses.{uses_sound}
use Rattle.space.proofs.laws.View.{View, view, view_hit, view_miss, view_cleared, view_next, view_copied, view_table, length_table}

module _ (most : ℕ) (sp : List ℕ) (s : SpaceOf most sp) where
  pub fits : 8 ≤ length sp
  fits = omega arith

  -- The words suffice for the largest table,
  pub long : 4 * slots_for most ≤ length (slot_words sp)
  long = omega (arith, length-drop 8 sp)

  -- so for the table that there is.
  pub held : 4 * (table_of sp).slots ≤ length (slot_words sp)
  held = omega (arith, long, capacity_le most (table_of sp).slots s.sound.table.capacity)

  -- What the calls ask.
  pub in_range : InRange sp
  in_range =
      let few = capacity_le most (table_of sp).slots s.sound.table.capacity in
      let allowed = next_mono (2 * quota_of sp) (2 * most) (omega (arith, s.sound.quota)) in
      record {
        coded = s.sound.coded;
        few_allowed = omega (arith, s.sound.quota);
        few_slots = omega (arith, few, slots_few most s.range);
        few_removed = omega (arith, few, slots_few most s.range, s.sound.table.room);
        held = omega (arith, held, length-drop 8 sp);
        allowed = omega (arith, allowed);
      }

  -- A space of the same size is sound by its view.
  kept :
      (after : List ℕ) (v : View) → view after ≡ v → length after ≡ length sp → v.generation < 2 ^ 8 → v.quota ≤ most
      → Sound most v.words v.counts → SpaceOf most after
  kept after v is same coded quota table =
      record {
        sound = record {
          coded = omega (arith, ap (λ (v : View). v.generation) is);
          table = subst (λ (v : View). Sound most v.words v.counts) (sym is) table;
          quota = omega (arith, ap (λ (v : View). v.quota) is);
        };
        size = same ∙ s.size;
        range = s.range;
      }

  -- ---- the calls

  table_keeps : (t : Table) → Sound most t.words t.counts → length t.words ≡ length (slot_words sp) → SpaceOf most (with_table sp t)
  table_keeps t sound same =
      kept (with_table sp t) _ (view_table sp fits t) (omega (arith, length_table sp fits t, length-drop 8 sp)) s.sound.coded
      s.sound.quota sound

  pub inserted_keeps : (e : CapabilityEntry) → Accepts sp e → e.rights.0 < 2 ^ 32 → SpaceOf most (inserted sp e)
  unfolding inserted
  inserted_keeps e a rights =
      let lacks = (absent_exactly_when_none most (slot_words sp) (table_of sp) s.sound.table (id_of e)).0 a.absent in
      let more : (table_of sp).full < most = omega (arith, s.sound.quota) in
      table_keeps (inserted_table sp e)
      (insert_keeps_sound most (slot_words sp) (table_of sp) e s.sound.table more lacks rights long)
      (insert_length most (slot_words sp) (table_of sp) e s.sound.table more lacks rights long)

  pub insert_keeps : (e : CapabilityEntry) → e.rights.0 < 2 ^ 32 → SpaceOf most (insert_out sp e).words
  insert_keeps e rights =
      insert_by_cases sp e (λ o. SpaceOf most o.words) (λ over. s) (λ i under there. s) (λ a. inserted_keeps e a rights)

  removed_keeps : (i : ℕ) → i < (table_of sp).slots → is_live (slot_words sp) i ≡ true → SpaceOf most (removed sp i)
  unfolding removed
  removed_keeps i l live =
      table_keeps (removed_table sp i)
      (remove_keeps_sound most (slot_words sp) (table_of sp) i s.sound.table l live held)
      (remove_length most (slot_words sp) (table_of sp) i s.sound.table l live held)

  pub remove_keeps : (token : ℕ) → SpaceOf most (removed_token sp token)
  unfolding removed_token
  remove_keeps token = go (exactly sp token) refl
    where
      go : (f : Option ℕ) → exactly sp token ≡ f → SpaceOf most (removed_found sp f)
      go (Some i) e = let (l, live, same) = search_at _ _ _ i (exactly_at sp token i e).0 in removed_keeps i l live
      go None e = s

  pub lookup_keeps : (token : ℕ) → SpaceOf most (counted sp token)
  unfolding counted
  lookup_keeps token = go (exactly sp token)
    where
      go : (f : Option ℕ) → SpaceOf most (counted_at sp f)
      go (Some i) =
          kept _ _ (view_hit sp fits i) (simp length-set) s.sound.coded s.sound.quota
          (uses_sound (slot_words sp) i _ most (table_of sp) s.sound.table)
      go None = kept _ _ (view_miss sp fits) (simp length-set) s.sound.coded s.sound.quota s.sound.table

  pub clear_keeps : SpaceOf most (cleared sp)
  unfolding cleared with_counts
  clear_keeps = kept _ _ (view_cleared sp fits) (simp length-set) s.sound.coded s.sound.quota (none_sound most (slot_words sp))

  pub next_keeps : SpaceOf most (next_generation sp)
  unfolding next_generation
  next_keeps = kept _ _ (view_next sp fits) (simp length-set) (omega arith) s.sound.quota s.sound.table

-- A copy's source is any sound space, also the target itself.
pub copy_keeps : (most : ℕ) (source target : List ℕ) → SpaceOf most source → SpaceOf most target → SpaceOf most (copied_space source target)
unfolding copied_space copied_table
copy_keeps most source target s t =
    let full = long most target t in
    let copies : Table = copied_table source target in
    let same : length copies.words ≡ length (slot_words target) =
    copy_length most (slot_words source) (table_of source) (slot_words target) s.sound.table full in
    kept most target t _ _ (view_copied source target (fits most target t))
    (simp length-set (omega (arith, length_table target (fits most target t) copies, length-drop 8 target)))
    s.sound.coded
    t.sound.quota
    (copy_is_sound most (slot_words source) (table_of source) (slot_words target) s.sound.table full)
