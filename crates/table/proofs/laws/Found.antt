-- What a sound table holds is found: a search of its id ends at a live slot with that entry, and `got` answers it. So the new entry is
-- found after an insert, and what was there before a call and stays is found with every field as it was.
use Rattle.std.proofs.Common.{◌≡◌, refl, sym, ap, ◌∙◌, ◌≢◌, ◌↔◌, inl, inr, true, List, ℕ, ◌*◌, ◌^◌, ◌<◌, ◌≤◌, arith, length, Option, None, Some}
use Rattle.table.specs.Slots.{is_live, id_of, entry_at}
use Rattle.table.specs.Walk.{search, got_at, got}
use Rattle.table.specs.Insert.{slots_for, rebuilt, room_for, insert_new}
use Rattle.table.specs.Copy.{fresh, copied}
use Rattle.table.specs.Sound.{Sound}
use Rattle.table.specs.declared.CapabilityEntry.{CapabilityEntry}
use Rattle.table.specs.declared.CapTable.{CapTable}
use Rattle.table.proofs.laws.Contents.{Holds, held_id, lacks_iff}
use Rattle.table.proofs.laws.Copy.{copy_is_sound, copy_holds_fresh_entries}
use Rattle.table.proofs.laws.Exact.{search_at, none_absent, live_is_found}
use Rattle.table.proofs.laws.Insert.{insert_keeps_sound, insert_holds_old_and_new}
use Rattle.table.proofs.laws.Rebuild.{rebuild_keeps_sound, rebuild_holds_the_same}
use Rattle.table.proofs.laws.Structure.{Lacks}

pub record Finds (ws : List ℕ) (slots : ℕ) (x : CapabilityEntry) : Type 0 where
  pub slot : ℕ
  pub found : (search ws slots (id_of x)).found ≡ Some slot
  pub live : is_live ws slot ≡ true
  pub same : entry_at ws slot ≡ x

pub held_is_found :
    (most : ℕ) (ws : List ℕ) (t : CapTable) (x : CapabilityEntry) → Sound most ws t → Holds ws t.slots x → Finds ws t.slots x
held_is_found most ws t x sound h =
    record {
      slot = h.slot;
      found = rw (held_id ws t.slots x h) at (live_is_found most ws t sound h.slot h.below h.live);
      live = h.live;
      same = h.same;
    }

-- ---- what `got` answers

module _ (most : ℕ) (ws : List ℕ) (t : CapTable) (sound : Sound most ws t) where
  pub held_is_got : (x : CapabilityEntry) → Holds ws t.slots x → got ws t.slots (id_of x) ≡ Some x
  unfolding got
  held_is_got x h = let f = held_is_found most ws t x sound h in ap (got_at ws) f.found ∙ ap Some f.same

  pub got_exactly : (id : ℕ) (x : CapabilityEntry) → (got ws t.slots id ≡ Some x) ↔ (Holds ws t.slots x × (id_of x ≡ id))
  unfolding got
  got_exactly id x = (go (search ws t.slots id).found refl, λ (h, same). rw same at (held_is_got x h))
    where
      go : (f : Option ℕ) → (search ws t.slots id).found ≡ f → got_at ws f ≡ Some x → Holds ws t.slots x × (id_of x ≡ id)
      go (Some i) found e =
          let (l, live, same) = search_at ws t.slots id i found in
          let h : Holds ws t.slots x = record { slot = i; below = l; live = live; same = cc } in
          (h, sym (held_id ws t.slots x h) ∙ same)
      go None found e = let z : ◌≡◌ {A = ℕ} 0 1 = cc in absurd (omega arith)

  pub nothing_exactly : (id : ℕ) → (got ws t.slots id ≡ None) ↔ ((x : CapabilityEntry) → Holds ws t.slots x → id_of x ≢ id)
  unfolding got
  nothing_exactly id = (
    λ nothing x h same.
        let found : got ws t.slots id ≡ Some x = rw same at (held_is_got x h) in
        let z : ◌≡◌ {A = ℕ} 0 1 = cc in
        omega arith,
    λ none. ap (got_at ws) (none_absent ws t.slots id ((lacks_iff ws t.slots id).1 none)),
  )

-- ---- what a call leaves

module _
    (most : ℕ) (ws : List ℕ) (t : CapTable) (e : CapabilityEntry) (sound : Sound most ws t) (more : t.full < most)
    (lacks : Lacks ws t.slots (id_of e)) (rights : e.rights.0 < 2 ^ 32) (long : 4 * slots_for most ≤ length ws)
  where
    pub inserted_is_found : Finds (insert_new ws t e).words (insert_new ws t e).counts.slots e
    inserted_is_found =
        held_is_found most _ _ e (insert_keeps_sound most ws t e sound more lacks rights long)
        ((insert_holds_old_and_new most ws t e sound more lacks rights long e).1 (inr refl))

    pub others_found_after_insert :
        (x : CapabilityEntry) → Holds ws t.slots x → Finds (insert_new ws t e).words (insert_new ws t e).counts.slots x
    others_found_after_insert x h =
        held_is_found most _ _ x (insert_keeps_sound most ws t e sound more lacks rights long)
        ((insert_holds_old_and_new most ws t e sound more lacks rights long x).1 (inl h))

pub all_found_after_rebuild :
    (most : ℕ) (ws : List ℕ) (t : CapTable) → Sound most ws t → 0 < t.full → t.full < most → 4 * slots_for most ≤ length ws
    → (x : CapabilityEntry) → Holds ws t.slots x → Finds (rebuilt ws t.slots (room_for t.full)) (room_for t.full) x
all_found_after_rebuild most ws t sound some more long x h =
    held_is_found most _ _ x (rebuild_keeps_sound most ws t sound more long some) ((rebuild_holds_the_same most ws t sound more long x).1 h)

pub copies_are_found :
    (most : ℕ) (source : List ℕ) (t : CapTable) (target : List ℕ) → Sound most source t → 4 * slots_for most ≤ length target
    → (x : CapabilityEntry) → Holds source t.slots x
    → Finds (copied source t.slots target).words (copied source t.slots target).counts.slots (fresh x)
copies_are_found most source t target sound long x h =
    held_is_found most _ _ (fresh x) (copy_is_sound most source t target sound long)
    ((copy_holds_fresh_entries most source t target sound long (fresh x)).1
    (record { slot = h.slot; below = h.below; live = h.live; same = ap fresh h.same }))
