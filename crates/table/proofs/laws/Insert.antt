-- Inserting an entry whose id is not there, in a table that has fewer than `most`: the walk for its place is short, the table is sound
-- again, and it holds exactly what it held and the new entry.
use Rattle.std.proofs.Common.{◌≡◌, refl, ap, ◌∙◌, ◌↔◌, ◌⊎◌, inl, inr, ⊎_elim, Bool, true, false, List, ℕ, ◌+◌, ◌*◌, ◌^◌, ◌<◌, ◌≤◌, arith, ltb-false, length}
use Rattle.std.proofs.Math.Logic.Iff
use Rattle.table.specs.Slots.{id_of}
use Rattle.table.specs.Walk.{steps_to_free, free_for}
use Rattle.table.specs.Insert.{slots_for, Table, crowded, made_room, placed, insert_new}
use Rattle.table.specs.Sound.{Capacity, Sound}
use Rattle.table.specs.declared.CapabilityEntry.{CapabilityEntry}
use Rattle.table.specs.declared.CapTable.{CapTable}
use Rattle.table.proofs.laws.Contents.{Holds, lacks_iff, placing_holds}
use Rattle.table.proofs.laws.LiveEntries.{live_count}
use Rattle.table.proofs.laws.Rebuild.{rebuild_length, rebuild_structure, rebuild_holds_the_same}
use Rattle.table.proofs.laws.Room.{capacity_le, room_fits, room_capacity}
use Rattle.table.proofs.laws.Slots.{entry_length}
use Rattle.table.proofs.laws.Visits.{live_in, removed_in, free_le}
use Rattle.table.proofs.laws.Structure.{Structure, Lacks, Place, sound_structure, structure_sound, free_ends, free_place, placing_keeps}

-- The table r is t with room for one more entry.
record Roomy (most : ℕ) (ws : List ℕ) (t : CapTable) (r : Table) : Type 0 where
  structure : Structure r.words r.counts.slots r.counts.full r.counts.tombstones
  capacity : Capacity most r.counts.slots
  room : 4 * (r.counts.full + r.counts.tombstones + 1) ≤ 3 * r.counts.slots
  full : r.counts.full ≡ t.full
  long : length r.words ≡ length ws
  holds : (x : CapabilityEntry) → Holds r.words r.counts.slots x ↔ Holds ws t.slots x

module _ (most : ℕ) (ws : List ℕ) (t : CapTable) (sound : Sound most ws t) (more : t.full < most)
    (long : 4 * slots_for most ≤ length ws) where
  made_roomy : Roomy most ws t (made_room ws t)
  unfolding made_room crowded
  made_roomy = go (crowded t) refl
    where
      go : (b : Bool) → crowded t ≡ b → Roomy most ws t (made_room ws t)
      go true tight = rw (tight, live_count most ws t sound) (record {
        structure = rebuild_structure most ws t sound more long;
        capacity = room_capacity most t.full more;
        room = omega (arith, room_fits t.full);
        full = refl;
        long = rebuild_length most ws t sound more long;
        holds = rebuild_holds_the_same most ws t sound more long;
      })
      go false spare = rw spare (record {
        structure = sound_structure most ws t sound;
        capacity = sound.capacity;
        room = ltb-false _ _ spare;
        full = refl;
        long = refl;
        holds = λ x. Iff.rfl;
      })

  -- The walk for the new entry's place: it ends, and visits at most one slot more than the live and removed entries.
  module _ (id : ℕ) where
    pub insert_walk_ends : steps_to_free (made_room ws t).words (made_room ws t).counts.slots id < (made_room ws t).counts.slots
    insert_walk_ends = free_ends _ _ id _ _ made_roomy.structure (omega (arith, made_roomy.room))

    pub insert_walk_visits :
        steps_to_free (made_room ws t).words (made_room ws t).counts.slots id + 1
        ≤ live_in (made_room ws t).words (made_room ws t).counts.slots + removed_in (made_room ws t).words (made_room ws t).counts.slots + 1
    insert_walk_visits =
        omega (arith, free_le (made_room ws t).words (made_room ws t).counts.slots id made_roomy.structure.coded)

module _
    (most : ℕ) (ws : List ℕ) (t : CapTable) (e : CapabilityEntry) (sound : Sound most ws t) (more : t.full < most)
    (lacks : Lacks ws t.slots (id_of e)) (rights : e.rights.0 < 2 ^ 32) (long : 4 * slots_for most ≤ length ws)
  where
    module _ (r : Table) (roomy : Roomy most ws t r) where
      place : Place r.words r.counts.slots (id_of e) (free_for r.words r.counts.slots (id_of e))
      place =
          free_place r.words r.counts.slots (id_of e) r.counts.full r.counts.tombstones roomy.structure
          (omega (arith, roomy.room))

      fits : 4 * r.counts.slots ≤ length r.words
      fits = omega (arith, capacity_le most r.counts.slots roomy.capacity, roomy.long)

      still_lacks : Lacks r.words r.counts.slots (id_of e)
      still_lacks =
          (lacks_iff r.words r.counts.slots (id_of e)).1
          (λ x h. (lacks_iff ws t.slots (id_of e)).0 lacks x ((roomy.holds x).0 h))

      placed_sound : Sound most (placed r e).words (placed r e).counts
      unfolding placed
      placed_sound =
          structure_sound most _ _
          (placing_keeps r.words r.counts.slots r.counts.full r.counts.tombstones _ e
          roomy.structure place fits rights still_lacks)
          roomy.capacity (omega (arith, roomy.room)) (omega arith) (omega (arith, roomy.full))

      placed_holds : (x : CapabilityEntry) → Holds (placed r e).words (placed r e).counts.slots x ↔ (Holds ws t.slots x ⊎ (x ≡ e))
      unfolding placed
      placed_holds x =
          let adds = placing_holds r.words r.counts.slots _ e place.below place.free fits rights x in
          let same = roomy.holds x in
          (λ h. ⊎_elim (λ h. inl (same.0 h)) inr (adds.0 h), λ h. adds.1 (⊎_elim (λ h. inl (same.1 h)) inr h))

    pub insert_keeps_sound : Sound most (insert_new ws t e).words (insert_new ws t e).counts
    unfolding insert_new
    insert_keeps_sound = placed_sound (made_room ws t) (made_roomy most ws t sound more long)

    pub insert_holds_old_and_new :
        (x : CapabilityEntry) → Holds (insert_new ws t e).words (insert_new ws t e).counts.slots x ↔ (Holds ws t.slots x ⊎ (x ≡ e))
    unfolding insert_new
    insert_holds_old_and_new = placed_holds (made_room ws t) (made_roomy most ws t sound more long)

    pub insert_full : (insert_new ws t e).counts.full ≡ t.full + 1
    unfolding insert_new placed
    insert_full = ap (λ n. n + 1) (made_roomy most ws t sound more long).full

    pub insert_length : length (insert_new ws t e).words ≡ length ws
    unfolding insert_new placed
    insert_length = entry_length _ _ e ∙ (made_roomy most ws t sound more long).long
