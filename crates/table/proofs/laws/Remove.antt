-- Removing the entry of a live slot: the table is sound again, of 0 slots when the last entry went, and holds exactly what it held but
-- the entry removed, whose id is then absent.
use Rattle.std.proofs.Common.{◌≡◌, refl, sym, ap, ◌∙◌, ◌↔◌, ◌≢◌, Bool, true, false, List, ℕ, ◌+◌, ◌-◌, ◌*◌, ◌<◌, ◌≤◌, arith, ltb-true, ltb-false, ltb, length, None}
use Rattle.table.specs.Slots.{is_live, id_at, entry_at, put_mark}
use Rattle.table.specs.Walk.{search}
use Rattle.table.specs.Insert.{Table, removed_at}
use Rattle.table.specs.Sound.{Sound}
use Rattle.table.specs.declared.CapabilityEntry.{CapabilityEntry}
use Rattle.table.specs.declared.CapTable.{CapTable}
use Rattle.table.proofs.laws.Contents.{Holds, held_id, lacks_iff, held_counted, marking_holds}
use Rattle.table.proofs.laws.Exact.{none_absent}
use Rattle.table.proofs.laws.Slots.{mark_length}
use Rattle.table.proofs.laws.Structure.{Structure, sound_structure, structure_sound, none_sound, marking_keeps}

-- The table u is t without the entry of slot i.
record Without (most : ℕ) (ws : List ℕ) (t : CapTable) (i : ℕ) (u : Table) : Type 0 where
  sound : Sound most u.words u.counts
  full : u.counts.full ≡ t.full - 1
  holds : (x : CapabilityEntry) → Holds u.words u.counts.slots x ↔ (Holds ws t.slots x × (x ≢ entry_at ws i))

module _
    (most : ℕ) (ws : List ℕ) (t : CapTable) (i : ℕ) (sound : Sound most ws t) (l : i < t.slots) (lives : is_live ws i ≡ true)
    (long : 4 * t.slots ≤ length ws)
  where
    removed_without : Without most ws t i (removed_at ws t i)
    unfolding removed_at
    removed_without = go (ltb 1 t.full) refl
      where
        st : Structure ws t.slots t.full t.tombstones
        st = sound_structure most ws t sound

        marked : Structure (put_mark ws i) t.slots (t.full - 1) (t.tombstones + 1)
        marked = marking_keeps ws t.slots t.full t.tombstones i st l lives long

        stays : (x : CapabilityEntry) → Holds (put_mark ws i) t.slots x ↔ (Holds ws t.slots x × (x ≢ entry_at ws i))
        stays = marking_holds ws t.slots t.full t.tombstones i st l lives long

        nothing_left : t.full ≤ 1 → (x : CapabilityEntry) → Holds (put_mark ws i) t.slots x → ⊥
        nothing_left last x h = omega (arith, held_counted (λ e. e) (put_mark ws i) t.slots x h, marked.live_agrees)

        go : (b : Bool) → ltb 1 t.full ≡ b → Without most ws t i (removed_at ws t i)
        go true b =
            let more : 1 < t.full = ltb-true 1 t.full b in
            rw (lives, b) (record {
              sound =
                  structure_sound most (put_mark ws i) _ marked sound.capacity (omega (arith, sound.room)) (omega arith)
                  (omega (arith, sound.within));
              full = refl;
              holds = stays;
            })
        go false b =
            let last : t.full ≤ 1 = ltb-false 1 t.full b in
            rw (lives, b) (record {
              sound = none_sound most (put_mark ws i);
              full = omega arith;
              holds = λ x. (λ h. absurd (omega (arith, h.below)), λ h. absurd (nothing_left last x ((stays x).1 h)));
            })

    pub remove_keeps_sound : Sound most (removed_at ws t i).words (removed_at ws t i).counts
    remove_keeps_sound = removed_without.sound

    pub remove_holds_all_others :
        (x : CapabilityEntry)
        → Holds (removed_at ws t i).words (removed_at ws t i).counts.slots x ↔ (Holds ws t.slots x × (x ≢ entry_at ws i))
    remove_holds_all_others = removed_without.holds

    pub remove_full : (removed_at ws t i).counts.full ≡ t.full - 1
    remove_full = removed_without.full

    pub remove_length : length (removed_at ws t i).words ≡ length ws
    unfolding removed_at
    remove_length = rw lives (mark_length ws i)

    pub removed_is_absent : (search (removed_at ws t i).words (removed_at ws t i).counts.slots (id_at ws i)).found ≡ None
    removed_is_absent =
        none_absent _ _ (id_at ws i)
        ((lacks_iff _ _ (id_at ws i)).1
        (λ x h same.
        let (old, other) = (remove_holds_all_others x).0 h in
        let at_i : old.slot ≡ i = sound.differ old.slot i old.below l old.live lives (held_id ws t.slots x old ∙ same) in
        other (sym old.same ∙ ap (entry_at ws) at_i)))
