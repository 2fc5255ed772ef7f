-- Copying a sound table into other words: the target is sound and holds exactly the source's entries with uses zeroed, and its inserts
-- paid for their moves. The code copies by gathering the source's live entries into a scratch and inserting those.
use Rattle.std.proofs.Common.{◌≡◌, refl, sym, ap, ◌∙◌, ◌↔◌, true, false, List, ℕ, suc, ◌+◌, ◌*◌, ◌^◌, ◌<◌, ◌≤◌, arith, length}
use Rattle.base.specs.Below.{one}
use Rattle.base.specs.SumLaws.{sum-zero}
use Rattle.table.specs.Slots.{is_live, id_of, entry_at}
use Rattle.table.specs.Insert.{slots_for, Table, holds, gathered, scratch_entries, insert_new, none}
use Rattle.table.specs.Copy.{fresh, insert_all, copied}
use Rattle.table.specs.Sound.{Sound}
use Rattle.table.specs.declared.CapabilityEntry.{CapabilityEntry}
use Rattle.table.specs.declared.CapTable.{CapTable}
use Rattle.table.proofs.laws.Contents.{HoldsAs, Holds, entry_rights, lacks_iff, holds_taken, holds_passed, earlier_id_differs}
use Rattle.table.proofs.laws.Insert.{insert_keeps_sound, insert_holds_old_and_new, insert_full, insert_length}
use Rattle.table.proofs.laws.LiveEntries.{live_next, free_next, live_before, each_live}
use Rattle.table.proofs.laws.Potential.{potential, none_pays, insert_pays}
use Rattle.table.proofs.laws.Scratch.{gathered_live}
use Rattle.table.proofs.laws.Structure.{Lacks, sound_structure, none_sound}
use Rattle.table.proofs.laws.Visits.{live_in}

-- The table u holds the copies of what the source has below slot i.
pub record Copying (most : ℕ) (source target : List ℕ) (i : ℕ) (u : Table) : Type 0 where
  pub sound : Sound most u.words u.counts
  pub full : u.counts.full ≡ live_in source i
  pub holds : (x : CapabilityEntry) → Holds u.words u.counts.slots x ↔ HoldsAs fresh source i x
  pub long : length u.words ≡ length target
  pub paid : u.moved + potential u.counts ≤ 3 * live_in source i

-- One entry copied.
abbrev pub copy_one : CapabilityEntry → Table → Table
copy_one e u =
    let v = insert_new u.words u.counts (fresh e) in
    record { words = v.words; counts = v.counts; moved = u.moved + v.moved }

module _
    (most : ℕ) (source : List ℕ) (t : CapTable) (target : List ℕ) (sound : Sound most source t) (long : 4 * slots_for most ≤ length target)
  where
    pub copying_first : Copying most source target 0 (record { words = target; counts = none; moved = 0 })
    copying_first =
        let zero_live = sum-zero (λ i. one (is_live source i)) in
        record {
          sound = none_sound most target;
          full = sym zero_live;
          holds = λ x. (λ h. absurd (omega (arith, h.below)), λ h. absurd (omega (arith, h.below)));
          long = refl;
          paid = omega (arith, none_pays);
        }

    -- The table has room for the entry of the next live slot,
    pub copying_room :
        (i : ℕ) (u : Table) → i < t.slots → is_live source i ≡ true → Copying most source target i u → u.counts.full < most
    copying_room i u l live c = omega (arith, c.full, live_before source t.slots i l live, sound.live_agrees, sound.within)

    -- and takes it.
    pub copying_more :
        (i : ℕ) (u : Table) → i < t.slots → is_live source i ≡ true → Copying most source target i u
        → Copying most source target (suc i) (copy_one (entry_at source i) u)
    copying_more i u l live c =
        record {
          sound = insert_keeps_sound most u.words u.counts e c.sound more lacks rights fits;
          full = insert_full most u.words u.counts e c.sound more lacks rights fits
              ∙ omega (arith, c.full, live_next source i live);
          holds = λ x.
              holds_taken fresh source i x live (c.holds x)
              (insert_holds_old_and_new most u.words u.counts e c.sound more lacks rights fits x);
          long = insert_length most u.words u.counts e c.sound more lacks rights fits ∙ c.long;
          paid = omega (arith, c.paid, insert_pays most u.words u.counts e c.sound, live_next source i live);
        }
      where
        e : CapabilityEntry
        e = fresh (entry_at source i)

        rights : e.rights.0 < 2 ^ 32
        rights = entry_rights source i

        more : u.counts.full < most
        more = copying_room i u l live c

        lacks : Lacks u.words u.counts.slots (id_of e)
        lacks =
            (lacks_iff u.words u.counts.slots (id_of e)).1
            (λ x h.
            earlier_id_differs fresh source t.slots t.full t.tombstones i x (λ e. refl)
            (sound_structure most source t sound) l live ((c.holds x).0 h))

        fits : 4 * slots_for most ≤ length u.words
        fits = omega (arith, c.long)

    pub copying_same :
        (i : ℕ) (u : Table) → i < t.slots → is_live source i ≡ false → Copying most source target i u
        → Copying most source target (suc i) u
    copying_same i u l free c =
        record {
          sound = c.sound;
          full = c.full ∙ sym (free_next source i free);
          holds = λ x. holds_passed fresh source i x free (c.holds x);
          long = c.long;
          paid = omega (arith, c.paid, free_next source i free);
        }

    copied_all : Copying most source target t.slots (copied source t.slots target)
    unfolding copied insert_all
    copied_all =
        each_live Table insert_all copy_one (λ u. refl) (λ e es u. refl) source t.slots (Copying most source target) copying_more
        copying_same
        (record { words = target; counts = none; moved = 0 })
        copying_first

    pub copy_is_sound : Sound most (copied source t.slots target).words (copied source t.slots target).counts
    copy_is_sound = copied_all.sound

    pub copy_holds_fresh_entries :
        (x : CapabilityEntry)
        → Holds (copied source t.slots target).words (copied source t.slots target).counts.slots x
        ↔ HoldsAs fresh source t.slots x
    copy_holds_fresh_entries = copied_all.holds

    pub copy_length : length (copied source t.slots target).words ≡ length target
    copy_length = copied_all.long

    pub copy_pays : (copied source t.slots target).moved + potential (copied source t.slots target).counts ≤ 3 * t.full
    copy_pays = omega (arith, copied_all.paid, sound.live_agrees)

-- What was gathered from a table's words and then inserted is a copy of that table.
pub gathered_copied :
    (source target kept zeros : List ℕ) (slots count : ℕ) → 4 * slots ≤ length zeros
    → holds kept count ≡ gathered source 0 slots (holds zeros 0)
    → insert_all (scratch_entries kept 0 count) (record { words = target; counts = none; moved = 0 }) ≡ copied source slots target
unfolding copied
gathered_copied source target kept zeros slots count fits filled =
    ap (λ es. insert_all es (record { words = target; counts = none; moved = 0 })) (gathered_live source kept zeros slots count fits filled)
