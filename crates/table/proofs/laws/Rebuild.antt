-- A rebuild: the live entries re-placed in slot order over emptied slots. Each walk for a place ends, and the table then has structure,
-- no removed mark, and exactly the entries that it had. A sound table is sound again.
use Rattle.std.proofs.Common.{◌≡◌, refl, sym, ◌∙◌, ◌↔◌, true, false, List, ℕ, suc, ◌+◌, ◌*◌, ◌^◌, ◌<◌, ◌≤◌, arith, length}
use Rattle.base.specs.Below.{one}
use Rattle.base.specs.SumLaws.{sum-zero}
use Rattle.table.specs.Slots.{is_live, is_removed, id_of, entry_at, put_entry}
use Rattle.table.specs.Walk.{steps_to_free, free_for}
use Rattle.table.specs.Insert.{slots_for, emptied, place_all, rebuilt, room_for}
use Rattle.table.specs.Sound.{Sound}
use Rattle.table.specs.declared.CapabilityEntry.{CapabilityEntry}
use Rattle.table.specs.declared.CapTable.{CapTable}
use Rattle.table.proofs.laws.Slots.{entry_length}
use Rattle.table.proofs.laws.Visits.{live_in, removed_in, free_le}
use Rattle.table.proofs.laws.Structure.{Structure, recounted, none_marked, Place, Lacks, sound_structure, structure_sound, free_place, placing_keeps, emptied_length, emptied_structure}
use Rattle.table.proofs.laws.Contents.{Holds, entry_rights, lacks_iff, held_counted, holds_taken, holds_passed, earlier_id_differs, placing_holds}
use Rattle.table.proofs.laws.LiveEntries.{live_next, free_next, live_before, each_live}
use Rattle.table.proofs.laws.Room.{room_fits, room_le, room_capacity}

-- A target of n slots filled from the slots of the source below i.
record Filled (source : List ℕ) (n i : ℕ) (target : List ℕ) : Type 0 where
  structure : Structure target n (live_in source i) 0
  holds : (x : CapabilityEntry) → Holds target n x ↔ Holds source i x
  long : length target ≡ length source

module _
    (source : List ℕ) (slots live removed n : ℕ) (st : Structure source slots live removed) (room : live ≤ n) (long : 4 * n ≤ length source)
  where
    filled_first : Filled source n 0 (emptied source n)
    filled_first =
        let empty = emptied_structure source n long in
        record {
          structure = recounted (emptied source n) n 0 0 (live_in source 0) 0 (sym (sum-zero (λ i. one (is_live source i)))) refl empty;
          holds = λ x. (
            λ h. absurd (omega (arith, held_counted (λ e. e) (emptied source n) n x h, empty.live_agrees)),
            λ h. absurd (omega (arith, h.below)),
          );
          long = emptied_length source n;
        }

    filled_more :
        (i : ℕ) (target : List ℕ) → i < slots → is_live source i ≡ true → Filled source n i target
        → Filled source n (suc i) (put_entry target (free_for target n (id_of (entry_at source i))) (entry_at source i))
    filled_more i target l lives f =
        record {
          structure =
              recounted _ n (live_in source i + 1) _ (live_in source (suc i)) 0 (sym (live_next source i lives)) (omega arith)
              (placing_keeps target n (live_in source i) 0 at_i e f.structure place fits rights lacks);
          holds = λ x.
              holds_taken (λ e. e) source i x lives (f.holds x)
              (placing_holds target n at_i e place.below place.free fits rights x);
          long = entry_length target at_i e ∙ f.long;
        }
      where
        e : CapabilityEntry
        e = entry_at source i

        at_i : ℕ
        at_i = free_for target n (id_of e)

        rights : e.rights.0 < 2 ^ 32
        rights = entry_rights source i

        fits : 4 * n ≤ length target
        fits = omega (arith, f.long)

        place : Place target n (id_of e) at_i
        place =
            free_place target n (id_of e) (live_in source i) 0 f.structure
            (omega (arith, live_before source slots i l lives, st.live_agrees))

        lacks : Lacks target n (id_of e)
        lacks =
            (lacks_iff target n (id_of e)).1
            (λ x h. earlier_id_differs (λ e. e) source slots live removed i x (λ e. refl) st l lives ((f.holds x).0 h))

    filled_same :
        (i : ℕ) (target : List ℕ) → i < slots → is_live source i ≡ false → Filled source n i target
        → Filled source n (suc i) target
    filled_same i target l free f =
        record {
          structure = recounted target n (live_in source i) 0 (live_in source (suc i)) 0 (sym (free_next source i free)) refl f.structure;
          holds = λ x. holds_passed (λ e. e) source i x free (f.holds x);
          long = f.long;
        }

    -- The table after the placings of the live entries below slot i, all of them at `slots`.
    rebuilt_filled : (i : ℕ) → i ≤ slots → Filled source n i (rebuilt source i n)
    unfolding rebuilt place_all
    rebuilt_filled i l =
        each_live (List ℕ) (λ es ws. place_all es ws n) (λ e ws. put_entry ws (free_for ws n (id_of e)) e) (λ ws. refl) (λ e es ws. refl)
        source i (Filled source n) (λ j ws u. filled_more j ws (omega arith)) (λ j ws u. filled_same j ws (omega arith))
        (emptied source n) filled_first

    -- Each placing of a rebuild: the walk for the entry of slot i, into the table that holds the entries below, ends, and visits at
    -- most one slot more than there are live and removed ones.
    module _ (i : ℕ) (l : i < slots) (lives : is_live source i ≡ true) (id : ℕ) where
      pub rebuild_walk_visits :
          steps_to_free (rebuilt source i n) n id + 1 ≤ live_in (rebuilt source i n) n + removed_in (rebuilt source i n) n + 1
      rebuild_walk_visits = omega (arith, free_le (rebuilt source i n) n id (rebuilt_filled i (omega arith)).structure.coded)

      pub rebuild_walk_ends : steps_to_free (rebuilt source i n) n id < n
      rebuild_walk_ends =
          let filled = (rebuilt_filled i (omega arith)).structure in
          omega (
            arith,
            rebuild_walk_visits,
            filled.live_agrees,
            filled.removed_agrees,
            live_before source slots i l lives,
            st.live_agrees,
          )

    pub rebuilt_length : length (rebuilt source slots n) ≡ length source
    rebuilt_length = (rebuilt_filled slots (omega arith)).long

    pub rebuilt_structure : Structure (rebuilt source slots n) n live 0
    rebuilt_structure = recounted _ n (live_in source slots) 0 live 0 st.live_agrees refl (rebuilt_filled slots (omega arith)).structure

    pub rebuilt_holds_the_same : (x : CapabilityEntry) → Holds (rebuilt source slots n) n x ↔ Holds source slots x
    rebuilt_holds_the_same = (rebuilt_filled slots (omega arith)).holds

    pub rebuilt_has_no_mark : (i : ℕ) → i < n → is_removed (rebuilt source slots n) i ≡ false
    rebuilt_has_no_mark i l = none_marked (rebuilt source slots n) n live rebuilt_structure i l

-- ---- a sound table, rebuilt with room for one entry more

module _ (most : ℕ) (ws : List ℕ) (t : CapTable) (sound : Sound most ws t) (more : t.full < most)
    (long : 4 * slots_for most ≤ length ws) where
  few : t.full ≤ room_for t.full
  few = omega (arith, room_fits t.full)

  fits : 4 * room_for t.full ≤ length ws
  fits = omega (arith, room_le most t.full more)

  pub rebuild_length : length (rebuilt ws t.slots (room_for t.full)) ≡ length ws
  rebuild_length = rebuilt_length ws t.slots t.full t.tombstones _ (sound_structure most ws t sound) few fits

  pub rebuild_structure : Structure (rebuilt ws t.slots (room_for t.full)) (room_for t.full) t.full 0
  rebuild_structure = rebuilt_structure ws t.slots t.full t.tombstones _ (sound_structure most ws t sound) few fits

  pub rebuild_holds_the_same :
      (x : CapabilityEntry) → Holds (rebuilt ws t.slots (room_for t.full)) (room_for t.full) x ↔ Holds ws t.slots x
  rebuild_holds_the_same = rebuilt_holds_the_same ws t.slots t.full t.tombstones _ (sound_structure most ws t sound) few fits

  pub rebuild_keeps_sound :
      0 < t.full
      → Sound most (rebuilt ws t.slots (room_for t.full)) (record { slots = room_for t.full; full = t.full; tombstones = 0 })
  rebuild_keeps_sound some =
      structure_sound most _ _ rebuild_structure (room_capacity most t.full more) (omega (arith, room_fits t.full)) some (omega arith)
