-- The structure of a table: what its slots keep between placings, also those of a rebuild, when the rules about room and capacity
-- wait. An entry of an id that is not live may be placed, a live slot may be marked removed, and the structure stays.
use Rattle.std.proofs.Common.{◌≡◌, refl, sym, ap, ◌∙◌, ◌≢◌, Bool, true, false, not, List, ℕ, zero, suc, ◌+◌, ◌-◌, ◌*◌, ◌^◌, ◌<◌, ◌≤◌, arith, eqb-true, eqb, length, length-set}
use Rattle.std.proofs.Math.Decide.{ℕ_discrete}
use Rattle.std.proofs.Math.Logic.{by_cases}
use Rattle.std.proofs.lemmas.Bool.{not-true, not-false}
use Rattle.base.specs.Below.{one}
use Rattle.base.specs.FirstLaws.{first_passes, first_before}
use Rattle.base.specs.SumLaws.{sum-zero, sum_const_zero, sum_positive, sum_update}
use Rattle.table.specs.Slots.{kind_at, is_empty, is_removed, is_live, id_at, id_of, put_entry, put_mark}
use Rattle.table.specs.Walk.{walk, steps_to_free, free_for}
use Rattle.table.specs.Insert.{none, emptied}
use Rattle.table.specs.Sound.{Capacity, Met, Sound}
use Rattle.table.specs.declared.CapabilityEntry.{CapabilityEntry}
use Rattle.table.specs.declared.CapTable.{CapTable}
use Rattle.table.proofs.laws.Slots.{SameSlot, same_kind, same_live, same_empty, same_removed, same_id, entry_others, entry_id, entry_kind, entry_live, entry_not_empty, entry_not_removed, mark_others, mark_id, mark_kind, mark_removed, mark_not_live, mark_not_empty, tag_kind, tag_others}
use Rattle.table.proofs.laws.Walks.{walk_lt}
use Rattle.table.proofs.laws.Exact.{Differ, AllMet}
use Rattle.table.proofs.laws.Visits.{Coded, live_in, removed_in, free_le}

pub record Structure (ws : List ℕ) (slots live removed : ℕ) : Type 0 where
  pub coded : Coded ws slots
  pub live_agrees : live_in ws slots ≡ live
  pub removed_agrees : removed_in ws slots ≡ removed
  pub differ : Differ ws slots
  pub met : AllMet ws slots

-- The same counts, otherwise put.
pub recounted :
    (ws : List ℕ) (slots live removed live' removed' : ℕ) → live ≡ live' → removed ≡ removed' → Structure ws slots live removed
    → Structure ws slots live' removed'
recounted ws slots live removed live' removed' e r st =
    record {
      coded = st.coded;
      live_agrees = st.live_agrees ∙ e;
      removed_agrees = st.removed_agrees ∙ r;
      differ = st.differ;
      met = st.met;
    }

none_counted : (b : Bool) → one b ≤ 0 → b ≡ false
none_counted true l = absurd (omega arith)
none_counted false l = refl

-- Where no removed entry is counted, no slot has a removed mark.
pub none_marked : (ws : List ℕ) (slots live : ℕ) → Structure ws slots live 0 → (i : ℕ) → i < slots → is_removed ws i ≡ false
none_marked ws slots live st i l =
    none_counted (is_removed ws i) (omega (arith, sum_positive (λ i. one (is_removed ws i)) slots i l, st.removed_agrees))

-- No live slot has the id.
abbrev pub Lacks : List ℕ → ℕ → ℕ → Type 0
Lacks ws slots id = (i : ℕ) → i < slots → is_live ws i ≡ true → id_at ws i ≢ id

-- ---- a sound table has structure, and with the rest of the rules a structure is sound

module _ (most : ℕ) (ws : List ℕ) (t : CapTable) where
  pub sound_structure : Sound most ws t → Structure ws t.slots t.full t.tombstones
  sound_structure s = search

  pub structure_sound :
      Structure ws t.slots t.full t.tombstones → Capacity most t.slots → 4 * (t.full + t.tombstones) ≤ 3 * t.slots
      → 0 < t.full → t.full ≤ most → Sound most ws t
  structure_sound st capacity room used within = let unused : t.full ≡ 0 → t.slots ≡ 0 = λ e. absurd (omega arith) in search

pub none_sound : (most : ℕ) (ws : List ℕ) → Sound most ws none
none_sound most ws =
    record {
      coded = λ i l. absurd (omega arith);
      capacity = Capacity.no_slots refl;
      live_agrees = sum-zero (λ i. one (is_live ws i));
      removed_agrees = sum-zero (λ i. one (is_removed ws i));
      room = omega arith;
      unused = λ e. e;
      within = omega arith;
      differ = λ i j l. absurd (omega arith);
      met = λ i l. absurd (omega arith);
    }

-- ---- one slot changes

module _ (ws vs : List ℕ) (slots i : ℕ) (others : (j : ℕ) → j ≢ i → SameSlot ws vs j) where
  live_changes : i < slots → live_in vs slots + one (is_live ws i) ≡ live_in ws slots + one (is_live vs i)
  live_changes l =
      sum_update (λ j. one (is_live ws j)) (λ j. one (is_live vs j)) slots i l (λ j u d. ap one (same_live ws vs j (others j d)))

  removed_changes : i < slots → removed_in vs slots + one (is_removed ws i) ≡ removed_in ws slots + one (is_removed vs i)
  removed_changes l =
      sum_update (λ j. one (is_removed ws j)) (λ j. one (is_removed vs j)) slots i l (λ j u d. ap one (same_removed ws vs j (others j d)))

  coded_stays : kind_at vs i ≤ 2 → Coded ws slots → Coded vs slots
  coded_stays here coded j l = by_cases (ℕ_discrete j i) (λ e. rw e here) (λ d. rw (same_kind ws vs j (others j d)) (coded j l))

  -- Walks go on past slot i as they did.
  passes_stay : is_empty vs i ≡ false → (j : ℕ) → is_empty ws j ≡ false → is_empty vs j ≡ false
  passes_stay here j old = by_cases (ℕ_discrete j i) (λ e. rw e here) (λ d. same_empty ws vs j (others j d) ∙ old)

  met_stays : is_empty vs i ≡ false → (j : ℕ) → id_at vs j ≡ id_at ws j → Met ws slots j → Met vs slots j
  met_stays here j id m =
      record {
        steps = m.steps;
        within = m.within;
        there = rw id m.there;
        before = λ s l. rw id (passes_stay here (walk (id_at ws j) slots s) (m.before s l));
      }

-- ---- placing

-- Slot i is where an entry of the id may be placed: not live, and met on the id's walk past slots that are not empty.
pub record Place (ws : List ℕ) (slots id i : ℕ) : Type 0 where
  pub below : i < slots
  pub free : is_live ws i ≡ false
  pub steps : ℕ
  pub within : steps < slots
  pub there : walk id slots steps ≡ i
  pub before : (s : ℕ) → s < steps → is_empty ws (walk id slots s) ≡ false

live_not_empty : (ws : List ℕ) (i : ℕ) → is_live ws i ≡ true → is_empty ws i ≡ false
live_not_empty ws i l = rw (eqb-true (kind_at ws i) 2 l)

live_not_removed : (ws : List ℕ) (i : ℕ) → is_live ws i ≡ true → is_removed ws i ≡ false
live_not_removed ws i l = rw (eqb-true (kind_at ws i) 2 l)

module _ (ws : List ℕ) (slots id live removed : ℕ) (st : Structure ws slots live removed) where
  -- The walk for a free place visits at most one slot more than the live and removed entries,
  free_visits : steps_to_free ws slots id + 1 ≤ live + removed + 1
  free_visits = omega (arith, free_le ws slots id st.coded)

  module _ (space : live + removed < slots) where
    -- so while a slot is empty it ends,
    pub free_ends : steps_to_free ws slots id < slots
    free_ends = omega (arith, free_visits)

    -- and the first slot not live is such a place.
    pub free_place : Place ws slots id (free_for ws slots id)
    unfolding free_for steps_to_free
    free_place =
        let unfit : ℕ → Bool = λ s. not (is_live ws (walk id slots s)) in
        record {
          below = walk_lt id slots _ (omega arith);
          free = not-true (is_live ws (free_for ws slots id)) (first_passes unfit slots free_ends);
          steps = steps_to_free ws slots id;
          within = free_ends;
          there = refl;
          before = λ s l. live_not_empty ws (walk id slots s) (not-false (is_live ws (walk id slots s)) (first_before unfit slots s l));
        }

module _
    (ws : List ℕ) (slots live removed i : ℕ) (e : CapabilityEntry) (st : Structure ws slots live removed)
    (place : Place ws slots (id_of e) i)
    (long : 4 * slots ≤ length ws) (rights : e.rights.0 < 2 ^ 32) (lacks : Lacks ws slots (id_of e))
  where
    pub placing_keeps : Structure (put_entry ws i e) slots (live + 1) (removed - one (is_removed ws i))
    placing_keeps =
        record {
          coded = coded_stays ws vs slots i others (omega (arith, entry_kind ws i e fits rights)) st.coded;
          live_agrees =
              omega (arith, live_changes ws vs slots i others place.below, ap one place.free, ap one (entry_live ws i e fits rights));
          removed_agrees = omega (
            arith,
            removed_changes ws vs slots i others place.below,
            ap one (entry_not_removed ws i e fits rights),
          );
          differ = λ j k lj lk hj hk same.
              by_cases (ℕ_discrete j i)
              (λ ej. by_cases (ℕ_discrete k i) (λ ek. omega arith) (λ dk. absurd (old_id k lk dk hk (sym same ∙ rw ej here))))
              (λ dj.
              by_cases (ℕ_discrete k i)
              (λ ek. absurd (old_id j lj dj hj (same ∙ rw ek here)))
              (λ dk. st.differ j k lj lk (old j dj hj) (old k dk hk) (sym (stays j dj) ∙ same ∙ stays k dk)));
          met = λ j l h.
              by_cases (ℕ_discrete j i)
              (λ ej. rw ej new)
              (λ dj. met_stays ws vs slots i others full j (stays j dj) (st.met j l (old j dj h)));
        }
      where
        fits : 4 * i + 3 < length ws
        fits = omega (arith, place.below)

        vs : List ℕ
        vs = put_entry ws i e

        others : (j : ℕ) → j ≢ i → SameSlot ws vs j
        others j d = entry_others ws i j e d

        stays : (j : ℕ) → j ≢ i → id_at vs j ≡ id_at ws j
        stays j d = same_id ws vs j (others j d)

        here : id_at vs i ≡ id_of e
        here = entry_id ws i e fits

        full : is_empty vs i ≡ false
        full = entry_not_empty ws i e fits rights

        old : (j : ℕ) → j ≢ i → is_live vs j ≡ true → is_live ws j ≡ true
        old j d h = sym (same_live ws vs j (others j d)) ∙ h

        old_id : (j : ℕ) → j < slots → j ≢ i → is_live vs j ≡ true → id_at vs j ≢ id_of e
        old_id j l d h same = lacks j l (old j d h) (sym (stays j d) ∙ same)

        new : Met vs slots i
        new =
            record {
              steps = place.steps;
              within = place.within;
              there = rw here place.there;
              before = λ s l. rw here (passes_stay ws vs slots i others full (walk (id_of e) slots s) (place.before s l));
            }

-- ---- marking a live slot removed

module _
    (ws : List ℕ) (slots live removed i : ℕ) (st : Structure ws slots live removed) (below : i < slots) (lives : is_live ws i ≡ true)
    (long : 4 * slots ≤ length ws)
  where
    pub marking_keeps : Structure (put_mark ws i) slots (live - 1) (removed + 1)
    marking_keeps =
        record {
          coded = coded_stays ws vs slots i others (omega (arith, mark_kind ws i fits)) st.coded;
          live_agrees = omega (arith, live_changes ws vs slots i others below, ap one lives, ap one (mark_not_live ws i fits));
          removed_agrees =
              omega (
                arith,
                removed_changes ws vs slots i others below,
                ap one (live_not_removed ws i lives),
                ap one (mark_removed ws i fits),
              );
          differ = λ j k lj lk hj hk same. st.differ j k lj lk (old j hj) (old k hk) (sym (mark_id ws i j) ∙ same ∙ mark_id ws i k);
          met = λ j l h. met_stays ws vs slots i others (mark_not_empty ws i fits) j (mark_id ws i j) (st.met j l (old j h));
        }
      where
        fits : 4 * i + 3 < length ws
        fits = omega arith

        vs : List ℕ
        vs = put_mark ws i

        others : (j : ℕ) → j ≢ i → SameSlot ws vs j
        others j d = mark_others ws i j d

        old : (j : ℕ) → is_live vs j ≡ true → is_live ws j ≡ true
        old j h = by_cases (ℕ_discrete j i) (λ e. rw e lives) (λ d. sym (same_live ws vs j (others j d)) ∙ h)

-- ---- emptying

pub emptied_length : (ws : List ℕ) (n : ℕ) → length (emptied ws n) ≡ length ws
unfolding emptied
emptied_length ws zero = refl
emptied_length ws (suc n) = length-set (emptied ws n) (4 * n + 3) 0 ∙ emptied_length ws n

emptied_kind : (ws : List ℕ) (n j : ℕ) → 4 * n ≤ length ws → j < n → kind_at (emptied ws n) j ≡ 0
unfolding emptied
emptied_kind ws zero j long l = absurd (omega arith)
emptied_kind ws (suc n) j long l =
    by_cases (ℕ_discrete j n)
    (λ e. rw e (tag_kind (emptied ws n) n 0 (omega (arith, emptied_length ws n))))
    (λ d. same_kind (emptied ws n) _ j (tag_others (emptied ws n) n j 0 d) ∙ emptied_kind ws n j (omega arith) (omega arith))

pub emptied_structure : (ws : List ℕ) (n : ℕ) → 4 * n ≤ length ws → Structure (emptied ws n) n 0 0
emptied_structure ws n long =
    record {
      coded = λ i l. omega (arith, kind i l);
      live_agrees = sum_const_zero (λ i. one (is_live vs i)) n (λ i l. ap (λ k. one (eqb k 2)) (kind i l));
      removed_agrees = sum_const_zero (λ i. one (is_removed vs i)) n (λ i l. ap (λ k. one (eqb k 1)) (kind i l));
      differ = λ i j l m h. absurd (not_live i l h);
      met = λ i l h. absurd (not_live i l h);
    }
  where
    vs : List ℕ
    vs = emptied ws n

    kind : (i : ℕ) → i < n → kind_at vs i ≡ 0
    kind i l = emptied_kind ws n i long l

    not_live : (i : ℕ) → i < n → is_live vs i ≡ true → ⊥
    not_live i l h = omega (arith, kind i l, eqb-true (kind_at vs i) 2 h)
