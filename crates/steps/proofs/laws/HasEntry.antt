-- Which ids have an entry in a space: those of the entries that it holds, and its list of ids has each of them once.
use Rattle.std.proofs.Common.{◌≡◌, ℕ, ◌+◌, ◌<◌, Bool, true, false, not, eqb, ◌≢◌, ◌⊎◌, ◌↔◌, List, sym, refl, ap, ◌∙◌, inl, inr, ⊎_elim, true≢false, arith, eq-eqb, eqb-true}
use Rattle.std.proofs.Math.Decide.{dec_lt}
use Rattle.std.proofs.Math.Logic.{by_cases}
use Rattle.base.specs.Below.{first, sum, one}
use Rattle.base.specs.Choose.{both_left, both_right, both_make, refuted}
use Rattle.base.specs.AllLaws.{all_make, all_fails}
use Rattle.base.specs.Exactly.{same_test, eqb_swap}
use Rattle.base.specs.FirstLaws.{first-le, first_passes, first_before}
use Rattle.base.specs.SumLaws.{sum_const_zero, sum_update}
use Rattle.registry.specs.HoldersLaws.{count}
use Rattle.table.specs.Slots.{is_live, id_at, id_of, entry_at}
use Rattle.table.specs.declared.CapabilityEntry.{CapabilityEntry}
use Rattle.table.proofs.laws.Contents.{entry_id_of, held_id}
use Rattle.table.proofs.laws.LiveEntries.{each_live}
use Rattle.space.specs.Ids.{ids_of, entry_ids}
use Rattle.space.specs.Sound.{SpaceOf}
use Rattle.space.specs.Words.{table_of, slot_words}
use Rattle.space.proofs.laws.Held.{Has}
use Rattle.space.proofs.laws.View.{view}
use Rattle.world.specs.Sound.{entry_of, has_entry}

-- Some number below n passes a test, or none does.
some_or_none : (p : ℕ → Bool) (n : ℕ) → ((i : ℕ) × (i < n) × (p i ≡ true)) ⊎ ((k : ℕ) → k < n → p k ≡ false)
some_or_none p n =
    by_cases (dec_lt (first p n) n)
    (λ l. inl (first p n, l, first_passes p n l))
    (λ far. inr (λ k l. first_before p n k (omega (arith, first-le p n))))

-- ---- an entry of an id

-- The space holds an entry of the id.
pub record OfId (sp : List ℕ) (id : ℕ) : Type 0 where
  pub entry : CapabilityEntry
  pub has : Has (view sp) entry
  pub same : id_of entry ≡ id

module _ (sp : List ℕ) (id : ℕ) where
  live_of : (i : ℕ) → entry_of (slot_words sp) id i ≡ true → (is_live (slot_words sp) i ≡ true) × (id_at (slot_words sp) i ≡ id)
  live_of i h =
      let live : Bool = is_live (slot_words sp) i in
      let same : Bool = eqb (id_at (slot_words sp) i) id in
      (both_left live same h, eqb-true _ id (both_right live same h))

  slot_of : (i : ℕ) → i < (table_of sp).slots → entry_of (slot_words sp) id i ≡ true → OfId sp id
  slot_of i l h =
      let (live, same) = live_of i h in
      record {
        entry = entry_at (slot_words sp) i;
        has = record { slot = i; below = l; live = live; same = refl };
        same = entry_id_of (slot_words sp) i ∙ same;
      }

  of_slot : (h : OfId sp id) → entry_of (slot_words sp) id h.has.slot ≡ true
  of_slot h =
      both_make _ _ h.has.live (eq-eqb _ id (held_id (slot_words sp) (table_of sp).slots h.entry h.has ∙ h.same))

  pub has_entry_of : OfId sp id → has_entry sp id ≡ true
  unfolding has_entry
  has_entry_of h = ap not (all_fails h.has.slot (table_of sp).slots _ h.has.below (ap not (of_slot h)))

  no_slot : ((i : ℕ) → i < (table_of sp).slots → entry_of (slot_words sp) id i ≡ false) → has_entry sp id ≡ false
  unfolding has_entry
  no_slot none = ap not (all_make (table_of sp).slots _ (λ i l. ap not (none i l)))

  pub entry_exactly : (has_entry sp id ≡ true) ↔ OfId sp id
  entry_exactly = (
    λ h.
        ⊎_elim
        (λ (i, l, e). slot_of i l e)
        (λ none. absurd (true≢false (sym h ∙ no_slot none)))
        (some_or_none (entry_of (slot_words sp) id) (table_of sp).slots),
    has_entry_of,
  )

  pub has_no_entry : ¬ OfId sp id → has_entry sp id ≡ false
  has_no_entry none = refuted (has_entry sp id) (λ h. none (entry_exactly.0 h))

-- Spaces with entries of the same ids.
pub same_entry : (sp after : List ℕ) (id : ℕ) → OfId after id ↔ OfId sp id → has_entry after id ≡ has_entry sp id
same_entry sp after id h = same_test _ _ (
  λ e. has_entry_of sp id (h.0 ((entry_exactly after id).0 e)),
  λ e. has_entry_of after id (h.1 ((entry_exactly sp id).0 e)),
)

-- Spaces that hold the same entries of an id.
pub same_held :
    (sp after : List ℕ) (id : ℕ) → ((x : CapabilityEntry) → id_of x ≡ id → Has (view after) x ↔ Has (view sp) x)
    → has_entry after id ≡ has_entry sp id
same_held sp after id h = same_entry sp after id (
  λ o. record { entry = o.entry; has = (h o.entry o.same).0 o.has; same = o.same },
  λ o. record { entry = o.entry; has = (h o.entry o.same).1 o.has; same = o.same },
)

-- ---- the list of ids

module _ (most : ℕ) (sp : List ℕ) (s : SpaceOf most sp) (id : ℕ) where
  abbrev ones : ℕ → ℕ
  ones i = one (entry_of (slot_words sp) id i)

  alone : (i : ℕ) → i < (table_of sp).slots → entry_of (slot_words sp) id i ≡ true → (k : ℕ) → k < (table_of sp).slots → k ≢ i → ones k ≡ 0
  alone i l e k u d =
      ap one
      (refuted (entry_of (slot_words sp) id k)
      (λ h.
      let (live, same) = live_of sp id i e in
      let (live', same') = live_of sp id k h in
      d (s.sound.table.differ k i u l live' live (same' ∙ sym same))))

  -- Ids differ, so at most one slot has an entry of the id.
  counted_once : sum ones (table_of sp).slots ≡ one (has_entry sp id)
  counted_once =
      ⊎_elim
      (λ (i, l, e).
      omega (
        arith,
        sum_update (λ k. 0) ones (table_of sp).slots i l (alone i l e),
        sum_const_zero (λ k. 0) (table_of sp).slots (λ k u. refl),
        ap one e,
        ap one (has_entry_of sp id (slot_of sp id i l e)),
      ))
      (λ none. sum_const_zero ones (table_of sp).slots (λ k u. ap one (none k u)) ∙ sym (ap one (no_slot sp id none)))
      (some_or_none (entry_of (slot_words sp) id) (table_of sp).slots)

  -- A live slot adds one where it has the id, any other slot nothing.
  taken : (i : ℕ) → is_live (slot_words sp) i ≡ true → one (eqb id (id_of (entry_at (slot_words sp) i))) ≡ ones i
  unfolding entry_at
  taken i live = rw live (ap one (eqb_swap id (id_at (slot_words sp) i)))

  passed : (i : ℕ) → is_live (slot_words sp) i ≡ false → ones i ≡ 0
  passed i free = rw free

  pub count_in_entries : count id (entry_ids sp) ≡ one (has_entry sp id)
  unfolding entry_ids ids_of count sum
  count_in_entries =
      omega (
        arith,
        each_live ℕ (λ es n. n + count id (ids_of es)) (λ e n. n + one (eqb id (id_of e))) (λ n. omega arith) (λ e es n. omega arith)
            (slot_words sp) (table_of sp).slots (λ i n. n ≡ sum ones i) (λ i n l live h. omega (arith, taken i live))
            (λ i n l free h. omega (arith, passed i free)) 0 refl,
        counted_once,
      )
