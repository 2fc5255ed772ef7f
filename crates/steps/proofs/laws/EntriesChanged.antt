-- The ids with an entry in a space after each change of it: an accepted insert adds exactly the entry's id, a removal takes exactly the
-- token's, a clear takes all, a copy has the source's, and nothing else changes any.
use Rattle.std.proofs.Common.{◌≡◌, ℕ, ◌+◌, ◌%◌, ◌^◌, ◌<◌, Bool, true, false, not, eqb, ◌≢◌, ◌↔◌, List, sym, refl, ap, ◌∙◌, inl, inr, ⊎_elim, arith, eq-eqb, ne_eqb, None, Some}
use Rattle.std.proofs.Math.Decide.{ℕ_discrete}
use Rattle.std.proofs.Math.Logic.{by_cases}
use Rattle.answers.specs.Answer.{Done}
use Rattle.base.specs.Below.{all, one}
use Rattle.base.specs.Choose.{pick}
use Rattle.table.specs.Copy.{fresh}
use Rattle.table.specs.Slots.{id_of}
use Rattle.table.specs.Walk.{got}
use Rattle.table.specs.declared.CapabilityEntry.{CapabilityEntry}
use Rattle.table.proofs.laws.Contents.{HoldsAs, lacks_iff}
use Rattle.table.proofs.laws.Exact.{absent_exactly_when_none}
use Rattle.table.proofs.laws.Found.{got_exactly}
use Rattle.space.specs.Change.{insert_out, removed_token, cleared, next_generation}
use Rattle.space.specs.Copy.{copied_space}
use Rattle.space.specs.Lookup.{looked_up, counted}
use Rattle.space.specs.Sound.{SpaceOf}
use Rattle.space.specs.Words.{table_of, slot_words}
use Rattle.space.proofs.laws.Copied.{copy_holds}
use Rattle.space.proofs.laws.Counted.{used, used_by, lookup_holds}
use Rattle.space.proofs.laws.Held as held
use Rattle.space.proofs.laws.Held.{token_of, Has, insert_holds, remove_holds, clear_holds_nothing, nothing_exactly}
use Rattle.space.proofs.laws.Insert.{done_accepts, refused_changes_nothing}
use Rattle.space.proofs.laws.Kept.{fits}
use Rattle.space.proofs.laws.View.{View, view, view_next}
use Rattle.world.specs.Sound.{entry_of, has_entry}
use Rattle.steps.proofs.laws.HasEntry.{has_entry_of, has_no_entry, same_entry, same_held}

-- Where each entry is f of what it was, and f keeps the id.
mapped :
    (f : CapabilityEntry → CapabilityEntry) (sp after : List ℕ) (id : ℕ) → ((e : CapabilityEntry) → id_of (f e) ≡ id_of e)
    → ((x : CapabilityEntry) → Has (view after) x ↔ HoldsAs f (slot_words sp) (table_of sp).slots x) → has_entry after id ≡ has_entry sp id
mapped f sp after id keeps holds = same_entry sp after id (
  λ o.
      let h = (holds o.entry).0 o.has in
      record {
        entry = _;
        has = record { slot = h.slot; below = h.below; live = h.live; same = refl };
        same = sym (keeps _) ∙ ap (λ e. id_of e) h.same ∙ o.same;
      },
  λ o.
      record {
        entry = f o.entry;
        has =
            (holds (f o.entry)).1
            (record { slot = o.has.slot; below = o.has.below; live = o.has.live; same = ap f o.has.same });
        same = keeps o.entry ∙ o.same;
      },
)

module _ (most : ℕ) (sp : List ℕ) (s : SpaceOf most sp) (id : ℕ) where
  pub counted_entries : (token : ℕ) → has_entry (counted sp token) id ≡ has_entry sp id
  counted_entries token = mapped (used_by token) sp _ id (λ e. keeps (eqb (token_of e) token) e) (lookup_holds most sp s token)
    where
      keeps : (b : Bool) (e : CapabilityEntry) → id_of (pick b (used e) e) ≡ id_of e
      keeps true e = refl
      keeps false e = refl

  pub next_entries : has_entry (next_generation sp) id ≡ has_entry sp id
  unfolding has_entry
  next_entries = ap (λ (v : View). not (all v.counts.slots (λ i. not (entry_of v.words id i)))) (view_next sp (fits most sp s))

  pub cleared_entries : has_entry (cleared sp) id ≡ false
  cleared_entries = has_no_entry _ id (λ o. clear_holds_nothing most sp s o.entry o.has)

  pub copied_entries : (source : List ℕ) → SpaceOf most source → has_entry (copied_space source sp) id ≡ has_entry source id
  copied_entries source t = mapped fresh source _ id (λ e. refl) (copy_holds most source sp t s)

  -- ---- insert

  pub inserted_entries :
      (e : CapabilityEntry) → e.rights.0 < 2 ^ 32 → (insert_out sp e).answer ≡ Done
      → one (has_entry (insert_out sp e).words id) ≡ one (has_entry sp id) + one (eqb id (id_of e))
  inserted_entries e rights done =
      let ws : List ℕ = slot_words sp in
      by_cases (ℕ_discrete id (id_of e))
      (λ same.
      let lacks = (absent_exactly_when_none most ws (table_of sp) s.sound.table (id_of e)).0 (done_accepts sp e done).0.absent in
      let before : has_entry sp id ≡ false = has_no_entry sp id
      (λ o. (lacks_iff ws (table_of sp).slots (id_of e)).0 lacks o.entry o.has (o.same ∙ same)) in
      let now : has_entry (insert_out sp e).words id ≡ true = has_entry_of _ id
      (record { entry = e; has = (insert_holds most sp s e rights done e).1 (inr refl); same = sym same }) in
      omega (arith, ap one before, ap one now, ap one (eq-eqb id (id_of e) same)))
      (λ other.
      let as_before : has_entry (insert_out sp e).words id ≡ has_entry sp id = same_held sp _ id
      (λ x is. (
        λ h. ⊎_elim (λ h. h) (λ new. absurd (other (sym is ∙ ap (λ e. id_of e) new))) ((insert_holds most sp s e rights done x).0 h),
        λ h. (insert_holds most sp s e rights done x).1 (inl h),
      )) in
      omega (arith, ap one as_before, ap one (ne_eqb id (id_of e) other)))

  pub refused_entries : (e : CapabilityEntry) → (insert_out sp e).answer ≢ Done → has_entry (insert_out sp e).words id ≡ has_entry sp id
  refused_entries e d = ap (λ ws. has_entry ws id) (refused_changes_nothing sp e d).0

  -- ---- remove

  -- Only the token's entry has its id.
  one_of_id : (x y : CapabilityEntry) → Has (view sp) x → Has (view sp) y → id_of x ≡ id_of y → x ≡ y
  one_of_id x y h g same =
      let find = got_exactly most (slot_words sp) (table_of sp) s.sound.table (id_of y) in
      let a : got (slot_words sp) (table_of sp).slots (id_of y) ≡ Some x = (find x).1 (h, same) in
      let b : got (slot_words sp) (table_of sp).slots (id_of y) ≡ Some y = (find y).1 (g, refl) in
      cc

  pub removed_entries :
      (token : ℕ) (x : CapabilityEntry) → (looked_up sp token).got ≡ Some x
      → one (has_entry (removed_token sp token) id) + one (eqb id (token % 2 ^ 48)) ≡ one (has_entry sp id)
  removed_entries token x found =
      let (h, is) = (held.got_exactly most sp s token x).0 found in
      let its_id : id_of x ≡ token % 2 ^ 48 = ap (λ w. w % 2 ^ 48) is in
      by_cases (ℕ_discrete id (token % 2 ^ 48))
      (λ same.
      let before : has_entry sp id ≡ true = has_entry_of sp id (record { entry = x; has = h; same = its_id ∙ sym same }) in
      let now : has_entry (removed_token sp token) id ≡ false = has_no_entry _ id
      (λ o.
      let (old, other) = (remove_holds most sp s token o.entry).0 o.has in
      other (ap token_of (one_of_id o.entry x old h (o.same ∙ same ∙ sym its_id)) ∙ is)) in
      omega (arith, ap one before, ap one now, ap one (eq-eqb id (token % 2 ^ 48) same)))
      (λ apart.
      let as_before : has_entry (removed_token sp token) id ≡ has_entry sp id = same_held sp _ id
      (λ x is. (
        λ h. ((remove_holds most sp s token x).0 h).0,
        λ h. (remove_holds most sp s token x).1 (h, λ t. apart (sym is ∙ ap (λ w. w % 2 ^ 48) t)),
      )) in
      omega (arith, ap one as_before, ap one (ne_eqb id (token % 2 ^ 48) apart)))

  pub missed_entries : (token : ℕ) → (looked_up sp token).got ≡ None → has_entry (removed_token sp token) id ≡ has_entry sp id
  missed_entries token nothing =
      same_held sp _ id
      (λ x is. (
        λ h. ((remove_holds most sp s token x).0 h).0,
        λ h. (remove_holds most sp s token x).1 (h, (nothing_exactly most sp s token).0 nothing x h),
      ))
