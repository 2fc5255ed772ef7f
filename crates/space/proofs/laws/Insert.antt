-- The three ways of an insert: over the quota, the id already there, or accepted.
use Rattle.std.proofs.Common.{◌≡◌, ℕ, ◌<◌, ◌≤◌, Bool, true, false, leb, ◌≢◌, List, refl, arith, leb-false, leb-true, Option, None, Some}
use Rattle.answers.specs.Number.{number_of}
use Rattle.answers.specs.Answer.{Done, AlreadyExists, SpaceQuota}
use Rattle.base.specs.Choose.{when}
use Rattle.table.specs.Slots.{id_of}
use Rattle.table.specs.declared.CapabilityEntry.{CapabilityEntry}
use Rattle.space.specs.Words.{quota_of, table_of}
use Rattle.space.specs.Lookup.{is_found, search_id}
use Rattle.space.specs.Change.{InsertOut, refused, accepted, insert_out}

module _ (sp : List ℕ) (e : CapabilityEntry) where
  -- There is room under the quota, and the id is not there.
  pub record Accepts : Type 0 where
    pub under : (table_of sp).full < quota_of sp
    pub absent : (search_id sp (id_of e)).found ≡ None

  pub insert_by_cases :
      (P : InsertOut → Type 0) → (quota_of sp ≤ (table_of sp).full → P (refused sp SpaceQuota))
      → ((i : ℕ) → (table_of sp).full < quota_of sp → (search_id sp (id_of e)).found ≡ Some i → P (refused sp AlreadyExists))
      → (Accepts → P (accepted sp e)) → P (insert_out sp e)
  unfolding insert_out when
  insert_by_cases P over there fresh = go (leb (quota_of sp) (table_of sp).full) refl (search_id sp (id_of e)).found refl
    where
      go :
          (b : Bool) → leb (quota_of sp) (table_of sp).full ≡ b → (f : Option ℕ) → (search_id sp (id_of e)).found ≡ f
          → P (when b (refused sp SpaceQuota) (when (is_found f) (refused sp AlreadyExists) (accepted sp e)))
      go true b f found = over (leb-true (quota_of sp) (table_of sp).full b)
      go false b (Some i) found = there i (leb-false (quota_of sp) (table_of sp).full b) found
      go false b None found = fresh (record { under = leb-false (quota_of sp) (table_of sp).full b; absent = found })

  -- Of an insert's answers, 0 alone is `Done`.
  pub zero_is_done : number_of (insert_out sp e).answer ≡ 0 → (insert_out sp e).answer ≡ Done
  zero_is_done =
      insert_by_cases (λ o. number_of o.answer ≡ 0 → o.answer ≡ Done) (λ over z. absurd (omega arith))
      (λ i under there z. absurd (omega arith)) (λ a z. refl)

  -- An insert that answers 0 was accepted.
  pub done_accepts : (insert_out sp e).answer ≡ Done → Accepts × (insert_out sp e ≡ accepted sp e)
  done_accepts =
      insert_by_cases (λ o. o.answer ≡ Done → Accepts × (o ≡ accepted sp e))
      (λ over d. let z : ◌≡◌ {A = ℕ} 0 1 = cc in absurd (omega arith))
      (λ i under there d. let z : ◌≡◌ {A = ℕ} 0 1 = cc in absurd (omega arith))
      (λ a d. (a, refl))

  -- An insert that answers anything else changed nothing and moved nothing.
  pub refused_changes_nothing : (insert_out sp e).answer ≢ Done → ((insert_out sp e).words ≡ sp) × ((insert_out sp e).moved ≡ 0)
  refused_changes_nothing =
      insert_by_cases (λ o. o.answer ≢ Done → (o.words ≡ sp) × (o.moved ≡ 0)) (λ over d. (refl, refl)) (λ i under there d. (refl, refl))
      (λ a d. absurd (d refl))
