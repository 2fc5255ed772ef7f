-- When an answer is given, by the shape of the reply: 0 or 8 of what is looked for, 21 before them for an id that does not fit, 11, 7 or 0
-- of an insert, 12 before them of a space's create. Told.antt says it of each call.
use Rattle.std.proofs.Common.{List, ◌↔◌, ◌≢◌, ◌≡◌, refl, sym, ap, subst, ◌∙◌, ℕ, ◌^◌, ◌≤◌, ◌<◌, arith, Some, None}
use Rattle.answers.specs.Number.{number_of}
use Rattle.answers.specs.Answer.{Answer, Done, AlreadyExists, NotFound, SpaceQuota, SpaceIds, BadSpace, BadField, BadWorld}
use Rattle.space.specs.Change.{InsertOut, insert_out}
use Rattle.space.specs.Sound.{SpaceOf}
use Rattle.space.specs.Words.{quota_of, table_of}
use Rattle.space.proofs.laws.Insert.{insert_by_cases}
use Rattle.steps.specs.Enter.{on_space}
use Rattle.steps.specs.Steps.{taken_id}
use Rattle.steps.proofs.laws.Cases.{given, not_given}
use Rattle.steps.proofs.laws.Entered.{space_by_cases}
use Rattle.steps.proofs.laws.Exhausted.{exhausted_exactly}
use Rattle.steps.proofs.laws.Told.{Inner}
use Rattle.table.specs.Slots.{id_of}
use Rattle.table.specs.declared.CapabilityEntry.{CapabilityEntry}
use Rattle.world.specs.Numbers.{numbers_of, next_of, recycled_of}
use Rattle.world.specs.Sound.{Sound}
use Rattle.world.specs.declared.Numbers.{Numbers}
use Rattle.space_laws.proofs.laws.Finding.{HasId, at_has, absent_lacks}

-- The memory is sound, it has the space, and the case holds.
abbrev pub On : List ℕ → ℕ → Type 0 → Type 0
On mem s case = Sound mem × ((s < (numbers_of mem).spaces) × case)

-- An id is left, and the case holds of the one that is taken.
abbrev pub Taking : List ℕ → (ℕ → Type 0) → Type 0
Taking mem case = (id : ℕ) × ((taken_id (numbers_of mem) mem ≡ Some id) × case id)

-- ---- what all calls of a space share: an answer of the call's own is given exactly where the call is made and gives it

module _ {A : Type 0} (answer_of : A → Answer) (refusing : Answer → A) (mem : List ℕ) (call : Numbers → A) (s : ℕ)
    (says : (a : Answer) → answer_of (refusing a) ≡ a)
  where
    pub told_on :
        (a : Answer) {Case : Type 0} → Inner a
        → (Sound mem → s < (numbers_of mem).spaces → (answer_of (call (numbers_of mem)) ≡ a) ↔ Case)
        → (answer_of (on_space refusing mem s call) ≡ a) ↔ On mem s Case
    told_on a {Case} own exactly =
        space_by_cases (λ r. (answer_of r ≡ a) ↔ On mem s Case) refusing mem call
        (λ bad. (λ e. absurd (own.not_26 (ap number_of (sym e ∙ says BadWorld))), λ (sound, case). absurd (bad sound)))
        s
        (λ sound far. (λ e. absurd (own.not_20 (ap number_of (sym e ∙ says BadSpace))), λ (sound, (there, case)). absurd (omega arith)))
        (λ sound there. (λ e. (sound, (there, (exactly sound there).0 e)), λ (again, (l, case)). (exactly sound there).1 case))

-- ---- the shapes of a reply

-- 0 where something is there, 8 where it is not.
pub record Finds (there : Type 0) (answer : Answer) : Type 0 where
  pub found : (answer ≡ Done) ↔ there
  pub absent : (answer ≡ NotFound) ↔ (¬ there)

pub finds_it : {there : Type 0} → there → Finds there Done
finds_it it = record { found = given refl it; absent = not_given Done NotFound (λ e. omega (arith, e)) (λ none. none it) }

pub finds_none : {there : Type 0} → ¬ there → Finds there NotFound
finds_none none = record { found = not_given NotFound Done (λ e. omega (arith, e)) none; absent = given refl none }

-- 21 for an id over 2^48-1, before either.
pub record FindsBelow (id : ℕ) (there : Type 0) (answer : Answer) : Type 0 where
  pub over : (answer ≡ BadField) ↔ (2 ^ 48 ≤ id)
  pub found : (answer ≡ Done) ↔ ((id < 2 ^ 48) × there)
  pub absent : (answer ≡ NotFound) ↔ ((id < 2 ^ 48) × (¬ there))

pub finds_over : {id : ℕ} {there : Type 0} → 2 ^ 48 ≤ id → FindsBelow id there BadField
finds_over over = record {
  over = given refl over;
  found = not_given BadField Done (λ e. omega (arith, e)) (λ (fits, it). omega arith);
  absent = not_given BadField NotFound (λ e. omega (arith, e)) (λ (fits, none). omega arith);
}

pub below_it : {id : ℕ} {there : Type 0} → id < 2 ^ 48 → there → FindsBelow id there Done
below_it fits it = record {
  over = not_given Done BadField (λ e. omega (arith, e)) (λ over. omega arith);
  found = given refl (fits, it);
  absent = not_given Done NotFound (λ e. omega (arith, e)) (λ (fits, none). none it);
}

pub below_none : {id : ℕ} {there : Type 0} → id < 2 ^ 48 → ¬ there → FindsBelow id there NotFound
below_none fits none = record {
  over = not_given NotFound BadField (λ e. omega (arith, e)) (λ over. omega arith);
  found = not_given NotFound Done (λ e. omega (arith, e)) (λ (fits, it). none it);
  absent = given refl (fits, none);
}

-- 11 at or over the quota, then 7 where the id is there, else 0.
pub record Inserts (sp : List ℕ) (id : ℕ) (answer : Answer) : Type 0 where
  pub at_quota : (answer ≡ SpaceQuota) ↔ (quota_of sp ≤ (table_of sp).full)
  pub there : (answer ≡ AlreadyExists) ↔ (((table_of sp).full < quota_of sp) × HasId sp id)
  pub accepted : (answer ≡ Done) ↔ (((table_of sp).full < quota_of sp) × (¬ HasId sp id))
  pub not_12 : number_of answer ≢ 12

pub inserts : (most : ℕ) (sp : List ℕ) → SpaceOf most sp → (e : CapabilityEntry) → Inserts sp (id_of e) (insert_out sp e).answer
inserts most sp is e =
    insert_by_cases sp e (λ (o : InsertOut). Inserts sp (id_of e) o.answer)
    (λ over. record {
      at_quota = given refl over;
      there = not_given SpaceQuota AlreadyExists (λ e. omega (arith, e)) (λ (under, has). omega arith);
      accepted = not_given SpaceQuota Done (λ e. omega (arith, e)) (λ (under, none). omega arith);
      not_12 = λ e. omega (arith, e);
    })
    (λ i under at. record {
      at_quota = not_given AlreadyExists SpaceQuota (λ e. omega (arith, e)) (λ over. omega arith);
      there = given refl (under, at_has most sp is (id_of e) i at);
      accepted = not_given AlreadyExists Done (λ e. omega (arith, e)) (λ (under, none). none (at_has most sp is (id_of e) i at));
      not_12 = λ e. omega (arith, e);
    })
    (λ a. record {
      at_quota = not_given Done SpaceQuota (λ e. omega (arith, e)) (λ over. omega (arith, a.under));
      there = not_given Done AlreadyExists (λ e. omega (arith, e)) (λ (under, has). absent_lacks most sp is (id_of e) a.absent has);
      accepted = given refl (a.under, absent_lacks most sp is (id_of e) a.absent);
      not_12 = λ e. omega (arith, e);
    })

-- 12 where no id is left, else as the insert of the id that is taken.
pub record Creates (mem sp : List ℕ) (answer : Answer) : Type 0 where
  pub exhausted : (answer ≡ SpaceIds) ↔ ((recycled_of mem ≤ 0) × (2 ^ 48 ≤ next_of mem))
  pub at_quota : (answer ≡ SpaceQuota) ↔ Taking mem (λ id. quota_of sp ≤ (table_of sp).full)
  pub there : (answer ≡ AlreadyExists) ↔ Taking mem (λ id. ((table_of sp).full < quota_of sp) × HasId sp id)
  pub accepted : (answer ≡ Done) ↔ Taking mem (λ id. ((table_of sp).full < quota_of sp) × (¬ HasId sp id))

module _ (mem sp : List ℕ) where
  pub creates_none : taken_id (numbers_of mem) mem ≡ None → Creates mem sp SpaceIds
  creates_none none = record {
    exhausted = given refl ((exhausted_exactly (numbers_of mem) mem).0 none);
    at_quota = not_given SpaceIds SpaceQuota (λ e. omega (arith, e)) left;
    there = not_given SpaceIds AlreadyExists (λ e. omega (arith, e)) left;
    accepted = not_given SpaceIds Done (λ e. omega (arith, e)) left;
  }
    where
      left : {case : ℕ → Type 0} → Taking mem case → ⊥
      left (id, (is, c)) = let z : ◌≡◌ {A = ℕ} 0 1 = cc in omega arith

  module _ (id : ℕ) (is : taken_id (numbers_of mem) mem ≡ Some id) where
    taking : {P : Type 0} {case : ℕ → Type 0} → P ↔ case id → P ↔ Taking mem case
    taking {P} {case} exactly =
        (λ p. (id, (is, exactly.0 p)), λ (other, (same, c)). exactly.1 (subst case (let i : other ≡ id = cc in i) c))

    pub creates_of : (answer : Answer) → Inserts sp id answer → Creates mem sp answer
    creates_of answer i = record {
      exhausted = not_given answer SpaceIds i.not_12 none_left;
      at_quota = taking i.at_quota;
      there = taking i.there;
      accepted = taking i.accepted;
    }
      where
        none_left : (recycled_of mem ≤ 0) × (2 ^ 48 ≤ next_of mem) → ⊥
        none_left none =
            let left = (exhausted_exactly (numbers_of mem) mem).1 none in
            let z : ◌≡◌ {A = ℕ} 0 1 = cc in
            omega arith
