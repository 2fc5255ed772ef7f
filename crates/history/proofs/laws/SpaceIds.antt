-- Ids and the calls of a space: none gives an id back; and `alloc_cap_id` and the space-made create issue none that is issued and not
-- given back.
use Rattle.std.proofs.Common.{true, List, ◌≢◌, ◌≡◌, refl, sym, ap, subst, ℕ, ◌^◌, ◌<◌, arith, eqb, Option, Some, None}
use Rattle.answers.specs.Number.{number_of}
use Rattle.answers.specs.Answer.{Answer, Done}
use Rattle.base.specs.Choose.{pick}
use Rattle.manager_laws.proofs.laws.Ids.{Unspent}
use Rattle.manager_laws.proofs.laws.SameIds.{only_space, insert_ids}
use Rattle.manager_laws.proofs.laws.Spent.{SpentAt, Spent, NoneFreed, spent_still, none_refl, none_trans, none_same, take_none, taken_unspent, taken_spent}
use Rattle.space_laws.proofs.laws.Ways.{own_token, create_by_cases}
use Rattle.space_laws.proofs.laws.Sound.{create_keeps}
use Rattle.space_calls.specs.Calls.{taken_reply, alloc_out, create_out}
use Rattle.steps.specs.Replies.{Left, Reply}
use Rattle.steps.specs.Steps.{space_of, new_entry, insert_step, taken_id, take_step}
use Rattle.steps.proofs.laws.Entered.{world_by_cases}
use Rattle.steps.proofs.laws.OnlySpace.{OnlySpace}
use Rattle.steps.proofs.laws.TakeStep.{take_step_kept}
use Rattle.table.specs.declared.CapabilityEntry.{CapabilityEntry}
use Rattle.world.specs.Numbers.{numbers_of}
use Rattle.world.specs.Sound.{Sound}
use Rattle.world.specs.declared.Numbers.{Numbers}

module _ (mem : List ℕ) where
  abbrev d : Numbers
  d = numbers_of mem

  abbrev FreesNone : Left Reply → Type 0
  FreesNone out = NoneFreed (numbers_of mem) mem out.memory

  -- Nothing but the named space and holders changes.
  pub space_frees_none : (s : ℕ) (after : List ℕ) → OnlySpace (numbers_of mem) s mem after → NoneFreed (numbers_of mem) mem after
  space_frees_none s after only = none_same d mem after (only_space d mem s after only)

  -- ---- `alloc_cap_id`

  pub alloc_frees_none : NoneFreed (numbers_of mem) mem (alloc_out mem).memory
  unfolding alloc_out
  alloc_frees_none = world_by_cases FreesNone _ mem _ (λ bad. none_refl d mem) (λ sound. take_none d mem sound)

  -- Given 0, it took an id.
  abbrev Took : Left Reply → Type 0
  Took out = out.reply.answer ≡ Done → Sound mem × ((taken_id d mem ≡ Some out.reply.value) × (out.memory ≡ take_step d mem))

  alloc_took : Took (alloc_out mem)
  unfolding alloc_out
  alloc_took =
      world_by_cases Took _ mem _ (λ bad e. absurd (omega (arith, ap number_of e))) (λ sound. go sound (taken_id d mem) refl)
    where
      go : Sound mem → (t : Option ℕ) → taken_id d mem ≡ t → Took (record { reply = taken_reply t; memory = take_step d mem })
      go sound (Some id) is e = (sound, (is, refl))
      go sound None is e = absurd (omega (arith, ap number_of e))

  pub alloc_new : (alloc_out mem).reply.answer ≡ Done → Unspent mem (alloc_out mem).reply.value
  alloc_new e = let (sound, (is, left)) = alloc_took e in λ x spent. taken_unspent d mem sound _ x is spent

  pub alloc_issued : (alloc_out mem).reply.answer ≡ Done → Spent (alloc_out mem).memory (alloc_out mem).reply.value
  alloc_issued e =
      let (sound, (is, left)) = alloc_took e in
      rw left
      (subst (λ (d : Numbers). SpentAt d (take_step (numbers_of mem) mem) (alloc_out mem).reply.value)
      (sym (take_step_kept d mem sound).numbers) (taken_spent d mem sound _ is))

  -- ---- the space-made create

  module _ (s rights object : ℕ) where
    abbrev after : List ℕ
    after = take_step (numbers_of mem) mem

    inserted_none :
        Sound mem → s < (numbers_of mem).spaces → (e : CapabilityEntry) → e.rights.0 < 2 ^ 32
        → NoneFreed (numbers_of mem) after (insert_step (numbers_of mem) s e after)
    inserted_none sound valid e fits = none_same d after _ (insert_ids d after (take_step_kept d mem sound).sound s valid e fits)

    pub space_create_frees_none : rights < 2 ^ 32 → NoneFreed (numbers_of mem) mem (create_out mem s rights object).memory
    space_create_frees_none fits =
        create_by_cases mem s rights object FreesNone (λ bad. none_refl d mem) (λ sound far. none_refl d mem)
        (λ sound valid none. none_refl d mem)
        (λ sound valid id is. none_trans d mem after _ (take_none d mem sound) (inserted_none sound valid _ fits))

    -- An insert given 0 was accepted, so the value is the id.
    accepted : (a : Answer) → a ≡ Done → eqb (number_of a) 0 ≡ true
    accepted a e = ap (λ a. eqb (number_of a) 0) e

    abbrev IssuesNew : Left Reply → Type 0
    IssuesNew out = out.reply.answer ≡ Done → Unspent mem out.reply.value

    pub space_create_new : (create_out mem s rights object).reply.answer ≡ Done → Unspent mem (create_out mem s rights object).reply.value
    space_create_new =
        create_by_cases mem s rights object IssuesNew (λ bad e. absurd (omega (arith, ap number_of e)))
        (λ sound far e. absurd (omega (arith, ap number_of e))) (λ sound valid none e. absurd (omega (arith, ap number_of e)))
        (λ sound valid id is e x spent.
        subst (λ b. pick b id 0 ≢ x) (sym (accepted _ e)) (taken_unspent d mem sound id x is spent))

    abbrev Issues : Left Reply → Type 0
    Issues out = out.reply.answer ≡ Done → SpentAt (numbers_of mem) out.memory out.reply.value

    issues : rights < 2 ^ 32 → Issues (create_out mem s rights object)
    issues fits =
        create_by_cases mem s rights object Issues (λ bad e. absurd (omega (arith, ap number_of e)))
        (λ sound far e. absurd (omega (arith, ap number_of e))) (λ sound valid none e. absurd (omega (arith, ap number_of e)))
        (λ sound valid id is e.
        let own : CapabilityEntry = new_entry (own_token (space_of d s after) id) object rights in
        subst (λ b. SpentAt d (insert_step d s own after) (pick b id 0)) (sym (accepted _ e))
        (spent_still d after _ id (inserted_none sound valid own fits) (taken_spent d mem sound id is)))

    pub space_create_issued :
        Sound mem → rights < 2 ^ 32 → (create_out mem s rights object).reply.answer ≡ Done
        → Spent (create_out mem s rights object).memory (create_out mem s rights object).reply.value
    space_create_issued sound fits done =
        subst (λ (d : Numbers). SpentAt d (create_out mem s rights object).memory (create_out mem s rights object).reply.value)
        (sym (create_keeps mem sound s rights object fits).numbers) (issues fits done)
