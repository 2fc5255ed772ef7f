-- A refusal changes nothing: any answer but 0 leaves the memory as it was. Two exceptions: a lookup that found nothing (8) is counted all
-- the same, and an id that a space's create took is lost where its entry is refused (7, 11).
use Rattle.std.proofs.Common.{List, ◌≢◌, ◌≡◌, refl, sym, ap, ◌∙◌, ℕ, ◌<◌, arith, Option, None, Some}
use Rattle.std.specs.Prelude.{is_some}
use Rattle.answers.specs.Number.{number_of}
use Rattle.answers.specs.Answer.{Answer, Done, SpaceIds}
use Rattle.base.specs.Part.{on_part_same}
use Rattle.space.specs.Change.{InsertOut, insert_out, removed_found, removed_token}
use Rattle.space.specs.Lookup.{exactly, looked_up}
use Rattle.space.specs.Words.{slot_words}
use Rattle.space.proofs.laws.Insert.{insert_by_cases, zero_is_done}
use Rattle.steps.specs.Enter.{on_space}
use Rattle.steps.specs.Steps.{space_of, insert_step, remove_step, take_step, new_entry}
use Rattle.steps.proofs.ChangingEntries.{refused_insert, remove_absent}
use Rattle.base.specs.Cases.{either}
use Rattle.steps.proofs.laws.Taking.{take_by_cases, none_taken}
use Rattle.table.specs.Walk.{got_at}
use Rattle.table.specs.declared.CapabilityEntry.{CapabilityEntry}
use Rattle.world.specs.Numbers.{numbers_of}
use Rattle.world.specs.Regions.{space, start_of, size_of}
use Rattle.world.specs.Sound.{Sound}
use Rattle.world.specs.declared.Numbers.{Numbers}
use Rattle.space_calls.specs.Calls.{insert_call_out, remove_out, increment_out, clear_out, revoke_all_out, copy_out, taken_reply, alloc_out, create_out, revoke_made, revoke_out}
use Rattle.space_reads.specs.Calls.{lookup_out, lookup_entry_out, check_rights_out}
use Rattle.steps.specs.Replies.{Left, refuse, Reply}
use Rattle.space_reads.specs.Replies.{found_reply}
use Rattle.steps.proofs.laws.Entered.{world_by_cases, space_by_cases}
use Rattle.space_laws.proofs.laws.Ways.{own_token, made_by_cases, create_by_cases}

-- ---- the steps

not_12 : (sp : List ℕ) (e : CapabilityEntry) → (insert_out sp e).answer ≢ SpaceIds
not_12 sp e =
    insert_by_cases sp e (λ (o : InsertOut). o.answer ≢ SpaceIds)
    (λ over is. omega (arith, ap number_of is)) (λ i under there is. omega (arith, ap number_of is))
    (λ a is. omega (arith, ap number_of is))

module _ (d : Numbers) (s : ℕ) (mem : List ℕ) where
  abbrev sp : List ℕ
  sp = space_of d s mem

  insert_undone : (e : CapabilityEntry) → (insert_out sp e).answer ≢ Done → insert_step d s e mem ≡ mem
  insert_undone e not_done = refused_insert d s mem e (λ z. not_done (zero_is_done sp e z))

  nothing_removed : (token : ℕ) → (looked_up sp token).got ≡ None → removed_token sp token ≡ sp
  unfolding looked_up removed_token
  nothing_removed token = go (exactly sp token)
    where
      go : (f : Option ℕ) → got_at (slot_words sp) f ≡ None → removed_found sp f ≡ sp
      go (Some i) e = let z : ◌≡◌ {A = ℕ} 0 1 = cc in absurd (omega arith)
      go None e = refl

  absent_remove : (token : ℕ) → (looked_up sp token).got ≡ None → remove_step d s token mem ≡ mem
  absent_remove token none =
      sym (remove_absent d s mem token _ _ refl refl (ap is_some none))
      ∙ on_part_same (start_of d (space s)) (size_of d (space s)) (λ sp. removed_token sp token) mem (nothing_removed token none)

  missed_remove :
      (value : CapabilityEntry → ℕ) (token visits : ℕ) → (found_reply value (looked_up sp token).got visits).answer ≢ Done
      → remove_step d s token mem ≡ mem
  missed_remove value token visits = go (looked_up sp token).got refl
    where
      go : (g : Option CapabilityEntry) → (looked_up sp token).got ≡ g → (found_reply value g visits).answer ≢ Done
          → remove_step d s token mem ≡ mem
      go (Some e) is not_done = absurd (not_done refl)
      go None is not_done = absent_remove token is

-- ---- the calls

module _ (mem : List ℕ) where
  abbrev d : Numbers
  d = numbers_of mem

  -- A refusal leaves the memory as it was.
  abbrev Leaves : Left Reply → Type 0
  Leaves out = out.reply.answer ≢ Done → out.memory ≡ mem

  on_space_keeps : (s : ℕ) (call : Numbers → Left Reply) → Leaves (call d) → Leaves (on_space (refuse mem) mem s call)
  on_space_keeps s call made =
      space_by_cases Leaves (refuse mem) mem call (λ bad not_done. refl) s (λ sound far not_done. refl) (λ sound valid. made)

  pub insert_unchanged :
      (s token object rights : ℕ) → (insert_call_out mem s token object rights).reply.answer ≢ Done
      → (insert_call_out mem s token object rights).memory ≡ mem
  unfolding insert_call_out
  insert_unchanged s token object rights = on_space_keeps s _ (insert_undone d s mem (new_entry token object rights))

  pub remove_unchanged : (s token : ℕ) → (remove_out mem s token).reply.answer ≢ Done → (remove_out mem s token).memory ≡ mem
  unfolding remove_out
  remove_unchanged s token = on_space_keeps s _ (missed_remove d s mem (λ e. e.object) token (looked_up (space_of d s mem) token).visits)

  pub increment_unchanged : (s : ℕ) → (increment_out mem s).reply.answer ≢ Done → (increment_out mem s).memory ≡ mem
  unfolding increment_out
  increment_unchanged s = on_space_keeps s _ (λ not_done. absurd (not_done refl))

  pub clear_unchanged : (s : ℕ) → (clear_out mem s).reply.answer ≢ Done → (clear_out mem s).memory ≡ mem
  unfolding clear_out
  clear_unchanged s = on_space_keeps s _ (λ not_done. absurd (not_done refl))

  pub revoke_all_unchanged : (s : ℕ) → (revoke_all_out mem s).reply.answer ≢ Done → (revoke_all_out mem s).memory ≡ mem
  unfolding revoke_all_out
  revoke_all_unchanged s = on_space_keeps s _ (λ not_done. absurd (not_done refl))

  pub copy_unchanged :
      (target source : ℕ) → (copy_out mem target source).reply.answer ≢ Done → (copy_out mem target source).memory ≡ mem
  unfolding copy_out
  copy_unchanged target source =
      on_space_keeps target _ (either Leaves _ _ _ (λ not_done. refl) (λ not_done. absurd (not_done refl)))

  pub revoke_unchanged : (s id : ℕ) → (revoke_out mem s id).reply.answer ≢ Done → (revoke_out mem s id).memory ≡ mem
  unfolding revoke_out
  revoke_unchanged s id =
      let sp : List ℕ = space_of d s mem in
      let token : ℕ = own_token sp id in
      on_space_keeps s _
      (made_by_cases (λ m. Leaves (revoke_made d s mem m)) sp id (λ over not_done. refl)
      (λ fits. missed_remove d s mem (λ e. 0) token (looked_up sp token).visits))

  pub alloc_unchanged : (alloc_out mem).reply.answer ≢ Done → (alloc_out mem).memory ≡ mem
  unfolding alloc_out
  alloc_unchanged =
      world_by_cases Leaves (refuse mem) mem _ (λ bad not_done. refl)
      (λ sound.
      take_by_cases d mem (λ t after. (taken_reply t).answer ≢ Done → after ≡ mem)
      (λ some not_done. absurd (not_done refl)) (λ none more not_done. absurd (not_done refl)) (λ not_done. refl))

  -- ---- lookups are counted, but for 26 and 20

  module _ (s : ℕ) (unentered : Sound mem → s < (numbers_of mem).spaces → ⊥) where
    not_made :
        {A : Type 0} (refusing : Answer → A) (call : Numbers → Left A)
        → (on_space (λ a. record { reply = refusing a; memory = mem }) mem s call).memory ≡ mem
    not_made {A} refusing call =
        space_by_cases (λ (out : Left A). out.memory ≡ mem) _ mem call (λ bad. refl) s (λ sound far. refl)
        (λ sound valid. absurd (unentered sound valid))

    pub lookup_unentered : (token : ℕ) → (lookup_out mem s token).memory ≡ mem
    unfolding lookup_out
    lookup_unentered token = not_made _ _

    pub lookup_entry_unentered : (token : ℕ) → (lookup_entry_out mem s token).memory ≡ mem
    unfolding lookup_entry_out
    lookup_entry_unentered token = not_made _ _

    pub check_rights_unentered : (token required : ℕ) → (check_rights_out mem s token required).memory ≡ mem
    unfolding check_rights_out
    check_rights_unentered token required = not_made _ _

    pub create_unentered : (rights object : ℕ) → (create_out mem s rights object).memory ≡ mem
    unfolding create_out
    create_unentered rights object = not_made _ _

  -- ---- a space's create

  -- A refusal leaves the id taken, and nothing else.
  pub create_loses_the_id :
      Sound mem → (s rights object : ℕ) → s < (numbers_of mem).spaces → (create_out mem s rights object).reply.answer ≢ Done
      → (create_out mem s rights object).memory ≡ take_step (numbers_of mem) mem
  create_loses_the_id sound s rights object valid =
      create_by_cases mem s rights object (λ out. out.reply.answer ≢ Done → out.memory ≡ take_step d mem) (λ bad. absurd (bad sound))
      (λ sound far. absurd (omega arith)) (λ sound valid none not_done. sym (none_taken d mem none))
      (λ sound valid id is. insert_undone d s _ _)

  -- Where none is left (12), nothing was taken.
  pub create_12_unchanged :
      (s rights object : ℕ) → (create_out mem s rights object).reply.answer ≡ SpaceIds → (create_out mem s rights object).memory ≡ mem
  create_12_unchanged s rights object =
      create_by_cases mem s rights object (λ out. out.reply.answer ≡ SpaceIds → out.memory ≡ mem) (λ bad e. refl) (λ sound far e. refl)
      (λ sound valid none e. refl)
      (λ sound valid id is e. absurd (not_12 (space_of d s (take_step d mem)) _ e))
