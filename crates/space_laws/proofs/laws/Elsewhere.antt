-- After a call on space s, every other space, the log, every queue and the head are as they were, and of the registry only holders differ;
-- a call that takes an id changes recycled ids and the next id besides. This holds on every memory, whatever the answer.
use Rattle.std.proofs.Common.{List, ℕ, ◌^◌, ◌<◌}
use Rattle.answers.specs.Answer.{Answer}
use Rattle.steps.specs.Enter.{on_space}
use Rattle.steps.specs.Steps.{space_of, take_step, new_entry}
use Rattle.steps.proofs.laws.SpaceSteps.{clear_step_kept}
use Rattle.steps.proofs.laws.TakeStep.{take_step_kept}
use Rattle.world.specs.Numbers.{numbers_of}
use Rattle.world.specs.Sound.{Sound}
use Rattle.world.specs.declared.Numbers.{Numbers}
use Rattle.space_calls.specs.Calls.{insert_call_out, remove_out, increment_out, clear_out, revoke_all_out, copy_out, alloc_out, create_out, revoke_made, revoke_out}
use Rattle.space_reads.specs.Calls.{lookup_out, lookup_entry_out, check_rights_out}
use Rattle.steps.specs.Replies.{Left, Reply}
use Rattle.base.specs.Cases.{unless_below}
use Rattle.steps.proofs.laws.Entered.{world_by_cases, space_by_cases}
use Rattle.steps.proofs.laws.OnlyIds.{OnlyIds, only_no_id, take_only_ids}
use Rattle.steps.proofs.laws.OnlySpace.{OnlySpace, only_refl, only_trans, lookup_in_space, next_in_space, insert_in_space, remove_in_space, clear_in_space, copy_in_space}
use Rattle.space_laws.proofs.laws.Ways.{made_by_cases, create_by_cases}

-- Ids are taken, then space s and holders change.
pub record IdsAndSpace (d : Numbers) (s : ℕ) (mem after : List ℕ) : Type 0 where
  pub between : List ℕ
  pub ids : OnlyIds d mem between
  pub only : OnlySpace d s between after

module _ (mem : List ℕ) where
  abbrev d : Numbers
  d = numbers_of mem

  -- What a call leaves.
  abbrev Only : {A : Type 0} → ℕ → Left A → Type 0
  Only s out = OnlySpace d s mem out.memory

  on_space_keeps :
      {A : Type 0} (refusing : Answer → A) (s : ℕ) (call : Numbers → Left A) → (Sound mem → s < d.spaces → Only s (call d))
      → Only s (on_space (λ a. record { reply = refusing a; memory = mem }) mem s call)
  on_space_keeps refusing s call =
      space_by_cases (Only s) _ mem call (λ bad. only_refl d s mem) s (λ sound far. only_refl d s mem)

  -- ---- finding entries

  pub lookup_only : (s token : ℕ) → OnlySpace (numbers_of mem) s mem (lookup_out mem s token).memory
  unfolding lookup_out
  lookup_only s token = on_space_keeps _ s _ (λ sound valid. (lookup_in_space d mem sound s valid token).only)

  pub lookup_entry_only : (s token : ℕ) → OnlySpace (numbers_of mem) s mem (lookup_entry_out mem s token).memory
  unfolding lookup_entry_out
  lookup_entry_only s token = on_space_keeps _ s _ (λ sound valid. (lookup_in_space d mem sound s valid token).only)

  pub check_rights_only : (s token required : ℕ) → OnlySpace (numbers_of mem) s mem (check_rights_out mem s token required).memory
  unfolding check_rights_out
  check_rights_only s token required = on_space_keeps _ s _ (λ sound valid. (lookup_in_space d mem sound s valid token).only)

  -- ---- changing a space

  pub insert_only :
      (s token object rights : ℕ) → rights < 2 ^ 32 → OnlySpace (numbers_of mem) s mem (insert_call_out mem s token object rights).memory
  unfolding insert_call_out
  insert_only s token object rights fits =
      on_space_keeps _ s _ (λ sound valid. (insert_in_space d mem sound s valid (new_entry token object rights) fits).only)

  pub remove_only : (s token : ℕ) → OnlySpace (numbers_of mem) s mem (remove_out mem s token).memory
  unfolding remove_out
  remove_only s token = on_space_keeps _ s _ (λ sound valid. (remove_in_space d mem sound s valid token).only)

  pub increment_only : (s : ℕ) → OnlySpace (numbers_of mem) s mem (increment_out mem s).memory
  unfolding increment_out
  increment_only s = on_space_keeps _ s _ (λ sound valid. (next_in_space d mem sound s valid).only)

  pub clear_only : (s : ℕ) → OnlySpace (numbers_of mem) s mem (clear_out mem s).memory
  unfolding clear_out
  clear_only s = on_space_keeps _ s _ (λ sound valid. (clear_in_space d mem sound s valid).only)

  pub revoke_all_only : (s : ℕ) → OnlySpace (numbers_of mem) s mem (revoke_all_out mem s).memory
  unfolding revoke_all_out
  revoke_all_only s =
      on_space_keeps _ s _
      (λ sound valid.
      let emptied = clear_step_kept d mem sound s valid in
      only_trans d s mem _ _ (clear_in_space d mem sound s valid).only (next_in_space d _ emptied.sound s valid).only)

  pub copy_only : (target source : ℕ) → OnlySpace (numbers_of mem) target mem (copy_out mem target source).memory
  unfolding copy_out
  copy_only target source =
      on_space_keeps _ target _
      (λ sound valid.
      unless_below (Only target) _ _ source d.spaces (λ far. only_refl d target mem)
      (λ there. (copy_in_space d mem sound target valid source there).only))

  pub revoke_only : (s id : ℕ) → OnlySpace (numbers_of mem) s mem (revoke_out mem s id).memory
  unfolding revoke_out
  revoke_only s id =
      on_space_keeps _ s _
      (λ sound valid.
      made_by_cases (λ m. Only s (revoke_made d s mem m)) (space_of d s mem) id (λ over. only_refl d s mem)
      (λ fits. (remove_in_space d mem sound s valid _).only))

  -- ---- ids

  pub alloc_only : OnlyIds (numbers_of mem) mem (alloc_out mem).memory
  unfolding alloc_out
  alloc_only =
      world_by_cases (λ (out : Left Reply). OnlyIds d mem out.memory) _ mem _ (λ bad. only_no_id d mem) (λ sound. take_only_ids d mem sound)

  pub create_only : (s rights object : ℕ) → rights < 2 ^ 32 → IdsAndSpace (numbers_of mem) s mem (create_out mem s rights object).memory
  create_only s rights object fits =
      let as_it_is : IdsAndSpace d s mem mem = record { between = mem; ids = only_no_id d mem; only = only_refl d s mem } in
      create_by_cases mem s rights object (λ out. IdsAndSpace d s mem out.memory) (λ bad. as_it_is) (λ sound far. as_it_is)
      (λ sound valid none. as_it_is)
      (λ sound valid id is. record {
        between = take_step d mem;
        ids = take_only_ids d mem sound;
        only = (insert_in_space d _ (take_step_kept d mem sound).sound s valid _ fits).only;
      })
