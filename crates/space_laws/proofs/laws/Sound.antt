-- Every call keeps a sound memory sound, with its numbers, its length and every word past the regions (`Kept`), whatever it answers.
use Rattle.std.proofs.Common.{List, ℕ, ◌^◌, ◌<◌}
use Rattle.steps.specs.Steps.{space_of, new_entry}
use Rattle.base.specs.Cases.{unless_below}
use Rattle.steps.proofs.laws.Kept.{kept_refl, kept_trans}
use Rattle.steps.proofs.laws.SpaceSteps.{lookup_step_kept, next_step_kept, insert_step_kept, remove_step_kept, clear_step_kept, copy_step_kept}
use Rattle.steps.proofs.laws.TakeStep.{take_step_kept}
use Rattle.world.specs.Numbers.{numbers_of}
use Rattle.world.specs.Sound.{Sound}
use Rattle.world.specs.declared.Numbers.{Numbers}
use Rattle.space_calls.specs.Calls.{insert_call_out, remove_out, increment_out, clear_out, revoke_all_out, copy_out, alloc_out, create_out, revoke_made, revoke_out}
use Rattle.space_reads.specs.Calls.{lookup_out, lookup_entry_out, check_rights_out}
use Rattle.steps.proofs.laws.Called.{Keeps, on_world_keeps, on_space_keeps}
use Rattle.space_laws.proofs.laws.Ways.{made_by_cases, create_by_cases}

module _ (mem : List ℕ) (sound : Sound mem) where
  abbrev d : Numbers
  d = numbers_of mem

  -- ---- finding entries

  pub lookup_keeps : (s token : ℕ) → Keeps mem (lookup_out mem s token)
  unfolding lookup_out
  lookup_keeps s token = on_space_keeps mem sound _ _ s (λ valid. lookup_step_kept d mem sound s valid token)

  pub lookup_entry_keeps : (s token : ℕ) → Keeps mem (lookup_entry_out mem s token)
  unfolding lookup_entry_out
  lookup_entry_keeps s token = on_space_keeps mem sound _ _ s (λ valid. lookup_step_kept d mem sound s valid token)

  pub check_rights_keeps : (s token required : ℕ) → Keeps mem (check_rights_out mem s token required)
  unfolding check_rights_out
  check_rights_keeps s token required = on_space_keeps mem sound _ _ s (λ valid. lookup_step_kept d mem sound s valid token)

  -- ---- changing a space

  pub insert_keeps : (s token object rights : ℕ) → rights < 2 ^ 32 → Keeps mem (insert_call_out mem s token object rights)
  unfolding insert_call_out
  insert_keeps s token object rights fits =
      on_space_keeps mem sound _ _ s (λ valid. insert_step_kept d mem sound s valid (new_entry token object rights) fits)

  pub remove_keeps : (s token : ℕ) → Keeps mem (remove_out mem s token)
  unfolding remove_out
  remove_keeps s token = on_space_keeps mem sound _ _ s (λ valid. remove_step_kept d mem sound s valid token)

  pub increment_keeps : (s : ℕ) → Keeps mem (increment_out mem s)
  unfolding increment_out
  increment_keeps s = on_space_keeps mem sound _ _ s (λ valid. next_step_kept d mem sound s valid)

  pub clear_keeps : (s : ℕ) → Keeps mem (clear_out mem s)
  unfolding clear_out
  clear_keeps s = on_space_keeps mem sound _ _ s (λ valid. clear_step_kept d mem sound s valid)

  pub revoke_all_keeps : (s : ℕ) → Keeps mem (revoke_all_out mem s)
  unfolding revoke_all_out
  revoke_all_keeps s =
      on_space_keeps mem sound _ _ s
      (λ valid.
      let emptied = clear_step_kept d mem sound s valid in
      kept_trans d mem _ _ emptied (next_step_kept d _ emptied.sound s valid))

  pub copy_keeps : (target source : ℕ) → Keeps mem (copy_out mem target source)
  unfolding copy_out
  copy_keeps target source =
      on_space_keeps mem sound _ _ target
      (λ valid.
      unless_below (Keeps mem) _ _ source d.spaces (λ far. kept_refl d mem sound)
      (λ there. copy_step_kept d mem sound target source valid there))

  -- ---- ids

  pub alloc_keeps : Keeps mem (alloc_out mem)
  unfolding alloc_out
  alloc_keeps = on_world_keeps mem sound _ _ (take_step_kept d mem sound)

  pub create_keeps : (s rights object : ℕ) → rights < 2 ^ 32 → Keeps mem (create_out mem s rights object)
  create_keeps s rights object fits =
      let as_it_is = kept_refl d mem sound in
      let took = take_step_kept d mem sound in
      create_by_cases mem s rights object (Keeps mem) (λ bad. as_it_is) (λ sound far. as_it_is) (λ sound valid none. as_it_is)
      (λ sound valid id is. kept_trans d mem _ _ took (insert_step_kept d _ took.sound s valid _ fits))

  pub revoke_keeps : (s id : ℕ) → Keeps mem (revoke_out mem s id)
  unfolding revoke_out
  revoke_keeps s id =
      on_space_keeps mem sound _ _ s
      (λ valid.
      made_by_cases (λ m. Keeps mem (revoke_made d s mem m)) (space_of d s mem) id (λ over. kept_refl d mem sound)
      (λ fits. remove_step_kept d mem sound s valid _))
