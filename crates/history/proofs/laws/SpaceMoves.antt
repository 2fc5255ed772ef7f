-- Every call of a space pays for the moves in space s, whatever it answers.
use Rattle.std.proofs.Common.{List, ℕ, ◌^◌, ◌<◌}
use Rattle.answers.specs.Answer.{Answer}
use Rattle.history.specs.Counts.{given0}
use Rattle.base.specs.Cases.{unless_below}
use Rattle.space_calls.specs.Calls.{insert_call_out, remove_out, increment_out, clear_out, revoke_all_out, copy_out, alloc_out, create_out, revoke_made, revoke_out}
use Rattle.space_reads.specs.Calls.{lookup_out, lookup_entry_out, check_rights_out}
use Rattle.space_laws.proofs.laws.Ways.{made_by_cases, create_by_cases}
use Rattle.steps.specs.Enter.{on_space}
use Rattle.steps.specs.Replies.{Left, refuse, Reply}
use Rattle.steps.specs.Steps.{space_of, new_entry}
use Rattle.steps.proofs.laws.Entered.{world_by_cases, space_by_cases}
use Rattle.steps.proofs.laws.SpaceSteps.{clear_step_kept}
use Rattle.steps.proofs.laws.TakeStep.{take_step_kept}
use Rattle.world.specs.Numbers.{numbers_of}
use Rattle.world.specs.Sound.{Sound}
use Rattle.world.specs.declared.Numbers.{Numbers}
use Rattle.history.proofs.laws.Paid.{Pays, Quiet, within, quiet_refl, quiet_first, quiet_trans, quiet_pays, take_quiet, lookup_quiet, next_quiet, remove_quiet, clear_quiet, insert_pays, copy_pays}

module _ (mem : List ℕ) (sound : Sound mem) (s : ℕ) (inside : s < (numbers_of mem).spaces) where
  abbrev d : Numbers
  d = numbers_of mem

  -- ---- the calls that accept no entry

  abbrev Calm : {A : Type 0} → Left A → Type 0
  Calm out = Quiet (numbers_of mem) s mem out.memory

  calm :
      {A : Type 0} (refusing : Answer → A) (t : ℕ) (call : Numbers → Left A) → (t < (numbers_of mem).spaces → Calm (call (numbers_of mem)))
      → Calm (on_space (λ a. record { reply = refusing a; memory = mem }) mem t call)
  calm {A} refusing t call goes =
      space_by_cases (Calm {A = A}) _ mem call (λ bad. quiet_refl d s mem) t (λ sound far. quiet_refl d s mem) (λ sound there. goes there)

  pub lookup_calm : (t token : ℕ) → Quiet (numbers_of mem) s mem (lookup_out mem t token).memory
  unfolding lookup_out
  lookup_calm t token = calm _ t _ (λ there. lookup_quiet d s inside mem sound t there token)

  pub lookup_entry_calm : (t token : ℕ) → Quiet (numbers_of mem) s mem (lookup_entry_out mem t token).memory
  unfolding lookup_entry_out
  lookup_entry_calm t token = calm _ t _ (λ there. lookup_quiet d s inside mem sound t there token)

  pub check_rights_calm : (t token required : ℕ) → Quiet (numbers_of mem) s mem (check_rights_out mem t token required).memory
  unfolding check_rights_out
  check_rights_calm t token required = calm _ t _ (λ there. lookup_quiet d s inside mem sound t there token)

  pub remove_calm : (t token : ℕ) → Quiet (numbers_of mem) s mem (remove_out mem t token).memory
  unfolding remove_out
  remove_calm t token = calm _ t _ (λ there. remove_quiet d s inside mem sound t there token)

  pub increment_calm : (t : ℕ) → Quiet (numbers_of mem) s mem (increment_out mem t).memory
  unfolding increment_out
  increment_calm t = calm _ t _ (λ there. next_quiet d s inside mem sound t there)

  pub clear_calm : (t : ℕ) → Quiet (numbers_of mem) s mem (clear_out mem t).memory
  unfolding clear_out
  clear_calm t = calm _ t _ (λ there. clear_quiet d s inside mem sound t there)

  pub revoke_all_calm : (t : ℕ) → Quiet (numbers_of mem) s mem (revoke_all_out mem t).memory
  unfolding revoke_all_out
  revoke_all_calm t =
      calm _ t _
      (λ there.
      quiet_trans d s mem _ _ (clear_quiet d s inside mem sound t there)
      (next_quiet d s inside _ (clear_step_kept d mem sound t there).sound t there))

  pub revoke_calm : (t id : ℕ) → Quiet (numbers_of mem) s mem (revoke_out mem t id).memory
  unfolding revoke_out
  revoke_calm t id =
      calm _ t _
      (λ there.
      made_by_cases (λ m. Calm (revoke_made d t mem m)) (space_of d t mem) id (λ over. quiet_refl d s mem)
      (λ fits. remove_quiet d s inside mem sound t there _))

  pub alloc_calm : Quiet (numbers_of mem) s mem (alloc_out mem).memory
  unfolding alloc_out
  alloc_calm =
      world_by_cases (Calm {A = Reply}) _ mem _ (λ bad. quiet_refl d s mem) (λ sound. take_quiet d s inside mem sound)

  -- ---- the calls that accept entries

  -- An answer of 0 accepted one.
  abbrev Paid : ℕ → Left Reply → Type 0
  Paid t out = Pays (numbers_of mem) s mem out.memory (within s t out.reply.count) (within s t (given0 out))

  unpaid : (t accepted : ℕ) → Pays (numbers_of mem) s mem mem (within s t 0) accepted
  unpaid t accepted = quiet_pays d s mem mem t accepted (quiet_refl d s mem)

  paid :
      (t : ℕ) (call : Numbers → Left Reply) → (t < (numbers_of mem).spaces → Paid t (call (numbers_of mem)))
      → Paid t (on_space (refuse mem) mem t call)
  paid t call goes =
      space_by_cases (Paid t) _ mem call (λ bad. unpaid t _) t (λ sound far. unpaid t _) (λ sound there. goes there)

  pub insert_call_pays :
      (t token object rights : ℕ) → rights < 2 ^ 32 → Paid t (insert_call_out mem t token object rights)
  unfolding insert_call_out
  insert_call_pays t token object rights fits =
      paid t _ (λ there. insert_pays d s inside mem sound t there (new_entry token object rights) fits)

  pub create_call_pays : (t rights object : ℕ) → rights < 2 ^ 32 → Paid t (create_out mem t rights object)
  create_call_pays t rights object fits =
      create_by_cases mem t rights object (Paid t) (λ bad. unpaid t _) (λ sound far. unpaid t _) (λ sound there none. unpaid t _)
      (λ sound there id is.
      quiet_first d s mem _ _ _ _ (take_quiet d s inside mem sound)
      (insert_pays d s inside _ (take_step_kept d mem sound).sound t there _ fits))

  -- A copy's value is what it accepted.
  pub copy_call_pays :
      (t source : ℕ)
      → Pays (numbers_of mem) s mem (copy_out mem t source).memory (within s t (copy_out mem t source).reply.count)
      (within s t (copy_out mem t source).reply.value)
  unfolding copy_out
  copy_call_pays t source =
      space_by_cases Copied _ mem _ (λ bad. unpaid t _) t (λ sound far. unpaid t _)
      (λ sound there.
      unless_below Copied _ _ source d.spaces (λ far. unpaid t _) (λ from. copy_pays d s inside mem sound t there source from))
    where
      Copied : Left Reply → Type 0
      Copied out = Pays (numbers_of mem) s mem out.memory (within s t out.reply.count) (within s t out.reply.value)
