-- Every call keeps a sound memory sound, with its numbers, its length and every word past the regions, whatever it answers: each step does.
use Rattle.std.proofs.Common.{List, ℕ}
use Rattle.notification_calls.specs.Calls.{notify_out, drain_out, cleanup_out}
use Rattle.revocation_calls.specs.Calls.{revoke_out, revoke_capability_out, revoke_held_out, revoke_batch_out}
use Rattle.revocation_calls.proofs.laws.Kept.{joined_kept}
use Rattle.revocation_steps.proofs.laws.CascadeSteps.{revoke_step_kept}
use Rattle.revocation_steps.proofs.laws.QueueSteps.{notify_step_kept, free_step_kept}
use Rattle.steps.proofs.laws.Called.{Keeps}
use Rattle.steps.proofs.laws.Kept.{Kept, kept_refl, kept_trans}
use Rattle.steps.proofs.laws.SpaceSteps.{lookup_step_kept}
use Rattle.world.specs.Numbers.{numbers_of}
use Rattle.world.specs.Sound.{Sound}
use Rattle.world.specs.declared.Numbers.{Numbers}
use Rattle.revocation_laws.proofs.laws.Steady.{Steady, revoke_steady, revoke_capability_steady, held_revoke_steady, batch_steady, notify_steady, drain_steady, cleanup_steady}

kept_steady : (d : Numbers) → Steady d (Kept d)
kept_steady d = record {
  stays = kept_refl d;
  follows = kept_trans d;
  looks = lookup_step_kept d;
  cascades = revoke_step_kept d;
  joins = joined_kept d;
  notifies = notify_step_kept d;
  frees = free_step_kept d;
}

module _ (mem : List ℕ) (sound : Sound mem) where
  steady : Steady (numbers_of mem) (Kept (numbers_of mem))
  steady = kept_steady (numbers_of mem)

  pub revoke_keeps : (token time : ℕ) (listed : List ℕ) → Keeps mem (revoke_out mem token time listed)
  revoke_keeps = revoke_steady mem sound (Kept (numbers_of mem)) steady

  pub revoke_capability_keeps : (token time : ℕ) (listed : List ℕ) → Keeps mem (revoke_capability_out mem token time listed)
  revoke_capability_keeps = revoke_capability_steady mem sound (Kept (numbers_of mem)) steady

  pub revoke_held_keeps : (s token time : ℕ) (listed : List ℕ) → Keeps mem (revoke_held_out mem s token time listed)
  revoke_held_keeps = held_revoke_steady mem sound (Kept (numbers_of mem)) steady

  pub revoke_batch_keeps : (tokens : List ℕ) (time : ℕ) (listed : List ℕ) → Keeps mem (revoke_batch_out mem tokens time listed)
  revoke_batch_keeps = batch_steady mem sound (Kept (numbers_of mem)) steady

  pub notify_keeps : (pid id reason time : ℕ) → Keeps mem (notify_out mem pid id reason time)
  notify_keeps = notify_steady mem sound (Kept (numbers_of mem)) steady

  pub drain_keeps : (pid : ℕ) (area : List ℕ) → Keeps mem (drain_out mem pid area)
  drain_keeps = drain_steady mem sound (Kept (numbers_of mem)) steady

  pub cleanup_keeps : (pid : ℕ) → Keeps mem (cleanup_out mem pid)
  cleanup_keeps = cleanup_steady mem sound (Kept (numbers_of mem)) steady
