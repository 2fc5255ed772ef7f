-- A revocation keeps a sound memory sound, with its numbers, its length and every word past the regions, whatever it answers.
use Rattle.std.proofs.Common.{List, [], ◌∷◌, ◌≡◌, ℕ, zero, suc, ◌^◌, ◌≤◌, ◌<◌, arith, get_or}
use Rattle.revocation.specs.Log.{pair_of}
use Rattle.revocation.specs.LogLaws.{absent_exactly, absent_differ, absent_pairs}
use Rattle.revocation_steps.specs.Revocation.{log_of, log_step}
use Rattle.revocation_steps.proofs.laws.CascadeSteps.{revoke_step_kept}
use Rattle.revocation_steps.proofs.laws.LogSteps.{log_step_kept}
use Rattle.revocation_steps.proofs.Pairs.{pair_coded}
use Rattle.steps.proofs.laws.Kept.{Kept, kept_refl, kept_trans}
use Rattle.steps.proofs.laws.RegistrySteps.{add_step_kept}
use Rattle.steps.proofs.laws.SpaceSteps.{lookup_step_kept}
use Rattle.steps.specs.Steps.{add_step, lookup_step}
use Rattle.token.specs.Token.{id_of, generation_of}
use Rattle.world.specs.Numbers.{logged_of, epoch_word}
use Rattle.world.specs.Sound.{SoundAt}
use Rattle.world.specs.declared.Numbers.{Numbers}
use Rattle.revocation_calls.specs.Revoking.{logging_token, revoking_token}
use Rattle.revocation_calls.proofs.laws.RevokingWays.{new_pair, pairs_with, listing_leaves, token_leaves}

module _ (d : Numbers) (mem : List ℕ) (sound : SoundAt d mem) (token : ℕ) where
  abbrev pairs : List ℕ
  pairs = pair_of (id_of token) (generation_of token) ∷ []

  -- The token's pair joins the log if absent, and the epoch counts one.
  pub joined_kept : pairs_with d mem token ≤ d.pairs → Kept d mem (add_step epoch_word 1 (log_step d (new_pair d mem token) mem))
  joined_kept fits =
      let joined : Kept d mem (log_step d (new_pair d mem token) mem) =
      log_step_kept d mem sound (new_pair d mem token) fits
      (absent_pairs (logged_of mem) (log_of d mem) pairs one_coded)
      (absent_differ (logged_of mem) (log_of d mem) pairs (λ j l i u e. omega arith))
      (λ pair among. ((absent_exactly (logged_of mem) (log_of d mem) pairs pair).0 among).1) in
      kept_trans d mem _ _ joined (add_step_kept d _ joined.sound epoch_word 1 (omega arith) (omega arith))
    where
      one_coded : (k : ℕ) → k < 1 → get_or pairs k 0 < 2 ^ 56
      one_coded zero l = pair_coded token
      one_coded (suc k) l = absurd (omega arith)

  pub logging_kept : Kept d mem (logging_token d token mem).memory
  logging_kept = listing_leaves d mem (Kept d mem) (kept_refl d mem sound) token joined_kept

  pub revoking_token_kept : (time : ℕ) (listed : List ℕ) → Kept d mem (revoking_token d token time listed mem).memory
  revoking_token_kept time listed =
      token_leaves d mem (Kept d mem) (kept_refl d mem sound) token time listed
      (λ inside fits. revoke_step_kept d mem sound _ inside fits time listed)
      joined_kept

-- So does a lookup before it.
pub looked_up_sound :
    (d : Numbers) (mem after : List ℕ) (s token : ℕ) → after ≡ lookup_step d s token mem → SoundAt d mem → s < d.spaces → SoundAt d after
looked_up_sound d mem after s token leaves sound there = rw leaves (lookup_step_kept d mem sound s there token).sound
