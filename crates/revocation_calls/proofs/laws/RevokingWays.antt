-- The ways through a revocation: what holds of each ending holds of the whole.
use Rattle.std.proofs.Common.{List, [], ◌∷◌, ◌≡◌, ℕ, ◌+◌, ◌≤◌, ◌<◌, arith, ltb-true, ltb-false, eqb-true, eqb, ltb, length}
use borrow.Author.Tests.{eqb-false}
use Rattle.answers.specs.Answer.{LogFull, PidTableFull}
use Rattle.registry.specs.Words.{revoked}
use Rattle.revocation.specs.Log.{pair_of, absent_of}
use Rattle.revocation_steps.specs.Revocation.{log_of, log_step, free_queues, cascade_pairs}
use Rattle.revocation_steps.proofs.laws.CascadeSteps.{revoke_step, cascade_queues}
use Rattle.steps.specs.Replies.{Left, done, refuse, Reply}
use Rattle.steps.specs.Steps.{place_in, add_step}
use Rattle.base.specs.Cases.{pick_by_cases, when_by_cases, when_below}
use Rattle.token.specs.Token.{id_of, generation_of}
use Rattle.world.specs.Numbers.{registered_of, logged_of, epoch_word}
use Rattle.world.specs.Sound.{states}
use Rattle.world.specs.declared.Numbers.{Numbers}
use Rattle.cascade.specs.Cascade.{revoking}
use Rattle.revocation_calls.specs.Revoking.{logging_token, revoking_token}

-- How many pairs the log has with those that a cascade from place r adds,
abbrev pub pairs_after : Numbers → List ℕ → ℕ → ℕ
pairs_after d mem r = logged_of mem + length (cascade_pairs d mem r)

-- the pair of a token, if the log has it not, and how many pairs the log has with it.
abbrev pub new_pair : Numbers → List ℕ → ℕ → List ℕ
new_pair d mem token = absent_of (logged_of mem) (log_of d mem) (pair_of (id_of token) (generation_of token) ∷ [])

abbrev pub pairs_with : Numbers → List ℕ → ℕ → ℕ
pairs_with d mem token = logged_of mem + length (new_pair d mem token)

-- ---- from a registered place, from an id that is not registered, from any token

module _ (d : Numbers) (mem : List ℕ) (P : Left Reply → Type 0) where
  pub revoking_by_cases :
      (r time : ℕ) (listed : List ℕ) → (revoked (states d mem r) ≡ 1 → P (record { reply = done 0; memory = mem }))
      → (revoked (states d mem r) ≡ 0 → d.pairs < pairs_after d mem r → P (refuse mem LogFull))
      → (revoked (states d mem r) ≡ 0 → pairs_after d mem r ≤ d.pairs → free_queues d mem < cascade_queues d mem r listed
      → P (refuse mem PidTableFull))
      → (revoked (states d mem r) ≡ 0 → pairs_after d mem r ≤ d.pairs → cascade_queues d mem r listed ≤ free_queues d mem
      → P (record { reply = done 0; memory = revoke_step d r time listed mem }))
      → P (revoking d r time listed mem)
  unfolding revoking revoke_step
  revoking_by_cases r time listed already full crowded goes =
      let state : ℕ = states d mem r in
      when_by_cases P _ _ (eqb (revoked state) 1) (λ e. already (eqb-true (revoked state) 1 e))
      (λ e.
      let unrevoked : revoked state ≡ 0 = omega (arith, eqb-false (revoked state) 1 e) in
      when_below P _ _ d.pairs (pairs_after d mem r) (full unrevoked)
      (λ fits.
      when_below P _ _ (free_queues d mem) (cascade_queues d mem r listed) (crowded unrevoked fits) (goes unrevoked fits)))

  pub logging_by_cases :
      (token : ℕ) → (d.pairs < pairs_with d mem token → P (refuse mem LogFull))
      → (pairs_with d mem token ≤ d.pairs
      → P (record { reply = done 0; memory = add_step epoch_word 1 (log_step d (new_pair d mem token) mem) }))
      → P (logging_token d token mem)
  unfolding logging_token
  logging_by_cases token full goes = when_below P _ _ d.pairs (pairs_with d mem token) full goes

  pub revoking_token_by_cases :
      (token time : ℕ) (listed : List ℕ)
      → (place_in d mem (id_of token) < registered_of mem → P (revoking d (place_in d mem (id_of token)) time listed mem))
      → (registered_of mem ≤ place_in d mem (id_of token) → P (logging_token d token mem)) → P (revoking_token d token time listed mem)
  unfolding revoking_token
  revoking_token_by_cases token time listed inside outside =
      let r : ℕ = place_in d mem (id_of token) in
      pick_by_cases P _ _ (ltb r (registered_of mem)) (λ e. inside (ltb-true r _ e)) (λ e. outside (ltb-false r _ e))

-- ---- the memory that is left

-- What holds of the memory as it was, after a cascade and after a pair joined the log holds of the memory that a revocation leaves.
module _ (d : Numbers) (mem : List ℕ) (P : List ℕ → Type 0) (as_it_was : P mem) where
  abbrev Leaves : Left Reply → Type 0
  Leaves out = P out.memory

  pub revoking_leaves :
      (r time : ℕ) (listed : List ℕ) → (pairs_after d mem r ≤ d.pairs → P (revoke_step d r time listed mem))
      → P (revoking d r time listed mem).memory
  revoking_leaves r time listed goes =
      revoking_by_cases d mem Leaves r time listed (λ already. as_it_was) (λ un full. as_it_was) (λ un fits crowded. as_it_was)
      (λ un fits room. goes fits)

  pub listing_leaves :
      (token : ℕ) → (pairs_with d mem token ≤ d.pairs → P (add_step epoch_word 1 (log_step d (new_pair d mem token) mem)))
      → P (logging_token d token mem).memory
  listing_leaves token goes = logging_by_cases d mem Leaves token (λ full. as_it_was) goes

  pub token_leaves :
      (token time : ℕ) (listed : List ℕ)
      → (place_in d mem (id_of token) < registered_of mem → pairs_after d mem (place_in d mem (id_of token)) ≤ d.pairs
      → P (revoke_step d (place_in d mem (id_of token)) time listed mem))
      → (pairs_with d mem token ≤ d.pairs → P (add_step epoch_word 1 (log_step d (new_pair d mem token) mem)))
      → P (revoking_token d token time listed mem).memory
  token_leaves token time listed cascades joins =
      revoking_token_by_cases d mem Leaves token time listed
      (λ inside. revoking_leaves (place_in d mem (id_of token)) time listed (cascades inside))
      (λ outside. listing_leaves token joins)
