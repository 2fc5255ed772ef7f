-- What holds of the memory that a revocation given 0 leaves holds of what each call that revokes leaves, given 0: `revoke`,
-- `revoke_capability`, a held revoke.
use Rattle.std.proofs.Common.{List, ◌≢◌, ◌≡◌, refl, ap, ℕ, ◌≤◌, ◌<◌, arith}
use Rattle.answers.specs.Number.{number_of}
use Rattle.answers.specs.Answer.{Answer, Done}
use Rattle.registry.specs.Words.{revoked}
use Rattle.revocation_steps.specs.Revocation.{free_queues}
use Rattle.revocation_steps.proofs.laws.CascadeSteps.{revoke_step, cascade_queues}
use Rattle.steps.specs.Replies.{Left, Reply}
use Rattle.steps.specs.Steps.{lookup_step, place_in}
use Rattle.token.specs.Token.{id_of}
use Rattle.world.specs.Numbers.{numbers_of, registered_of}
use Rattle.world.specs.Sound.{states, Sound}
use Rattle.world.specs.declared.Numbers.{Numbers}
use Rattle.revocation_calls.specs.Calls.{revoke_out, revoke_capability_out, revoke_held_out}
use Rattle.cascade.specs.Cascade.{revoking}
use Rattle.revocation_calls.specs.Revoking.{logging_token, revoking_token}
use Rattle.revocation_calls.proofs.laws.RevokingWays.{pairs_after, revoking_by_cases, revoking_token_by_cases}
use Rattle.revocation_laws.proofs.laws.Counted.{same_registered, same_registry}
use Rattle.revocation_laws.proofs.laws.Ways.{revoke_by_cases, revoke_capability_by_cases, held_by_cases}

-- Given 0, it leaves a memory that P holds of.
abbrev pub Given : (List ℕ → Type 0) → Left Reply → Type 0
Given P out = out.reply.answer ≡ Done → P out.memory

not_done : {A : Type 0} (a : Answer) → number_of a ≢ 0 → a ≡ Done → A
not_done a some e = absurd (some (ap number_of e))

-- A revocation from place r: where it is revoked already, the memory as it was; else what the cascade leaves.
pub revoking_given :
    (d : Numbers) (mem : List ℕ) (r time : ℕ) (listed : List ℕ) (P : List ℕ → Type 0) → (revoked (states d mem r) ≡ 1 → P mem)
    → (revoked (states d mem r) ≡ 0 → pairs_after d mem r ≤ d.pairs → cascade_queues d mem r listed ≤ free_queues d mem
    → P (revoke_step d r time listed mem))
    → Given P (revoking d r time listed mem)
revoking_given d mem r time listed P already goes =
    revoking_by_cases d mem (Given P) r time listed (λ gone e. already gone) (λ un full. not_done _ (λ e. omega arith))
    (λ un fits crowded. not_done _ (λ e. omega arith))
    (λ un fits room e. goes un fits room)

module _ (mem : List ℕ) (token time : ℕ) (listed : List ℕ) (P : List ℕ → Type 0) where
  abbrev d : Numbers
  d = numbers_of mem

  abbrev place : ℕ
  place = place_in d mem (id_of token)

  either_given :
      (Sound mem → place < registered_of mem → Given P (revoking d place time listed mem))
      → (Sound mem → registered_of mem ≤ place → Given P (logging_token d token mem))
      → Given P (revoke_capability_out mem token time listed)
  either_given inside outside =
      revoke_capability_by_cases mem time listed (Given P) (λ bad. not_done _ (λ e. omega arith)) token
      (λ sound many. not_done _ (λ e. omega arith))
      (λ sound few. revoking_token_by_cases d mem (Given P) token time listed (inside sound) (outside sound))

  -- From a registered place.
  module _ (made : Sound mem → place < registered_of mem → Given P (revoking (numbers_of mem) place time listed mem)) where
    pub revoke_given : Given P (revoke_out mem token time listed)
    revoke_given =
        revoke_by_cases mem time listed (Given P) (λ bad. not_done _ (λ e. omega arith)) token
        (λ sound many. not_done _ (λ e. omega arith))
        (λ sound few outside. not_done _ (λ e. omega arith))
        (λ sound few. made sound)

    pub revoke_capability_given : place < registered_of mem → Given P (revoke_capability_out mem token time listed)
    revoke_capability_given inside = either_given made (λ sound outside. absurd (omega arith))

  -- Of an id that is not registered.
  pub revoke_capability_listed :
      registered_of mem ≤ place → (Sound mem → Given P (logging_token (numbers_of mem) token mem))
      → Given P (revoke_capability_out mem token time listed)
  revoke_capability_listed outside made = either_given (λ sound inside. absurd (omega arith)) (λ sound outside. made sound)

  -- By a token that a space holds, from the memory with the lookup counted,
  module _ (s : ℕ) where
    abbrev looked : List ℕ
    looked = lookup_step d s token mem

    held_made :
        (Sound mem → s < d.spaces → Given P (revoking_token d token time listed looked)) → Given P (revoke_held_out mem s token time listed)
    held_made made =
        held_by_cases mem time listed (Given P) (λ bad. not_done _ (λ e. omega arith)) s token
        (λ sound far. not_done _ (λ e. omega arith))
        (λ sound there many. not_done _ (λ e. omega arith))
        (λ sound there few none. not_done _ (λ e. omega arith))
        (λ sound there few e is lacks. not_done _ (λ e. omega arith))
        (λ sound there few e is has. made sound there)

    -- which has the id at the same place.
    same_place : Sound mem → s < d.spaces → place_in d looked (id_of token) ≡ place
    same_place sound there = rw (same_registered d mem sound s there token, same_registry d mem sound s there token) refl

    -- So the same two ways, by whether the id is registered.
    held_either_given :
        (Sound mem → s < d.spaces → place < registered_of looked → Given P (revoking d place time listed looked))
        → (Sound mem → s < d.spaces → registered_of looked ≤ place → Given P (logging_token d token looked))
        → Given P (revoke_held_out mem s token time listed)
    held_either_given inside outside =
        held_made
        (λ sound there.
        let same = same_place sound there in
        revoking_token_by_cases d looked (Given P) token time listed
        (λ l. rw same (inside sound there (omega (arith, same)))) (λ l. outside sound there (omega (arith, same))))

    pub held_given :
        place < registered_of mem
        → (Sound mem → s < (numbers_of mem).spaces → place < registered_of (lookup_step (numbers_of mem) s token mem)
        → Given P (revoking (numbers_of mem) place time listed (lookup_step (numbers_of mem) s token mem)))
        → Given P (revoke_held_out mem s token time listed)
    held_given inside made = held_either_given made (λ sound there none. absurd (omega (arith, same_registered d mem sound s there token)))

    pub held_listed :
        registered_of mem ≤ place
        → (Sound mem → s < (numbers_of mem).spaces
        → Given P (logging_token (numbers_of mem) token (lookup_step (numbers_of mem) s token mem)))
        → Given P (revoke_held_out mem s token time listed)
    held_listed outside made =
        held_either_given (λ sound there some. absurd (omega (arith, same_registered d mem sound s there token)))
        (λ sound there none. made sound there)

-- A held revoke is given 0 only where the memory is sound and the space is there.
pub held_done :
    (mem : List ℕ) (token time : ℕ) (listed : List ℕ) (s : ℕ) → (revoke_held_out mem s token time listed).reply.answer ≡ Done
    → Sound mem × (s < (numbers_of mem).spaces)
held_done mem token time listed s =
    held_made mem token time listed (λ after. Sound mem × (s < (numbers_of mem).spaces)) s (λ sound there e. (sound, there))
