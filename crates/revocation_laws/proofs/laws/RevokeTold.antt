-- When each answer of `revoke` and `revoke_capability` is given, on a sound memory: 21 exactly for too long a list; for any other, 1, 24,
-- 25 and 0 exactly in their stated cases. Told.antt says it of 26.
use Rattle.std.proofs.Common.{List, ◌↔◌, ◌≢◌, ◌⊎◌, inl, inr, ⊎_elim, ◌≡◌, refl, sym, ℕ, ◌≤◌, ◌<◌, arith, length}
use Rattle.answers.specs.Number.{number_of}
use Rattle.answers.specs.Answer.{Answer, Done, InvalidCapability, BadField, LogFull, PidTableFull}
use Rattle.registry.specs.Words.{revoked}
use Rattle.revocation_steps.specs.Revocation.{free_queues}
use Rattle.revocation_steps.proofs.laws.CascadeSteps.{cascade_queues}
use Rattle.steps.specs.Steps.{place_in}
use Rattle.steps.proofs.laws.Cases.{Exactly, given, not_given}
use Rattle.token.specs.Token.{id_of}
use Rattle.world.specs.Numbers.{numbers_of, registered_of}
use Rattle.world.specs.Sound.{states, Sound}
use Rattle.world.specs.declared.Numbers.{Numbers}
use Rattle.revocation_calls.specs.Calls.{revoke_out, revoke_capability_out}
use Rattle.cascade.specs.Cascade.{revoking}
use Rattle.revocation_calls.specs.Revoking.{logging_token, revoking_token}
use Rattle.revocation_calls.proofs.laws.RevokingWays.{pairs_after, pairs_with, revoking_by_cases, logging_by_cases, revoking_token_by_cases}
use Rattle.revocation_laws.proofs.laws.Ways.{Own, own_not, revoking_own, revoking_token_own, revoke_by_cases, revoke_capability_by_cases, revoke_capability_called}

-- ---- from a registered place

module _ (d : Numbers) (mem : List ℕ) (r time : ℕ) (listed : List ℕ) where
  -- More new pairs are needed than places free; else, more new queues than free.
  abbrev pub NoPairs : Type 0
  NoPairs = (revoked (states d mem r) ≡ 0) × (d.pairs < pairs_after d mem r)

  abbrev pub NoQueues : Type 0
  NoQueues = (revoked (states d mem r) ≡ 0) × ((pairs_after d mem r ≤ d.pairs) × (free_queues d mem < cascade_queues d mem r listed))

  abbrev pub Goes : Type 0
  Goes =
      (revoked (states d mem r) ≡ 1) ⊎ ((pairs_after d mem r ≤ d.pairs) × (cascade_queues d mem r listed ≤ free_queues d mem))

  pub revoking_told_24 : ((revoking d r time listed mem).reply.answer ≡ LogFull) ↔ NoPairs
  revoking_told_24 =
      revoking_by_cases d mem (Exactly LogFull NoPairs) r time listed
      (λ already. not_given Done LogFull (λ e. omega arith) (λ (un, full). omega arith))
      (λ un full. given refl (un, full))
      (λ un fits crowded. not_given PidTableFull LogFull (λ e. omega arith) (λ (un, full). omega arith))
      (λ un fits room. not_given Done LogFull (λ e. omega arith) (λ (un, full). omega arith))

  pub revoking_told_25 : ((revoking d r time listed mem).reply.answer ≡ PidTableFull) ↔ NoQueues
  revoking_told_25 =
      revoking_by_cases d mem (Exactly PidTableFull NoQueues) r time listed
      (λ already. not_given Done PidTableFull (λ e. omega arith) (λ (un, rest). omega arith))
      (λ un full. not_given LogFull PidTableFull (λ e. omega arith) (λ (un, (fits, crowded)). omega arith))
      (λ un fits crowded. given refl (un, (fits, crowded)))
      (λ un fits room. not_given Done PidTableFull (λ e. omega arith) (λ (un, (fits, crowded)). omega arith))

  pub revoking_told_0 : ((revoking d r time listed mem).reply.answer ≡ Done) ↔ Goes
  revoking_told_0 =
      revoking_by_cases d mem (Exactly Done Goes) r time listed
      (λ already. given refl (inl already))
      (λ un full.
      not_given LogFull Done (λ e. omega arith) (⊎_elim (λ already. omega arith) (λ (fits, room). omega arith)))
      (λ un fits crowded.
      not_given PidTableFull Done (λ e. omega arith) (⊎_elim (λ already. omega arith) (λ (fits, room). omega arith)))
      (λ un fits room. given refl (inr (fits, room)))

-- ---- from any token

module _ (d : Numbers) (mem : List ℕ) (token time : ℕ) (listed : List ℕ) where
  abbrev place : ℕ
  place = place_in d mem (id_of token)

  abbrev n : ℕ
  n = registered_of mem

  -- The id is registered, and it is so of its place; or it is not, and the token's own pair is all that joins the log.
  abbrev pub TokenNoPairs : Type 0
  TokenNoPairs = ((place < n) × NoPairs d mem place time listed) ⊎ ((n ≤ place) × (d.pairs < pairs_with d mem token))

  abbrev pub TokenNoQueues : Type 0
  TokenNoQueues = (place < n) × NoQueues d mem place time listed

  abbrev pub TokenGoes : Type 0
  TokenGoes = ((place < n) × Goes d mem place time listed) ⊎ ((n ≤ place) × (pairs_with d mem token ≤ d.pairs))

  logging_told_24 : ((logging_token d token mem).reply.answer ≡ LogFull) ↔ (d.pairs < pairs_with d mem token)
  logging_told_24 =
      logging_by_cases d mem (Exactly LogFull (d.pairs < pairs_with d mem token)) token (λ full. given refl full)
      (λ fits. not_given Done LogFull (λ e. omega arith) (λ full. omega arith))

  logging_told_0 : ((logging_token d token mem).reply.answer ≡ Done) ↔ (pairs_with d mem token ≤ d.pairs)
  logging_told_0 =
      logging_by_cases d mem (Exactly Done (pairs_with d mem token ≤ d.pairs)) token
      (λ full. not_given LogFull Done (λ e. omega arith) (λ fits. omega arith))
      (λ fits. given refl fits)

  -- An answer that both ways give is given in the case of the way that was gone.
  either_way :
      (a : Answer) (P Q : Type 0) → ((revoking d place time listed mem).reply.answer ≡ a) ↔ P
      → ((logging_token d token mem).reply.answer ≡ a) ↔ Q
      → ((revoking_token d token time listed mem).reply.answer ≡ a) ↔ (((place < n) × P) ⊎ ((n ≤ place) × Q))
  either_way a P Q by_place by_pair =
      revoking_token_by_cases d mem (Exactly a (((place < n) × P) ⊎ ((n ≤ place) × Q))) token time listed
      (λ inside. (λ e. inl (inside, by_place.0 e), ⊎_elim (λ (l, p). by_place.1 p) (λ (outside, q). absurd (omega arith))))
      (λ outside. (λ e. inr (outside, by_pair.0 e), ⊎_elim (λ (inside, p). absurd (omega arith)) (λ (l, q). by_pair.1 q)))

  pub revoking_token_told_24 : ((revoking_token d token time listed mem).reply.answer ≡ LogFull) ↔ TokenNoPairs
  revoking_token_told_24 = either_way LogFull _ _ (revoking_told_24 d mem place time listed) logging_told_24

  pub revoking_token_told_25 : ((revoking_token d token time listed mem).reply.answer ≡ PidTableFull) ↔ TokenNoQueues
  revoking_token_told_25 =
      revoking_token_by_cases d mem (Exactly PidTableFull TokenNoQueues) token time listed
      (λ inside. let told = revoking_told_25 d mem place time listed in (λ e. (inside, told.0 e), λ (l, crowded). told.1 crowded))
      (λ outside.
      logging_by_cases d mem (Exactly PidTableFull TokenNoQueues) token
      (λ full. not_given LogFull PidTableFull (λ e. omega arith) (λ (l, crowded). omega arith))
      (λ fits. not_given Done PidTableFull (λ e. omega arith) (λ (l, crowded). omega arith)))

  pub revoking_token_told_0 : ((revoking_token d token time listed mem).reply.answer ≡ Done) ↔ TokenGoes
  revoking_token_told_0 = either_way Done _ _ (revoking_told_0 d mem place time listed) logging_told_0

-- ---- the calls

-- A revocation's own answers are not those to bad arguments.
pub not_own : (a b : Answer) {A : Type 0} → Own a → 0 < number_of b → number_of b < 24 → ¬ A → (a ≡ b) ↔ A
not_own a b own low high none =
    not_given a b (own_not a own (number_of b) (λ e. omega arith) (λ e. omega arith) (λ e. omega arith)) none

module _ (mem : List ℕ) (sound : Sound mem) (token time : ℕ) (listed : List ℕ) where
  abbrev numbers : Numbers
  numbers = numbers_of mem

  abbrev r : ℕ
  r = place_in numbers mem (id_of token)

  unsound : {A : Type 0} → ¬ Sound mem → A
  unsound bad = absurd (bad sound)

  pub revoke_told_21 : ((revoke_out mem token time listed).reply.answer ≡ BadField) ↔ (32 < length listed)
  revoke_told_21 =
      revoke_by_cases mem time listed (Exactly BadField (32 < length listed)) unsound token
      (λ sound many. given refl many)
      (λ sound few outside. not_given InvalidCapability BadField (λ e. omega arith) (λ many. omega arith))
      (λ sound few inside.
      not_own _ BadField (revoking_own numbers mem r time listed) (omega arith) (omega arith) (λ many. omega arith))

  pub revoke_capability_told_21 : ((revoke_capability_out mem token time listed).reply.answer ≡ BadField) ↔ (32 < length listed)
  revoke_capability_told_21 =
      revoke_capability_by_cases mem time listed (Exactly BadField (32 < length listed)) unsound token
      (λ sound many. given refl many)
      (λ sound few.
      not_own _ BadField (revoking_token_own numbers mem token time listed) (omega arith) (omega arith) (λ many. omega arith))

  module _ (few : length listed ≤ 32) where
    -- 1 exactly where the id is not registered.
    pub revoke_told_1 : ((revoke_out mem token time listed).reply.answer ≡ InvalidCapability) ↔ (registered_of mem ≤ r)
    revoke_told_1 =
        revoke_by_cases mem time listed (Exactly InvalidCapability (registered_of mem ≤ r)) unsound token
        (λ sound many. absurd (omega arith))
        (λ sound few outside. given refl outside)
        (λ sound few inside.
        not_own _ InvalidCapability (revoking_own numbers mem r time listed) (omega arith) (omega arith) (λ outside. omega arith))

    -- Any other answer is that of a registered place.
    registered_only :
        (a : Answer) (A : Type 0) → number_of a ≢ 1 → ((revoking numbers r time listed mem).reply.answer ≡ a) ↔ A
        → ((revoke_out mem token time listed).reply.answer ≡ a) ↔ ((r < registered_of mem) × A)
    registered_only a A not_1 told =
        revoke_by_cases mem time listed (Exactly a ((r < registered_of mem) × A)) unsound token
        (λ sound many. absurd (omega arith))
        (λ sound few outside. not_given InvalidCapability a (λ e. not_1 (sym e)) (λ (l, holds). omega arith))
        (λ sound few inside. (λ e. (inside, told.0 e), λ (l, holds). told.1 holds))

    pub revoke_told_24 :
        ((revoke_out mem token time listed).reply.answer ≡ LogFull) ↔ ((r < registered_of mem) × NoPairs numbers mem r time listed)
    revoke_told_24 = registered_only LogFull _ (λ e. omega arith) (revoking_told_24 numbers mem r time listed)

    pub revoke_told_25 :
        ((revoke_out mem token time listed).reply.answer ≡ PidTableFull)
        ↔ ((r < registered_of mem) × NoQueues numbers mem r time listed)
    revoke_told_25 = registered_only PidTableFull _ (λ e. omega arith) (revoking_told_25 numbers mem r time listed)

    pub revoke_told_0 :
        ((revoke_out mem token time listed).reply.answer ≡ Done) ↔ ((r < registered_of mem) × Goes numbers mem r time listed)
    revoke_told_0 = registered_only Done _ (λ e. omega arith) (revoking_told_0 numbers mem r time listed)

    pub revoke_capability_told_24 :
        ((revoke_capability_out mem token time listed).reply.answer ≡ LogFull) ↔ TokenNoPairs numbers mem token time listed
    revoke_capability_told_24 =
        rw (revoke_capability_called mem sound time listed few token) (revoking_token_told_24 numbers mem token time listed)

    pub revoke_capability_told_25 :
        ((revoke_capability_out mem token time listed).reply.answer ≡ PidTableFull) ↔ TokenNoQueues numbers mem token time listed
    revoke_capability_told_25 =
        rw (revoke_capability_called mem sound time listed few token) (revoking_token_told_25 numbers mem token time listed)

    pub revoke_capability_told_0 :
        ((revoke_capability_out mem token time listed).reply.answer ≡ Done) ↔ TokenGoes numbers mem token time listed
    revoke_capability_told_0 =
        rw (revoke_capability_called mem sound time listed few token) (revoking_token_told_0 numbers mem token time listed)
