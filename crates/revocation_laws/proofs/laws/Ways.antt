-- The ways through the calls that revoke: what holds of each ending holds of the whole; and which answers are a revocation's own.
use Rattle.std.proofs.Common.{true, false, not, List, [], ◌∷◌, ◌≢◌, ◌⊎◌, inl, inr, ⊎_elim, ◌≡◌, refl, sym, ap, ◌∙◌, ℕ, ◌+◌, ◌≤◌, ◌<◌, arith, le-ltb, eqb, length, Option, None, Some}
use Rattle.std.proofs.lemmas.Bool.{not-true, not-false}
use Rattle.answers.specs.Number.{number_of}
use Rattle.answers.specs.Answer.{Answer, Done, InvalidCapability, InsufficientRights, NotFound, BadSpace, BadField, BadWorld}
use Rattle.base.specs.Below.{one}
use Rattle.base.specs.Choose.{when_no}
use Rattle.space.specs.Lookup.{looked_up}
use Rattle.space.specs.declared.LookedUp.{LookedUp}
use Rattle.steps.specs.Replies.{Left, replied, refuse, Reply}
use Rattle.steps.specs.Steps.{space_of, lookup_step, place_in}
use Rattle.base.specs.Cases.{when_by_cases, when_below, unless_below}
use Rattle.steps.proofs.laws.Entered.{world_by_cases, space_by_cases, space_called}
use Rattle.table.specs.declared.CapabilityEntry.{CapabilityEntry}
use Rattle.token.specs.Rights.{REVOKE, holds}
use Rattle.token.specs.Token.{id_of}
use Rattle.world.specs.Numbers.{numbers_of, registered_of}
use Rattle.world.specs.Sound.{Sound}
use Rattle.world.specs.declared.Numbers.{Numbers}
use Rattle.revocation_calls.specs.Calls.{revoke_out, revoke_capability_out, revoke_held_out, revoke_batch_out}
use Rattle.cascade.specs.Cascade.{revoking}
use Rattle.revocation_calls.specs.Revoking.{revoking_token, revoking_held, revoking_each}
use Rattle.revocation_calls.proofs.laws.RevokingWays.{revoking_by_cases, logging_by_cases, revoking_token_by_cases}

-- ---- what a revocation answers: 0, 24 or 25

abbrev pub Own : Answer → Type 0
Own a = (number_of a ≡ 0) ⊎ ((number_of a ≡ 24) ⊎ (number_of a ≡ 25))

pub own_not : (a : Answer) → Own a → (k : ℕ) → k ≢ 0 → k ≢ 24 → k ≢ 25 → number_of a ≢ k
own_not a own k not_0 not_24 not_25 e =
    ⊎_elim (λ h. not_0 (sym e ∙ h)) (⊎_elim (λ h. not_24 (sym e ∙ h)) (λ h. not_25 (sym e ∙ h))) own

module _ (d : Numbers) (mem : List ℕ) where
  abbrev Answered : Left Reply → Type 0
  Answered out = Own out.reply.answer

  pub revoking_own : (r time : ℕ) (listed : List ℕ) → Own (revoking d r time listed mem).reply.answer
  revoking_own r time listed =
      revoking_by_cases d mem Answered r time listed (λ already. inl refl) (λ un full. inr (inl refl))
      (λ un fits crowded. inr (inr refl)) (λ un fits room. inl refl)

  pub revoking_token_own : (token time : ℕ) (listed : List ℕ) → Own (revoking_token d token time listed mem).reply.answer
  revoking_token_own token time listed =
      revoking_token_by_cases d mem Answered token time listed
      (λ inside. revoking_own (place_in d mem (id_of token)) time listed)
      (λ outside. logging_by_cases d mem Answered token (λ full. inr (inl refl)) (λ fits. inl refl))

-- A batch answers 0.
pub each_done :
    (d : Numbers) (tokens : List ℕ) (time : ℕ) (listed : List ℕ) (gave : ℕ) (mem : List ℕ)
    → (revoking_each d tokens time listed gave mem).reply.answer ≡ Done
unfolding revoking_each
each_done d [] time listed gave mem = refl
each_done d (token ∷ tokens) time listed gave mem =
    let left = revoking_token d token time listed mem in
    each_done d tokens time listed (gave + one (eqb (number_of left.reply.answer) 0)) left.memory

-- A revocation with the visits of a lookup as its count.
abbrev pub with_visits : ℕ → Left Reply → Left Reply
with_visits visits left = record { reply = replied left.reply.answer 0 visits; memory = left.memory }

-- A held revoke by what its lookup got: nothing, an entry without REVOKE, or one with it.
pub revoking_held_by_cases :
    (d : Numbers) (token time : ℕ) (listed mem : List ℕ) (P : Left Reply → Type 0) (got : Option CapabilityEntry) (visits : ℕ)
    → (got ≡ None → P (record { reply = replied NotFound 0 visits; memory = mem }))
    → ((e : CapabilityEntry) → got ≡ Some e → holds e.rights.0 REVOKE ≡ false
    → P (record { reply = replied InsufficientRights 0 visits; memory = mem }))
    → ((e : CapabilityEntry) → got ≡ Some e → holds e.rights.0 REVOKE ≡ true
    → P (with_visits visits (revoking_token d token time listed mem)))
    → P (revoking_held d token time listed mem got visits)
revoking_held_by_cases d token time listed mem P None visits absent without with' = absent refl
revoking_held_by_cases d token time listed mem P (Some e) visits absent without with' =
    when_by_cases P _ _ (not (holds e.rights.0 REVOKE))
    (λ h. without e refl (not-true _ h)) (λ h. with' e refl (not-false _ h))

-- ---- the calls

module _ (mem : List ℕ) (time : ℕ) (listed : List ℕ) (P : Left Reply → Type 0) (bad : ¬ Sound mem → P (refuse mem BadWorld)) where
  abbrev d : Numbers
  d = numbers_of mem

  pub revoke_by_cases :
      (token : ℕ) → (Sound mem → 32 < length listed → P (refuse mem BadField))
      → (Sound mem → length listed ≤ 32 → registered_of mem ≤ place_in (numbers_of mem) mem (id_of token)
      → P (refuse mem InvalidCapability))
      → (Sound mem → length listed ≤ 32 → place_in (numbers_of mem) mem (id_of token) < registered_of mem
      → P (revoking (numbers_of mem) (place_in (numbers_of mem) mem (id_of token)) time listed mem))
      → P (revoke_out mem token time listed)
  unfolding revoke_out
  revoke_by_cases token many outside inside =
      world_by_cases P (refuse mem) mem _ bad
      (λ sound.
      when_below P _ _ 32 (length listed) (many sound)
      (λ few. unless_below P _ _ (place_in d mem (id_of token)) (registered_of mem) (outside sound few) (inside sound few)))

  pub revoke_capability_by_cases :
      (token : ℕ) → (Sound mem → 32 < length listed → P (refuse mem BadField))
      → (Sound mem → length listed ≤ 32 → P (revoking_token (numbers_of mem) token time listed mem))
      → P (revoke_capability_out mem token time listed)
  unfolding revoke_capability_out
  revoke_capability_by_cases token many few =
      world_by_cases P (refuse mem) mem _ bad (λ sound. when_below P _ _ 32 (length listed) (many sound) (few sound))

  module _ (s token : ℕ) where
    abbrev found : LookedUp
    found = looked_up (space_of d s mem) token

    abbrev looked : List ℕ
    looked = lookup_step d s token mem

    pub held_by_cases :
        (Sound mem → d.spaces ≤ s → P (refuse mem BadSpace)) → (Sound mem → s < d.spaces → 32 < length listed → P (refuse mem BadField))
        → (Sound mem → s < d.spaces → length listed ≤ 32 → found.got ≡ None
        → P (record { reply = replied NotFound 0 found.visits; memory = looked }))
        → (Sound mem → s < d.spaces → length listed ≤ 32 → (e : CapabilityEntry) → found.got ≡ Some e
        → holds e.rights.0 REVOKE ≡ false → P (record { reply = replied InsufficientRights 0 found.visits; memory = looked }))
        → (Sound mem → s < d.spaces → length listed ≤ 32 → (e : CapabilityEntry) → found.got ≡ Some e
        → holds e.rights.0 REVOKE ≡ true → P (with_visits found.visits (revoking_token d token time listed looked)))
        → P (revoke_held_out mem s token time listed)
    unfolding revoke_held_out
    held_by_cases far many absent without with' =
        space_by_cases P (refuse mem) mem _ bad s far
        (λ sound there.
        when_below P _ _ 32 (length listed) (many sound there)
        (λ few.
        revoking_held_by_cases d token time listed looked P found.got found.visits
        (absent sound there few) (without sound there few) (with' sound there few)))

  pub batch_by_cases :
      (tokens : List ℕ) → (Sound mem → 65535 < length tokens → P (refuse mem BadField))
      → (Sound mem → length tokens ≤ 65535 → 32 < length listed → P (refuse mem BadField))
      → (Sound mem → length tokens ≤ 65535 → length listed ≤ 32 → P (revoking_each (numbers_of mem) tokens time listed 0 mem))
      → P (revoke_batch_out mem tokens time listed)
  unfolding revoke_batch_out
  batch_by_cases tokens over many few =
      world_by_cases P (refuse mem) mem _ bad
      (λ sound.
      when_below P _ _ 65535 (length tokens) (over sound)
      (λ fits. when_below P _ _ 32 (length listed) (many sound fits) (few sound fits)))

-- What they come to with good arguments.
module _ (mem : List ℕ) (sound : Sound mem) (time : ℕ) (listed : List ℕ) (few : length listed ≤ 32) where
  pub revoke_registered :
      (token : ℕ) → place_in (numbers_of mem) mem (id_of token) < registered_of mem
      → revoke_out mem token time listed ≡ revoking (numbers_of mem) (place_in (numbers_of mem) mem (id_of token)) time listed mem
  revoke_registered token inside =
      revoke_by_cases mem time listed (λ out. out ≡ revoking (numbers_of mem) (place_in (numbers_of mem) mem (id_of token)) time listed mem)
      (λ bad. absurd (bad sound)) token (λ sound many. absurd (omega arith)) (λ sound few outside. absurd (omega arith))
      (λ sound few inside. refl)

  pub revoke_capability_called :
      (token : ℕ) → revoke_capability_out mem token time listed ≡ revoking_token (numbers_of mem) token time listed mem
  revoke_capability_called token =
      revoke_capability_by_cases mem time listed (λ out. out ≡ revoking_token (numbers_of mem) token time listed mem)
      (λ bad. absurd (bad sound)) token (λ sound many. absurd (omega arith)) (λ sound few. refl)

  pub batch_called :
      (tokens : List ℕ) → length tokens ≤ 65535
      → revoke_batch_out mem tokens time listed ≡ revoking_each (numbers_of mem) tokens time listed 0 mem
  batch_called tokens fits =
      batch_by_cases mem time listed (λ out. out ≡ revoking_each (numbers_of mem) tokens time listed 0 mem) (λ bad. absurd (bad sound))
      tokens
      (λ sound over. absurd (omega arith)) (λ sound fits many. absurd (omega arith)) (λ sound fits few. refl)

  -- Held with REVOKE: what is revoked by the token, on the memory with the lookup counted.
  module _ (s token : ℕ) (there : s < (numbers_of mem).spaces) (e : CapabilityEntry)
      (is : (looked_up (space_of (numbers_of mem) s mem) token).got ≡ Some e) (with' : holds e.rights.0 REVOKE ≡ true)
    where
      abbrev after : List ℕ
      after = lookup_step (numbers_of mem) s token mem

      abbrev visits : ℕ
      visits = (looked_up (space_of (numbers_of mem) s mem) token).visits

      pub held_with_revoke :
          revoke_held_out mem s token time listed ≡ with_visits visits (revoking_token (numbers_of mem) token time listed after)
      unfolding revoke_held_out
      held_with_revoke =
          space_called (refuse mem) mem _ sound s there
          ∙ when_no _ _ _ (le-ltb 32 (length listed) few)
          ∙ ap (λ g. revoking_held (numbers_of mem) token time listed after g visits) is
          ∙ when_no (not (holds e.rights.0 REVOKE)) _ _ (ap not with')
