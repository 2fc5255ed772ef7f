-- The ways through the two calls that make a token of an id, the space-made create and the space revoke: what holds of each ending holds of
-- the whole.
use Rattle.std.proofs.Common.{List, ◌≡◌, refl, sym, subst, ℕ, ◌-◌, ◌^◌, ◌≤◌, ◌<◌, Result, Ok, Err, arith, ltb-true, ltb-false, ltb, Option, Some, None}
use Rattle.answers.specs.Answer.{SpaceIds, BadSpace, BadWorld}
use Rattle.space.specs.Words.{generation_of}
use Rattle.space_calls.specs.Calls.{inserting, create_made, create_taken, create_out}
use Rattle.steps.specs.Replies.{Left, refuse, Reply}
use Rattle.steps.specs.Steps.{space_of, new_entry, taken_id, take_step}
use Rattle.base.specs.Cases.{pick_by_cases}
use Rattle.steps.proofs.laws.Entered.{space_by_cases}
use Rattle.steps.proofs.laws.TakeStep.{taken_free}
use Rattle.steps.proofs.laws.Taking.{none_taken}
use Rattle.table.specs.declared.CapabilityEntry.{CapabilityEntry}
use Rattle.token.specs.Token.{packed, made}
use Rattle.token.specs.declared.capability.CapabilityToken.{CapabilityToken}
use Rattle.answers.specs.declared.Refusal.{Refusal}
use Rattle.answers.specs.declared.Refusal.TheVariants as refusal
use Rattle.world.specs.Numbers.{numbers_of}
use Rattle.world.specs.Sound.{Sound}
use Rattle.world.specs.declared.Numbers.{Numbers}

-- The token that a space makes of an id.
abbrev pub own_token : List ℕ → ℕ → ℕ
own_token sp id = packed id (generation_of sp) 0 0

-- It makes none of an id over 2^48-1.
pub made_by_cases :
    (P : Result CapabilityToken Refusal → Type 0) (sp : List ℕ) (id : ℕ) → (2 ^ 48 ≤ id → P (Err refusal.BadField))
    → (id < 2 ^ 48 → P (Ok (record { 0 = own_token sp id }))) → P (made id (generation_of sp) 0 0)
made_by_cases P sp id none makes =
    pick_by_cases P _ _ (ltb (2 ^ 48 - 1) id)
    (λ over. none (omega (arith, ltb-true (2 ^ 48 - 1) id over)))
    (λ under. makes (omega (arith, ltb-false (2 ^ 48 - 1) id under)))

module _ (mem : List ℕ) (s rights object : ℕ) (P : Left Reply → Type 0) where
  abbrev d : Numbers
  d = numbers_of mem

  abbrev after : List ℕ
  after = take_step d mem

  -- The entry of the id that is taken.
  abbrev own : ℕ → CapabilityEntry
  own id = new_entry (own_token (space_of d s after) id) object rights

  -- Once it is made: no id is left, and none is taken; or the entry of the one that is taken is inserted, since a token is made of each.
  pub created_by_cases :
      Sound mem → (taken_id d mem ≡ None → P (refuse mem SpaceIds))
      → ((id : ℕ) → taken_id d mem ≡ Some id → P (inserting d s (own id) id after))
      → P (create_taken d s rights object after (taken_id d mem))
  created_by_cases sound none goes = go (taken_id d mem) refl
    where
      go : (t : Option ℕ) → taken_id d mem ≡ t → P (create_taken d s rights object after t)
      go (Some id) is =
          made_by_cases (λ m. P (create_made d s rights object id after m)) (space_of d s after) id
          (λ over. absurd (omega (arith, (taken_free d mem sound id is).fits))) (λ fits. goes id is)
      go None is = subst (λ left. P (refuse left SpaceIds)) (sym (none_taken d mem is)) (none is)

  pub create_by_cases :
      (¬ Sound mem → P (refuse mem BadWorld)) → (Sound mem → d.spaces ≤ s → P (refuse mem BadSpace))
      → (Sound mem → s < d.spaces → taken_id d mem ≡ None → P (refuse mem SpaceIds))
      → (Sound mem → s < d.spaces → (id : ℕ) → taken_id d mem ≡ Some id → P (inserting d s (own id) id after))
      → P (create_out mem s rights object)
  unfolding create_out
  create_by_cases bad far none goes =
      space_by_cases P (refuse mem) mem _ bad s far (λ sound there. created_by_cases sound (none sound there) (goes sound there))
