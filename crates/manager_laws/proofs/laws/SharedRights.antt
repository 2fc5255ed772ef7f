-- A delegated token's rights lie within both sets: whether new or held already, the target holds it with the bits that the delegator's
-- entry and the given rights have in common.
use Rattle.std.proofs.Common.{true, true≢false, List, ⊎_elim, ◌≡◌, refl, sym, ap, subst, ◌∙◌, ℕ, ◌^◌, ◌<◌, arith, eqb-true, Option, None, Some}
use Rattle.answers.specs.Answer.{Done}
use Rattle.space.specs.Lookup.{looked_up}
use Rattle.space.proofs.laws.Counted.{used, found_again}
use Rattle.steps.specs.Replies.{Left, Reply}
use Rattle.steps.specs.Steps.{space_of, lookup_step}
use Rattle.steps.proofs.laws.OnlySpace.{lookup_in_space}
use Rattle.steps.proofs.laws.Ready.{is_space}
use Rattle.steps.proofs.laws.SpaceSteps.{lookup_step_kept}
use Rattle.table.specs.declared.CapabilityEntry.{CapabilityEntry}
use Rattle.token.specs.Rights.{holds, common}
use Rattle.token.specs.RightsLaws.{contains_is_subset, intersection_is_what_both_have}
use Rattle.token.specs.Token.{type_of}
use Rattle.world.specs.Numbers.{numbers_of, registered_of}
use Rattle.world.specs.Sound.{SoundAt}
use Rattle.world.specs.declared.Numbers.{Numbers}
use Rattle.delegation_calls.specs.Delegation.{held_with, Offered, offered_from, delegate_out}
use Rattle.delegation_calls.proofs.Offering.{offered_ends}
use Rattle.manager_laws.proofs.laws.Delegated as delegate
use Rattle.manager_laws.proofs.laws.Roomed.{parent_in}
use Rattle.manager_laws.proofs.laws.Standing.{delegated_stands}

-- The common bits are in the first set and in the second.
pub common_in_first : (a b : ℕ) → holds a (common a b) ≡ true
common_in_first a b = (contains_is_subset a (common a b)).1 (λ i. omega (arith, intersection_is_what_both_have a b i))

pub common_in_second : (a b : ℕ) → holds b (common a b) ≡ true
common_in_second a b = (contains_is_subset b (common a b)).1 (λ i. omega (arith, intersection_is_what_both_have a b i))

-- Space s holds the token with exactly these rights.
pub record HeldWith (d : Numbers) (s : ℕ) (mem : List ℕ) (token rights : ℕ) : Type 0 where
  pub entry : CapabilityEntry
  pub found : (looked_up (space_of d s mem) token).got ≡ Some entry
  pub exactly : entry.rights.0 ≡ rights

-- The lookup counted, it is held as before.
looked_held :
    (d : Numbers) (s : ℕ) (mem : List ℕ) → SoundAt d mem → s < d.spaces → (token rights : ℕ) (g : Option CapabilityEntry)
    → (looked_up (space_of d s mem) token).got ≡ g → held_with rights g ≡ true → HeldWith d s (lookup_step d s token mem) token rights
looked_held d s mem sound valid token rights None is held = absurd (true≢false (sym held))
looked_held d s mem sound valid token rights (Some e) is held = record {
  entry = used e;
  found =
      ap (λ sp. (looked_up sp token).got) (lookup_in_space d mem sound s valid token).here
      ∙ found_again d.most (space_of d s mem) (is_space d mem sound s valid) token e is;
  exactly = eqb-true e.rights.0 rights held;
}

-- A child that is held already.
offered_held :
    (d : Numbers) (target p cap_type rights k m : ℕ) (mem : List ℕ) → target < d.spaces → SoundAt d mem
    → (offered_from d target p cap_type rights k m mem).held ≡ true
    → HeldWith d target (offered_from d target p cap_type rights k m mem).memory
    (offered_from d target p cap_type rights k m mem).token rights
offered_held d target p cap_type rights k m mem valid sound =
    offered_ends d target p cap_type rights (SoundAt d)
    (λ (o : Offered). o.held ≡ true → HeldWith d target o.memory o.token rights)
    (λ mem token sound. (lookup_step_kept d mem sound target valid token).sound)
    (λ mem sound held. absurd (true≢false (sym held)))
    (λ mem token sound is held. looked_held d target mem sound valid token rights _ refl is)
    k m mem sound

-- The source holds the token with GRANT, and the target the answered one with the bits that those rights and the given ones share.
pub delegate_shares :
    (mem : List ℕ) (token source target rights : ℕ) → rights < 2 ^ 32
    → (delegate_out mem token source target rights).reply.answer ≡ Done
    → (g : delegate.Granted mem token source target rights)
    × HeldWith (numbers_of mem) target (delegate_out mem token source target rights).memory
    (delegate_out mem token source target rights).reply.value (common g.entry.rights.0 rights)
delegate_shares mem token source target rights fits given =
    ⊎_elim
    (λ (g, (held, is)). (g, returned g held))
    (λ (g, (is, stands)). (
      g.took.asked.granted,
      record { entry = _; found = ap (λ v. (looked_up (space_of d target after) v).got) is ∙ stands.found; exactly = refl },
    ))
    (delegated_stands mem token source target rights fits given)
  where
    d : Numbers
    d = numbers_of mem

    after : List ℕ
    after = (delegate_out mem token source target rights).memory

    returned :
        (g : delegate.Granted mem token source target rights) → (delegate.offer mem token source target rights g).held ≡ true
        → HeldWith d target after (delegate_out mem token source target rights).reply.value (common g.entry.rights.0 rights)
    returned g held =
        let at = g.entered in
        let looked : List ℕ = lookup_step d source token mem in
        let shared : ℕ = common g.entry.rights.0 rights in
        subst (λ (out : Left Reply). HeldWith d target out.memory out.reply.value shared)
        (sym (delegate.goes mem token source target rights (delegate.reused g held)))
        (offered_held d target (parent_in d token looked) (type_of token) shared 0 (registered_of looked) looked at.to
        (lookup_step_kept d mem at.sound source at.from token).sound held)
