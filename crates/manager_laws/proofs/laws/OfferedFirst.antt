-- The child that a delegation returns: the first in list order that the target holds with exactly its token and the rights; where none is
-- returned there is none. The lookups on the way count, and change nothing of this.
use Rattle.std.proofs.Common.{Bool, true, false, true≢false, List, ◌↔◌, ⊎_elim, ◌≡◌, refl, sym, ap, subst, ◌∙◌, ℕ, zero, suc, ◌+◌, ◌<◌, ◌≤◌, eq-or-lt_of_le, arith, eqb, Option, None, Some}
use Rattle.base.specs.Choose.{both}
use Rattle.base.specs.Exactly.{eqb_exactly, both_exactly}
use Rattle.registry.specs.Words.{revoked, child_of}
use Rattle.space.specs.Lookup.{looked_up, counted}
use Rattle.space.specs.Sound.{SpaceOf}
use Rattle.space.proofs.laws.Counted.{used_by, counted_answers}
use Rattle.space.proofs.laws.Held.{got_as}
use Rattle.steps.specs.Replies.{Left, Reply}
use Rattle.steps.specs.Steps.{space_of, lookup_step, place_in}
use Rattle.base.specs.Cases.{pick_by_cases}
use Rattle.steps.proofs.laws.OnlySpace.{lookup_in_space}
use Rattle.steps.proofs.laws.Ready.{is_space}
use Rattle.steps.proofs.laws.SpaceSteps.{lookup_step_kept}
use Rattle.table.specs.declared.CapabilityEntry.{CapabilityEntry}
use Rattle.token.specs.Rights.{common}
use Rattle.token.specs.Token.{id_of, type_of}
use Rattle.world.specs.Numbers.{numbers_of, registered_of}
use Rattle.world.specs.Sound.{ids, states, links, SoundAt}
use Rattle.world.specs.declared.Numbers.{Numbers}
use Rattle.delegation_calls.specs.Delegation.{held_with, open_child, Offered, offered_from, offered, delegate_out}
use Rattle.manager_calls.specs.Tokens.{token_of}
use Rattle.manager_laws.proofs.laws.Delegated as delegate
use Rattle.manager_laws.proofs.laws.SameRegistered.{SameRegistered, registered_trans, same_registry, lookup_same}
use Rattle.manager_laws.proofs.laws.SharedRights.{HeldWith}

-- A lookup counts a use at most, so it does not change which tokens are held with which rights.
held_as_before :
    (most : ℕ) (sp : List ℕ) → SpaceOf most sp → (token rights other : ℕ)
    → held_with rights (looked_up (counted sp token) other).got ≡ held_with rights (looked_up sp other).got
held_as_before most sp is token rights other =
    ap (held_with rights) (counted_answers most sp is token other) ∙ go (looked_up sp other).got
  where
    go : (g : Option CapabilityEntry) → held_with rights (got_as (used_by token) g) ≡ held_with rights g
    go (Some x) =
        pick_by_cases (λ (e : CapabilityEntry). eqb e.rights.0 rights ≡ eqb x.rights.0 rights) _ _ (eqb x.capability.0 token)
        (λ own. refl) (λ apart. refl)
    go None = refl

module _ (d : Numbers) (target p cap_type rights : ℕ) where
  -- The token that place k would be offered with.
  abbrev child_token : List ℕ → ℕ → ℕ
  child_token mem k = token_of (ids d mem k) cap_type rights

  -- Place k is an unrevoked child of place p, and the target holds exactly its token with exactly the rights.
  pub record Fits (mem : List ℕ) (k : ℕ) : Type 0 where
    pub child : links d mem k ≡ suc p
    pub unrevoked : revoked (states d mem k) ≡ 0
    pub held : HeldWith d target mem (token_of (ids d mem k) cap_type rights) rights

  abbrev held_there : List ℕ → ℕ → Bool
  held_there mem k = held_with rights (looked_up (space_of d target mem) (child_token mem k)).got

  abbrev fitting : List ℕ → ℕ → Bool
  fitting mem k = both (open_child d mem p k) (held_there mem k)

  held_exactly :
      (mem : List ℕ) (token : ℕ) (g : Option CapabilityEntry) → (looked_up (space_of d target mem) token).got ≡ g
      → (held_with rights g ≡ true) ↔ HeldWith d target mem token rights
  held_exactly mem token (Some e) is = (
    λ h. record { entry = e; found = is; exactly = (eqb_exactly e.rights.0 rights).0 h },
    λ h.
        let same : h.entry ≡ e = cc (is, h.found) in
        (eqb_exactly e.rights.0 rights).1 (ap (λ e. e.rights.0) (sym same) ∙ h.exactly),
  )
  held_exactly mem token None is = (
    λ h. absurd (true≢false (sym h)),
    λ h. let z : ◌≡◌ {A = ℕ} 0 1 = cc (is, h.found) in absurd (omega arith),
  )

  fits_exactly : (mem : List ℕ) (k : ℕ) → (fitting mem k ≡ true) ↔ Fits mem k
  fits_exactly mem k = (
    λ h.
        let (opened, there) = (both_exactly (open_child d mem p k) _).0 h in
        let (child, unrevoked) = (both_exactly (child_of (links d mem) p k) _).0 opened in
        record {
          child = (eqb_exactly (links d mem k) (suc p)).0 child;
          unrevoked = (eqb_exactly (revoked (states d mem k)) 0).0 unrevoked;
          held = (held_exactly mem (child_token mem k) _ refl).0 there;
        },
    λ h.
        (both_exactly (open_child d mem p k) _).1 (
          (both_exactly (child_of (links d mem) p k) _).1
              ((eqb_exactly (links d mem k) (suc p)).1 h.child, (eqb_exactly (revoked (states d mem k)) 0).1 h.unrevoked),
          (held_exactly mem (child_token mem k) _ refl).1 h.held,
        ),
  )

  -- ---- after lookups

  module _ (mem : List ℕ) where
    -- Sound, and every registered place as fit as it was.
    record Like (now : List ℕ) : Type 0 where
      sound : SoundAt d now
      same : SameRegistered d mem now
      as_fit : (k : ℕ) → k < registered_of mem → fitting now k ≡ fitting mem k

    -- From place k on: the first that fits, or none.
    data FirstFrom (k : ℕ) (o : Offered) : Type 0 where
      one :
          (j : ℕ) → k ≤ j → j < registered_of mem → Fits mem j → ((i : ℕ) → k ≤ i → i < j → ¬ Fits mem i) → o.held ≡ true
          → o.token ≡ child_token mem j → FirstFrom k o
      none : ((i : ℕ) → k ≤ i → i < registered_of mem → ¬ Fits mem i) → o.held ≡ false → FirstFrom k o

    here_or_later : (k i : ℕ) → ¬ Fits mem k → k ≤ i → (k + 1 ≤ i → ¬ Fits mem i) → ¬ Fits mem i
    here_or_later k i unfit l later = ⊎_elim (λ e. subst (λ i. ¬ Fits mem i) e unfit) (λ l. later (omega arith)) (eq-or-lt_of_le l)

    passed : (k : ℕ) (o : Offered) → ¬ Fits mem k → FirstFrom (k + 1) o → FirstFrom k o
    passed k o unfit (one j l u fits before held is) =
        one j (omega arith) u fits (λ i l u. here_or_later k i unfit l (λ l. before i l u)) held is
    passed k o unfit (none none' held) = none (λ i l u. here_or_later k i unfit l (λ l. none' i l u)) held

    module _ (valid : target < d.spaces) where
      like_looked : (now : List ℕ) (token : ℕ) → Like now → Like (lookup_step d target token now)
      like_looked now token h =
          let looked = lookup_same d now h.sound target valid token in
          record {
            sound = (lookup_step_kept d now h.sound target valid token).sound;
            same = registered_trans d mem now _ h.same looked;
            as_fit = λ k l. as_fit_looked k (rw h.same.same_count l) looked ∙ h.as_fit k l;
          }
        where
          after : List ℕ
          after = lookup_step d target token now

          as_fit_looked : (k : ℕ) → k < registered_of now → SameRegistered d now after → fitting after k ≡ fitting now k
          as_fit_looked k l looked =
              let sp : List ℕ = space_of d target now in
              let there : held_there after k ≡ held_there now k =
              ap (λ id. held_with rights (looked_up (space_of d target after) (token_of id cap_type rights)).got) (looked.same_ids k l)
              ∙ ap (λ sp. held_with rights (looked_up sp (child_token now k)).got) (lookup_in_space d now h.sound target valid token).here
              ∙ held_as_before d.most sp (is_space d now h.sound target valid) token rights (child_token now k) in
              rw (looked.same_links k l, looked.same_states k l, there) refl

      first_left :
          (m k : ℕ) (now : List ℕ) → Like now → k + m ≡ registered_of mem → FirstFrom k (offered_from d target p cap_type rights k m now)
      unfolding offered_from
      first_left zero k now h all = none (λ i l u. absurd (omega arith)) refl
      first_left (suc m) k now h all =
          let inside : k < registered_of mem = omega arith in
          let as_was = h.as_fit k inside in
          let unfit : fitting now k ≡ false → ¬ Fits mem k =
          λ no' fits. true≢false (sym ((fits_exactly mem k).1 fits) ∙ sym as_was ∙ no') in
          pick_by_cases (FirstFrom k) _ _ (open_child d now p k)
          (λ opened.
          pick_by_cases (FirstFrom k) _ _ (held_there now k)
          (λ there.
          one k (omega arith) inside ((fits_exactly mem k).0 (sym as_was ∙ (both_exactly (open_child d now p k) _).1 (opened, there)))
          (λ i l u. absurd (omega arith)) refl (ap (λ id. token_of id cap_type rights) (h.same.same_ids k inside)))
          (λ other.
          passed k _ (unfit (rw (opened, other) refl)) (first_left m (k + 1) _ (like_looked now (child_token now k) h) (omega arith))))
          (λ shut. passed k _ (unfit (rw shut refl)) (first_left m (k + 1) now h (omega arith)))

-- ---- what is offered for a token

-- The token is that of the first place in list order that fits.
pub record FirstOf (d : Numbers) (target p cap_type rights : ℕ) (mem : List ℕ) (token : ℕ) : Type 0 where
  pub place : ℕ
  pub registered : place < registered_of mem
  pub fits : Fits d target p cap_type rights mem place
  pub is_token : token ≡ token_of (ids d mem place) cap_type rights
  pub first : (k : ℕ) → k < place → ¬ Fits d target p cap_type rights mem k

module _ (d : Numbers) (target token rights : ℕ) (mem : List ℕ) (sound : SoundAt d mem) (valid : target < d.spaces) where
  abbrev p : ℕ
  p = place_in d mem (id_of token)

  abbrev offer : Offered
  offer = offered d target token rights mem

  from_all : FirstFrom d target p (type_of token) rights mem 0 offer
  from_all =
      first_left d target p (type_of token) rights mem valid (registered_of mem) 0 mem
      (record {
        sound = sound;
        same = same_registry d mem mem refl refl;
        as_fit = λ k l. refl;
      })
      (omega arith)

  pub offer_is_first :
      (offered d target token rights mem).held ≡ true
      → FirstOf d target (place_in d mem (id_of token)) (type_of token) rights mem (offered d target token rights mem).token
  offer_is_first given = go from_all
    where
      go : FirstFrom d target p (type_of token) rights mem 0 offer → FirstOf d target p (type_of token) rights mem offer.token
      go (one j l u fits before held is) =
          record { place = j; registered = u; fits = fits; is_token = is; first = λ k l. before k (omega arith) l }
      go (none none' held) = absurd (true≢false (sym given ∙ held))

  pub offers_none :
      (offered d target token rights mem).held ≡ false
      → (k : ℕ) → k < registered_of mem → ¬ Fits d target (place_in d mem (id_of token)) (type_of token) rights mem k
  offers_none given = go from_all
    where
      go :
          FirstFrom d target p (type_of token) rights mem 0 offer
          → (k : ℕ) → k < registered_of mem → ¬ Fits d target p (type_of token) rights mem k
      go (one j l u fits before held is) = absurd (true≢false (sym held ∙ given))
      go (none none' held) = λ k l. none' k (omega arith) l

-- So a delegation that finds a child held there returns the first. It looks for it once the lookup in the source is counted.
pub delegate_returns_first :
    (mem : List ℕ) (token source target rights : ℕ) (g : delegate.Granted mem token source target rights)
    → (delegate.offer mem token source target rights g).held ≡ true
    → let looked = lookup_step (numbers_of mem) source token mem in
    FirstOf (numbers_of mem) target (place_in (numbers_of mem) looked (id_of token)) (type_of token) (common g.entry.rights.0 rights) looked
    (delegate_out mem token source target rights).reply.value
delegate_returns_first mem token source target rights g held =
    let d : Numbers = numbers_of mem in
    let looked : List ℕ = lookup_step d source token mem in
    let shared : ℕ = common g.entry.rights.0 rights in
    let sound : SoundAt d looked = (lookup_step_kept d mem g.entered.sound source g.entered.from token).sound in
    subst (λ (out : Left Reply). FirstOf d target (place_in d looked (id_of token)) (type_of token) shared looked out.reply.value)
    (sym (delegate.goes mem token source target rights (delegate.reused g held)))
    (offer_is_first d target token shared looked sound g.entered.to held)
