-- The children that are offered, in the words of the loop that offers them: one place, then those after it.
use Rattle.std.proofs.Common.{Option, Some, None, Bool, true, false, List, ◌≡◌, refl, sym, ap, ap₂, ◌∙◌, ℕ, zero, suc, ◌+◌, ◌-◌, ◌≤◌, ◌<◌, arith}
use Rattle.std.specs.Prelude.{is_some}
use Rattle.base.specs.Choose.{pick}
use Rattle.manager_calls.specs.Tokens.{token_of}
use Rattle.space.specs.Lookup.{looked_up}
use Rattle.space.specs.declared.LookedUp.{LookedUp}
use Rattle.base.specs.Cases.{pick_by_cases}
use Rattle.steps.proofs.laws.ReadyKept.{ready_lookup}
use Rattle.steps.specs.Ready.{Ready}
use Rattle.steps.specs.Replies.{done}
use Rattle.steps.specs.Steps.{space_of, lookup_step}
use Rattle.token.specs.declared.capability.CapabilityToken.{CapabilityToken}
use Rattle.world.specs.Sound.{ids}
use Rattle.world.specs.declared.Numbers.{Numbers}
use Rattle.delegation_calls.specs.Delegation.{Offered, held_with, open_child, offered_from, with_room, offering}
use Rattle.delegation_calls.specs.Offer.{offer_of}

-- What the code sees says whether there is one, and which.
offer_some : (o : Offered) → is_some (offer_of o) ≡ o.held
unfolding offer_of
offer_some o = go o.held
  where
    go : (b : Bool) → is_some (pick {A = Option CapabilityToken} b (Some (record { 0 = o.token })) None) ≡ b
    go true = refl
    go false = refl

offer_held : (o : Offered) (token : CapabilityToken) → offer_of o ≡ Some token → o.held ≡ true
offer_held o token e = sym (offer_some o) ∙ ap is_some e

offer_absent : (o : Offered) → offer_of o ≡ None → o.held ≡ false
offer_absent o e = sym (offer_some o) ∙ ap is_some e

offer_token : (o : Offered) (token : CapabilityToken) → offer_of o ≡ Some token → o.token ≡ token.0
unfolding offer_of
offer_token o token e = go o.held e
  where
    go : (b : Bool) → pick {A = Option CapabilityToken} b (Some (record { 0 = o.token })) None ≡ Some token → o.token ≡ token.0
    go true e = let same : record { 0 = o.token } ≡ token = cc in ap (λ (t : CapabilityToken). t.0) same
    go false e = absurd (let z : ◌≡◌ {A = ℕ} 0 1 = cc in omega arith)

-- So a delegation ends there, or goes on to a new child.
module _ (d : Numbers) (target token rights : ℕ) (o : Offered) (seen : Option CapabilityToken) (is : seen ≡ offer_of o) where
  decided :
      (b : Bool) → o.held ≡ b
      → offering d target token rights o
      ≡ pick b (record { reply = done o.token; memory = o.memory }) (with_room d target token rights o.memory)
  decided b e =
      ap (λ b. pick b (record { reply = done o.token; memory = o.memory }) (with_room d target token rights o.memory)) e

  pub offering_held :
      (child : CapabilityToken) → seen ≡ Some child
      → offering d target token rights o ≡ record { reply = done child.0; memory = o.memory }
  offering_held child e =
      decided true (offer_held o child (sym is ∙ e))
      ∙ ap (λ t. record { reply = done t; memory = o.memory }) (offer_token o child (sym is ∙ e))

  pub offering_absent : seen ≡ None → offering d target token rights o ≡ with_room d target token rights o.memory
  offering_absent e = decided false (offer_absent o (sym is ∙ e))

module _ (d : Numbers) (target p cap_type rights : ℕ) where
  abbrev from : ℕ → ℕ → List ℕ → Offered
  from = offered_from d target p cap_type rights

  abbrev child_token : List ℕ → ℕ → ℕ
  child_token mem k = token_of (ids d mem k) cap_type rights

  abbrev is_held_there : List ℕ → ℕ → Bool
  is_held_there mem k = held_with rights (looked_up (space_of d target mem) (child_token mem k)).got

  -- ---- one place

  module _ (k : ℕ) (mem : List ℕ) where
    -- By what the code saw of the place: whether it is an unrevoked child,
    module _ (seen : Bool) (is_open : seen ≡ open_child d mem p k) where
      shut_place : seen ≡ false → from k 1 mem ≡ record { held = false; token = 0; memory = mem }
      unfolding offered_from
      shut_place shut = rw (sym is_open ∙ shut)

      pub shut_offers : seen ≡ false → None ≡ offer_of (offered_from d target p cap_type rights k 1 mem)
      unfolding offer_of
      shut_offers shut = sym (ap offer_of (shut_place shut))

      pub shut_leaves : seen ≡ false → mem ≡ (offered_from d target p cap_type rights k 1 mem).memory
      shut_leaves shut = sym (ap (λ (o : Offered). o.memory) (shut_place shut))

      -- the token that it made of it, and whether the target holds that.
      module _ (opened : seen ≡ true) (id of_type : ℕ) (is_id : id ≡ ids d mem k) (is_type : of_type ≡ cap_type)
          (child : CapabilityToken) (is_child : child.0 ≡ token_of id of_type rights)
          (l : LookedUp) (looked : l ≡ looked_up (space_of d target mem) child.0)
          (told : Bool) (tells : told ≡ held_with rights l.got)
        where
          is_token : child.0 ≡ child_token mem k
          is_token = is_child ∙ ap₂ (λ id of_type. token_of id of_type rights) is_id is_type

          tells_there : told ≡ is_held_there mem k
          tells_there = tells ∙ ap (λ (l : LookedUp). held_with rights l.got) (looked ∙ ap (looked_up (space_of d target mem)) is_token)

          open_place : from k 1 mem
              ≡ pick told (record { held = true; token = child.0; memory = lookup_step d target child.0 mem })
              (record { held = false; token = 0; memory = lookup_step d target child.0 mem })
          unfolding offered_from
          open_place = rw (sym is_open ∙ opened, ← tells_there, is_token)

          pub held_offers : told ≡ true → Some child ≡ offer_of (offered_from d target p cap_type rights k 1 mem)
          unfolding offer_of
          held_offers e = sym (ap offer_of (rw e at open_place))

          pub absent_offers : told ≡ false → None ≡ offer_of (offered_from d target p cap_type rights k 1 mem)
          unfolding offer_of
          absent_offers e = sym (ap offer_of (rw e at open_place))

          pub open_leaves : (after : List ℕ) → after ≡ lookup_step d target child.0 mem
              → after ≡ (offered_from d target p cap_type rights k 1 mem).memory
          open_leaves after is = is ∙ go told open_place
            where
              go : (b : Bool) → from k 1 mem
                  ≡ pick b (record { held = true; token = child.0; memory = lookup_step d target child.0 mem })
                  (record { held = false; token = 0; memory = lookup_step d target child.0 mem })
                  → lookup_step d target child.0 mem ≡ (from k 1 mem).memory
              go true e = sym (ap (λ (o : Offered). o.memory) e)
              go false e = sym (ap (λ (o : Offered). o.memory) e)

    -- The others follow where it is not the one.
    one_by_one : (m : ℕ) → from k (suc m) mem ≡ pick (from k 1 mem).held (from k 1 mem) (from (k + 1) m (from k 1 mem).memory)
    unfolding offered_from
    one_by_one m = go (open_child d mem p k) (is_held_there mem k)
      where
        after : List ℕ
        after = lookup_step d target (child_token mem k) mem

        place : (opened held : Bool) → Offered → Offered → Offered
        place opened held passed past =
            pick opened (pick held (record { held = true; token = child_token mem k; memory = after }) passed) past

        none : List ℕ → Offered
        none mem = record { held = false; token = 0; memory = mem }

        go : (opened held : Bool)
            → place opened held (from (k + 1) m after) (from (k + 1) m mem)
            ≡ pick (place opened held (none after) (none mem)).held (place opened held (none after) (none mem))
            (from (k + 1) m (place opened held (none after) (none mem)).memory)
        go true true = refl
        go true false = refl
        go false held = refl

  -- ---- the turns: from place k on, with the n - k places left, what is offered is the answer

  module _ (n k : ℕ) (mem : List ℕ) (answer : Offered) (left : from k (n - k) mem ≡ answer) where
    pub none_left : n ≤ k → answer ≡ record { held = false; token = 0; memory = mem }
    unfolding offered_from
    none_left over = let nothing : n - k ≡ 0 = omega arith in sym left ∙ ap (λ m. from k m mem) nothing

    module _ (more : k < n) (seen : Option CapabilityToken) (is : seen ≡ offer_of (from k 1 mem)) where
      abbrev here : Offered
      here = from k 1 mem

      abbrev later : Offered
      later = from (k + 1) (n - (k + 1)) here.memory

      turn : answer ≡ pick here.held here later
      turn =
          let one_more : n - k ≡ suc (n - (k + 1)) = omega arith in
          sym left ∙ ap (λ m. from k m mem) one_more ∙ one_by_one k mem (n - (k + 1))

      pub found : is_some seen ≡ true → answer ≡ from k 1 mem
      found e = turn ∙ ap (λ b. pick b here later) (sym (offer_some here) ∙ ap is_some (sym is) ∙ e)

      pub passed : is_some seen ≡ false → from (k + 1) (n - (k + 1)) (from k 1 mem).memory ≡ answer
      passed e = sym (turn ∙ ap (λ b. pick b here later) (sym (offer_some here) ∙ ap is_some (sym is) ∙ e))

  -- ---- all places: lookups are done and nothing else, and it ends with no child or with one that is held

  pub offered_ends :
      (P : List ℕ → Type 0) (Q : Offered → Type 0)
      → ((mem : List ℕ) (token : ℕ) → P mem → P (lookup_step d target token mem))
      → ((mem : List ℕ) → P mem → Q (record { held = false; token = 0; memory = mem }))
      → ((mem : List ℕ) (token : ℕ) → P mem → held_with rights (looked_up (space_of d target mem) token).got ≡ true
      → Q (record { held = true; token = token; memory = lookup_step d target token mem }))
      → (k m : ℕ) (mem : List ℕ) → P mem → Q (offered_from d target p cap_type rights k m mem)
  unfolding offered_from
  offered_ends P Q step none one k zero mem h = none mem h
  offered_ends P Q step none one k (suc m) mem h =
      let token : ℕ = child_token mem k in
      let later : (after : List ℕ) → P after → Q (from (k + 1) m after) = offered_ends P Q step none one (k + 1) m in
      pick_by_cases Q _ _ (open_child d mem p k)
      (λ opened. pick_by_cases Q _ _ (is_held_there mem k) (one mem token h) (λ other. later _ (step mem token h)))
      (λ shut. later mem h)

  -- So what each lookup keeps is kept.
  pub offered_by_lookups :
      (P : List ℕ → Type 0) → ((mem : List ℕ) (token : ℕ) → P mem → P (lookup_step d target token mem)) → (k m : ℕ) (mem : List ℕ) → P mem
      → P (offered_from d target p cap_type rights k m mem).memory
  offered_by_lookups P step = offered_ends P (λ (o : Offered). P o.memory) step (λ mem h. h) (λ mem token h held. step mem token h)

  pub ready_offered : target < d.spaces → (k m : ℕ) (mem : List ℕ) → Ready d mem → Ready d (from k m mem).memory
  ready_offered valid = offered_by_lookups (Ready d) (λ mem token ready. ready_lookup d mem ready target valid token)
