-- What stands after a create or a delegate that made a token: its id is registered, unrevoked, with its object, its parent and no list of
-- its own, and the space holds the token with its rights.
use Rattle.std.proofs.Common.{Bool, List, ◌⊎◌, inl, inr, ◌≡◌, refl, ap, subst, ◌∙◌, ℕ, suc, ◌+◌, ◌*◌, ◌%◌, ◌^◌, ◌≤◌, ◌<◌, arith, length, get_or, Some}
use lib.Bits.{and_le_r}
use Rattle.answers.specs.Number.{number_of}
use Rattle.answers.specs.Answer.{Done}
use Rattle.registry.specs.HoldersLaws.{HoldersOnly, place_is}
use Rattle.registry.specs.StatesOnly.{same_ids, same_objects, same_links}
use Rattle.registry.specs.RegisteringLaws.{NewPlace, registered_new}
use Rattle.registry.specs.Words.{revoked, has_list}
use Rattle.space.specs.Change.{insert_out}
use Rattle.space.specs.Lookup.{looked_up}
use Rattle.space.proofs.laws.Held.{inserted_is_found}
use Rattle.space.proofs.laws.Insert.{Accepts}
use Rattle.steps.specs.Steps.{space_of, new_entry, insert_step, take_step, register_step, place_in, objects, add_step}
use Rattle.steps.specs.Replies.{Left, Reply}
use Rattle.steps.proofs.laws.OnlySpace.{Step, insert_in_space}
use Rattle.steps.proofs.laws.Ready.{is_space}
use Rattle.steps.proofs.laws.RegistryChanged.{RegistryChanged}
use Rattle.steps.proofs.laws.RegistrySteps.{register_step_changes, add_step_changes, add_step_kept}
use Rattle.steps.proofs.laws.SpaceSteps.{insert_step_kept}
use Rattle.token.specs.Token.{id_of, type_of}
use Rattle.table.specs.declared.CapabilityEntry.{CapabilityEntry}
use Rattle.world.specs.Numbers.{numbers_of, registered_of}
use Rattle.world.specs.Regions.{registry, view}
use Rattle.world.specs.Sound.{states, links, SoundAt}
use Rattle.world.specs.Views.{registry_words}
use Rattle.world.specs.declared.Numbers.{Numbers}
use Rattle.manager_laws.proofs.laws.Admitted.{accepted_done}
use Rattle.delegation_calls.specs.Delegation.{delegate_out}
use Rattle.manager_calls.specs.Calls.{create_out}
use Rattle.manager_calls.specs.Tokens.{token_of}
use Rattle.manager_laws.proofs.laws.Created as create
use Rattle.manager_laws.proofs.laws.Delegated as delegate
use Rattle.manager_laws.proofs.laws.Recording.{with_list_count, recording}
use Rattle.manager_laws.proofs.laws.SameIds.{SameIds, ids_trans, register_ids, insert_ids, count_ids}
use Rattle.manager_laws.proofs.laws.SameRegistered.{take_same}
use Rattle.manager_laws.proofs.laws.StepsKept.{Registration, registered_kept, taken_in_hand, id_of_made}

-- The id at place k, and the space s with its token.
pub record Stands (d : Numbers) (s id k link : ℕ) (e : CapabilityEntry) (after : List ℕ) : Type 0 where
  pub place : place_in d after id ≡ k
  pub registered : place_in d after id < registered_of after
  pub unrevoked : revoked (states d after (place_in d after id)) ≡ 0
  pub no_list : has_list (states d after (place_in d after id)) ≡ 0
  pub object : objects d after (place_in d after id) ≡ e.object
  pub parent : links d after (place_in d after id) ≡ link
  pub found : (looked_up (space_of d s after) e.capability.0).got ≡ Some e

module _ (d : Numbers) (mem : List ℕ) (id object link : ℕ) (reg : Registration d mem id link) (s : ℕ) (valid : s < d.spaces)
    (token rights i : ℕ) (fits : rights < 2 ^ 32) (low : 7 ≤ i) (high : i < 11)
  where
    abbrev n : ℕ
    n = registered_of mem

    abbrev e : CapabilityEntry
    e = new_entry token object rights

    abbrev id_registered : List ℕ
    id_registered = register_step d id object link mem

    abbrev with_entry : List ℕ
    with_entry = insert_step d s e id_registered

    abbrev after : List ℕ
    after = add_step i 1 with_entry

    there : SoundAt d id_registered
    there = (registered_kept d mem id object link reg).sound

    inserted : SoundAt d with_entry
    inserted = (insert_step_kept d id_registered there s valid e fits).sound

    new_place : NewPlace d.places n id object link (view d registry id_registered)
    new_place =
        let long : 5 * d.places + 1 ≤ length (view d registry mem) = registry_words d mem reg.sound.long_enough in
        rw (register_step_changes d mem reg.sound id object link reg.room).new_registry
        (registered_new d.places n id object link (view d registry mem) reg.room long)

    step : Step d s id_registered with_entry (insert_out (space_of d s id_registered) e).words
    step = insert_in_space d id_registered there s valid e fits

    counted : RegistryChanged d (view d registry with_entry) i ((get_or with_entry i 0 + 1) % 2 ^ 64) with_entry after
    counted = add_step_changes d with_entry inserted.long_enough i 1 (omega arith) high

    -- Of the registry with the id, only holders change then.
    only_holders : HoldersOnly d.places (view d registry id_registered) (view d registry after)
    only_holders = rw counted.new_registry step.only.only_holders

    one_more : registered_of after ≡ n + 1
    one_more =
        counted.same_word 11 (omega arith) (omega arith) ∙ step.only.same_head 11 (omega arith)
        ∙ (register_step_changes d mem reg.sound id object link reg.room).new_word

    at_place : place_in d after id ≡ n
    at_place =
        place_is (registered_of after) (view d registry after) id n
        (add_step_kept d with_entry inserted i 1 (omega arith) high).sound.ids_differ
        (omega (arith, one_more))
        (same_ids d.places _ _ only_holders n reg.room ∙ new_place.new_id)

    no_flags : states d after n % 4 ≡ 0
    no_flags = only_holders.states n ∙ ap (λ state. state % 4) new_place.new_state

    -- The next id and the recycled ones are as they were.
    pub admitted_ids : SameIds d mem (add_step i 1 (insert_step d s (new_entry token object rights) (register_step d id object link mem)))
    admitted_ids =
        ids_trans d mem id_registered after (register_ids d mem reg.sound id object link reg.room)
        (ids_trans d id_registered with_entry after (insert_ids d id_registered there s valid e fits)
        (count_ids d with_entry inserted i low high))

    pub admitted_stands :
        Accepts (space_of d s (register_step d id object link mem)) (new_entry token object rights)
        → Stands d s id (registered_of mem) link (new_entry token object rights)
        (add_step i 1 (insert_step d s (new_entry token object rights) (register_step d id object link mem)))
    admitted_stands accepts = record {
      place = at_place;
      registered = omega (arith, at_place, one_more);
      unrevoked = rw at_place (omega (arith, no_flags));
      no_list = rw at_place (omega (arith, no_flags));
      object = rw at_place (same_objects d.places _ _ only_holders n reg.room ∙ new_place.new_object);
      parent = rw at_place (same_links d.places _ _ only_holders n ∙ new_place.new_link);
      found =
          ap (λ sp. (looked_up sp token).got) (counted.same_space s valid ∙ step.here)
          ∙ inserted_is_found d.most (space_of d s id_registered) (is_space d id_registered there s valid) e fits
          (accepted_done (space_of d s id_registered) e accepts);
    }

-- ---- create

pub created_stands :
    (mem : List ℕ) (s object : ℕ) (valid : Bool) (cap_type rights : ℕ) → rights < 2 ^ 32
    → (create_out mem s object valid cap_type rights).reply.answer ≡ Done
    → let out = create_out mem s object valid cap_type rights in
    Stands (numbers_of mem) s (id_of out.reply.value) (registered_of mem) 0 (new_entry out.reply.value object rights) out.memory
created_stands mem s object valid cap_type rights fits =
    create.create_by_ways mem s object valid cap_type rights
    (λ (out : Left Reply).
    out.reply.answer ≡ Done
    → Stands d s (id_of out.reply.value) (registered_of mem) 0 (new_entry out.reply.value object rights) out.memory)
    (λ after a some e. absurd (some (ap number_of e)))
    (λ t room a e.
    let sound = t.asked.sound in
    let taken : List ℕ = take_step d mem in
    let hand = taken_in_hand d mem sound t.id t.is in
    let count = (take_same d mem sound).same_count in
    let token : ℕ = token_of t.id cap_type rights in
    rw (id_of_made t.id cap_type rights hand.free.fits, ← count)
    (admitted_stands d taken t.id object 0 (create.recording mem s object valid cap_type rights t room) s t.asked.there token rights
    7 fits (omega arith) (omega arith) (rw (create.recorded_space mem s object valid cap_type rights t room) a)))
  where
    d : Numbers
    d = numbers_of mem

-- ---- delegate

module _ (mem : List ℕ) (token source target rights : ℕ) where
  abbrev numbers : Numbers
  numbers = numbers_of mem

  abbrev Took : Type 0
  Took = delegate.Took mem token source target rights

  abbrev from : Took → List ℕ
  from t = delegate.from mem token source target rights t

  abbrev parent : Took → ℕ
  parent t = delegate.parent mem token source target rights t

  abbrev child : Took → CapabilityEntry
  child t = delegate.child_entry mem token source target rights t

  -- The value is the token of a new child of the parent, which stands.
  abbrev pub NewChild : Left Reply → Type 0
  NewChild out =
      (g : delegate.Good mem token source target rights)
      × ((out.reply.value ≡ (child g.took).capability.0)
      × Stands (numbers_of mem) target (id_of out.reply.value) (registered_of (from g.took)) (suc (parent g.took)) (child g.took)
      out.memory)

  -- Given 0, the value is the token of a child that the target held already, or of a new one.
  pub delegated_stands :
      rights < 2 ^ 32 → (delegate_out mem token source target rights).reply.answer ≡ Done
      → delegate.Returned mem token source target rights (delegate_out mem token source target rights).reply.value
      ⊎ NewChild (delegate_out mem token source target rights)
  delegated_stands fits =
      delegate.delegate_by_ways mem token source target rights
      (λ (out : Left Reply).
      out.reply.answer ≡ Done → delegate.Returned mem token source target rights out.reply.value ⊎ NewChild out)
      (λ after a some e. absurd (some (ap number_of e)))
      (λ g held e. inl (g, (held, refl)))
      (λ g room a e. inr (g, (refl, stands g room a)))
    where
      stands :
          (g : delegate.Good mem token source target rights) (room : registered_of (from g.took) < numbers.places)
          (a : Accepts (space_of numbers target (from g.took)) (child g.took))
          → let t = g.took in
          Stands numbers target (id_of (child t).capability.0) (registered_of (from t)) (suc (parent t)) (child t)
          (delegate.out_of mem token source target rights (delegate.accepted g room a)).memory
      stands g room a =
          let t : Took = g.took in
          let after : List ℕ = (delegate.out_of mem token source target rights (delegate.accepted g room a)).memory in
          let granted = t.asked.granted in
          let count = with_list_count mem token source target rights g in
          let reg = recording mem token source target rights g room in
          let shared : ℕ = delegate.shared mem token source target rights granted in
          let small : shared < 2 ^ 32 = omega (arith, and_le_r granted.entry.rights.0 rights) in
          rw (id_of_made t.id (type_of token) shared reg.hand.free.fits)
          (subst (λ k. Stands numbers target t.id k (suc (parent t)) (child t) after) count
          (admitted_stands numbers _ t.id (objects numbers (from t) (parent t)) (suc (parent t)) reg target granted.entered.to
          (child t).capability.0 shared 8 small (omega arith) (omega arith)
          (rw (delegate.recorded_space mem token source target rights t g.inside g.good room) a)))
