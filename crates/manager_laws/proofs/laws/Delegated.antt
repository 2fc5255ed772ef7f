-- Every way through delegate (`Way`): when it is taken, and what it answers and leaves.
use Rattle.std.proofs.Common.{Bool, true, false, not, List, ◌≢◌, ⊎_elim, ◌≡◌, refl, sym, ap, subst, ◌∙◌, ℕ, suc, ◌-◌, ◌≤◌, ◌<◌, arith, lt-ltb, le-ltb, ltb, Option, None, Some}
use Rattle.std.proofs.Math.Decide.{dec_lt}
use Rattle.std.proofs.Math.Logic.{by_cases}
use Rattle.answers.specs.Number.{number_of}
use Rattle.answers.specs.Answer.{Answer, Done, InvalidCapability, CapabilityRevoked, OutOfMemory, PermissionDenied, IdExhausted, QuotaExceeded, BadSpace, RegistryFull, BadWorld}
use Rattle.base.specs.Choose.{pick, when_yes, when_no}
use Rattle.space.specs.Change.{insert_out}
use Rattle.space.specs.Lookup.{looked_up}
use Rattle.space.proofs.laws.Insert.{Accepts}
use Rattle.steps.specs.Replies.{Left, replied, done, refuse, Reply}
use Rattle.steps.specs.Steps.{space_of, lookup_step, new_entry, insert_step, taken_id, take_step, objects, register_step, list_step, unregister_step, recycle_step, children_of, add_step}
use Rattle.steps.proofs.laws.Entered.{space_by_cases, space_bad, space_none, space_called}
use Rattle.steps.proofs.laws.Kept.{Kept, kept_trans}
use Rattle.steps.proofs.laws.OnlyIds.{take_only_ids}
use Rattle.steps.proofs.laws.RegistrySteps.{register_step_changes, list_step_changes, list_step_kept}
use Rattle.steps.proofs.laws.SpaceSteps.{lookup_step_kept}
use Rattle.steps.proofs.laws.TakeStep.{take_step_kept}
use Rattle.table.specs.declared.CapabilityEntry.{CapabilityEntry}
use Rattle.token.specs.Rights.{GRANT, holds, common}
use Rattle.token.specs.Token.{id_of, type_of}
use Rattle.world.specs.Numbers.{numbers_of, registered_of}
use Rattle.world.specs.Sound.{SoundAt, Sound}
use Rattle.world.specs.declared.Numbers.{Numbers}
use Rattle.delegation_calls.specs.Delegation.{Offered, offered, derived, with_id, with_room, offering, granting, delegate_out}
use Rattle.manager_calls.specs.Admit.{admitted}
use Rattle.manager_calls.specs.Tokens.{token_of, current}
use Rattle.manager_laws.proofs.laws.Admitted.{accepts_or_not, admitted_taken, admitted_undone}
use Rattle.manager_laws.proofs.laws.Roomed.{parent_in, roomed, roomed_kept, crowded_goes, roomed_goes}
use Rattle.manager_laws.proofs.laws.SameRegistered.{SameRegistered, take_same, same_place, same_current}
use Rattle.manager_laws.proofs.laws.StepsKept.{offered_kept}

module _ (mem : List ℕ) (token source target rights : ℕ) where
  abbrev d : Numbers
  d = numbers_of mem

  -- ---- how far it comes

  -- Both spaces are there: the token is looked up in the source.
  pub record Entered : Type 0 where
    pub sound : Sound mem
    pub from : source < (numbers_of mem).spaces
    pub to : target < (numbers_of mem).spaces

  abbrev pub looked : List ℕ
  looked = lookup_step (numbers_of mem) source token mem

  abbrev pub got : Option CapabilityEntry
  got = (looked_up (space_of (numbers_of mem) source mem) token).got

  -- The source holds it with GRANT: the children are looked up in the target.
  pub record Granted : Type 0 where
    pub entered : Entered
    pub entry : CapabilityEntry
    pub found : got ≡ Some entry
    pub grant : holds entry.rights.0 GRANT ≡ true

  abbrev pub shared : Granted → ℕ
  shared g = common g.entry.rights.0 rights

  abbrev pub offer : Granted → Offered
  offer g = offered (numbers_of mem) target token (shared g) looked

  -- The value is the token of a child that the target held.
  abbrev pub Returned : ℕ → Type 0
  Returned value = (g : Granted) × (((offer g).held ≡ true) × (value ≡ (offer g).token))

  -- The memory with room for a child, if collecting makes it.
  abbrev pub base : Granted → List ℕ
  base g = roomed (numbers_of mem) token (offer g).memory

  -- None is held there, and there is room for a child: an id is asked for.
  pub record Asked : Type 0 where
    pub granted : Granted
    pub none_held : (offer granted).held ≡ false
    pub few : children_of (numbers_of mem) (base granted) (parent_in (numbers_of mem) token (offer granted).memory) < 1024

  -- An id was taken: the parent is looked at.
  pub record Took : Type 0 where
    pub asked : Asked
    pub id : ℕ
    pub is : taken_id (numbers_of mem) (base asked.granted) ≡ Some id

  abbrev pub from : Took → List ℕ
  from t = base t.asked.granted

  abbrev pub parent : Took → ℕ
  parent t = parent_in (numbers_of mem) token (from t)

  -- The parent is registered, unrevoked, of the token's generation: the child is registered.
  pub record Good : Type 0 where
    pub took : Took
    pub inside : parent took < registered_of (from took)
    pub good : current (numbers_of mem) (from took) token (parent took) ≡ true

  -- The child's entry has the parent's object and the rights that both sets have.
  abbrev pub child_entry : Took → CapabilityEntry
  child_entry t =
      new_entry (token_of t.id (type_of token) (shared t.asked.granted)) (objects (numbers_of mem) (from t) (parent t))
      (shared t.asked.granted)

  -- ---- where it ends

  pub data Way : Type 0 where
    bad_world : ¬ Sound mem → Way
    bad_source : Sound mem → (numbers_of mem).spaces ≤ source → Way
    bad_target : Sound mem → source < (numbers_of mem).spaces → (numbers_of mem).spaces ≤ target → Way
    absent : Entered → got ≡ None → Way
    ungranted : Entered → (e : CapabilityEntry) → got ≡ Some e → holds e.rights.0 GRANT ≡ false → Way
    reused : (g : Granted) → (offer g).held ≡ true → Way
    crowded :
        (g : Granted) → (offer g).held ≡ false
        → 1024 ≤ children_of (numbers_of mem) (base g) (parent_in (numbers_of mem) token (offer g).memory) → Way
    exhausted : (a : Asked) → taken_id (numbers_of mem) (base a.granted) ≡ None → Way
    orphaned : (t : Took) → registered_of (from t) ≤ parent t → Way
    stale : (t : Took) → parent t < registered_of (from t) → current (numbers_of mem) (from t) token (parent t) ≡ false → Way
    full : (g : Good) → (numbers_of mem).places ≤ registered_of (from g.took) → Way
    refused :
        (g : Good) → registered_of (from g.took) < (numbers_of mem).places
        → ¬ Accepts (space_of (numbers_of mem) target (from g.took)) (child_entry g.took) → Way
    accepted :
        (g : Good) → registered_of (from g.took) < (numbers_of mem).places
        → Accepts (space_of (numbers_of mem) target (from g.took)) (child_entry g.took) → Way

  -- ---- what it leaves

  -- The child is registered with its parent's object, recorded in the list that the parent has from now on,
  abbrev pub recorded : Took → List ℕ
  recorded t =
      register_step (numbers_of mem) t.id (objects (numbers_of mem) (from t) (parent t)) (suc (parent t))
      (list_step (numbers_of mem) (parent t) (take_step (numbers_of mem) (from t)))

  -- and its entry offered to the target.
  abbrev pub inserted_child : Took → List ℕ
  inserted_child t = insert_step (numbers_of mem) target (child_entry t) (recorded t)

  -- The id is given back.
  abbrev pub back : Took → List ℕ
  back t = recycle_step (numbers_of mem) t.id (take_step (numbers_of mem) (from t))

  abbrev pub out_of : Way → Left Reply
  out_of (bad_world bad) = refuse mem BadWorld
  out_of (bad_source sound far) = refuse mem BadSpace
  out_of (bad_target sound there far) = refuse mem BadSpace
  out_of (absent entered none) = refuse looked InvalidCapability
  out_of (ungranted entered e found none) = refuse looked PermissionDenied
  out_of (reused g held) = record { reply = done (offer g).token; memory = (offer g).memory }
  out_of (crowded g none many) = refuse (base g) QuotaExceeded
  out_of (exhausted a is) = refuse (take_step (numbers_of mem) (base a.granted)) IdExhausted
  out_of (orphaned t outside) = refuse (back t) InvalidCapability
  out_of (stale t inside not_current) = refuse (back t) CapabilityRevoked
  out_of (full g over) = refuse (back g.took) RegistryFull
  out_of (refused g room none) =
      let after = recorded g.took in
      refuse
      (recycle_step (numbers_of mem) g.took.id (unregister_step (numbers_of mem) (registered_of after - 1) after))
      OutOfMemory
  out_of (accepted g room a) =
      record {
        reply =
            replied Done (child_entry g.took).capability.0
            (insert_out (space_of (numbers_of mem) target (recorded g.took)) (child_entry g.took)).moved;
        memory = add_step 8 1 (inserted_child g.took);
      }

  -- ---- one of the ways is taken

  pub looked_kept : Entered → Kept (numbers_of mem) mem looked
  looked_kept entered = lookup_step_kept d mem entered.sound source entered.from token

  pub offer_kept : (g : Granted) → Kept (numbers_of mem) mem (offer g).memory
  offer_kept g =
      let before = looked_kept g.entered in
      kept_trans d mem _ _ before
      (offered_kept d target (parent_in d token looked) (type_of token) (shared g) 0 (registered_of looked) looked g.entered.to
      before.sound)

  pub base_kept : (g : Granted) → Kept (numbers_of mem) mem (base g)
  base_kept g = let before = offer_kept g in kept_trans d mem _ _ before (roomed_kept d token (offer g).memory before.sound)

  pub offer_sound : (g : Granted) → SoundAt (numbers_of mem) (offer g).memory
  offer_sound g = (offer_kept g).sound

  pub base_sound : (g : Granted) → SoundAt (numbers_of mem) (base g)
  base_sound g = (base_kept g).sound

  good_way : (g : Good) → Way
  good_way g =
      let r : List ℕ = from g.took in
      by_cases (dec_lt (registered_of r) d.places)
      (λ room. ⊎_elim (accepted g room) (refused g room) (accepts_or_not (space_of d target r) (child_entry g.took)))
      (λ none. full g (omega arith))

  took_way : (t : Took) → Way
  took_way t =
      by_cases (dec_lt (parent t) (registered_of (from t)))
      (λ inside. go inside (current d (from t) token (parent t)) refl)
      (λ none. orphaned t (omega arith))
    where
      go : parent t < registered_of (from t) → (b : Bool) → current (numbers_of mem) (from t) token (parent t) ≡ b → Way
      go inside true is = good_way (record { took = t; inside = inside; good = is })
      go inside false is = stale t inside is

  asked_way : (a : Asked) (t : Option ℕ) → taken_id (numbers_of mem) (base a.granted) ≡ t → Way
  asked_way a None is = exhausted a is
  asked_way a (Some id) is = took_way (record { asked = a; id = id; is = is })

  granted_way : (g : Granted) (b : Bool) → (offer g).held ≡ b → Way
  granted_way g true held = reused g held
  granted_way g false none =
      by_cases (dec_lt (children_of d (base g) (parent_in d token (offer g).memory)) 1024)
      (λ few. asked_way (record { granted = g; none_held = none; few = few }) (taken_id d (base g)) refl)
      (λ many. crowded g none (omega arith))

  entered_way : (entered : Entered) (g : Option CapabilityEntry) → got ≡ g → Way
  entered_way entered None is = absent entered is
  entered_way entered (Some e) is = go (holds e.rights.0 GRANT) refl
    where
      go : (b : Bool) → holds e.rights.0 GRANT ≡ b → Way
      go true grant =
          let g : Granted = record { entered = entered; entry = e; found = is; grant = grant } in
          granted_way g (offer g).held refl
      go false none = ungranted entered e is none

  pub way : Way
  way =
      space_by_cases (λ a. Way) (λ a. a) mem (λ d. Done) bad_world source bad_source
      (λ sound there.
      by_cases (dec_lt target d.spaces)
      (λ to. entered_way (record { sound = sound; from = there; to = to }) got refl)
      (λ none. bad_target sound there (omega arith)))

  -- ---- and the call ends as it says

  entered_goes : Entered → delegate_out mem token source target rights ≡ granting d target token rights looked got
  unfolding delegate_out
  entered_goes entered =
      space_called (refuse mem) mem _ entered.sound source entered.from
      ∙ when_no _ _ _ (ap not (lt-ltb target d.spaces entered.to))

  found_goes :
      Entered → (e : CapabilityEntry) → got ≡ Some e
      → delegate_out mem token source target rights ≡ granting d target token rights looked (Some e)
  found_goes entered e is = entered_goes entered ∙ ap (granting d target token rights looked) is

  granted_goes : (g : Granted) → delegate_out mem token source target rights ≡ offering d target token (shared g) (offer g)
  granted_goes g = found_goes g.entered g.entry g.found ∙ when_no _ _ _ (ap not g.grant)

  -- By whether the target holds a child already.
  offer_goes :
      (g : Granted) (b : Bool) → (offer g).held ≡ b
      → delegate_out mem token source target rights
      ≡ pick b (record { reply = done (offer g).token; memory = (offer g).memory }) (with_room d target token (shared g) (offer g).memory)
  offer_goes g b is = rw (← is) (granted_goes g)

  asked_goes :
      (a : Asked)
      → delegate_out mem token source target rights
      ≡ derived d target token (shared a.granted) (take_step d (base a.granted)) (taken_id d (base a.granted))
  unfolding with_id
  asked_goes a =
      offer_goes a.granted false a.none_held ∙ roomed_goes d token (offer a.granted).memory target (shared a.granted) a.few

  took_goes :
      (t : Took)
      → delegate_out mem token source target rights
      ≡ derived d target token (shared t.asked.granted) (take_step d (from t)) (Some t.id)
  took_goes t = asked_goes t.asked ∙ ap (derived d target token (shared t.asked.granted) (take_step d (from t))) t.is

  -- Taking an id leaves the registered ones as they are, so the parent is where it was.
  module _ (t : Took) where
    abbrev r : List ℕ
    r = from t

    abbrev taken : List ℕ
    taken = take_step d r

    same : SameRegistered d r taken
    same = take_same d r (base_sound t.asked.granted)

    abbrev k : ℕ
    k = parent_in d token taken

    same_parent : k ≡ parent t
    same_parent = same_place d r taken same (id_of token)

    outside_goes : registered_of (from t) ≤ parent t → delegate_out mem token source target rights ≡ refuse (back t) InvalidCapability
    outside_goes outside =
        took_goes t ∙ when_yes _ _ _ (ap not (le-ltb k (registered_of taken) (rw (same_parent, same.same_count) outside)))

    module _ (inside : parent t < registered_of (from t)) where
      inside_still : ltb k (registered_of taken) ≡ true
      inside_still = lt-ltb k (registered_of taken) (rw (same_parent, same.same_count) inside)

      as_current : current d taken token k ≡ current d r token (parent t)
      as_current = ap (current d taken token) same_parent ∙ same_current d r taken same token (parent t) inside

      stale_goes :
          current (numbers_of mem) (from t) token (parent t) ≡ false
          → delegate_out mem token source target rights ≡ refuse (back t) CapabilityRevoked
      stale_goes is = took_goes t ∙ when_no _ _ _ (ap not inside_still) ∙ when_yes _ _ _ (ap not (as_current ∙ is))

      module _ (good : current (numbers_of mem) (from t) token (parent t) ≡ true) where
        full_goes :
            (numbers_of mem).places ≤ registered_of (from t) → delegate_out mem token source target rights ≡ refuse (back t) RegistryFull
        full_goes over =
            took_goes t ∙ when_no _ _ _ (ap not inside_still) ∙ when_no _ _ _ (ap not (as_current ∙ good))
            ∙ when_yes _ _ _ (ap not (le-ltb (registered_of taken) d.places (rw same.same_count over)))

        -- The child of the parent at a place, with an object.
        abbrev child_at : ℕ → ℕ → Left Reply
        child_at p object =
            let sh = shared t.asked.granted in
            admitted d target t.id (token_of t.id (type_of token) sh) object sh 8
            (register_step d t.id object (suc p) (list_step d p taken))

        room_goes :
            registered_of (from t) < (numbers_of mem).places
            → delegate_out mem token source target rights ≡ child_at (parent t) (objects d r (parent t))
        room_goes room =
            took_goes t ∙ when_no _ _ _ (ap not inside_still) ∙ when_no _ _ _ (ap not (as_current ∙ good))
            ∙ when_no _ _ _ (ap not (lt-ltb (registered_of taken) d.places (rw same.same_count room)))
            ∙ ap (λ p. child_at p (objects d taken p)) same_parent ∙ ap (child_at (parent t)) (same.same_objects (parent t) inside)

        pub recorded_space :
            registered_of (from t) < (numbers_of mem).places
            → space_of (numbers_of mem) target (recorded t) ≡ space_of (numbers_of mem) target (from t)
        recorded_space room =
            let p : ℕ = parent t in
            let below : p < d.places = omega arith in
            let to : target < d.spaces = t.asked.granted.entered.to in
            let sound = base_sound t.asked.granted in
            let taking = (take_step_kept d r sound).sound in
            let listing = list_step_changes d taken taking p below in
            (register_step_changes d _ (list_step_kept d taken taking p below).sound t.id (objects d r p) (suc p)
            (rw (listing.same_word 11 (omega arith) (omega arith), same.same_count) room)).same_space target to
            ∙ listing.same_space target to ∙ (take_only_ids d r sound).same_spaces target to

  pub goes : (w : Way) → delegate_out mem token source target rights ≡ out_of w
  unfolding delegate_out
  goes (bad_world bad) = space_bad (refuse mem) mem _ source bad
  goes (bad_source sound far) = space_none (refuse mem) mem _ sound source far
  goes (bad_target sound there far) =
      space_called (refuse mem) mem _ sound source there ∙ when_yes _ _ _ (ap not (le-ltb target d.spaces far))
  goes (absent entered none) = entered_goes entered ∙ ap (granting d target token rights looked) none
  goes (ungranted entered e found none) = found_goes entered e found ∙ when_yes _ _ _ (ap not none)
  goes (reused g held) = offer_goes g true held
  goes (crowded g none many) = offer_goes g false none ∙ crowded_goes d token (offer g).memory target (shared g) many
  goes (exhausted a is) = asked_goes a ∙ ap (derived d target token (shared a.granted) (take_step d (base a.granted))) is
  goes (orphaned t outside) = outside_goes t outside
  goes (stale t inside is) = stale_goes t inside is
  goes (full g over) = full_goes g.took g.inside g.good over
  goes (refused g room none) =
      let t : Took = g.took in
      let sh : ℕ = shared t.asked.granted in
      room_goes t g.inside g.good room
      ∙ admitted_undone d target t.id (token_of t.id (type_of token) sh) (objects d (from t) (parent t)) sh 8 (recorded t)
      (rw (recorded_space t g.inside g.good room) none)
  goes (accepted g room a) =
      let t : Took = g.took in
      let sh : ℕ = shared t.asked.granted in
      room_goes t g.inside g.good room
      ∙ admitted_taken d target t.id (token_of t.id (type_of token) sh) (objects d (from t) (parent t)) sh 8 (recorded t)
      (rw (recorded_space t g.inside g.good room) a)

  -- What holds of every refusal, of a child that the target held already and of every new child holds of the call.
  pub delegate_by_ways :
      (P : Left Reply → Type 0) → ((after : List ℕ) (a : Answer) → number_of a ≢ 0 → P (refuse after a))
      → ((g : Granted) (held : (offer g).held ≡ true) → P (out_of (reused g held)))
      → ((g : Good) (room : registered_of (from g.took) < (numbers_of mem).places)
      (a : Accepts (space_of (numbers_of mem) target (from g.took)) (child_entry g.took)) → P (out_of (accepted g room a)))
      → P (delegate_out mem token source target rights)
  delegate_by_ways P refusal old new = subst P (sym (goes way)) (go way)
    where
      go : (w : Way) → P (out_of w)
      go (bad_world bad) = refusal _ _ (λ e. omega arith)
      go (bad_source sound far) = refusal _ _ (λ e. omega arith)
      go (bad_target sound there far) = refusal _ _ (λ e. omega arith)
      go (absent entered none) = refusal _ _ (λ e. omega arith)
      go (ungranted entered e found none) = refusal _ _ (λ e. omega arith)
      go (reused g held) = old g held
      go (crowded g none many) = refusal _ _ (λ e. omega arith)
      go (exhausted a is) = refusal _ _ (λ e. omega arith)
      go (orphaned t outside) = refusal _ _ (λ e. omega arith)
      go (stale t inside is) = refusal _ _ (λ e. omega arith)
      go (full g over) = refusal _ _ (λ e. omega arith)
      go (refused g room none) = refusal _ _ (λ e. omega arith)
      go (accepted g room a) = new g room a
