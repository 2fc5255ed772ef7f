-- Every way through create (`Way`): when it is taken, and what it answers and leaves.
use Rattle.std.proofs.Common.{Bool, true, false, not, List, ◌≢◌, ⊎_elim, ◌≡◌, refl, sym, ap, subst, ◌∙◌, ℕ, ◌-◌, ◌≤◌, ◌<◌, arith, lt-ltb, le-ltb, ltb, Option, Some, None}
use Rattle.std.proofs.Math.Decide.{dec_lt}
use Rattle.std.proofs.Math.Logic.{by_cases}
use Rattle.answers.specs.Number.{number_of}
use Rattle.answers.specs.Answer.{Answer, Done, OutOfMemory, InvalidObject, IdExhausted, BadSpace, BadField, RegistryFull, BadWorld}
use Rattle.base.specs.Choose.{when_yes, when_no}
use Rattle.space.specs.Change.{insert_out}
use Rattle.space.proofs.laws.Insert.{Accepts}
use Rattle.steps.specs.Replies.{Left, replied, refuse, Reply}
use Rattle.steps.specs.Steps.{space_of, new_entry, insert_step, taken_id, take_step, register_step, unregister_step, recycle_step, add_step}
use Rattle.steps.proofs.laws.Entered.{space_by_cases, space_bad, space_none, space_called}
use Rattle.steps.proofs.laws.OnlyIds.{take_only_ids}
use Rattle.steps.proofs.laws.RegistrySteps.{register_step_changes}
use Rattle.steps.proofs.laws.TakeStep.{take_step_kept}
use Rattle.table.specs.declared.CapabilityEntry.{CapabilityEntry}
use Rattle.world.specs.Numbers.{numbers_of, registered_of}
use Rattle.world.specs.Sound.{Sound}
use Rattle.world.specs.declared.Numbers.{Numbers}
use Rattle.manager_calls.specs.Admit.{admitted}
use Rattle.manager_calls.specs.Calls.{created, create_out}
use Rattle.manager_calls.specs.Tokens.{token_of}
use Rattle.manager_laws.proofs.laws.Admitted.{accepts_or_not, admitted_taken, admitted_undone}
use Rattle.manager_laws.proofs.laws.SameRegistered.{take_same}
use Rattle.manager_laws.proofs.laws.StepsKept.{Registration, taken_in_hand, parentless}

module _ (mem : List ℕ) (s object : ℕ) (valid : Bool) (cap_type rights : ℕ) where
  abbrev d : Numbers
  d = numbers_of mem

  -- ---- how far it comes

  -- The arguments are good: an id is asked for.
  pub record Asked : Type 0 where
    pub sound : Sound mem
    pub there : s < (numbers_of mem).spaces
    pub type_fits : cap_type ≤ 15
    pub on : valid ≡ true

  -- An id was taken.
  pub record Took : Type 0 where
    pub asked : Asked
    pub id : ℕ
    pub is : taken_id (numbers_of mem) mem ≡ Some id

  abbrev pub new_token : Took → ℕ
  new_token t = token_of t.id cap_type rights

  abbrev pub entry_for : Took → CapabilityEntry
  entry_for t = new_entry (new_token t) object rights

  -- ---- where it ends

  pub data Way : Type 0 where
    bad_world : ¬ Sound mem → Way
    bad_space : Sound mem → (numbers_of mem).spaces ≤ s → Way
    bad_type : Sound mem → s < (numbers_of mem).spaces → 15 < cap_type → Way
    bad_object : Sound mem → s < (numbers_of mem).spaces → cap_type ≤ 15 → valid ≡ false → Way
    exhausted : Asked → taken_id (numbers_of mem) mem ≡ None → Way
    full : (t : Took) → (numbers_of mem).places ≤ registered_of mem → Way
    refused : (t : Took) → registered_of mem < (numbers_of mem).places → ¬ Accepts (space_of (numbers_of mem) s mem) (entry_for t) → Way
    accepted : (t : Took) → registered_of mem < (numbers_of mem).places → Accepts (space_of (numbers_of mem) s mem) (entry_for t) → Way

  -- ---- what it answers and leaves

  abbrev pub taken : List ℕ
  taken = take_step (numbers_of mem) mem

  -- The id is registered,
  abbrev pub recorded : Took → List ℕ
  recorded t = register_step (numbers_of mem) t.id object 0 taken

  -- and its entry offered to the space.
  abbrev pub inserted : Took → List ℕ
  inserted t = insert_step (numbers_of mem) s (entry_for t) (recorded t)

  abbrev pub out_of : Way → Left Reply
  out_of (bad_world bad) = refuse mem BadWorld
  out_of (bad_space sound far) = refuse mem BadSpace
  out_of (bad_type sound there over) = refuse mem BadField
  out_of (bad_object sound there fits off) = refuse mem InvalidObject
  out_of (exhausted asked is) = refuse taken IdExhausted
  out_of (full t over) = refuse (recycle_step (numbers_of mem) t.id taken) RegistryFull
  out_of (refused t room none) =
      refuse
      (recycle_step (numbers_of mem) t.id (unregister_step (numbers_of mem) (registered_of (recorded t) - 1) (recorded t)))
      OutOfMemory
  out_of (accepted t room a) =
      record {
        reply = replied Done (new_token t) (insert_out (space_of (numbers_of mem) s (recorded t)) (entry_for t)).moved;
        memory = add_step 7 1 (inserted t);
      }

  -- ---- one of the ways is taken

  took_way : (t : Took) → Way
  took_way t =
      by_cases (dec_lt (registered_of mem) d.places)
      (λ room. ⊎_elim (accepted t room) (refused t room) (accepts_or_not (space_of d s mem) (entry_for t)))
      (λ none. full t (omega arith))

  asked_way : (a : Asked) (t : Option ℕ) → taken_id (numbers_of mem) mem ≡ t → Way
  asked_way a None is = exhausted a is
  asked_way a (Some id) is = took_way (record { asked = a; id = id; is = is })

  pub way : Way
  way =
      space_by_cases (λ a. Way) (λ a. a) mem (λ d. Done) bad_world s bad_space
      (λ sound there. by_cases (dec_lt 15 cap_type) (bad_type sound there) (λ fits. go sound there (omega arith) valid refl))
    where
      go : Sound mem → s < d.spaces → cap_type ≤ 15 → (b : Bool) → valid ≡ b → Way
      go sound there fits true on = asked_way (record { sound = sound; there = there; type_fits = fits; on = on }) (taken_id d mem) refl
      go sound there fits false off = bad_object sound there fits off

  -- ---- and the call ends as it says

  asked_goes : Asked → create_out mem s object valid cap_type rights ≡ created d s object cap_type rights taken (taken_id d mem)
  unfolding create_out
  asked_goes a =
      space_called (refuse mem) mem _ a.sound s a.there
      ∙ when_no (ltb 15 cap_type) _ _ (le-ltb 15 cap_type a.type_fits) ∙ when_no (not valid) _ _ (ap not a.on)

  module _ (t : Took) where
    sound : Sound mem
    sound = t.asked.sound

    took_goes : create_out mem s object valid cap_type rights ≡ created d s object cap_type rights taken (Some t.id)
    took_goes = asked_goes t.asked ∙ ap (created d s object cap_type rights taken) t.is

    -- Taking an id leaves the number of registered ones as it is,
    same_count : registered_of taken ≡ registered_of mem
    same_count = (take_same d mem sound).same_count

    room_goes :
        registered_of mem < (numbers_of mem).places
        → create_out mem s object valid cap_type rights ≡ admitted d s t.id (new_token t) object rights 7 (recorded t)
    room_goes room = took_goes ∙ when_no _ _ _ (ap not (lt-ltb (registered_of taken) d.places (rw same_count room)))

    pub recording : registered_of mem < (numbers_of mem).places → Registration (numbers_of mem) taken t.id 0
    recording room =
        parentless d taken (take_step_kept d mem sound).sound t.id (rw same_count room) (taken_in_hand d mem sound t.id t.is)

    -- and both taking and registering one leave the spaces.
    pub recorded_space : registered_of mem < (numbers_of mem).places
        → space_of (numbers_of mem) s (recorded t) ≡ space_of (numbers_of mem) s mem
    recorded_space room =
        let there = t.asked.there in
        (register_step_changes d taken (take_step_kept d mem sound).sound t.id object 0 (rw same_count room)).same_space s there
        ∙ (take_only_ids d mem sound).same_spaces s there

  pub goes : (w : Way) → create_out mem s object valid cap_type rights ≡ out_of w
  unfolding create_out
  goes (bad_world bad) = space_bad (refuse mem) mem _ s bad
  goes (bad_space sound far) = space_none (refuse mem) mem _ sound s far
  goes (bad_type sound there over) =
      space_called (refuse mem) mem _ sound s there ∙ when_yes (ltb 15 cap_type) _ _ (lt-ltb 15 cap_type over)
  goes (bad_object sound there fits off) =
      space_called (refuse mem) mem _ sound s there ∙ when_no (ltb 15 cap_type) _ _ (le-ltb 15 cap_type fits)
      ∙ when_yes (not valid) _ _ (ap not off)
  goes (exhausted a is) = asked_goes a ∙ ap (created d s object cap_type rights taken) is
  goes (full t over) = took_goes t ∙ when_yes _ _ _ (ap not (le-ltb (registered_of taken) d.places (rw (same_count t) over)))
  goes (refused t room none) =
      room_goes t room
      ∙ admitted_undone d s t.id (new_token t) object rights 7 (recorded t) (rw (recorded_space t room) none)
  goes (accepted t room a) =
      room_goes t room
      ∙ admitted_taken d s t.id (new_token t) object rights 7 (recorded t) (rw (recorded_space t room) a)

  -- What holds of every refusal and of every new token holds of the call.
  pub create_by_ways :
      (P : Left Reply → Type 0) → ((after : List ℕ) (a : Answer) → number_of a ≢ 0 → P (refuse after a))
      → ((t : Took) (room : registered_of mem < (numbers_of mem).places) (a : Accepts (space_of (numbers_of mem) s mem) (entry_for t))
      → P (out_of (accepted t room a)))
      → P (create_out mem s object valid cap_type rights)
  create_by_ways P refusal new = subst P (sym (goes way)) (go way)
    where
      go : (w : Way) → P (out_of w)
      go (bad_world bad) = refusal _ _ (λ e. omega arith)
      go (bad_space sound far) = refusal _ _ (λ e. omega arith)
      go (bad_type sound there over) = refusal _ _ (λ e. omega arith)
      go (bad_object sound there fits off) = refusal _ _ (λ e. omega arith)
      go (exhausted a is) = refusal _ _ (λ e. omega arith)
      go (full t over) = refusal _ _ (λ e. omega arith)
      go (refused t room none) = refusal _ _ (λ e. omega arith)
      go (accepted t room a) = new t room a
