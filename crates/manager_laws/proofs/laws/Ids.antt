-- Create and delegate issue no id that is issued and not given back, so none that is registered, and what they issue is spent. Create,
-- delegate, check, and the delete of another id give none back; and the next id never falls. Ids.antt of history says it of every call.
use Rattle.std.proofs.Common.{Bool, List, ◌≢◌, ◌⊎◌, inl, inr, ⊎_elim, ◌≡◌, refl, sym, ap, subst, ℕ, suc, ◌^◌, ◌≤◌, ◌<◌, arith}
use Rattle.std.proofs.Math.Decide.{dec_lt}
use Rattle.std.proofs.Math.Logic.{by_cases}
use lib.Bits.{and_le_r}
use Rattle.answers.specs.Number.{number_of}
use Rattle.answers.specs.Answer.{Done}
use Rattle.registry.specs.RegisteringLaws.{registered_among}
use Rattle.steps.specs.Replies.{Left, Reply}
use Rattle.steps.specs.Steps.{lookup_step, take_step, place_in, objects, unregister_step, recycle_step}
use Rattle.steps.proofs.laws.Kept.{Kept}
use Rattle.steps.proofs.laws.RegistrySteps.{unregister_step_kept}
use Rattle.steps.proofs.laws.SpaceSteps.{lookup_step_kept}
use Rattle.steps.proofs.laws.TakeStep.{take_step_kept}
use Rattle.token.specs.Token.{id_of, type_of}
use Rattle.world.specs.Numbers.{numbers_of, next_of, registered_of, recycled_of}
use Rattle.world.specs.Regions.{registry, view}
use Rattle.world.specs.Sound.{SoundAt, Sound}
use Rattle.world.specs.declared.Numbers.{Numbers}
use Rattle.delegation_calls.specs.Delegation.{delegate_out}
use Rattle.delegation_calls.proofs.Offering.{offered_by_lookups}
use Rattle.manager_calls.specs.Calls.{create_out, delete_out, check_out}
use Rattle.manager_calls.specs.Tokens.{token_of}
use Rattle.manager_laws.proofs.laws.Ways.{deleted, delete_by_cases, check_by_cases}
use Rattle.manager_laws.proofs.laws.Created as create
use Rattle.manager_laws.proofs.laws.Delegated as delegate
use Rattle.manager_laws.proofs.laws.DelegateTold.{delegate_undone}
use Rattle.manager_laws.proofs.laws.Recording.{with_list, recording}
use Rattle.manager_laws.proofs.laws.Standing.{admitted_ids, created_stands, delegated_stands}
use Rattle.manager_laws.proofs.laws.Undone.{Undone}
use Rattle.manager_laws.proofs.laws.Unchanged.{create_undone}
use Rattle.manager_laws.proofs.laws.Roomed.{roomed, roomed_by_cases}
use Rattle.manager_laws.proofs.laws.SameIds.{SameIds, lookup_ids, list_ids, unregister_ids, collect_ids, count_ids}
use Rattle.manager_laws.proofs.laws.Sound.{create_keeps, delegate_keeps, delete_keeps, check_keeps}
use Rattle.manager_laws.proofs.laws.Spent.{Recycled, SpentAt, Spent, NoneFreed, spent_still, none_refl, none_trans, none_same, take_none, taken_from, taken_unspent, registered_spent, recycle_spent, back_none}
use Rattle.manager_laws.proofs.laws.StepsKept.{taken_in_hand, parent_registered, deleted_kept, id_of_made}

-- ---- create

-- An id that was taken from the recycled ones, or is new, and whose registering is undone.
none_undone :
    (d : Numbers) (base mem : List ℕ) (id : ℕ) (after : List ℕ) → NoneFreed d base mem → (id < next_of base → Recycled d base id)
    → Undone d mem id after → NoneFreed d base after
none_undone d base mem id after none from undone = record {
  next_grows = omega (arith, none.next_grows, undone.head 5 (omega arith) (omega arith));
  none_joins = λ x l again.
      ⊎_elim (λ is. subst (Recycled d base) (sym is) (from (omega arith))) (none.none_joins x l) ((undone.recycled x).0 again);
}

module _ (mem : List ℕ) (s object : ℕ) (valid : Bool) (cap_type rights : ℕ) (fits : rights < 2 ^ 32) where
  abbrev d : Numbers
  d = numbers_of mem

  abbrev Way : Type 0
  Way = create.Way mem s object valid cap_type rights

  pub create_frees_none : NoneFreed (numbers_of mem) mem (create_out mem s object valid cap_type rights).memory
  create_frees_none =
      subst (λ (out : Left Reply). NoneFreed d mem out.memory) (sym (create.goes mem s object valid cap_type rights way)) (go way)
    where
      way : Way
      way = create.way mem s object valid cap_type rights

      go : (w : Way) → NoneFreed d mem (create.out_of mem s object valid cap_type rights w).memory
      go (create.bad_world bad) = none_refl d mem
      go (create.bad_space sound far) = none_refl d mem
      go (create.bad_type sound there over) = none_refl d mem
      go (create.bad_object sound there fits off) = none_refl d mem
      go (create.exhausted a is) = take_none d mem a.sound
      go (create.full t over) =
          let sound = t.asked.sound in
          back_none d mem (take_step d mem) t.id (take_none d mem sound) (taken_from d mem sound t.id t.is)
          (take_step_kept d mem sound).sound (taken_in_hand d mem sound t.id t.is).room
      go (create.refused t room none) =
          let sound = t.asked.sound in
          none_undone d mem (take_step d mem) t.id _ (take_none d mem sound) (taken_from d mem sound t.id t.is)
          (create_undone mem s object valid cap_type rights t room none)
      go (create.accepted t room a) =
          none_trans d mem (take_step d mem) _ (take_none d mem t.asked.sound)
          (none_same d (take_step d mem) _
          (admitted_ids d (take_step d mem) t.id object 0 (create.recording mem s object valid cap_type rights t room) s t.asked.there
          (create.new_token mem s object valid cap_type rights t) rights 7 fits (omega arith) (omega arith)))

-- ---- delegate

-- Collecting frees none: collected ids are not recycled.
roomed_none : (d : Numbers) (token : ℕ) (mem : List ℕ) → SoundAt d mem → NoneFreed d mem (roomed d token mem)
roomed_none d token mem sound =
    roomed_by_cases d token mem (NoneFreed d mem) (λ few. none_refl d mem)
    (λ many. none_same d mem _ (collect_ids d mem sound _ (parent_registered d mem sound _ (omega arith))))

module _ (mem : List ℕ) (token source target rights : ℕ) where
  looked_none :
      delegate.Entered mem token source target rights
      → NoneFreed (numbers_of mem) mem (delegate.looked mem token source target rights)
  looked_none at = none_same (numbers_of mem) mem _ (lookup_ids (numbers_of mem) mem at.sound source at.from token)

  offer_none :
      (g : delegate.Granted mem token source target rights)
      → NoneFreed (numbers_of mem) mem (delegate.offer mem token source target rights g).memory
  offer_none g =
      let d : Numbers = numbers_of mem in
      let at = g.entered in
      let looked : List ℕ = delegate.looked mem token source target rights in
      (offered_by_lookups d target (place_in d looked (id_of token)) (type_of token) (delegate.shared mem token source target rights g)
      (λ after. SoundAt d after × NoneFreed d mem after)
      (λ mid tok (sound, none). (
        (lookup_step_kept d mid sound target at.to tok).sound,
        none_trans d mem mid _ none (none_same d mid _ (lookup_ids d mid sound target at.to tok)),
      ))
      0 (registered_of looked) looked ((lookup_step_kept d mem at.sound source at.from token).sound, looked_none at)).1

  base_none :
      (g : delegate.Granted mem token source target rights)
      → NoneFreed (numbers_of mem) mem (delegate.base mem token source target rights g)
  base_none g =
      none_trans (numbers_of mem) mem _ _ (offer_none g)
      (roomed_none (numbers_of mem) token _ (delegate.offer_sound mem token source target rights g))

  -- An id taken then was recycled before the delegate, or is new.
  module _ (t : delegate.Took mem token source target rights) where
    abbrev numbers : Numbers
    numbers = numbers_of mem

    abbrev r : List ℕ
    r = delegate.from mem token source target rights t

    abbrev taken : List ℕ
    taken = take_step numbers r

    r_sound : SoundAt numbers r
    r_sound = delegate.base_sound mem token source target rights t.asked.granted

    r_none : NoneFreed numbers mem r
    r_none = base_none t.asked.granted

    taken_none : NoneFreed numbers mem taken
    taken_none = none_trans numbers mem r taken r_none (take_none numbers r r_sound)

    came_from : t.id < next_of mem → Recycled (numbers_of mem) mem t.id
    came_from l = r_none.none_joins t.id l (taken_from numbers r r_sound t.id t.is (omega (arith, r_none.next_grows)))

    given_back_none : NoneFreed numbers mem (delegate.back mem token source target rights t)
    given_back_none =
        back_none numbers mem taken t.id taken_none came_from (take_step_kept numbers r r_sound).sound
        (taken_in_hand numbers r r_sound t.id t.is).room

  module _ (g : delegate.Good mem token source target rights) where
    -- Giving the parent a list frees none either.
    listed_none : NoneFreed (numbers_of mem) mem (with_list mem token source target rights g)
    listed_none =
        let t = g.took in
        let taken_sound = (take_step_kept (numbers_of mem) (r t) (r_sound t)).sound in
        none_trans (numbers_of mem) mem (taken t) _ (taken_none t)
        (none_same (numbers_of mem) (taken t) _
        (list_ids (numbers_of mem) (taken t) taken_sound _ (omega (arith, g.inside, (r_sound t).registered_fit))))

  module _ (fits : rights < 2 ^ 32) where
    abbrev WayOut : Type 0
    WayOut = delegate.Way mem token source target rights

    pub delegate_frees_none : NoneFreed (numbers_of mem) mem (delegate_out mem token source target rights).memory
    delegate_frees_none =
        subst (λ (out : Left Reply). NoneFreed (numbers_of mem) mem out.memory)
        (sym (delegate.goes mem token source target rights way)) (go way)
      where
        way : WayOut
        way = delegate.way mem token source target rights

        as_it_is : NoneFreed (numbers_of mem) mem mem
        as_it_is = none_refl (numbers_of mem) mem

        go : (w : WayOut) → NoneFreed (numbers_of mem) mem (delegate.out_of mem token source target rights w).memory
        go (delegate.bad_world bad) = as_it_is
        go (delegate.bad_source sound far) = as_it_is
        go (delegate.bad_target sound there far) = as_it_is
        go (delegate.absent entered none) = looked_none entered
        go (delegate.ungranted entered e found none) = looked_none entered
        go (delegate.reused g held) = offer_none g
        go (delegate.crowded g none many) = base_none g
        go (delegate.exhausted a is) =
            none_trans (numbers_of mem) mem _ _ (base_none a.granted)
            (take_none (numbers_of mem) _ (delegate.base_sound mem token source target rights a.granted))
        go (delegate.orphaned t outside) = given_back_none t
        go (delegate.stale t inside is) = given_back_none t
        go (delegate.full g over) = given_back_none g.took
        go (delegate.refused g room none) =
            none_undone (numbers_of mem) mem _ g.took.id _ (listed_none g) (came_from g.took)
            (delegate_undone mem token source target rights g room none)
        go (delegate.accepted g room a) =
            let t = g.took in
            let granted = t.asked.granted in
            let p : ℕ = delegate.parent mem token source target rights t in
            let shared : ℕ = delegate.shared mem token source target rights granted in
            none_trans (numbers_of mem) mem _ _ (listed_none g)
            (none_same (numbers_of mem) _ _
            (admitted_ids (numbers_of mem) _ t.id (objects (numbers_of mem) (r t) p) (suc p)
            (recording mem token source target rights g room) target granted.entered.to
            (token_of t.id (type_of token) shared) shared 8 (omega (arith, and_le_r granted.entry.rights.0 rights)) (omega arith)
            (omega arith)))

-- ---- check and delete

pub check_frees_none : (mem : List ℕ) (token required s : ℕ) → NoneFreed (numbers_of mem) mem (check_out mem token required s).memory
check_frees_none mem token required s =
    let d : Numbers = numbers_of mem in
    let as_it_is = none_refl d mem in
    let looked : Sound mem → s < d.spaces → NoneFreed d mem (lookup_step d s token mem) =
    λ sound there. none_same d mem _ (lookup_ids d mem sound s there token) in
    check_by_cases mem token required s (λ (out : Left Reply). NoneFreed d mem out.memory) (λ bad. as_it_is) (λ sound far. as_it_is)
    (λ sound there without. looked sound there)
    (λ sound there granted stale. looked sound there)
    (λ sound there granted good. looked sound there)

-- What a delete of an id leaves of spent ids: all but the id.
module _ (d : Numbers) (mem : List ℕ) (sound : SoundAt d mem) (id : ℕ) (inside : place_in d mem id < registered_of mem)
    (room : recycled_of mem ≤ d.places)
  where
    abbrev k : ℕ
    k = place_in d mem id

    abbrev gone : List ℕ
    gone = unregister_step d k mem

    gone_sound : SoundAt d gone
    gone_sound = (unregister_step_kept d mem sound k inside).sound

    gone_room : recycled_of gone ≤ d.places
    gone_room = rw (unregister_ids d mem sound k inside).same_count room

    counted_ids : SameIds d (recycle_step d id gone) (deleted d id mem)
    counted_ids = count_ids d _ (deleted_kept d mem sound id inside room).sound 10 (omega arith) (omega arith)

    deleted_spent : (x : ℕ) → x ≢ id → SpentAt d mem x → SpentAt d (deleted d id mem) x
    deleted_spent x other spent =
        spent_still d _ _ x (none_same d _ _ counted_ids)
        (recycle_spent d gone gone_sound id gone_room x other
        (spent_still d mem gone x (none_same d mem gone (unregister_ids d mem sound k inside)) spent))

module _ (mem : List ℕ) (sound : Sound mem) (x : ℕ) (spent : Spent mem x) where
  -- The numbers stay.
  pub spent_after : (after : List ℕ) → Kept (numbers_of mem) mem after → NoneFreed (numbers_of mem) mem after → Spent after x
  spent_after after kept none =
      subst (λ (d : Numbers). SpentAt d after x) (sym kept.numbers) (spent_still (numbers_of mem) mem after x none spent)

  pub create_spent :
      (s object : ℕ) (valid : Bool) (cap_type rights : ℕ) → rights < 2 ^ 32 → Spent (create_out mem s object valid cap_type rights).memory x
  create_spent s object valid cap_type rights fits =
      spent_after _ (create_keeps mem sound s object valid cap_type rights fits)
      (create_frees_none mem s object valid cap_type rights fits)

  pub delegate_spent : (token source target rights : ℕ) → rights < 2 ^ 32 → Spent (delegate_out mem token source target rights).memory x
  delegate_spent token source target rights fits =
      spent_after _ (delegate_keeps mem sound token source target rights fits) (delegate_frees_none mem token source target rights fits)

  pub check_spent : (token required s : ℕ) → Spent (check_out mem token required s).memory x
  check_spent token required s =
      spent_after _ (check_keeps mem sound token required s) (check_frees_none mem token required s)

  -- But for its own deletion.
  pub delete_spent :
      (token : ℕ) → (x ≢ id_of token) ⊎ ((delete_out mem token).reply.answer ≢ Done) → Spent (delete_out mem token).memory x
  delete_spent token either =
      subst (λ (d : Numbers). SpentAt d (delete_out mem token).memory x) (sym (delete_keeps mem sound token).numbers)
      (delete_by_cases mem token
      (λ (out : Left Reply). (x ≢ id_of token) ⊎ (out.reply.answer ≢ Done) → SpentAt (numbers_of mem) out.memory x)
      (λ bad e. spent) (λ sound absent e. spent) (λ sound inside full e. spent)
      (λ sound inside room e.
      deleted_spent (numbers_of mem) mem sound (id_of token) inside room x (⊎_elim (λ other. other) (λ not_done. absurd (not_done refl)) e)
      spent)
      either)

-- ---- new ids

-- An id that no spent id is: it was never issued, or was given back.
abbrev pub Unspent : List ℕ → ℕ → Type 0
Unspent mem id = (x : ℕ) → Spent mem x → id ≢ x

-- Such an id is not registered.
pub unspent_unregistered : (mem : List ℕ) → Sound mem → (id : ℕ) → Unspent mem id → registered_of mem ≤ place_in (numbers_of mem) mem id
unspent_unregistered mem sound id unspent =
    let d : Numbers = numbers_of mem in
    by_cases (dec_lt (place_in d mem id) (registered_of mem))
    (λ inside.
    absurd
    (unspent id (registered_spent d mem sound id ((registered_among (registered_of mem) (view d registry mem) id).0 inside)) refl))
    (λ outside. omega arith)

pub create_new :
    (mem : List ℕ) (s object : ℕ) (valid : Bool) (cap_type rights : ℕ)
    → (create_out mem s object valid cap_type rights).reply.answer ≡ Done
    → Unspent mem (id_of (create_out mem s object valid cap_type rights).reply.value)
create_new mem s object valid cap_type rights =
    create.create_by_ways mem s object valid cap_type rights
    (λ (out : Left Reply). out.reply.answer ≡ Done → Unspent mem (id_of out.reply.value))
    (λ after a some e. absurd (some (ap number_of e)))
    (λ t room a e x spent.
    let d : Numbers = numbers_of mem in
    let sound = t.asked.sound in
    rw (id_of_made t.id cap_type rights (taken_in_hand d mem sound t.id t.is).free.fits)
    (taken_unspent d mem sound t.id x t.is spent))

module _ (mem : List ℕ) (token source target rights : ℕ) where
  -- Given 0, either a child that the target held is returned, or the id is new.
  pub delegate_new :
      (delegate_out mem token source target rights).reply.answer ≡ Done
      → delegate.Returned mem token source target rights (delegate_out mem token source target rights).reply.value
      ⊎ Unspent mem (id_of (delegate_out mem token source target rights).reply.value)
  delegate_new =
      delegate.delegate_by_ways mem token source target rights
      (λ (out : Left Reply).
      out.reply.answer ≡ Done
      → delegate.Returned mem token source target rights out.reply.value ⊎ Unspent mem (id_of out.reply.value))
      (λ after a some e. absurd (some (ap number_of e)))
      (λ g held e. inl (g, (held, refl)))
      (λ g room a e.
      inr
      (λ x spent.
      let d : Numbers = numbers_of mem in
      let t = g.took in
      let granted = t.asked.granted in
      let sound = delegate.base_sound mem token source target rights granted in
      let r : List ℕ = delegate.base mem token source target rights granted in
      rw
      (id_of_made t.id (type_of token) (delegate.shared mem token source target rights granted)
      (taken_in_hand d r sound t.id t.is).free.fits)
      (taken_unspent d r sound t.id x t.is (spent_still d mem r x (base_none mem token source target rights granted) spent))))

-- ---- what was issued is spent then

module _ (mem : List ℕ) (sound : Sound mem) where
  -- The id of a place of a memory that was kept.
  kept_spent :
      (after : List ℕ) (id : ℕ) → Kept (numbers_of mem) mem after → place_in (numbers_of mem) after id < registered_of after
      → Spent after id
  kept_spent after id kept inside =
      let d : Numbers = numbers_of mem in
      subst (λ (d : Numbers). SpentAt d after id) (sym kept.numbers)
      (registered_spent d after kept.sound id ((registered_among (registered_of after) (view d registry after) id).0 inside))

  pub create_issued :
      (s object : ℕ) (valid : Bool) (cap_type rights : ℕ) → rights < 2 ^ 32
      → (create_out mem s object valid cap_type rights).reply.answer ≡ Done
      → Spent (create_out mem s object valid cap_type rights).memory (id_of (create_out mem s object valid cap_type rights).reply.value)
  create_issued s object valid cap_type rights fits done =
      kept_spent _ _ (create_keeps mem sound s object valid cap_type rights fits)
      (created_stands mem s object valid cap_type rights fits done).registered

  pub delegate_issued :
      (token source target rights : ℕ) → rights < 2 ^ 32 → (delegate_out mem token source target rights).reply.answer ≡ Done
      → delegate.Returned mem token source target rights (delegate_out mem token source target rights).reply.value
      ⊎ Spent (delegate_out mem token source target rights).memory (id_of (delegate_out mem token source target rights).reply.value)
  delegate_issued token source target rights fits done =
      ⊎_elim inl
      (λ (g, (is, stands)). inr (kept_spent _ _ (delegate_keeps mem sound token source target rights fits) stands.registered))
      (delegated_stands mem token source target rights fits done)
