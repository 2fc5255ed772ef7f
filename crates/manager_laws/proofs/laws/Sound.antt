-- Every call keeps a sound memory sound, with its numbers, its length and every word past the regions (`Kept`), whatever it answers.
use Rattle.std.proofs.Common.{Bool, List, sym, subst, ℕ, ◌^◌, ◌<◌, arith}
use lib.Bits.{and_le_r}
use Rattle.steps.specs.Steps.{lookup_step, take_step}
use Rattle.steps.proofs.laws.Called.{Keeps}
use Rattle.steps.proofs.laws.Kept.{Kept, kept_refl, kept_trans}
use Rattle.steps.proofs.laws.RegistrySteps.{list_step_kept, add_step_kept}
use Rattle.steps.proofs.laws.SpaceSteps.{lookup_step_kept}
use Rattle.steps.proofs.laws.TakeStep.{take_step_kept}
use Rattle.token.specs.Token.{id_of}
use Rattle.world.specs.Numbers.{numbers_of}
use Rattle.world.specs.Sound.{Sound}
use Rattle.world.specs.declared.Numbers.{Numbers}
use Rattle.delegation_calls.specs.Delegation.{delegate_out}
use Rattle.manager_calls.specs.Calls.{create_out, delete_out, check_out}
use Rattle.manager_laws.proofs.laws.Created as create
use Rattle.manager_laws.proofs.laws.Delegated as delegate
use Rattle.manager_laws.proofs.laws.Recording.{with_list, recording}
use Rattle.manager_laws.proofs.laws.StepsKept.{taken_in_hand, given_back, entered_kept, undone_kept, deleted_kept}
use Rattle.manager_laws.proofs.laws.Ways.{delete_by_cases, check_by_cases}

-- ---- create and delegate, by their ways

module _ (mem : List ℕ) (sound : Sound mem) (s object : ℕ) (valid : Bool) (cap_type rights : ℕ) (fits : rights < 2 ^ 32) where
  abbrev Way : Type 0
  Way = create.Way mem s object valid cap_type rights

  pub create_keeps : Keeps mem (create_out mem s object valid cap_type rights)
  create_keeps = subst (Keeps mem) (sym (create.goes mem s object valid cap_type rights way)) (go way)
    where
      d : Numbers
      d = numbers_of mem

      way : Way
      way = create.way mem s object valid cap_type rights

      as_it_is : Kept d mem mem
      as_it_is = kept_refl d mem sound

      taking : Kept d mem (take_step d mem)
      taking = take_step_kept d mem sound

      go : (w : Way) → Keeps mem (create.out_of mem s object valid cap_type rights w)
      go (create.bad_world bad) = as_it_is
      go (create.bad_space good far) = as_it_is
      go (create.bad_type good there over) = as_it_is
      go (create.bad_object good there small off) = as_it_is
      go (create.exhausted a is) = taking
      go (create.full t over) =
          kept_trans d mem _ _ taking (given_back d _ taking.sound t.id (taken_in_hand d mem sound t.id t.is))
      go (create.refused t room none) =
          kept_trans d mem _ _ taking (undone_kept d _ t.id object 0 (create.recording mem s object valid cap_type rights t room))
      go (create.accepted t room a) =
          kept_trans d mem _ _ taking
          (entered_kept d _ t.id object 0 (create.recording mem s object valid cap_type rights t room) s
          (create.new_token mem s object valid cap_type rights t) rights 7 t.asked.there fits (omega arith) (omega arith))

module _ (mem : List ℕ) (sound : Sound mem) (token source target rights : ℕ) (fits : rights < 2 ^ 32) where
  abbrev numbers : Numbers
  numbers = numbers_of mem

  abbrev Took : Type 0
  Took = delegate.Took mem token source target rights

  taken_kept : (t : Took) → Kept numbers mem (take_step numbers (delegate.from mem token source target rights t))
  taken_kept t =
      let base = delegate.base_kept mem token source target rights t.asked.granted in
      kept_trans numbers mem _ _ base (take_step_kept numbers _ base.sound)

  -- The id is given back,
  back_kept : (t : Took) → Kept numbers mem (delegate.back mem token source target rights t)
  back_kept t =
      let taken = taken_kept t in
      let base = delegate.base_kept mem token source target rights t.asked.granted in
      kept_trans numbers mem _ _ taken (given_back numbers _ taken.sound t.id (taken_in_hand numbers _ base.sound t.id t.is))

  -- or the parent has a list from now on.
  listed_kept : (g : delegate.Good mem token source target rights) → Kept numbers mem (with_list mem token source target rights g)
  listed_kept g =
      let taken = taken_kept g.took in
      let base = delegate.base_kept mem token source target rights g.took.asked.granted in
      kept_trans numbers mem _ _ taken (list_step_kept numbers _ taken.sound _ (omega (arith, g.inside, base.sound.registered_fit)))

  pub delegate_keeps : Keeps mem (delegate_out mem token source target rights)
  delegate_keeps = subst (Keeps mem) (sym (delegate.goes mem token source target rights way)) (go way)
    where
      way : delegate.Way mem token source target rights
      way = delegate.way mem token source target rights

      as_it_is : Kept numbers mem mem
      as_it_is = kept_refl numbers mem sound

      go : (w : delegate.Way mem token source target rights) → Keeps mem (delegate.out_of mem token source target rights w)
      go (delegate.bad_world bad) = as_it_is
      go (delegate.bad_source good far) = as_it_is
      go (delegate.bad_target good there far) = as_it_is
      go (delegate.absent entered none) = delegate.looked_kept mem token source target rights entered
      go (delegate.ungranted entered e found none) = delegate.looked_kept mem token source target rights entered
      go (delegate.reused g held) = delegate.offer_kept mem token source target rights g
      go (delegate.crowded g none many) = delegate.base_kept mem token source target rights g
      go (delegate.exhausted a is) =
          let base = delegate.base_kept mem token source target rights a.granted in
          kept_trans numbers mem _ _ base (take_step_kept numbers _ base.sound)
      go (delegate.orphaned t outside) = back_kept t
      go (delegate.stale t inside is) = back_kept t
      go (delegate.full g over) = back_kept g.took
      go (delegate.refused g room none) =
          kept_trans numbers mem _ _ (listed_kept g)
          (undone_kept numbers _ g.took.id _ _ (recording mem token source target rights g room))
      go (delegate.accepted g room a) =
          let granted = g.took.asked.granted in
          kept_trans numbers mem _ _ (listed_kept g)
          (entered_kept numbers _ g.took.id _ _ (recording mem token source target rights g room) target _
          (delegate.shared mem token source target rights granted) 8 granted.entered.to
          (omega (arith, and_le_r granted.entry.rights.0 rights)) (omega arith) (omega arith))

-- ---- delete and check

module _ (mem : List ℕ) (sound : Sound mem) where
  abbrev d : Numbers
  d = numbers_of mem

  pub delete_keeps : (token : ℕ) → Keeps mem (delete_out mem token)
  delete_keeps token =
      let as_it_is = kept_refl d mem sound in
      delete_by_cases mem token (Keeps mem) (λ bad. as_it_is) (λ sound unregistered. as_it_is) (λ sound inside full. as_it_is)
      (λ sound inside room.
      let left = deleted_kept d mem sound (id_of token) inside room in
      kept_trans d mem _ _ left (add_step_kept d _ left.sound 10 1 (omega arith) (omega arith)))

  pub check_keeps : (token required s : ℕ) → Keeps mem (check_out mem token required s)
  check_keeps token required s =
      let as_it_is = kept_refl d mem sound in
      let looked : s < d.spaces → Kept d mem (lookup_step d s token mem) = λ there. lookup_step_kept d mem sound s there token in
      check_by_cases mem token required s (Keeps mem) (λ bad. as_it_is) (λ sound far. as_it_is) (λ sound there without. looked there)
      (λ sound there granted stale. looked there)
      (λ sound there granted good. looked there)
