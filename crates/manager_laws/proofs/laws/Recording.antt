-- A child of a good parent can be recorded: once its id is taken, the parent is still registered and unrevoked, and its list has room.
use Rattle.std.proofs.Common.{List, ◌≡◌, ◌∙◌, ℕ, suc, ◌<◌, arith, eqb-true, eqb}
use Rattle.base.specs.Choose.{both_left}
use Rattle.registry.specs.Words.{revoked}
use Rattle.steps.specs.Steps.{take_step, list_step, children_of}
use Rattle.steps.proofs.laws.RegistrySteps.{list_step_changes}
use Rattle.steps.proofs.laws.TakeStep.{take_step_kept}
use Rattle.world.specs.Numbers.{numbers_of, registered_of}
use Rattle.world.specs.Sound.{states, SoundAt}
use Rattle.world.specs.declared.Numbers.{Numbers}
use Rattle.manager_laws.proofs.laws.Delegated.{Took, Good, from, parent, offer_sound, base_sound}
use Rattle.manager_laws.proofs.laws.Roomed.{roomed_place}
use Rattle.manager_laws.proofs.laws.SameRegistered.{SameRegistered, take_same, same_children}
use Rattle.manager_laws.proofs.laws.StepsKept.{Registration, taken_in_hand, child_registration}

module _ (mem : List ℕ) (token source target rights : ℕ) (g : Good mem token source target rights) where
  abbrev d : Numbers
  d = numbers_of mem

  abbrev t : Took mem token source target rights
  t = g.took

  -- The memory that the id is taken from, and the parent there.
  abbrev r : List ℕ
  r = from mem token source target rights t

  abbrev p : ℕ
  p = parent mem token source target rights t

  abbrev taken : List ℕ
  taken = take_step d r

  r_sound : SoundAt d r
  r_sound = base_sound mem token source target rights t.asked.granted

  taken_sound : SoundAt d taken
  taken_sound = (take_step_kept d r r_sound).sound

  same : SameRegistered d r taken
  same = take_same d r r_sound

  inside : p < registered_of taken
  inside = rw same.same_count g.inside

  below : p < d.places
  below = omega (arith, g.inside, r_sound.registered_fit)

  unrevoked : revoked (states d taken p) ≡ 0
  unrevoked = rw (same.same_states p g.inside) (eqb-true _ 0 (both_left (eqb (revoked (states d r p)) 0) _ g.good))

  few : children_of d taken p < 1024
  few =
      rw (same_children d r taken same p, roomed_place d token _ (offer_sound mem token source target rights t.asked.granted))
      t.asked.few

  -- The memory in which the parent has a list.
  abbrev pub with_list : List ℕ
  with_list = list_step d p taken

  pub with_list_count : registered_of with_list ≡ registered_of (from mem token source target rights g.took)
  with_list_count = (list_step_changes d taken taken_sound p below).same_word 11 (omega arith) (omega arith) ∙ same.same_count

  pub recording :
      registered_of (from mem token source target rights g.took) < (numbers_of mem).places
      → Registration (numbers_of mem) with_list g.took.id (suc (parent mem token source target rights g.took))
  recording room =
      child_registration d taken taken_sound p inside t.id (rw same.same_count room) (taken_in_hand d r r_sound t.id t.is)
      unrevoked few
