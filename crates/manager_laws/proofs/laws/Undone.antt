-- An id that leaves the registry again, since its entry was refused: every registered place, space and queue, the log and the head are as
-- they were before it was registered, and the id is recycled. Of the place that it leaves, which is free again, nothing is said.
use Rattle.std.proofs.Common.{List, ◌↔◌, ◌≢◌, ◌⊎◌, inl, inr, ⊎_elim, ◌≡◌, sym, subst, ◌∙◌, ℕ, ◌+◌, ◌-◌, ◌*◌, ◌≤◌, ◌<◌, arith, length, get_or}
use Rattle.std.proofs.Math.Decide.{ℕ_discrete}
use Rattle.std.proofs.Math.Logic.{by_cases}
use Rattle.std.proofs.Math.Logic.Iff
use Rattle.registry.specs.Registering.{registered, unregistered}
use Rattle.registry.specs.RegisteringLaws.{same_places_trans, registered_other}
use Rattle.registry.specs.UnregisteringLaws.{unregistered_before}
use Rattle.steps.specs.Steps.{space_of, register_step, unregister_step, recycle_step}
use Rattle.steps.proofs.laws.RegistryChanged.{RegistryChanged}
use Rattle.steps.proofs.laws.RegistrySteps.{register_step_changes, unregister_step_changes, unregister_step_kept, recycle_step_changes}
use Rattle.world.specs.Numbers.{registered_of, recycled_of}
use Rattle.world.specs.Regions.{registry, log, queue, view}
use Rattle.world.specs.Sound.{SoundAt}
use Rattle.world.specs.Views.{registry_words}
use Rattle.world.specs.declared.Numbers.{Numbers}
use Rattle.manager_laws.proofs.laws.SameIds.{SameIds, register_ids, unregister_ids, ids_trans}
use Rattle.manager_laws.proofs.laws.SameRegistered.{SameRegistered, registered_trans, same_places, recycle_same}
use Rattle.manager_laws.proofs.laws.StepsKept.{Registration, registered_kept}
use Rattle.manager_laws.proofs.laws.Spent.{Recycled, recycle_has}

-- Word 12 of the head is the number of recycled ids.
pub record Undone (d : Numbers) (mem : List ℕ) (id : ℕ) (after : List ℕ) : Type 0 where
  pub registered : SameRegistered d mem after
  pub spaces : (s : ℕ) → s < d.spaces → space_of d s after ≡ space_of d s mem
  pub head : (i : ℕ) → i < 16 → i ≢ 12 → get_or after i 0 ≡ get_or mem i 0
  pub recycled : (x : ℕ) → Recycled d after x ↔ ((x ≡ id) ⊎ Recycled d mem x)
  pub same_log : view d log after ≡ view d log mem
  pub same_queue : (q : ℕ) → q < d.queues → view d (queue q) after ≡ view d (queue q) mem

module _ (d : Numbers) (mem : List ℕ) (id object link : ℕ) (reg : Registration d mem id link) where
  abbrev n : ℕ
  n = registered_of mem

  abbrev id_registered : List ℕ
  id_registered = register_step d id object link mem

  abbrev gone : List ℕ
  gone = unregister_step d n id_registered

  there : SoundAt d id_registered
  there = (registered_kept d mem id object link reg).sound

  came : RegistryChanged d (registered d.places n id object link (view d registry mem)) 11 (n + 1) mem id_registered
  came = register_step_changes d mem reg.sound id object link reg.room

  inside : n < registered_of id_registered
  inside = omega (arith, came.new_word)

  left :
      RegistryChanged d (unregistered d.places (registered_of id_registered) n (view d registry id_registered)) 11
      (registered_of id_registered - 1)
      id_registered gone
  left = unregister_step_changes d id_registered there n inside

  long : (ws : List ℕ) → SoundAt d ws → 5 * d.places + 1 ≤ length (view d registry ws)
  long ws is = registry_words d ws is.long_enough

  gone_registered : SameRegistered d mem gone
  gone_registered =
      same_places d mem gone (omega (arith, left.new_word, came.new_word))
      (same_places_trans d.places n n (view d registry mem) (view d registry id_registered) (view d registry gone) (omega arith)
      (rw came.new_registry (registered_other d.places n id object link (view d registry mem) reg.room (long mem reg.sound)))
      (rw left.new_registry
      (unregistered_before d.places (registered_of id_registered) n (view d registry id_registered) inside there.registered_fit
      (long id_registered there))))

  gone_sound : SoundAt d gone
  gone_sound = (unregister_step_kept d id_registered there n inside).sound

  gone_ids : SameIds d mem gone
  gone_ids =
      ids_trans d mem id_registered gone (register_ids d mem reg.sound id object link reg.room)
      (unregister_ids d id_registered there n inside)

  gone_room : recycled_of gone ≤ d.places
  gone_room = rw gone_ids.same_count reg.hand.room

  gone_head : (i : ℕ) → i < 16 → get_or gone i 0 ≡ get_or mem i 0
  gone_head i l =
      by_cases (ℕ_discrete i 11)
      (λ is. subst (λ i. get_or gone i 0 ≡ get_or mem i 0) (sym is) gone_registered.same_count)
      (λ other. left.same_word i l other ∙ came.same_word i l other)

  undone : Undone d mem id (recycle_step d id (unregister_step d n id_registered))
  undone =
      let back = recycle_step_changes d gone gone_sound id gone_room in
      record {
        registered = registered_trans d mem gone _ gone_registered (recycle_same d gone gone_sound id gone_room);
        spaces = λ s l. back.same_space s l ∙ left.same_space s l ∙ came.same_space s l;
        head = λ i l other. back.same_word i l other ∙ gone_head i l;
        recycled = λ x. Iff.trans (recycle_has d gone gone_sound id gone_room x) (recycled_as_was x);
        same_log = back.apart.same_log ∙ left.apart.same_log ∙ came.apart.same_log;
        same_queue = λ q l. back.apart.same_queue q l ∙ left.apart.same_queue q l ∙ came.apart.same_queue q l;
      }
    where
      recycled_as_was : (x : ℕ) → ((x ≡ id) ⊎ Recycled d gone x) ↔ ((x ≡ id) ⊎ Recycled d mem x)
      recycled_as_was x = (
        ⊎_elim inl (λ (j, (l, e)). inr (j, (rw gone_ids.same_count at l, sym (gone_ids.same_recycled j) ∙ e))),
        ⊎_elim inl (λ (j, (l, e)). inr (j, (rw gone_ids.same_count l, gone_ids.same_recycled j ∙ e))),
      )

  -- The place that it leaves is the last.
  pub registering_undone :
      let after = register_step d id object link mem in
      Undone d mem id (recycle_step d id (unregister_step d (registered_of after - 1) after))
  registering_undone =
      let unmoved : registered_of id_registered - 1 ≡ n = omega (arith, came.new_word) in
      subst (λ k. Undone d mem id (recycle_step d id (unregister_step d k id_registered))) (sym unmoved) undone
