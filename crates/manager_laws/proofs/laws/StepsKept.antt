-- What create, delegate and delete do, step by step, keeps a sound memory sound (`Kept`): an id that was taken is registered, and its entry
-- goes into a space or the id leaves again; or it is given back at once; children are offered; a child is registered under its parent.
use Rattle.std.proofs.Common.{List, ◌≡◌, sym, ap, subst, ◌∙◌, ℕ, suc, ◌+◌, ◌-◌, ◌*◌, ◌^◌, ◌≤◌, ◌<◌, arith, ne_eqb, length, Some}
use Rattle.std.proofs.Math.Decide.{dec_lt}
use Rattle.std.proofs.Math.Logic.{by_cases}
use Rattle.base.specs.Below.{one}
use Rattle.base.specs.SumLaws.{sum_const_zero}
use Rattle.registry.proofs.CollectionLaws.{collected_parent}
use Rattle.registry.specs.HoldersLaws.{place_holds, place_is}
use Rattle.registry.specs.RegisteringLaws.{Parent, no_parent, registered_new, list_given_only, list_given_state}
use Rattle.registry.specs.StatesOnly.{same_ids, same_links}
use Rattle.registry.specs.Rules.{children_same}
use Rattle.registry.specs.Words.{id_at, revoked, child_of, children}
use Rattle.steps.specs.Steps.{new_entry, insert_step, taken_id, take_step, place_in, register_step, list_step, unregister_step, recycle_step, collect_step, children_of, add_step}
use Rattle.steps.proofs.laws.Kept.{Kept, kept_refl, kept_trans}
use Rattle.steps.proofs.laws.Ready.{ready_at}
use Rattle.steps.proofs.laws.ReadyKept.{take_room}
use Rattle.steps.proofs.laws.RegistrySteps.{register_step_changes, register_step_kept, list_step_changes, list_step_kept, recycle_step_kept, collect_step_changes, collect_step_kept, add_step_kept, recycle_after_unregister}
use Rattle.steps.proofs.laws.SpaceSteps.{lookup_step_kept, insert_step_kept}
use Rattle.steps.proofs.laws.TakeStep.{Free, taken_free}
use Rattle.table.specs.declared.CapabilityEntry.{CapabilityEntry}
use Rattle.token.specs.Token.{id_of}
use Rattle.world.specs.Numbers.{registered_of, recycled_of}
use Rattle.world.specs.Regions.{registry, view}
use Rattle.world.specs.Sound.{ids, states, links, SoundAt}
use Rattle.world.specs.Views.{registry_words}
use Rattle.world.specs.declared.Numbers.{Numbers}
use Rattle.delegation_calls.specs.Delegation.{offered_from}
use Rattle.delegation_calls.proofs.Offering.{offered_by_lookups}
use Rattle.manager_calls.specs.Tokens.{token_of}
use Rattle.manager_laws.proofs.laws.SameIds.{list_ids}

-- An id that was taken: it is free, and there is room to give it back.
pub record InHand (d : Numbers) (mem : List ℕ) (id : ℕ) : Type 0 where
  pub free : Free d mem id
  pub room : recycled_of mem ≤ d.places

-- The token made of it has its id.
pub id_of_made : (id cap_type rights : ℕ) → id < 2 ^ 48 → id_of (token_of id cap_type rights) ≡ id
id_of_made id cap_type rights fits = omega arith

-- What registering it asks for, with a link that names its parent or none.
pub record Registration (d : Numbers) (mem : List ℕ) (id link : ℕ) : Type 0 where
  pub sound : SoundAt d mem
  pub room : registered_of mem < d.places
  pub hand : InHand d mem id
  pub parent : Parent d.places (registered_of mem) link (view d registry mem)

-- ---- register, insert

module _ (d : Numbers) (mem : List ℕ) (id object link : ℕ) (reg : Registration d mem id link) where
  pub registered_kept : Kept d mem (register_step d id object link mem)
  registered_kept = register_step_kept d mem reg.sound id object link reg.room reg.hand.free reg.parent

  abbrev id_registered : List ℕ
  id_registered = register_step d id object link mem

  -- Its entry goes into a space, and is counted,
  pub entered_kept :
      (s token rights i : ℕ) → s < d.spaces → rights < 2 ^ 32 → 7 ≤ i → i < 11
      → Kept d mem (add_step i 1 (insert_step d s (new_entry token object rights) (register_step d id object link mem)))
  entered_kept s token rights i valid fits low high =
      let e : CapabilityEntry = new_entry token object rights in
      let came = kept_trans d mem id_registered _ registered_kept (insert_step_kept d id_registered registered_kept.sound s valid e fits) in
      kept_trans d mem _ _ came (add_step_kept d _ came.sound i 1 (omega arith) high)

  -- or it leaves the last place again, and is recycled.
  pub undone_kept :
      let after = register_step d id object link mem in Kept d mem (recycle_step d id (unregister_step d (registered_of after - 1) after))
  undone_kept =
      let n : ℕ = registered_of mem in
      let k : ℕ = registered_of id_registered - 1 in
      let rg : List ℕ = view d registry mem in
      let changed = register_step_changes d mem reg.sound id object link reg.room in
      let long : 5 * d.places + 1 ≤ length rg = registry_words d mem reg.sound.long_enough in
      let last : ids d id_registered k ≡ id =
      ap (ids d id_registered) (omega (arith, changed.new_word)) ∙ ap (λ rg. id_at rg n) changed.new_registry
      ∙ (registered_new d.places n id object link rg reg.room long).new_id in
      kept_trans d mem id_registered _ registered_kept
      (subst (λ x. Kept d id_registered (recycle_step d x (unregister_step d k id_registered))) last
      (recycle_after_unregister d id_registered registered_kept.sound k (omega (arith, changed.new_word))
      (rw (changed.same_word 12 (omega arith) (omega arith)) reg.hand.room)))

module _ (d : Numbers) (mem : List ℕ) (sound : SoundAt d mem) where
  pub taken_in_hand : (id : ℕ) → taken_id d mem ≡ Some id → InHand d (take_step d mem) id
  taken_in_hand id is = record { free = taken_free d mem sound id is; room = take_room d mem (ready_at d mem sound) id is }

  pub given_back : (id : ℕ) → InHand d mem id → Kept d mem (recycle_step d id mem)
  given_back id h = recycle_step_kept d mem sound id h.room h.free

-- ---- create

-- A created id has no parent.
pub parentless : (d : Numbers) (mem : List ℕ) → SoundAt d mem → (id : ℕ) → registered_of mem < d.places → InHand d mem id
    → Registration d mem id 0
parentless d mem sound id room h =
    record { sound = sound; room = room; hand = h; parent = no_parent d.places (registered_of mem) (view d registry mem) }

-- ---- delegate: the children that there are already

pub offered_kept :
    (d : Numbers) (target p cap_type rights k m : ℕ) (mem : List ℕ) → target < d.spaces → SoundAt d mem
    → Kept d mem (offered_from d target p cap_type rights k m mem).memory
offered_kept d target p cap_type rights k m mem valid sound =
    offered_by_lookups d target p cap_type rights (Kept d mem)
    (λ mid token kept. kept_trans d mem mid _ kept (lookup_step_kept d mid kept.sound target valid token)) k m mem
    (kept_refl d mem sound)

-- ---- delegate: a new child

module _ (d : Numbers) (mem : List ℕ) (sound : SoundAt d mem) where
  abbrev n : ℕ
  n = registered_of mem

  abbrev rg : List ℕ
  rg = view d registry mem

  long : 5 * d.places + 1 ≤ length rg
  long = registry_words d mem sound.long_enough

  -- Only a registered id has children: links name earlier places.
  pub parent_registered : (p : ℕ) → 0 < children_of d mem p → p < registered_of mem
  unfolding children
  parent_registered p some =
      by_cases (dec_lt p n) (λ inside. inside)
      (λ outside.
      absurd
      (omega (
        arith,
        sum_const_zero (λ k. one (child_of (links d mem) p k)) n
            (λ k l. ap one (ne_eqb (links d mem k) (suc p) (λ e. omega (arith, sound.linked k l)))),
      )))

  module _ (p : ℕ) (inside : p < registered_of mem) where
    -- The collection leaves the parent in its place.
    pub collected_place : (x : ℕ) → place_in d mem x ≡ p → place_in d (collect_step d p mem) x ≡ p
    collected_place x is =
        let after : List ℕ = collect_step d p mem in
        let changed = collect_step_changes d mem sound p inside in
        let kept = collect_step_kept d mem sound p inside in
        let stays = collected_parent d.places p n rg inside sound.registered_fit long sound.linked in
        place_is (registered_of after) (view d registry after) x p kept.sound.ids_differ
        (rw changed.new_word stays.registered_still)
        (ap (λ ws. id_at ws p) changed.new_registry ∙ stays.same_id ∙ ap (ids d mem) (sym is)
        ∙ place_holds n rg x (rw is inside))

    -- The parent once it has a list: it is the one that a child's link may name.
    listed_parent :
        revoked (states d mem p) ≡ 0 → children_of d mem p < 1024
        → Parent d.places (registered_of (list_step d p mem)) (suc p) (view d registry (list_step d p mem))
    listed_parent unrevoked few =
        let below : p < d.places = omega (arith, sound.registered_fit) in
        let changed = list_step_changes d mem sound p below in
        let only = list_given_state d.places p rg below long in
        let fit = sound.registered_fit in
        rw (changed.same_word 11 (omega arith) (omega arith), changed.new_registry)
        (record {
          earlier = omega arith;
          parent_has_list = λ q e. rw (← (pred_same e)) only.has_list_here;
          room = λ q e.
              rw (← (pred_same e))
              (rw
              (children_same n (links d mem) _ (λ k l. same_links d.places rg _ (list_given_only d.places p rg below long) k) p)
              few);
          unrevoked = λ q e. rw (← (pred_same e)) (only.revoked_stays p ∙ unrevoked);
        })
      where
        pred_same : {q : ℕ} → suc p ≡ suc q → p ≡ q
        pred_same e = omega arith

    -- Free still.
    listed_in_hand : (id : ℕ) → InHand d mem id → InHand d (list_step d p mem) id
    listed_in_hand id h =
        let below : p < d.places = omega (arith, sound.registered_fit) in
        let changed = list_step_changes d mem sound p below in
        let same = list_ids d mem sound p below in
        record {
          free = record {
            positive = h.free.positive;
            fits = h.free.fits;
            issued = rw same.same_next h.free.issued;
            unregistered = λ k l e.
                let u : k < n = rw (changed.same_word 11 (omega arith) (omega arith)) at l in
                h.free.unregistered k u
                (sym (same_ids d.places rg _ (list_given_only d.places p rg below long) k (omega (arith, sound.registered_fit)))
                ∙ sym (ap (λ ws. id_at ws k) changed.new_registry) ∙ e);
            not_recycled = λ k l e. h.free.not_recycled k (rw same.same_count at l) (sym (same.same_recycled k) ∙ e);
          };
          room = rw same.same_count h.room;
        }

    -- A child of an unrevoked parent, whose list has room.
    pub child_registration :
        (id : ℕ) → registered_of mem < d.places → InHand d mem id → revoked (states d mem p) ≡ 0 → children_of d mem p < 1024
        → Registration d (list_step d p mem) id (suc p)
    child_registration id room h unrevoked few =
        let below : p < d.places = omega (arith, sound.registered_fit) in
        record {
          sound = (list_step_kept d mem sound p below).sound;
          room = rw ((list_step_changes d mem sound p below).same_word 11 (omega arith) (omega arith)) room;
          hand = listed_in_hand id h;
          parent = listed_parent unrevoked few;
        }

-- ---- delete

-- The id leaves the registry and is recycled.
pub deleted_kept :
    (d : Numbers) (mem : List ℕ) → SoundAt d mem → (id : ℕ) → place_in d mem id < registered_of mem → recycled_of mem ≤ d.places
    → Kept d mem (recycle_step d id (unregister_step d (place_in d mem id) mem))
deleted_kept d mem sound id inside room =
    let k : ℕ = place_in d mem id in
    subst (λ x. Kept d mem (recycle_step d x (unregister_step d k mem))) (place_holds (registered_of mem) (view d registry mem) id inside)
    (recycle_after_unregister d mem sound k inside room)
