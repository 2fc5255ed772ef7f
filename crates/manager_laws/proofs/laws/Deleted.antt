-- What a delete given 0 does, in ids: exactly its id leaves the registry, entries in spaces stay, its children have no parent then, and
-- every other id keeps its object, its state and its parent.
use Rattle.std.proofs.Common.{List, ◌↔◌, ◌≢◌, ◌≡◌, sym, ap, subst, ◌∙◌, ℕ, suc, ◌+◌, ◌-◌, ◌*◌, ◌%◌, ◌^◌, ◌≤◌, ◌<◌, arith, le-ltb, ne_eqb, length, get_or}
use Rattle.answers.specs.Number.{number_of}
use Rattle.answers.specs.Answer.{Done}
use Rattle.registry.specs.Holders.{place_of}
use Rattle.registry.specs.HoldersLaws.{place_holds, place_is}
use Rattle.registry.specs.Registering.{relinked, unregistered}
use Rattle.registry.specs.UnregisteringLaws.{unregistered_ids, unregistered_without, unregistered_object, unregistered_state, unregistered_relinked, unregistered_child, unregistered_frees}
use Rattle.registry.specs.Without.{past, rank, past_rank, rank_inside}
use Rattle.registry.specs.Words.{id_at, object_at, state_at, link_at}
use Rattle.steps.specs.Replies.{Left, Reply}
use Rattle.steps.specs.Steps.{space_of, place_in, ChildOf, objects, unregister_step, recycle_step}
use Rattle.steps.proofs.laws.RegistryChanged.{RegistryChanged}
use Rattle.steps.proofs.laws.RegistrySteps.{unregister_step_changes, unregister_step_kept, recycle_step_changes, add_step_changes}
use Rattle.token.specs.Token.{id_of}
use Rattle.world.specs.Numbers.{numbers_of, registered_of, recycled_of}
use Rattle.world.specs.Regions.{registry, view}
use Rattle.world.specs.Sound.{states, links, SoundAt}
use Rattle.world.specs.Views.{registry_words}
use Rattle.world.specs.declared.Numbers.{Numbers}
use Rattle.manager_calls.specs.Calls.{delete_out}
use Rattle.manager_laws.proofs.laws.SameIds.{unregister_ids}
use Rattle.manager_laws.proofs.laws.SameRegistered.{SameRegistered, registered_trans, same_registry, recycle_same, same_place}
use Rattle.manager_laws.proofs.laws.StepsKept.{deleted_kept}
use Rattle.manager_laws.proofs.laws.Ways.{deleted, delete_by_cases}

abbrev pub Registered : Numbers → List ℕ → ℕ → Type 0
Registered d mem x = place_in d mem x < registered_of mem

pub record DeletedAlone (d : Numbers) (id : ℕ) (mem after : List ℕ) : Type 0 where
  pub exactly : (x : ℕ) → Registered d after x ↔ (Registered d mem x × (x ≢ id))
  pub spaces : (s : ℕ) → s < d.spaces → space_of d s after ≡ space_of d s mem
  pub same_object :
      (x : ℕ) → Registered d mem x → x ≢ id → objects d after (place_in d after x) ≡ objects d mem (place_in d mem x)
  pub same_state : (x : ℕ) → Registered d mem x → x ≢ id → states d after (place_in d after x) ≡ states d mem (place_in d mem x)
  pub freed : (x : ℕ) → Registered d mem x → x ≢ id → ChildOf d mem x id → links d after (place_in d after x) ≡ 0
  pub no_parent : (x : ℕ) → Registered d mem x → x ≢ id → links d mem (place_in d mem x) ≡ 0 → links d after (place_in d after x) ≡ 0
  pub same_parent :
      (x y : ℕ) → Registered d mem x → x ≢ id → Registered d mem y → y ≢ id → ChildOf d after x y ↔ ChildOf d mem x y

module _ (d : Numbers) (mem : List ℕ) (sound : SoundAt d mem) (id : ℕ) (inside : place_in d mem id < registered_of mem)
    (room : recycled_of mem ≤ d.places)
  where
    abbrev n : ℕ
    n = registered_of mem

    abbrev rg : List ℕ
    rg = view d registry mem

    abbrev k : ℕ
    k = place_in d mem id

    abbrev gone : List ℕ
    gone = unregister_step d k mem

    abbrev rest : List ℕ
    rest = unregistered d.places n k rg

    abbrev after : List ℕ
    after = deleted d id mem

    long : 5 * d.places + 1 ≤ length rg
    long = registry_words d mem sound.long_enough

    left : RegistryChanged d rest 11 (n - 1) mem gone
    left = unregister_step_changes d mem sound k inside

    gone_sound : SoundAt d gone
    gone_sound = (unregister_step_kept d mem sound k inside).sound

    gone_room : recycled_of gone ≤ d.places
    gone_room = rw (unregister_ids d mem sound k inside).same_count room

    abbrev recycling : List ℕ
    recycling = recycle_step d id gone

    counted : RegistryChanged d (view d registry recycling) 10 ((get_or recycling 10 0 + 1) % 2 ^ 64) recycling after
    counted = add_step_changes d recycling (deleted_kept d mem sound id inside room).sound.long_enough 10 1 (omega arith) (omega arith)

    -- Recycling the id and counting leave the registered ids.
    same : SameRegistered d gone after
    same =
        registered_trans d gone recycling after (recycle_same d gone gone_sound id gone_room)
        (same_registry d recycling after (counted.same_word 11 (omega arith) (omega arith)) counted.new_registry)

    id_here : id_at rg k ≡ id
    id_here = place_holds n rg id inside

    ids_exactly : (x : ℕ) → Registered d after x ↔ (Registered d mem x × (x ≢ id))
    ids_exactly x =
        rw (same_place d gone after same x, same.same_count, left.new_word, left.new_registry)
        (subst (λ y. (place_of (n - 1) rest x < n - 1) ↔ ((place_of n rg x < n) × (x ≢ y))) id_here
        (unregistered_ids d.places n k rg inside sound.registered_fit long sound.ids_differ x))

    -- Any other id stands at the rank of its place among the others.
    module _ (x : ℕ) (there : place_in d mem x < registered_of mem) (other : x ≢ id) where
      abbrev q : ℕ
      q = place_in d mem x

      abbrev j : ℕ
      j = rank k q

      apart : q ≢ k
      apart e = other (sym (place_holds n rg x there) ∙ ap (id_at rg) e ∙ id_here)

      stood : past k j ≡ q
      stood = past_rank k q apart

      below : j < n - 1
      below = rank_inside k (n - 1) n (omega arith) inside q there apart

      still : j < registered_of gone
      still = rw left.new_word below

      at_rank : place_in d after x ≡ j
      at_rank =
          same_place d gone after same x
          ∙ place_is (registered_of gone) (view d registry gone) x j gone_sound.ids_differ still
          (ap (λ ws. id_at ws j) left.new_registry ∙ unregistered_without d.places n k rg inside sound.registered_fit long j below
          ∙ ap (id_at rg) stood ∙ place_holds n rg x there)

      object_stays : objects d after (place_in d after x) ≡ objects d mem (place_in d mem x)
      object_stays =
          ap (objects d after) at_rank ∙ same.same_objects j still ∙ ap (λ ws. object_at d.places ws j) left.new_registry
          ∙ unregistered_object d.places n k rg inside sound.registered_fit long j below ∙ ap (objects d mem) stood

      state_stays : states d after (place_in d after x) ≡ states d mem (place_in d mem x)
      state_stays =
          ap (states d after) at_rank ∙ same.same_states j still ∙ ap (λ ws. state_at d.places ws j) left.new_registry
          ∙ unregistered_state d.places n k rg inside sound.registered_fit long j below ∙ ap (states d mem) stood

      link_there : links d after (place_in d after x) ≡ link_at d.places rest j
      link_there = ap (links d after) at_rank ∙ same.same_links j still ∙ ap (λ ws. link_at d.places ws j) left.new_registry

      child_freed : ChildOf d mem x id → links d after (place_in d after x) ≡ 0
      child_freed e =
          link_there
          ∙ unregistered_frees d.places n k rg inside sound.registered_fit long sound.linked j below (ap (links d mem) stood ∙ e)

      none_stays : links d mem (place_in d mem x) ≡ 0 → links d after (place_in d after x) ≡ 0
      none_stays e =
          link_there
          ∙ unregistered_relinked d.places n k rg inside sound.registered_fit long sound.linked j below
          ∙ ap (relinked k) (ap (links d mem) stood ∙ e)
          ∙ rw (ne_eqb 0 (suc k) (omega arith), le-ltb (suc k) 0 (omega arith))

    parent_stays :
        (x y : ℕ) → Registered d mem x → x ≢ id → Registered d mem y → y ≢ id → ChildOf d after x y ↔ ChildOf d mem x y
    parent_stays x y there other there' other' =
        rw (link_there x there other, at_rank y there' other')
        (rw (stood x there other, stood y there' other') at
        (unregistered_child d.places n k rg inside sound.registered_fit long sound.linked (j x there other) (j y there' other')
        (below x there other)))

    pub deleted_alone : DeletedAlone d id mem (deleted d id mem)
    deleted_alone = record {
      exactly = ids_exactly;
      spaces = λ s l.
          counted.same_space s l ∙ (recycle_step_changes d gone gone_sound id gone_room).same_space s l ∙ left.same_space s l;
      same_object = object_stays;
      same_state = state_stays;
      freed = child_freed;
      no_parent = none_stays;
      same_parent = parent_stays;
    }

pub delete_alone :
    (mem : List ℕ) (token : ℕ) → (delete_out mem token).reply.answer ≡ Done
    → DeletedAlone (numbers_of mem) (id_of token) mem (delete_out mem token).memory
delete_alone mem token =
    delete_by_cases mem token
    (λ (out : Left Reply). out.reply.answer ≡ Done → DeletedAlone (numbers_of mem) (id_of token) mem out.memory)
    (λ bad e. absurd (omega (arith, ap number_of e)))
    (λ sound outside e. absurd (omega (arith, ap number_of e)))
    (λ sound inside full e. absurd (omega (arith, ap number_of e)))
    (λ sound inside room e. deleted_alone (numbers_of mem) mem sound (id_of token) inside room)
