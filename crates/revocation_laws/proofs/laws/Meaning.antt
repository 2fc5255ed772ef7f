-- Document 01, "Revocation": what a revocation given 0 does. Of a registered id: it and all its descendants are revoked then, whatever they
-- were before; the log has what it had and those newly revoked; nothing else of the registry or the spaces changes.
use Rattle.std.proofs.Common.{true, List, ◌↔◌, ◌≢◌, ◌⊎◌, inl, inr, ⊎_elim, ◌≡◌, refl, sym, ◌∙◌, ℕ, ◌+◌, ◌%◌, ◌^◌, ◌<◌, arith, length, get_or, take}
use Rattle.answers.specs.Answer.{Done}
use Rattle.base.specs.Distinct.{Differ}
use Rattle.base.specs.Members.{In}
use Rattle.registry.specs.DescentLaws.{Under}
use Rattle.registry.specs.Words.{revoked, has_list, holders}
use Rattle.revocation.specs.Log.{pair_of, log_has}
use Rattle.revocation_steps.specs.Revocation.{cascade, cascade_ids}
use Rattle.revocation_steps.proofs.laws.Cascade.{cascade_exactly, under_revoked, cascade_ids_exactly}
use Rattle.revocation_steps.proofs.laws.CascadeSteps.{revoke_step_kept, revoke_step_space, revoke_step_word, revoke_step_epoch, revoke_step_statistic}
use Rattle.revocation_steps.proofs.laws.Revoked.{revoke_step_revoked, revoke_step_elsewhere, revoke_step_ids, revoke_step_objects, revoke_step_links, revoke_step_holders, revoke_step_lists, revoke_step_recycled, revoke_step_log_before, revoke_step-log_has}
use Rattle.steps.specs.Steps.{space_of, lookup_step, place_in, objects}
use Rattle.steps.proofs.laws.SpaceSteps.{lookup_step_kept}
use Rattle.token.specs.Token.{id_of}
use Rattle.world.specs.Numbers.{numbers_of, epoch_of, registered_of, recycled_of, logged_of, epoch_word, revoked_word}
use Rattle.world.specs.Regions.{log, view}
use Rattle.world.specs.Sound.{ids, states, links, recycled, log_pairs, SoundAt, Sound}
use Rattle.world.specs.declared.Numbers.{Numbers}
use Rattle.revocation_calls.specs.Calls.{revoke_out, revoke_capability_out, revoke_held_out}
use Rattle.cascade.specs.Cascade.{revoking}
use Rattle.revocation_laws.proofs.laws.Counted.{same_registry}
use Rattle.revocation_laws.proofs.laws.Given.{Given, revoking_given, revoke_given, revoke_capability_given, held_given}

-- Place k is registered, and r or below it.
abbrev pub Descends : Numbers → List ℕ → ℕ → ℕ → Type 0
Descends d mem r k = (k < registered_of mem) × Under (links d mem) r k

-- It is the pair, id and earlier generation, of a place that descends from r and is not revoked yet.
abbrev pub NewlyRevoked : Numbers → List ℕ → ℕ → ℕ → Type 0
NewlyRevoked d mem r pair =
    (k : ℕ) × ((Descends d mem r k × (revoked (states d mem k) ≡ 0)) × (pair_of (ids d mem k) (revoked (states d mem k)) ≡ pair))

-- That generation is 0, so the pair is the id itself.
pub unrevoked_pair : (id generation : ℕ) → generation ≡ 0 → pair_of id generation ≡ id
unrevoked_pair id generation none = omega arith

pub record Revokes (d : Numbers) (r : ℕ) (mem after : List ℕ) : Type 0 where
  -- Revoked is exactly what was, and what descends from r; of every other place the state is as it was,
  pub exactly : (k : ℕ) → (revoked (states d after k) ≡ 1) ↔ ((revoked (states d mem k) ≡ 1) ⊎ Descends d mem r k)
  pub elsewhere : (k : ℕ) → ¬ Descends d mem r k → states d after k ≡ states d mem k
  -- and so are all else of the registry and the spaces.
  pub same_count : registered_of after ≡ registered_of mem
  pub same_ids : (k : ℕ) → k < d.places → ids d after k ≡ ids d mem k
  pub same_objects : (k : ℕ) → k < d.places → objects d after k ≡ objects d mem k
  pub same_links : (k : ℕ) → links d after k ≡ links d mem k
  pub same_lists : (k : ℕ) → has_list (states d after k) ≡ has_list (states d mem k)
  pub same_holders : (k : ℕ) → holders (states d after k) ≡ holders (states d mem k)
  pub same_recycled_count : recycled_of after ≡ recycled_of mem
  pub same_recycled : (k : ℕ) → recycled d after k ≡ recycled d mem k
  pub same_spaces : (s : ℕ) → s < d.spaces → space_of d s after ≡ space_of d s mem
  -- The log begins with what it was; it has that, the pair of each id that was not revoked before, and nothing else, each once.
  pub log_before : take (logged_of mem) (view d log after) ≡ take (logged_of mem) (view d log mem)
  pub log_has_pair :
      (pair : ℕ)
      → (log_has (logged_of after) (view d log after) pair ≡ true)
      ↔ ((log_has (logged_of mem) (view d log mem) pair ≡ true) ⊎ NewlyRevoked d mem r pair)
  pub log_once : Differ (logged_of after) (log_pairs d after)

-- The epoch and the number of revoked ids count each that is newly revoked; no other word of the head but the number of logged pairs
-- changes.
pub record Counts (d : Numbers) (r : ℕ) (mem after : List ℕ) : Type 0 where
  pub epoch : epoch_of after ≡ (epoch_of mem + length (cascade d mem r)) % 2 ^ 64
  pub revoked_ids : get_or after revoked_word 0 ≡ (get_or mem revoked_word 0 + length (cascade d mem r)) % 2 ^ 64
  pub others : (j : ℕ) → j < 16 → j ≢ epoch_word → j ≢ revoked_word → j ≢ 13 → get_or after j 0 ≡ get_or mem j 0

module _ (d : Numbers) (mem : List ℕ) (sound : SoundAt d mem) (r : ℕ) (inside : r < registered_of mem) where
  -- Revoked already: so is all that descends from it.
  already_revokes : revoked (states d mem r) ≡ 1 → Revokes d r mem mem
  already_revokes gone = record {
    exactly = λ k. (inl, ⊎_elim (λ was. was) (λ (l, under). under_revoked d mem sound r inside gone under l));
    elsewhere = λ k apart. refl;
    same_count = refl;
    same_ids = λ k l. refl;
    same_objects = λ k l. refl;
    same_links = λ k. refl;
    same_lists = λ k. refl;
    same_holders = λ k. refl;
    same_recycled_count = refl;
    same_recycled = λ k. refl;
    same_spaces = λ s l. refl;
    log_before = refl;
    log_has_pair = λ pair. (
      inl,
      ⊎_elim (λ had. had) (λ (k, (((l, under), un), is)). absurd (omega (arith, under_revoked d mem sound r inside gone under l))),
    );
    log_once = sound.pairs_differ;
  }

  newly_exactly : (pair : ℕ) → In (cascade_ids d mem r) pair ↔ NewlyRevoked d mem r pair
  newly_exactly pair =
      let exactly = cascade_ids_exactly d mem sound r inside pair in (
        λ one.
            let (k, (among, is)) = exactly.0 one in
            let newly = (cascade_exactly d mem sound r inside k).0 among in
            (k, (newly, unrevoked_pair _ _ newly.1 ∙ is)),
        λ (k, (newly, is)).
            exactly.1 (k, ((cascade_exactly d mem sound r inside k).1 newly, sym (unrevoked_pair _ _ newly.1) ∙ is)),
      )

  pub revoking_means :
      (time : ℕ) (listed : List ℕ) → (revoking d r time listed mem).reply.answer ≡ Done
      → Revokes d r mem (revoking d r time listed mem).memory
  revoking_means time pids =
      revoking_given d mem r time pids (Revokes d r mem) already_revokes
      (λ un fits room.
      record {
        exactly = revoke_step_revoked d mem sound r inside fits time pids;
        elsewhere = revoke_step_elsewhere d mem sound r inside fits time pids;
        same_count = revoke_step_word d mem sound r inside fits time pids 11 (omega arith) (omega arith) (omega arith) (omega arith);
        same_ids = revoke_step_ids d mem sound r inside fits time pids;
        same_objects = revoke_step_objects d mem sound r inside fits time pids;
        same_links = revoke_step_links d mem sound r inside fits time pids;
        same_lists = revoke_step_lists d mem sound r inside fits time pids;
        same_holders = revoke_step_holders d mem sound r inside fits time pids;
        same_recycled_count =
            revoke_step_word d mem sound r inside fits time pids 12 (omega arith) (omega arith) (omega arith) (omega arith);
        same_recycled = revoke_step_recycled d mem sound r inside fits time pids;
        same_spaces = revoke_step_space d mem sound r inside fits time pids;
        log_before = revoke_step_log_before d mem sound r inside fits time pids;
        log_has_pair = λ pair.
            let has = revoke_step-log_has d mem sound r inside fits time pids pair in (
              λ h. ⊎_elim inl (λ one. inr ((newly_exactly pair).0 one)) (has.0 h),
              λ h. has.1 (⊎_elim inl (λ newly. inr ((newly_exactly pair).1 newly)) h),
            );
        log_once = (revoke_step_kept d mem sound r inside fits time pids).sound.pairs_differ;
      })

  pub revoking_counts :
      (time : ℕ) (listed : List ℕ) → (revoking d r time listed mem).reply.answer ≡ Done → revoked (states d mem r) ≡ 0
      → Counts d r mem (revoking d r time listed mem).memory
  revoking_counts time pids =
      revoking_given d mem r time pids (λ after. revoked (states d mem r) ≡ 0 → Counts d r mem after) (λ gone un. absurd (omega arith))
      (λ un fits room _.
      record {
        epoch = revoke_step_epoch d mem sound r inside fits time pids;
        revoked_ids = revoke_step_statistic d mem sound r inside fits time pids;
        others = revoke_step_word d mem sound r inside fits time pids;
      })

-- ---- the calls

module _ (mem : List ℕ) (token time : ℕ) (listed : List ℕ) where
  abbrev numbers : Numbers
  numbers = numbers_of mem

  abbrev place : ℕ
  place = place_in numbers mem (id_of token)

  abbrev Means : List ℕ → Type 0
  Means after = Revokes (numbers_of mem) place mem after

  abbrev CountsOn : List ℕ → Type 0
  CountsOn after = revoked (states numbers mem place) ≡ 0 → Counts (numbers_of mem) place mem after

  means : Sound mem → place < registered_of mem → Given Means (revoking (numbers_of mem) place time listed mem)
  means sound inside = revoking_means numbers mem sound place inside time listed

  counts : Sound mem → place < registered_of mem → Given CountsOn (revoking (numbers_of mem) place time listed mem)
  counts sound inside = revoking_counts numbers mem sound place inside time listed

  pub revoke_means : (revoke_out mem token time listed).reply.answer ≡ Done → Means (revoke_out mem token time listed).memory
  revoke_means = revoke_given mem token time listed Means means

  pub revoke_counts : (revoke_out mem token time listed).reply.answer ≡ Done → CountsOn (revoke_out mem token time listed).memory
  revoke_counts = revoke_given mem token time listed CountsOn counts

  module _ (inside : place_in (numbers_of mem) mem (id_of token) < registered_of mem) where
    pub revoke_capability_means :
        (revoke_capability_out mem token time listed).reply.answer ≡ Done → Means (revoke_capability_out mem token time listed).memory
    revoke_capability_means = revoke_capability_given mem token time listed Means means inside

    pub revoke_capability_counts :
        (revoke_capability_out mem token time listed).reply.answer ≡ Done → CountsOn (revoke_capability_out mem token time listed).memory
    revoke_capability_counts = revoke_capability_given mem token time listed CountsOn counts inside

    -- By a token that a space holds: the same, from the memory with the lookup counted.
    pub held_means :
        (s : ℕ) → (revoke_held_out mem s token time listed).reply.answer ≡ Done
        → Revokes (numbers_of mem) place (lookup_step (numbers_of mem) s token mem) (revoke_held_out mem s token time listed).memory
    held_means s =
        held_given mem token time listed (Revokes numbers place (lookup_step numbers s token mem)) s inside
        (λ sound there inside.
        let kept = lookup_step_kept numbers mem sound s there token in
        revoking_means numbers (lookup_step numbers s token mem) kept.sound place inside time listed)

    pub held_counts :
        (s : ℕ) → (revoke_held_out mem s token time listed).reply.answer ≡ Done → revoked (states (numbers_of mem) mem place) ≡ 0
        → Counts (numbers_of mem) place (lookup_step (numbers_of mem) s token mem) (revoke_held_out mem s token time listed).memory
    held_counts s =
        held_given mem token time listed
        (λ after. revoked (states numbers mem place) ≡ 0 → Counts numbers place (lookup_step numbers s token mem) after) s inside
        (λ sound there inside e un.
        let kept = lookup_step_kept numbers mem sound s there token in
        revoking_counts numbers (lookup_step numbers s token mem) kept.sound place inside time listed e
        (rw (same_registry numbers mem sound s there token) un))
