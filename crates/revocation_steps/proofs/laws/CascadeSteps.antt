-- A cascade keeps a sound memory where its pairs fit in the log: its places are marked as revoked, counted, logged and queued, one after
-- the other; and what then stands in each part of the memory.
use Rattle.std.proofs.Common.{◌≡◌, refl, ap, ◌∙◌, ◌≢◌, false, List, ℕ, ◌+◌, ◌*◌, ◌%◌, ◌^◌, ◌≤◌, ◌<◌, arith, length, get_or, drop}
use Rattle.std.proofs.Math.Decide.{ℕ_discrete}
use Rattle.std.proofs.Math.Logic.{by_cases}
use Rattle.base.specs.Members.{In}
use Rattle.registry.specs.Descent.{descent, marked}
use Rattle.registry.specs.DescentLaws.{descent_below}
use Rattle.registry.specs.MarkedLaws.{marked_only, marked_unrevoked, descent_marked_keeps}
use Rattle.registry.specs.PlaceLists.{AllBelow, all_below_more}
use Rattle.revocation.specs.Log.{log_has, appended}
use Rattle.revocation.specs.LogLaws.{absent_exactly, absent_differ, absent_pairs}
use Rattle.world.specs.Numbers.{next_of, registered_of, recycled_of, logged_of, epoch_of, epoch_word, revoked_word}
use Rattle.world.specs.Regions.{space, registry, log, queue, length_for, view, on_region}
use Rattle.world.specs.Sound.{spaces_with, SoundAt}
use Rattle.world.specs.Views.{registry_words}
use Rattle.world.specs.declared.Numbers.{Numbers}
use Rattle.revocation_steps.specs.Revocation.{log_step, cascade, cascade_ids, cascade_pairs, carried_out, queues_needed}
use Rattle.steps.specs.Steps.{add_step}
use Rattle.steps.proofs.laws.Kept.{Kept, kept_trans, registry_rules}
use Rattle.steps.proofs.laws.RegistryChanged.{RegistryChanged, only_registry_changed, recycled_changed_kept}
use Rattle.revocation_steps.proofs.laws.LogSteps.{PairsJoined, log_step_kept, join_step}
use Rattle.steps.proofs.laws.RegistrySteps.{add_step_changes, add_step_kept}
use Rattle.revocation_steps.proofs.laws.QueueSteps.{QueuesKept, notify_all_queues}
use Rattle.revocation_steps.proofs.laws.Cascade.{cascade_below, cascade_ids_differ, cascade_ids_coded}

-- Any places marked: nothing but the registry changes.
pub marks :
    (d : Numbers) (mem : List ℕ) → length_for d ≤ length mem → (ks : List ℕ) → AllBelow d.places ks
    → RegistryChanged d (marked d.places ks (view d registry mem)) 12 (recycled_of mem) mem
    (on_region d registry (marked d.places ks) mem)
marks d mem enough ks inside =
    only_registry_changed d mem enough (marked d.places ks)
    (marked_only d.places ks _ inside (registry_words d mem enough)).same_length

-- What a cascade from place r leaves where it is refused nothing, and the new queues that it needs.
unfoldable pub revoke_step : Numbers → ℕ → ℕ → List ℕ → List ℕ → List ℕ
revoke_step d r time listed mem = carried_out d (cascade d mem r) (cascade_ids d mem r) (cascade_pairs d mem r) time listed mem

abbrev pub cascade_queues : Numbers → List ℕ → ℕ → List ℕ → ℕ
cascade_queues d mem r listed = queues_needed d mem listed (length (cascade d mem r))

-- What it leaves but for its notices.
abbrev pub unnotified : Numbers → ℕ → List ℕ → List ℕ
unnotified d r mem =
    let ks = cascade d mem r in
    add_step epoch_word (length ks)
    (log_step d (cascade_pairs d mem r) (add_step revoked_word (length ks) (on_region d registry (marked d.places ks) mem)))

module _ (d : Numbers) (mem : List ℕ) (sound : SoundAt d mem) (r : ℕ) (inside : r < registered_of mem) where
  abbrev rg : List ℕ
  rg = view d registry mem

  abbrev n : ℕ
  n = registered_of mem

  abbrev ks : List ℕ
  ks = cascade d mem r

  long : 5 * d.places + 1 ≤ length rg
  long = registry_words d mem sound.long_enough

  -- ---- the places are marked

  -- To mark them is to mark the whole descent.
  pub cascade_marked :
      marked d.places (cascade d mem r) (view d registry mem)
      ≡ marked d.places (descent d.places (registered_of mem) (view d registry mem) r) (view d registry mem)
  cascade_marked =
      let found : List ℕ = descent d.places n rg r in
      marked_unrevoked d.places found rg
      (all_below_more n d.places found sound.registered_fit (descent_below d.places n rg r sound.linked inside)) long

  pub mark_step :
      RegistryChanged d (marked d.places (cascade d mem r) (view d registry mem)) 12 (recycled_of mem) mem
      (on_region d registry (marked d.places (cascade d mem r)) mem)
  mark_step =
      marks d mem sound.long_enough ks (all_below_more n d.places ks sound.registered_fit (cascade_below d mem sound r inside))

  pub mark_step_kept : Kept d mem (on_region d registry (marked d.places (cascade d mem r)) mem)
  mark_step_kept =
      recycled_changed_kept d mem sound _ _ _ mark_step sound.recycled_fit
      (rw cascade_marked
      (descent_marked_keeps d.places n rg r inside sound.registered_fit long (recycled_of mem) (next_of mem) (spaces_with d mem)
      (registry_rules d mem sound)))

  -- ---- the whole cascade

  module _ (fits : logged_of mem + length (cascade_pairs d mem r) ≤ d.pairs) (time : ℕ) (listed : List ℕ) where
    abbrev count : ℕ
    count = length ks

    abbrev pairs : List ℕ
    pairs = cascade_pairs d mem r

    -- The memory with the places marked, then counted, logged and counted in the epoch.
    abbrev with_marked : List ℕ
    with_marked = on_region d registry (marked d.places ks) mem

    abbrev with_counted : List ℕ
    with_counted = add_step revoked_word count with_marked

    abbrev with_logged : List ℕ
    with_logged = log_step d pairs with_counted

    abbrev with_epoch : List ℕ
    with_epoch = add_step epoch_word count with_logged

    counted :
        RegistryChanged d (view d registry with_marked) revoked_word ((get_or with_marked revoked_word 0 + count) % 2 ^ 64) with_marked
        with_counted
    counted = add_step_changes d with_marked mark_step_kept.sound.long_enough revoked_word count (omega arith) (omega arith)

    counted_kept : Kept d mem with_counted
    counted_kept =
        kept_trans d mem with_marked with_counted mark_step_kept
        (add_step_kept d with_marked mark_step_kept.sound revoked_word count (omega arith) (omega arith))

    same_logged : logged_of with_counted ≡ logged_of mem
    same_logged = counted.apart.logged ∙ mark_step.apart.logged

    same_log : view d log with_counted ≡ view d log mem
    same_log = counted.apart.same_log ∙ mark_step.apart.same_log

    room : logged_of with_counted + length pairs ≤ d.pairs
    room = rw same_logged fits

    absent : (pair : ℕ) → In pairs pair → log_has (logged_of with_counted) (view d log with_counted) pair ≡ false
    absent pair among =
        rw (same_logged, same_log) ((absent_exactly (logged_of mem) (view d log mem) (cascade_ids d mem r) pair).0 among).1

    logged_kept : Kept d mem with_logged
    logged_kept =
        kept_trans d mem with_counted with_logged counted_kept
        (log_step_kept d with_counted counted_kept.sound pairs room
        (absent_pairs (logged_of mem) (view d log mem) (cascade_ids d mem r) (cascade_ids_coded d mem sound r inside))
        (absent_differ (logged_of mem) (view d log mem) (cascade_ids d mem r) (cascade_ids_differ d mem sound r inside)) absent)

    epoch_kept : Kept d mem with_epoch
    epoch_kept =
        kept_trans d mem with_logged with_epoch logged_kept
        (add_step_kept d with_logged logged_kept.sound epoch_word count (omega arith) (omega arith))

    joined : PairsJoined d pairs count with_counted with_epoch
    joined = join_step d with_counted counted_kept.sound.long_enough pairs room count

    -- Until the notices join, the queues are as they were.
    pub unnotified_kept : Kept d mem (unnotified d r mem)
    unnotified_kept = epoch_kept

    pub unnotified_queue : (q : ℕ) → q < d.queues → view d (queue q) (unnotified d r mem) ≡ view d (queue q) mem
    unnotified_queue q l = joined.same_queue q l ∙ counted.apart.same_queue q l ∙ mark_step.apart.same_queue q l

    queued : QueuesKept d with_epoch (revoke_step d r time listed mem)
    unfolding revoke_step
    queued = notify_all_queues d with_epoch epoch_kept.sound listed (drop 1 (cascade_ids d mem r)) time

    pub revoke_step_kept : Kept d mem (revoke_step d r time listed mem)
    revoke_step_kept = kept_trans d mem with_epoch (revoke_step d r time listed mem) epoch_kept queued.kept

    -- ---- what then stands in the registry and the spaces

    pub revoke_step_registry : view d registry (revoke_step d r time listed mem) ≡ marked d.places (cascade d mem r) (view d registry mem)
    revoke_step_registry =
        queued.holdings.same_registry
        ∙ joined.holdings.same_registry
        ∙ counted.new_registry
        ∙ mark_step.new_registry

    pub revoke_step_space : (s : ℕ) → s < d.spaces → view d (space s) (revoke_step d r time listed mem) ≡ view d (space s) mem
    revoke_step_space s l =
        queued.holdings.same_space s l
        ∙ joined.holdings.same_space s l
        ∙ counted.same_space s l
        ∙ mark_step.same_space s l

    -- ---- in the log

    pub revoke_step_logged : logged_of (revoke_step d r time listed mem) ≡ logged_of mem + length (cascade_pairs d mem r)
    revoke_step_logged =
        queued.same_head 13 (omega arith) ∙ joined.logged ∙ ap (λ m. m + length pairs) same_logged

    pub revoke_step_log : view d log (revoke_step d r time listed mem) ≡ appended (logged_of mem) (cascade_pairs d mem r) (view d log mem)
    revoke_step_log = queued.same_log ∙ joined.new_log ∙ rw (same_logged, same_log) refl

    -- ---- in the head

    -- The epoch and the number of revoked ids count the cascade, and no word but these and the number of logged pairs changes.
    pub revoke_step_epoch : epoch_of (revoke_step d r time listed mem) ≡ (epoch_of mem + length (cascade d mem r)) % 2 ^ 64
    revoke_step_epoch =
        let same : epoch_of with_counted ≡ epoch_of mem =
        counted.same_word epoch_word (omega arith) (λ e. omega arith) ∙ mark_step.same_word epoch_word (omega arith) (λ e. omega arith) in
        queued.same_head epoch_word (omega arith) ∙ joined.epoch ∙ ap (λ epoch. (epoch + count) % 2 ^ 64) same

    pub revoke_step_statistic :
        get_or (revoke_step d r time listed mem) revoked_word 0 ≡ (get_or mem revoked_word 0 + length (cascade d mem r)) % 2 ^ 64
    revoke_step_statistic =
        let same : get_or with_marked revoked_word 0 ≡ get_or mem revoked_word 0 =
        mark_step.same_word revoked_word (omega arith) (λ e. omega arith) in
        queued.same_head revoked_word (omega arith)
        ∙ joined.others revoked_word (omega arith) (λ e. omega arith) (λ e. omega arith)
        ∙ counted.new_word
        ∙ ap (λ before. (before + count) % 2 ^ 64) same

    pub revoke_step_word :
        (j : ℕ) → j < 16 → j ≢ epoch_word → j ≢ revoked_word → j ≢ 13 → get_or (revoke_step d r time listed mem) j 0 ≡ get_or mem j 0
    revoke_step_word j l no_epoch no_statistic no_logged =
        queued.same_head j l
        ∙ joined.others j l no_epoch no_logged
        ∙ counted.same_word j l no_statistic
        ∙ by_cases (ℕ_discrete j 12) (λ e. rw e mark_step.new_word) (λ other. mark_step.same_word j l other)
