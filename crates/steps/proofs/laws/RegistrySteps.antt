-- Each step of the registry keeps a sound memory: the registry as its own laws say, and its number of registered or recycled ids with it.
-- `.._step_changes` says what stands after a step, `.._step_kept` that it keeps. And an id that leaves the registry is free, so it can be
-- recycled.
use Rattle.std.proofs.Common.{ℕ, ◌+◌, ◌-◌, ◌*◌, ◌%◌, ◌^◌, ◌<◌, ◌≤◌, List, length, get_or, sym, ◌∙◌, arith}
use Rattle.registry.proofs.CollectionLaws.{collected_left, length_collected, collected_keeps}
use Rattle.registry.specs.Ids.{recycled_with}
use Rattle.registry.specs.IdsLaws.{length-recycled_with, recycled_with_keeps}
use Rattle.registry.specs.Registering.{registered, list_given, unregistered, collected}
use Rattle.registry.specs.RegisteringLaws.{Parent, length_registered, registered_keeps, list_given_only, list_given_keeps}
use Rattle.registry.specs.UnregisteringLaws.{length_unregistered, unregistered_without, unregistered_before, unregistered_keeps}
use Rattle.registry.specs.Rules.{RegistryRules}
use Rattle.registry.specs.Without.{left_out}
use Rattle.registry.specs.Words.{id_at}
use Rattle.world.specs.Numbers.{next_of, registered_of, recycled_of}
use Rattle.world.specs.Regions.{length_for, registry, view}
use Rattle.world.specs.Sound.{ids, spaces_with, SoundAt}
use Rattle.world.specs.Views.{registry_words}
use Rattle.world.specs.declared.Numbers.{Numbers}
use Rattle.steps.specs.Steps.{register_step, list_step, unregister_step, recycle_step, collect_step, add_step}
use Rattle.steps.proofs.laws.Kept.{Kept, kept_trans, registry_rules}
use Rattle.steps.proofs.laws.RegistryChanged.{registry_in, RegistryChanged, registry_changed, word_changed, only_registry_changed, changed_kept, registered_changed_kept, recycled_changed_kept}
use Rattle.steps.proofs.laws.TakeStep.{Free}

module _ (d : Numbers) (mem : List ℕ) (sound : SoundAt d mem) where
  open registry_in d mem use {rg, n, m, next}

  rules : RegistryRules d.places n m next (spaces_with d mem) rg
  rules = registry_rules d mem sound

  long : 5 * d.places + 1 ≤ length rg
  long = registry_words d mem sound.long_enough

  -- ---- an id is registered

  module _ (id object link : ℕ) (room : registered_of mem < d.places) where
    pub register_step_changes : RegistryChanged d (registered d.places n id object link rg) 11 (n + 1) mem
        (register_step d id object link mem)
    unfolding register_step
    register_step_changes =
        registry_changed d mem sound.long_enough (registered d.places n id object link) 11 (n + 1) (omega arith) (omega arith)
        (length_registered d.places n id object link rg room long)

    pub register_step_kept : Free d mem id → Parent d.places (registered_of mem) link (view d registry mem)
        → Kept d mem (register_step d id object link mem)
    register_step_kept free parent =
        registered_changed_kept d mem sound _ _ _ register_step_changes (omega arith)
        (registered_keeps d.places n id object link rg room long m next (spaces_with d mem) rules free.positive free.issued
        free.unregistered free.not_recycled parent)

  -- ---- a place is given a list

  module _ (p : ℕ) (inside : p < d.places) where
    pub list_step_changes : RegistryChanged d (list_given d.places p rg) 12 m mem (list_step d p mem)
    unfolding list_step
    list_step_changes =
        only_registry_changed d mem sound.long_enough (list_given d.places p)
        (list_given_only d.places p rg inside long).same_length

    pub list_step_kept : Kept d mem (list_step d p mem)
    list_step_kept =
        recycled_changed_kept d mem sound _ _ _ list_step_changes sound.recycled_fit
        (list_given_keeps d.places p rg inside long n m next (spaces_with d mem) sound.registered_fit rules)

  -- ---- an id is recycled

  module _ (id : ℕ) (room : recycled_of mem ≤ d.places) where
    pub recycle_step_changes : RegistryChanged d (recycled_with d.places m id rg) 12 (m + 1) mem (recycle_step d id mem)
    unfolding recycle_step
    recycle_step_changes =
        registry_changed d mem sound.long_enough (recycled_with d.places m id) 12 (m + 1) (omega arith) (omega arith)
        (length-recycled_with d.places m id rg room long)

    pub recycle_step_kept : Free d mem id → Kept d mem (recycle_step d id mem)
    recycle_step_kept free =
        recycled_changed_kept d mem sound _ _ _ recycle_step_changes (omega arith)
        (recycled_with_keeps d.places m id rg room long n next (spaces_with d mem) sound.registered_fit rules free.positive
        free.issued free.unregistered free.not_recycled)

  -- ---- a place leaves

  module _ (k : ℕ) (inside : k < registered_of mem) where
    pub unregister_step_changes : RegistryChanged d (unregistered d.places n k rg) 11 (n - 1) mem (unregister_step d k mem)
    unfolding unregister_step
    unregister_step_changes =
        registry_changed d mem sound.long_enough (unregistered d.places n k) 11 (n - 1) (omega arith) (omega arith)
        (length_unregistered d.places n k rg inside sound.registered_fit long)

    pub unregister_step_kept : Kept d mem (unregister_step d k mem)
    unregister_step_kept =
        registered_changed_kept d mem sound _ _ _ unregister_step_changes (omega (arith, sound.registered_fit))
        (unregistered_keeps d.places n k rg inside sound.registered_fit long m next (spaces_with d mem) rules)

    -- Its id is free.
    pub unregistered_free : Free d (unregister_step d k mem) (ids d mem k)
    unregistered_free =
        let (low, high) = sound.ids_issued k inside in
        let rest : List ℕ = unregistered d.places n k rg in
        let fit = sound.registered_fit in
        record {
          positive = low;
          fits = omega (arith, sound.next_high);
          issued = rw (unregister_step_changes.same_word 5 (omega arith) (λ e. omega arith)) high;
          unregistered = λ j l e.
              left_out k (n - 1) n (omega arith) inside (id_at rg) (id_at rest) (unregistered_without d.places n k rg inside fit long)
              sound.ids_differ (j, (rw unregister_step_changes.new_word at l, rw unregister_step_changes.new_registry at e));
          not_recycled = λ j l e.
              sound.recycled_unregistered j (rw (unregister_step_changes.same_word 12 (omega arith) (λ e. omega arith)) at l) k inside
              (sym ((unregistered_before d.places n k rg inside fit long).behind (4 * d.places + j) (omega arith))
              ∙ rw unregister_step_changes.new_registry at e);
        }

  -- ---- the children of a place that nothing needs leave

  module _ (p : ℕ) (inside : p < registered_of mem) where
    pub collect_step_changes : RegistryChanged d (collected d.places p n rg).words 11 (collected d.places p n rg).left mem
        (collect_step d p mem)
    unfolding collect_step
    collect_step_changes =
        registry_changed d mem sound.long_enough (λ ws. (collected d.places p n ws).words) 11 (collected d.places p n rg).left
        (omega arith) (omega arith) (length_collected d.places p n rg inside sound.registered_fit long)

    pub collect_step_kept : Kept d mem (collect_step d p mem)
    collect_step_kept =
        let fit = sound.registered_fit in
        registered_changed_kept d mem sound _ _ _ collect_step_changes (omega (arith, fit, collected_left d.places p n rg inside fit long))
        (collected_keeps d.places p n rg inside fit long m next (spaces_with d mem) rules)

-- ---- the epoch or a statistic counts

pub add_step_changes :
    (d : Numbers) (mem : List ℕ) → length_for d ≤ length mem → (i k : ℕ) → 6 ≤ i → i < 11
    → RegistryChanged d (view d registry mem) i ((get_or mem i 0 + k) % 2 ^ 64) mem (add_step i k mem)
unfolding add_step
add_step_changes d mem enough i k low high = word_changed d mem enough i ((get_or mem i 0 + k) % 2 ^ 64) (omega arith) (omega arith)

pub add_step_kept : (d : Numbers) (mem : List ℕ) → SoundAt d mem → (i k : ℕ) → 6 ≤ i → i < 11 → Kept d mem (add_step i k mem)
add_step_kept d mem sound i k low high =
    let changed = add_step_changes d mem sound.long_enough i k low high in
    changed_kept d mem sound (view d registry mem) i _ (add_step i k mem) changed (registered_of mem) (recycled_of mem) (next_of mem)
    (changed.same_word 11 (omega arith) (omega arith)) (changed.same_word 12 (omega arith) (omega arith))
    (changed.same_word 5 (omega arith) (omega arith)) sound.registered_fit sound.recycled_fit sound.next_low
    sound.next_high (registry_rules d mem sound)

-- ---- one step after the other

-- An id that was unregistered can be recycled.
pub recycle_after_unregister :
    (d : Numbers) (mem : List ℕ) → SoundAt d mem → (k : ℕ) → k < registered_of mem → recycled_of mem ≤ d.places
    → Kept d mem (recycle_step d (ids d mem k) (unregister_step d k mem))
recycle_after_unregister d mem sound k inside room =
    let kept = unregister_step_kept d mem sound k inside in
    let same_recycled = (unregister_step_changes d mem sound k inside).same_word 12 (omega arith) (λ e. omega arith) in
    kept_trans d mem _ _ kept
    (recycle_step_kept d _ kept.sound (ids d mem k) (rw same_recycled room) (unregistered_free d mem sound k inside))
