-- The registry and one word of the head change, nothing else. Every step on the registry is of this form, and so is taking an id: where
-- only one of the two changes, the other is what it was. The memory is kept where the new registry has its rules.
use Rattle.std.proofs.Common.{◌≡◌, ℕ, ◌+◌, ◌^◌, ◌<◌, ◌≤◌, ◌≢◌, List, length, get_or, set, refl, ◌∙◌, subst, arith, get_or-set_other, get_or-set_same}
use Rattle.std.proofs.Math.Seq.{set-get_or}
use Rattle.base.specs.Part.{on_part_same}
use Rattle.registry.specs.Rules.{RegistryRules}
use Rattle.world.specs.Numbers.{next_of, registered_of, recycled_of}
use Rattle.world.specs.Regions.{space, registry, length_for, start_of, size_of, view, on_region}
use Rattle.world.specs.Sound.{spaces_with, SoundAt}
use Rattle.world.specs.Views.{Change, length_kept, view_same, view_other, head_kept}
use Rattle.world.specs.declared.Numbers.{Numbers}
use Rattle.steps.proofs.laws.Ready.{head_fits}
use Rattle.steps.proofs.laws.SpaceChanged.{same_spaces}
use Rattle.steps.proofs.laws.Kept.{Kept, Apart, apart_trans, region_apart, set_view, set_apart, sound_again}

-- The registry of a memory by the names that the laws of its steps use: its words, the ids registered and recycled, and the next id.
pub record WholeRegistry : Type 0 where
  pub rg : List ℕ
  pub n : ℕ
  pub m : ℕ
  pub next : ℕ

abbrev pub registry_in : Numbers → List ℕ → WholeRegistry
registry_in d mem = record { rg = view d registry mem; n = registered_of mem; m = recycled_of mem; next = next_of mem }

-- The registry has the words rg then, and word i of the head is v.
pub record RegistryChanged (d : Numbers) (rg : List ℕ) (i v : ℕ) (mem mem' : List ℕ) : Type 0 where
  pub apart : Apart d mem mem'
  pub new_registry : view d registry mem' ≡ rg
  pub new_word : get_or mem' i 0 ≡ v
  pub same_word : (j : ℕ) → j < 16 → j ≢ i → get_or mem' j 0 ≡ get_or mem j 0
  pub same_space : (s : ℕ) → s < d.spaces → view d (space s) mem' ≡ view d (space s) mem

-- The word is none of the opening numbers, and stands before the number of logged pairs.
module _ (d : Numbers) (mem : List ℕ) (long : length_for d ≤ length mem) where
  pub registry_changed :
      (f : List ℕ → List ℕ) (i v : ℕ) → 5 ≤ i → i < 13 → length (f (view d registry mem)) ≡ length (view d registry mem)
      → RegistryChanged d (f (view d registry mem)) i v mem (set (on_region d registry f mem) i v)
  registry_changed f i v low high kept =
      let between : List ℕ = on_region d registry f mem in
      let in_registry : Change d registry f mem = record { valid = tt; long = long; kept = kept } in
      let fits : length_for d ≤ length between = rw (length_kept d registry f mem in_registry) long in
      record {
        apart =
            apart_trans d mem between (set between i v) (region_apart d registry f mem in_registry refl refl (λ q. refl))
            (set_apart d between fits i v (omega arith) low (omega arith));
        new_registry = set_view d between fits i v (omega arith) registry tt refl ∙ view_same d registry f mem in_registry;
        new_word = get_or-set_same between i v 0 (omega (arith, head_fits d));
        same_word = λ j l other. get_or-set_other between i j v 0 other ∙ head_kept d registry f mem in_registry refl j l;
        same_space = λ s l.
            set_view d between fits i v (omega arith) (space s) l refl ∙ view_other d registry f mem in_registry (space s) l refl;
      }

  -- Only the word changes,
  pub word_changed : (i v : ℕ) → 5 ≤ i → i < 13 → RegistryChanged d (view d registry mem) i v mem (set mem i v)
  word_changed i v low high =
      subst (λ between. RegistryChanged d (view d registry mem) i v mem (set between i v))
      (on_part_same (start_of d registry) (size_of d registry) (λ ws. ws) mem refl) (registry_changed (λ ws. ws) i v low high refl)

  -- or only the registry.
  pub only_registry_changed :
      (f : List ℕ → List ℕ) → length (f (view d registry mem)) ≡ length (view d registry mem)
      → RegistryChanged d (f (view d registry mem)) 12 (recycled_of mem) mem (on_region d registry f mem)
  only_registry_changed f kept =
      let between : List ℕ = on_region d registry f mem in
      let same : recycled_of between ≡ recycled_of mem =
      head_kept d registry f mem (record { valid = tt; long = long; kept = kept }) refl 12 (omega arith) in
      subst (RegistryChanged d (f (view d registry mem)) 12 (recycled_of mem) mem)
      (subst (λ v. set between 12 v ≡ between) same (set-get_or between 12 0))
      (registry_changed f 12 (recycled_of mem) (omega arith) (omega arith) kept)

module _ (d : Numbers) (mem : List ℕ) (sound : SoundAt d mem) where
  -- The spaces stay, so the memory is kept by the rules of the new registry with the same spaces.
  pub changed_kept :
      (rg : List ℕ) (i v : ℕ) (mem' : List ℕ) → RegistryChanged d rg i v mem mem'
      → (n m next : ℕ) → registered_of mem' ≡ n → recycled_of mem' ≡ m → next_of mem' ≡ next
      → n ≤ d.places → m ≤ d.places + 1 → 1 ≤ next → next ≤ 2 ^ 48
      → RegistryRules d.places n m next (spaces_with d mem) rg → Kept d mem mem'
  changed_kept rg i v mem' changed n m next is_n is_m is_next fit recycled_fit low high rules =
      sound_again d mem sound mem' changed.apart n m next rg is_n is_m is_next changed.new_registry fit recycled_fit low high
      (λ s l. rw (changed.same_space s l) (sound.spaces s l))
      (record {
        registered = rules.registered;
        recycled = rules.recycled;
        held = λ k l. rw (same_spaces d mem mem' changed.same_space) (rules.held k l);
      })

  -- The number of registered ids changes with the registry,
  pub registered_changed_kept :
      (rg : List ℕ) (n : ℕ) (mem' : List ℕ) → RegistryChanged d rg 11 n mem mem' → n ≤ d.places
      → RegistryRules d.places n (recycled_of mem) (next_of mem) (spaces_with d mem) rg → Kept d mem mem'
  registered_changed_kept rg n mem' changed fit =
      changed_kept rg 11 n mem' changed n (recycled_of mem) (next_of mem) changed.new_word
      (changed.same_word 12 (omega arith) (λ e. omega arith)) (changed.same_word 5 (omega arith) (λ e. omega arith)) fit
      sound.recycled_fit sound.next_low sound.next_high

  -- or that of the recycled ones.
  pub recycled_changed_kept :
      (rg : List ℕ) (m : ℕ) (mem' : List ℕ) → RegistryChanged d rg 12 m mem mem' → m ≤ d.places + 1
      → RegistryRules d.places (registered_of mem) m (next_of mem) (spaces_with d mem) rg → Kept d mem mem'
  recycled_changed_kept rg m mem' changed fit =
      changed_kept rg 12 m mem' changed (registered_of mem) m (next_of mem) (changed.same_word 11 (omega arith) (λ e. omega arith))
      changed.new_word (changed.same_word 5 (omega arith) (λ e. omega arith)) sound.registered_fit fit sound.next_low
      sound.next_high
