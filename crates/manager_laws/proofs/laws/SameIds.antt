-- Every step but taking an id and recycling one leaves the next id and the recycled ids as they were.
use Rattle.std.proofs.Common.{List, ◌≡◌, refl, ap, ◌∙◌, ℕ, ◌+◌, ◌*◌, ◌^◌, ◌≤◌, ◌<◌, arith, length}
use Rattle.registry.proofs.CollectionLaws.{collected_before}
use Rattle.registry.specs.RegisteringLaws.{registered_other, list_given_only}
use Rattle.registry.specs.StatesOnly.{same_recycled}
use Rattle.registry.specs.UnregisteringLaws.{unregistered_before}
use Rattle.registry.specs.Words.{recycled_at}
use Rattle.steps.specs.Steps.{lookup_step, insert_step, register_step, list_step, unregister_step, collect_step, add_step}
use Rattle.steps.proofs.laws.OnlySpace.{OnlySpace, lookup_in_space, insert_in_space}
use Rattle.steps.proofs.laws.RegistryChanged.{RegistryChanged}
use Rattle.steps.proofs.laws.RegistrySteps.{register_step_changes, list_step_changes, unregister_step_changes, collect_step_changes, add_step_changes}
use Rattle.table.specs.declared.CapabilityEntry.{CapabilityEntry}
use Rattle.world.specs.Numbers.{next_of, registered_of, recycled_of}
use Rattle.world.specs.Regions.{registry, view}
use Rattle.world.specs.Sound.{recycled, SoundAt}
use Rattle.world.specs.Views.{registry_words}
use Rattle.world.specs.declared.Numbers.{Numbers}

pub record SameIds (d : Numbers) (mem after : List ℕ) : Type 0 where
  pub same_next : next_of after ≡ next_of mem
  pub same_count : recycled_of after ≡ recycled_of mem
  pub same_recycled : (j : ℕ) → recycled d after j ≡ recycled d mem j

pub ids_trans : (d : Numbers) (mem mid after : List ℕ) → SameIds d mem mid → SameIds d mid after → SameIds d mem after
ids_trans d mem mid after h g = record {
  same_next = g.same_next ∙ h.same_next;
  same_count = g.same_count ∙ h.same_count;
  same_recycled = λ j. g.same_recycled j ∙ h.same_recycled j;
}

module _ (d : Numbers) (mem : List ℕ) where
  -- Only holders and words of a space change.
  pub only_space : (s : ℕ) (after : List ℕ) → OnlySpace d s mem after → SameIds d mem after
  only_space s after only = record {
    same_next = only.same_head 5 (omega arith);
    same_count = only.same_head 12 (omega arith);
    same_recycled = same_recycled d.places _ _ only.only_holders;
  }

  -- Only the registry before the recycled ids changes, and a word of the head past the next id.
  only_columns :
      (rg : List ℕ) (i v : ℕ) (after : List ℕ) → RegistryChanged d rg i v mem after → 6 ≤ i → recycled_of after ≡ recycled_of mem
      → ((j : ℕ) → recycled_at d.places rg j ≡ recycled d mem j) → SameIds d mem after
  only_columns rg i v after changed high count same = record {
    same_next = changed.same_word 5 (omega arith) (omega arith);
    same_count = count;
    same_recycled = λ j. ap (λ ws. recycled_at d.places ws j) changed.new_registry ∙ same j;
  }

module _ (d : Numbers) (mem : List ℕ) (sound : SoundAt d mem) where
  abbrev n : ℕ
  n = registered_of mem

  abbrev rg : List ℕ
  rg = view d registry mem

  long : 5 * d.places + 1 ≤ length rg
  long = registry_words d mem sound.long_enough

  -- ---- steps of a space

  module _ (s : ℕ) (valid : s < d.spaces) where
    pub lookup_ids : (token : ℕ) → SameIds d mem (lookup_step d s token mem)
    lookup_ids token = only_space d mem s _ (lookup_in_space d mem sound s valid token).only

    pub insert_ids : (e : CapabilityEntry) → e.rights.0 < 2 ^ 32 → SameIds d mem (insert_step d s e mem)
    insert_ids e rights = only_space d mem s _ (insert_in_space d mem sound s valid e rights).only

  -- ---- steps of the registry

  pub register_ids : (id object link : ℕ) → registered_of mem < d.places → SameIds d mem (register_step d id object link mem)
  register_ids id object link room =
      let changed = register_step_changes d mem sound id object link room in
      only_columns d mem _ _ _ _ changed (omega arith) (changed.same_word 12 (omega arith) (omega arith))
      (λ j. (registered_other d.places n id object link rg room long).behind (4 * d.places + j) (omega arith))

  pub list_ids : (p : ℕ) → p < d.places → SameIds d mem (list_step d p mem)
  list_ids p inside =
      let changed = list_step_changes d mem sound p inside in
      only_columns d mem _ _ _ _ changed (omega arith) changed.new_word
      (same_recycled d.places rg _ (list_given_only d.places p rg inside long))

  pub unregister_ids : (k : ℕ) → k < registered_of mem → SameIds d mem (unregister_step d k mem)
  unregister_ids k inside =
      let changed = unregister_step_changes d mem sound k inside in
      only_columns d mem _ _ _ _ changed (omega arith) (changed.same_word 12 (omega arith) (omega arith))
      (λ j. (unregistered_before d.places n k rg inside sound.registered_fit long).behind (4 * d.places + j) (omega arith))

  pub collect_ids : (p : ℕ) → p < registered_of mem → SameIds d mem (collect_step d p mem)
  collect_ids p inside =
      let changed = collect_step_changes d mem sound p inside in
      only_columns d mem _ _ _ _ changed (omega arith) (changed.same_word 12 (omega arith) (omega arith))
      (λ j.
      (collected_before d.places p n rg inside sound.registered_fit long sound.linked).behind (4 * d.places + j) (omega arith))

  pub count_ids : (i : ℕ) → 7 ≤ i → i < 11 → SameIds d mem (add_step i 1 mem)
  count_ids i low high =
      let changed = add_step_changes d mem sound.long_enough i 1 (omega arith) high in
      only_columns d mem _ _ _ _ changed (omega arith) (changed.same_word 12 (omega arith) (omega arith))
      (λ j. refl)
