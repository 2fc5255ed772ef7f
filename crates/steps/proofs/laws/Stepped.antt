-- One space changes, and with it holders: the memory is kept where the space is and no id has more holders than came and went with it.
-- Every step of a space is of this form.
use Rattle.std.proofs.Common.{◌≡◌, ℕ, ◌+◌, ◌-◌, ◌<◌, ◌≤◌, List, get_or, sym, refl, ap, ◌∙◌, arith}
use Rattle.std.proofs.Math.Decide.{ℕ_discrete}
use Rattle.std.proofs.Math.Logic.{by_cases}
use Rattle.base.specs.Below.{one}
use Rattle.registry.specs.HoldersLaws.{HoldersOnly, holders_only_registered}
use Rattle.registry.specs.StatesOnly.{same_ids, states_only_recycled}
use Rattle.registry.specs.Sound.{Held}
use Rattle.registry.specs.Words.{id_at, state_at, holders}
use Rattle.space.specs.Sound.{SpaceOf, SoundSpace}
use Rattle.world.specs.Numbers.{next_of, registered_of, recycled_of}
use Rattle.world.specs.Regions.{space, registry, view, on_region}
use Rattle.world.specs.Sound.{has_entry, spaces_with, SoundAt}
use Rattle.world.specs.Views.{Change, length_kept, view_same, view_other, head_kept}
use Rattle.world.specs.declared.Numbers.{Numbers}
use Rattle.steps.proofs.laws.Ready.{is_space}
use Rattle.steps.proofs.laws.SpaceChanged.{same_spaces, other_space, space_changed}
use Rattle.steps.proofs.laws.Kept.{Kept, Apart, apart_trans, region_apart, registry_rules, sound_again}

-- A sound space that stays one keeps its number of words.
pub space_change :
    (d : Numbers) (s : ℕ) (f : List ℕ → List ℕ) (mem : List ℕ) → SoundAt d mem → s < d.spaces
    → SpaceOf d.most (f (view d (space s) mem)) → Change d (space s) f mem
space_change d s f mem sound valid keeps = record {
  valid = valid;
  long = sound.long_enough;
  kept = keeps.size ∙ sym (is_space d mem sound s valid).size;
}

-- Space s changes by f, the registry by g.
pub record Stepped (d : Numbers) (s : ℕ) (f g : List ℕ → List ℕ) (mem : List ℕ) : Type 0 where
  pub valid : s < d.spaces
  pub keeps_space : SpaceOf d.most (f (view d (space s) mem))
  pub only_holders : HoldersOnly d.places (view d registry mem) (g (view d registry mem))
  pub no_more :
      (k : ℕ) → k < registered_of mem
      → holders (state_at d.places (g (view d registry mem)) k)
      ≤ holders (state_at d.places (view d registry mem) k) + one (has_entry (f (view d (space s) mem)) (id_at (view d registry mem) k))
      - one (has_entry (view d (space s) mem) (id_at (view d registry mem) k))

module _ (d : Numbers) (s : ℕ) (f g : List ℕ → List ℕ) (mem : List ℕ) (sound : SoundAt d mem) (st : Stepped d s f g mem) where
  abbrev between : List ℕ
  between = on_region d (space s) f mem

  abbrev after : List ℕ
  after = on_region d registry g between

  in_space : Change d (space s) f mem
  in_space = space_change d s f mem sound st.valid st.keeps_space

  same_registry : view d registry between ≡ view d registry mem
  same_registry = view_other d (space s) f mem in_space registry tt refl

  in_registry : Change d registry g between
  in_registry = record {
    valid = tt;
    long = rw (length_kept d (space s) f mem in_space) sound.long_enough;
    kept = rw same_registry st.only_holders.same_length;
  }

  new_registry : view d registry after ≡ g (view d registry mem)
  new_registry = view_same d registry g between in_registry ∙ ap g same_registry

  same_space : (k : ℕ) → k < d.spaces → view d (space k) after ≡ view d (space k) between
  same_space k l = view_other d registry g between in_registry (space k) l refl

  apart : Apart d mem after
  apart =
      apart_trans d mem between after
      (region_apart d (space s) f mem in_space refl refl (λ q. refl))
      (region_apart d registry g between in_registry refl refl (λ q. refl))

  spaces : (k : ℕ) → k < d.spaces → SoundSpace d.most (view d (space k) after)
  spaces k l =
      rw (same_space k l)
      (by_cases (ℕ_discrete k s)
      (λ here. rw (here, view_same d (space s) f mem in_space) st.keeps_space.sound)
      (λ other. rw (other_space d s f mem in_space k l other) (sound.spaces k l)))

  few : Held (registered_of mem) (id_at (g (view d registry mem))) (state_at d.places (g (view d registry mem))) (spaces_with d after)
  few k l =
      let id : ℕ = id_at (view d registry mem) k in
      let same : id_at (g (view d registry mem)) k ≡ id =
      same_ids d.places _ _ st.only_holders k (omega (arith, sound.registered_fit)) in
      rw (same, same_spaces d between after same_space)
      (omega (arith, st.no_more k l, sound.held k l, space_changed d s f mem in_space id))

  same_word : (i : ℕ) → i < 16 → get_or after i 0 ≡ get_or mem i 0
  same_word i l = head_kept d registry g between in_registry refl i l ∙ head_kept d (space s) f mem in_space refl i l

  pub step_kept : Kept d mem after
  step_kept =
      let n : ℕ = registered_of mem in
      let next : ℕ = next_of mem in
      let rules = registry_rules d mem sound in
      sound_again d mem sound after apart n (recycled_of mem) next (g (view d registry mem)) (same_word 11 (omega arith))
      (same_word 12 (omega arith)) (same_word 5 (omega arith)) new_registry sound.registered_fit sound.recycled_fit
      sound.next_low sound.next_high spaces
      (record {
        registered = holders_only_registered d.places _ _ st.only_holders n sound.registered_fit next rules.registered;
        recycled = states_only_recycled d.places _ _ st.only_holders n sound.registered_fit next _ rules.recycled;
        held = few;
      })
