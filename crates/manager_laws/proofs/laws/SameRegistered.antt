-- A lookup, taking an id and giving one back leave the registered ids as they were, with all that stands in their places. Then each id
-- keeps its place, each place its children, and a token is as valid as before.
use Rattle.std.proofs.Common.{List, ◌≡◌, refl, ap, ◌∙◌, ℕ, ◌+◌, ◌*◌, ◌≤◌, ◌<◌, arith, le-ltb, eqb, ltb, length, get_or}
use Rattle.std.proofs.Math.Decide.{dec_lt}
use Rattle.std.proofs.Math.Logic.{by_cases}
use Rattle.base.specs.Choose.{both}
use Rattle.base.specs.FirstLaws.{first_ext}
use Rattle.registry.specs.Holders.{place_of}
use Rattle.registry.specs.Rules.{Same, children_same}
use Rattle.registry.specs.Words.{revoked, object_at, state_at, link_at, id_at}
use Rattle.registry.specs.IdsLaws.{recycled_with_columns}
use Rattle.registry.specs.RegisteringLaws.{SamePlaces}
use Rattle.space.specs.Lookup.{counted}
use Rattle.space.proofs.laws.Kept.{lookup_keeps}
use Rattle.steps.specs.Steps.{objects, place_in, children_of, lookup_step, take_step, recycle_step}
use Rattle.steps.proofs.laws.OnlyIds.{take_only_ids}
use Rattle.steps.proofs.laws.RegistrySteps.{recycle_step_changes}
use Rattle.steps.proofs.laws.Ready.{is_space}
use Rattle.steps.proofs.laws.Stepped.{space_change}
use Rattle.token.specs.Token.{id_of, generation_of}
use Rattle.world.specs.Numbers.{registered_of, recycled_of}
use Rattle.world.specs.Regions.{space, registry, view}
use Rattle.world.specs.Sound.{ids, states, links, SoundAt}
use Rattle.world.specs.Views.{view_other, head_kept, registry_words}
use Rattle.world.specs.declared.Numbers.{Numbers}
use Rattle.manager_calls.specs.Calls.{valid_in}
use Rattle.manager_calls.specs.Tokens.{current}

pub record SameRegistered (d : Numbers) (mem after : List ℕ) : Type 0 where
  pub same_count : registered_of after ≡ registered_of mem
  pub same_ids : Same (registered_of mem) (ids d mem) (ids d after)
  pub same_objects : Same (registered_of mem) (objects d mem) (objects d after)
  pub same_states : Same (registered_of mem) (states d mem) (states d after)
  pub same_links : Same (registered_of mem) (links d mem) (links d after)

pub registered_trans :
    (d : Numbers) (mem mid after : List ℕ) → SameRegistered d mem mid → SameRegistered d mid after → SameRegistered d mem after
registered_trans d mem mid after h g =
    let still : (k : ℕ) → k < registered_of mem → k < registered_of mid = λ k l. rw h.same_count l in
    record {
      same_count = g.same_count ∙ h.same_count;
      same_ids = λ k l. g.same_ids k (still k l) ∙ h.same_ids k l;
      same_objects = λ k l. g.same_objects k (still k l) ∙ h.same_objects k l;
      same_states = λ k l. g.same_states k (still k l) ∙ h.same_states k l;
      same_links = λ k l. g.same_links k (still k l) ∙ h.same_links k l;
    }

-- ---- when it is so

-- The registry has the same words.
pub same_registry :
    (d : Numbers) (mem after : List ℕ) → registered_of after ≡ registered_of mem → view d registry after ≡ view d registry mem
    → SameRegistered d mem after
same_registry d mem after count same = record {
  same_count = count;
  same_ids = λ k l. ap (λ rg. id_at rg k) same;
  same_objects = λ k l. ap (λ rg. object_at d.places rg k) same;
  same_states = λ k l. ap (λ rg. state_at d.places rg k) same;
  same_links = λ k l. ap (λ rg. link_at d.places rg k) same;
}

-- The first places of the new registry, as many as were registered, have the same words.
pub same_places :
    (d : Numbers) (mem after : List ℕ) → registered_of after ≡ registered_of mem
    → SamePlaces d.places (registered_of mem) (view d registry mem) (view d registry after) → SameRegistered d mem after
same_places d mem after count same = record {
  same_count = count;
  same_ids = same.ids;
  same_objects = same.objects;
  same_states = same.states;
  same_links = same.links;
}

-- The four columns have the same words.
same_columns :
    (d : Numbers) (mem after : List ℕ) → registered_of mem ≤ d.places → registered_of after ≡ registered_of mem
    → ((i : ℕ) → i < 4 * d.places → get_or (view d registry after) i 0 ≡ get_or (view d registry mem) i 0) → SameRegistered d mem after
same_columns d mem after fit count same = record {
  same_count = count;
  same_ids = λ k l. same k (omega arith);
  same_objects = λ k l. same (d.places + k) (omega arith);
  same_states = λ k l. same (2 * d.places + k) (omega arith);
  same_links = λ k l. same (3 * d.places + k) (omega arith);
}

module _ (d : Numbers) (mem : List ℕ) (sound : SoundAt d mem) where
  pub lookup_same : (s : ℕ) → s < d.spaces → (token : ℕ) → SameRegistered d mem (lookup_step d s token mem)
  unfolding lookup_step
  lookup_same s valid token =
      let f : List ℕ → List ℕ = λ sp. counted sp token in
      let change = space_change d s f mem sound valid (lookup_keeps d.most _ (is_space d mem sound s valid) token) in
      same_registry d mem _ (head_kept d (space s) f mem change refl 11 (omega arith))
      (view_other d (space s) f mem change registry tt refl)

  pub take_same : SameRegistered d mem (take_step d mem)
  take_same =
      let only = take_only_ids d mem sound in
      same_columns d mem _ sound.registered_fit (only.same_head 11 (omega arith) (omega arith) (omega arith)) only.same_columns

  pub recycle_same : (id : ℕ) → recycled_of mem ≤ d.places → SameRegistered d mem (recycle_step d id mem)
  recycle_same id room =
      let changed = recycle_step_changes d mem sound id room in
      let rg : List ℕ = view d registry mem in
      let long : 5 * d.places + 1 ≤ length rg = registry_words d mem sound.long_enough in
      same_columns d mem _ sound.registered_fit (changed.same_word 11 (omega arith) (omega arith))
      (λ i l. ap (λ ws. get_or ws i 0) changed.new_registry ∙ recycled_with_columns d.places (recycled_of mem) id rg room long i l)

-- ---- what follows

module _ (d : Numbers) (mem after : List ℕ) (same : SameRegistered d mem after) where
  pub same_place : (x : ℕ) → place_in d after x ≡ place_in d mem x
  unfolding place_of
  same_place x =
      rw same.same_count
      (first_ext (λ k. eqb (ids d after k) x) (λ k. eqb (ids d mem k) x) (registered_of mem) (λ k l. ap (λ i. eqb i x) (same.same_ids k l)))

  pub same_children : (p : ℕ) → children_of d after p ≡ children_of d mem p
  same_children p = rw same.same_count (children_same (registered_of mem) (links d mem) (links d after) same.same_links p)

  pub same_current : (token k : ℕ) → k < registered_of mem → current d after token k ≡ current d mem token k
  same_current token k l =
      ap (λ state. both (eqb (revoked state) 0) (eqb (generation_of token) (revoked state))) (same.same_states k l)

  pub same_valid : (token : ℕ) → valid_in d after token ≡ valid_in d mem token
  same_valid token =
      let k : ℕ = place_in d mem (id_of token) in
      rw (same_place (id_of token), same.same_count)
      (by_cases (dec_lt k (registered_of mem))
      (λ inside. ap (both (ltb k (registered_of mem))) (same_current token k inside))
      (λ outside. rw (le-ltb k (registered_of mem) (omega arith))))
