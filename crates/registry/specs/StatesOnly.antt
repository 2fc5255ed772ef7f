-- Changes of states alone: every other word of a registry stays, and with them the rules that do not speak of states. So an id is held or
-- released, a place is given a list of children, and places are marked as revoked.
use Rattle.std.specs.Prelude.{◌≡◌, ℕ, ◌+◌, ◌*◌, ◌<◌, ◌≤◌, ◌⊎◌, List, length, slice_index, slice_set, refl}
use Rattle.std.proofs.Common.{ap, ◌∙◌, inl, inr, ⊎_elim, arith, length-set, get_or-set_same, get_or-set_other}
use Rattle.std.proofs.Math.Decide.{ℕ_discrete}
use Rattle.std.proofs.Math.Logic.{by_cases}
use Rattle.base.specs.Distinct.{Differ}
use Rattle.registry.specs.Words.{id_at, object_at, state_at, link_at, recycled_at, revoked, has_list}
use Rattle.registry.specs.Sound.{ParentHasList, Cascaded}
use Rattle.registry.specs.Rules.{RegisteredRules, RecycledRules, Same, differ_same, registered_links, registered_same, recycled_same}

-- Of the words only states change, each as `How` says of its place, of what it was and of what it is now.
pub record StatesOnly (How : ℕ → ℕ → ℕ → Type 0) (places : ℕ) (rg rg' : List ℕ) : Type 0 where
  pub same_length : length rg' ≡ length rg
  pub before : (i : ℕ) → i < 2 * places → slice_index rg' i ≡ slice_index rg i
  pub after : (i : ℕ) → 3 * places ≤ i → slice_index rg' i ≡ slice_index rg i
  pub states : (k : ℕ) → How k (state_at places rg k) (state_at places rg' k)

-- The states of the places with P change by f, and no others.
abbrev pub ByAt : (ℕ → ℕ) → (ℕ → Type 0) → ℕ → ℕ → ℕ → Type 0
ByAt f P k state state' = (P k × (state' ≡ f state)) ⊎ ((¬ P k) × (state' ≡ state))

-- What f keeps of a state stays.
pub by_keeps :
    (g f : ℕ → ℕ) → ((state : ℕ) → g (f state) ≡ g state) → (P : ℕ → Type 0) (k state state' : ℕ) → ByAt f P k state state'
    → g state' ≡ g state
by_keeps g f keeps P k state state' = ⊎_elim (λ (_, e). ap g e ∙ keeps state) (λ (_, e). ap g e)

-- ---- changes

module _ (places : ℕ) where
  pub states_only_none : (How : ℕ → ℕ → ℕ → Type 0) → ((k state : ℕ) → How k state state) → (rg : List ℕ) → StatesOnly How places rg rg
  states_only_none How stays rg =
      record { same_length = refl; before = λ i l. refl; after = λ i l. refl; states = λ k. stays k (state_at places rg k) }

  -- Less said of the same change.
  pub states_only_as :
      (A B : ℕ → ℕ → ℕ → Type 0) → ((k s s' : ℕ) → A k s s' → B k s s')
      → (rg rg' : List ℕ) → StatesOnly A places rg rg' → StatesOnly B places rg rg'
  states_only_as A B less rg rg' h = record {
    same_length = h.same_length;
    before = h.before;
    after = h.after;
    states = λ k. less k (state_at places rg k) (state_at places rg' k) (h.states k);
  }

  -- The state of place k by f.
  pub states_only_one :
      (f : ℕ → ℕ) (k : ℕ) (rg : List ℕ) → k < places → 5 * places + 1 ≤ length rg
      → StatesOnly (ByAt f (λ j. j ≡ k)) places rg (slice_set rg (2 * places + k) (f (state_at places rg k)))
  states_only_one f k rg inside long =
      let v : ℕ = f (state_at places rg k) in
      record {
        same_length = length-set rg (2 * places + k) v;
        before = λ i l. get_or-set_other rg (2 * places + k) i v 0 (omega arith);
        after = λ i l. get_or-set_other rg (2 * places + k) i v 0 (omega arith);
        states = λ j.
            by_cases (ℕ_discrete j k)
            (λ here. inl (here, rw here (get_or-set_same rg (2 * places + k) v 0 (omega arith))))
            (λ other. inr (other, get_or-set_other rg (2 * places + k) (2 * places + j) v 0 (omega arith)));
      }

  -- One change after another.
  pub states_only_then :
      (A B C : ℕ → ℕ → ℕ → Type 0) → ((k s s' s'' : ℕ) → A k s s' → B k s' s'' → C k s s'')
      → (rg rg' rg'' : List ℕ) → StatesOnly A places rg rg' → StatesOnly B places rg' rg'' → StatesOnly C places rg rg''
  states_only_then A B C both rg rg' rg'' h g = record {
    same_length = g.same_length ∙ h.same_length;
    before = λ i l. g.before i l ∙ h.before i l;
    after = λ i l. g.after i l ∙ h.after i l;
    states = λ k. both k (state_at places rg k) (state_at places rg' k) (state_at places rg'' k) (h.states k) (g.states k);
  }

-- ---- what stays

module _ {How : ℕ → ℕ → ℕ → Type 0} (places : ℕ) (rg rg' : List ℕ) (only : StatesOnly How places rg rg') where
  pub same_ids : Same places (id_at rg) (id_at rg')
  same_ids k l = only.before k (omega arith)

  pub same_objects : Same places (object_at places rg) (object_at places rg')
  same_objects k l = only.before (places + k) (omega arith)

  pub same_links : (k : ℕ) → link_at places rg' k ≡ link_at places rg k
  same_links k = only.after (3 * places + k) (omega arith)

  pub same_recycled : (k : ℕ) → recycled_at places rg' k ≡ recycled_at places rg k
  same_recycled k = only.after (4 * places + k) (omega arith)

  module _ (n : ℕ) (fit : n ≤ places) where
    below : Same n (id_at rg) (id_at rg')
    below k l = same_ids k (omega arith)

    pub states_only_differ : Differ n (id_at rg) → Differ n (id_at rg')
    states_only_differ = differ_same n (id_at rg) (id_at rg') below

    module _ (next : ℕ) where
      pub states_only_recycled : (m : ℕ) → RecycledRules places n m next rg → RecycledRules places n m next rg'
      states_only_recycled m = recycled_same places n next rg rg' below m (λ k l. same_recycled k)

      -- What is said of states is to be shown,
      pub states_only_registered :
          ParentHasList n (link_at places rg') (state_at places rg') → Cascaded n (link_at places rg') (state_at places rg')
          → RegisteredRules places n next rg → RegisteredRules places n next rg'
      states_only_registered = registered_links places n next rg rg' below (λ k l. same_links k)

      -- or that both flags stay.
      pub flags_same_registered :
          Same n (λ k. has_list (state_at places rg k)) (λ k. has_list (state_at places rg' k))
          → Same n (λ k. revoked (state_at places rg k)) (λ k. revoked (state_at places rg' k))
          → RegisteredRules places n next rg → RegisteredRules places n next rg'
      flags_same_registered = registered_same places n next rg rg' below (λ k l. same_links k)
