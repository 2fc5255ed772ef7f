-- The words of the registry with R places: four columns of R words, ids, objects, states, links, then R + 1 words of recycled ids.
-- The registered ids stand in the first places of the columns, in the order of registration, without a gap.
-- A state is revoked + 2 * has_list + 4 * holders: `revoked` and `has_list` are 0 or 1; `has_list` says that the id has a list of children,
-- which may be empty. The generation of an id is its revoked flag, so it is 0 if unrevoked and 1 if revoked.
-- A link is 0, or 1 + the place of the parent: the children of place p are the places whose link names p, in their order, and that is
-- the order in which the source's lists have them.
use Rattle.std.specs.Prelude.{ℕ, suc, ◌+◌, ◌*◌, ◌/◌, ◌%◌, ◌≤◌, Bool, List, ◌==◌, length, slice_index}
use Rattle.base.specs.Below.{sum, one}

-- Words with room for the places, of which so many are in use.
pub record RegistryFits (rg : List ℕ) (places n : ℕ) : Type 0 where
  pub in_use : n ≤ places
  pub few : places ≤ 4095
  pub room : 5 * places + 1 ≤ length rg

abbrev pub id_at : List ℕ → ℕ → ℕ
id_at rg k = slice_index rg k

abbrev pub object_at : ℕ → List ℕ → ℕ → ℕ
object_at places rg k = slice_index rg (places + k)

abbrev pub state_at : ℕ → List ℕ → ℕ → ℕ
state_at places rg k = slice_index rg (2 * places + k)

abbrev pub link_at : ℕ → List ℕ → ℕ → ℕ
link_at places rg k = slice_index rg (3 * places + k)

abbrev pub recycled_at : ℕ → List ℕ → ℕ → ℕ
recycled_at places rg k = slice_index rg (4 * places + k)

abbrev pub revoked : ℕ → ℕ
revoked state = state % 2

abbrev pub has_list : ℕ → ℕ
has_list state = state / 2 % 2

abbrev pub holders : ℕ → ℕ
holders state = state / 4

-- Place k is a child of place p.
abbrev pub child_of : (ℕ → ℕ) → ℕ → ℕ → Bool
child_of link p k = link k == suc p

-- How many of the first n places are children of place p.
unfoldable pub children : (ℕ → ℕ) → ℕ → ℕ → ℕ
children link n p = sum (λ k. one (child_of link p k)) n
