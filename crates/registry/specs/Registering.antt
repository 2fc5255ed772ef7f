-- Document 01, "Registry and delegation": registering an id, unregistering it, and the collection of children with no children and no
-- holders. n ids are registered, in the order of their registration, in a registry of `places` places; a child's link names its parent's
-- place, so a child is recorded when it is registered and leaves its parent's list when it is unregistered.
use Rattle.std.specs.Prelude.{ℕ, zero, suc, ◌+◌, ◌-◌, ◌*◌, Bool, not, List, ◌==◌, nat_lt, slice_index, slice_set}
use Rattle.base.specs.Below.{first}
use Rattle.base.specs.Choose.{pick, both}
use Rattle.base.specs.Shift.{shifted_down}
use Rattle.registry.specs.Words.{state_at, link_at, has_list, holders, child_of}

-- A new id stands behind the others, unrevoked, with no list and no holders.
unfoldable pub registered : ℕ → ℕ → ℕ → ℕ → ℕ → List ℕ → List ℕ
registered places n id object link rg =
    slice_set (slice_set (slice_set (slice_set rg n id) (places + n) object) (2 * places + n) 0) (3 * places + n) link

-- Place p has a list of children from now on.
abbrev pub with_list : ℕ → ℕ
with_list state = pick (has_list state == 1) state (state + 2)

unfoldable pub list_given : ℕ → ℕ → List ℕ → List ℕ
list_given places p rg = slice_set rg (2 * places + p) (with_list (state_at places rg p))

-- ---- a place leaves

-- A link when place k leaves: to k, it becomes 0; past k, one less.
abbrev pub relinked : ℕ → ℕ → ℕ
relinked k link = pick (link == suc k) 0 (pick (nat_lt (suc k) link) (link - 1) link)

-- So m links from word i on.
unfoldable pub links_mended : ℕ → ℕ → ℕ → List ℕ → List ℕ
links_mended k i zero rg = rg
links_mended k i (suc m) rg = links_mended k (i + 1) m (slice_set rg i (relinked k (slice_index rg i)))

-- In each column the places after k move down by one. The links of the places before k name no place from k on.
unfoldable pub unregistered : ℕ → ℕ → ℕ → List ℕ → List ℕ
unregistered places n k rg =
    links_mended k (3 * places + k) (n - 1 - k)
    (shifted_down (3 * places + k) (3 * places + n)
    (shifted_down (2 * places + k) (2 * places + n)
    (shifted_down (places + k) (places + n)
    (shifted_down k n rg))))

-- ---- the collection of the children of place p with no children and no holders

abbrev pub has_child : ℕ → ℕ → List ℕ → ℕ → Bool
has_child places n rg k = nat_lt (first (child_of (link_at places rg) k) n) n

-- A child of place p with no children and no holders.
unfoldable pub unneeded : ℕ → ℕ → ℕ → List ℕ → ℕ → Bool
unneeded places p n rg k =
    both (child_of (link_at places rg) p k) (both (holders (state_at places rg k) == 0) (not (has_child places n rg k)))

pub record Collected : Type 0 where
  pub left : ℕ
  pub words : List ℕ

-- They leave list and registry, an empty list of their own with them. From the last place to the first, so that no place moves before
-- its turn; place p stands before its children, so it does not move.
unfoldable pub collected_below : ℕ → ℕ → ℕ → ℕ → List ℕ → Collected
collected_below places p zero n rg = record { left = n; words = rg }
collected_below places p (suc k) n rg =
    pick (unneeded places p n rg k)
    (collected_below places p k (n - 1) (unregistered places n k rg))
    (collected_below places p k n rg)

unfoldable pub collected : ℕ → ℕ → ℕ → List ℕ → Collected
collected places p n rg = collected_below places p n n rg
