-- What is read of derivation: the list of a parent's children, how many lists and children there are; and which of some ids are not
-- registered. n ids are registered.
use Rattle.std.specs.Prelude.{ℕ, zero, suc, ◌+◌, not, List, [], ◌∷◌, ◌==◌, nat_lt}
use Rattle.base.specs.Below.{sum, one}
use Rattle.base.specs.Choose.{pick}
use Rattle.registry.specs.Words.{id_at, state_at, link_at, has_list, child_of}
use Rattle.registry.specs.Holders.{place_of}

-- The children of place p, in list order, among the m places from k on.
unfoldable pub child_places_from : ℕ → ℕ → ℕ → ℕ → List ℕ → List ℕ
child_places_from places p k zero rg = []
child_places_from places p k (suc m) rg =
    let later = child_places_from places p (k + 1) m rg in
    pick (child_of (link_at places rg) p k) (k ∷ later) later

unfoldable pub child_places : ℕ → ℕ → ℕ → List ℕ → List ℕ
child_places places p n rg = child_places_from places p 0 n rg

-- The ids at these places.
unfoldable pub ids_at : List ℕ → List ℕ → List ℕ
ids_at rg [] = []
ids_at rg (k ∷ ks) = id_at rg k ∷ ids_at rg ks

-- The ids of the children of place p, in list order.
unfoldable pub child_ids : ℕ → ℕ → ℕ → List ℕ → List ℕ
child_ids places p n rg = ids_at rg (child_places places p n rg)

-- How many ids have a list, and how many children stand in lists.
unfoldable pub parents : ℕ → ℕ → List ℕ → ℕ
parents places n rg = sum (λ k. has_list (state_at places rg k)) n

unfoldable pub edges : ℕ → ℕ → List ℕ → ℕ
edges places n rg = sum (λ k. one (not (link_at places rg k == 0))) n

-- How many of these ids are not registered.
unfoldable pub strays : ℕ → List ℕ → List ℕ → ℕ
strays n rg [] = 0
strays n rg (id ∷ ids) = one (not (nat_lt (place_of n rg id) n)) + strays n rg ids
