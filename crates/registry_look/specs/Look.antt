-- The passes of the look over a registry: what each tests at one place, and that the passes together test the rules.
use Rattle.std.specs.Prelude.{◌≡◌, Bool, List, ℕ, zero, suc, ◌<◌, ◌≤◌, pred, ltb}
use Rattle.std.proofs.Common.{arith}
use Rattle.base.specs.Below.{all}
use Rattle.base.specs.AllLaws.{all_both}
use Rattle.base.specs.Choose.{both}
use Rattle.base.specs.Distinct.{differ_test}
use Rattle.base.specs.Exactly.{both_exactly, same_test, tests}
use Rattle.registry.specs.Words.{id_at, state_at, link_at, recycled_at}
use Rattle.registry.specs.Sound.{issued_at, issued_test, ascend_test, unregistered_id, unregistered_test, linked_at, linked_test, parent_has_list_at, parent_has_list_test, short_test, cascaded_at, cascaded_test, registry_test}

-- The rules of place k.
unfoldable pub place_test : ℕ → ℕ → List ℕ → ℕ → Bool
place_test places next rg k =
    both (issued_at next (id_at rg) k)
    (both (linked_at (link_at places rg) k)
    (both (parent_has_list_at (link_at places rg) (state_at places rg) k) (cascaded_at (link_at places rg) (state_at places rg) k)))

pub places_passed : (places n next : ℕ) (rg : List ℕ) → all n (place_test places next rg)
    ≡ both (issued_test n (id_at rg) next)
    (both (linked_test n (link_at places rg))
    (both (parent_has_list_test n (link_at places rg) (state_at places rg)) (cascaded_test n (link_at places rg) (state_at places rg))))
unfolding place_test
places_passed places n next rg = simp all_both

-- The recycled id before the j-th, and 0 before the first: what ascends from 0 is at least 1.
abbrev pub before : (ℕ → ℕ) → ℕ → ℕ
before recycled zero = 0
before recycled (suc j) = recycled j

-- The rules of the j-th recycled id, where n ids are registered.
unfoldable pub recycled_id_test : ℕ → ℕ → ℕ → List ℕ → ℕ → Bool
recycled_id_test places n next rg j =
    both (ltb (before (recycled_at places rg) j) (recycled_at places rg j))
    (both (ltb (recycled_at places rg j) next) (unregistered_id n (id_at rg) (recycled_at places rg j)))

-- What ascends, and is at least 1, is above what stands before it.
above : (m : ℕ) (recycled : ℕ → ℕ) → ((k : ℕ) → k < pred m → recycled k < recycled (suc k)) → ((k : ℕ) → k < m → 1 ≤ recycled k)
    → (j : ℕ) → j < m → before recycled j < recycled j
above m recycled ascends some zero l = some 0 l
above m recycled ascends some (suc j) l = ascends j (omega arith)

pub recycled_passed : (places n m next : ℕ) (rg : List ℕ) → all m (recycled_id_test places n next rg)
    ≡ both (ascend_test m (recycled_at places rg))
    (both (unregistered_test m (recycled_at places rg) n (id_at rg)) (issued_test m (recycled_at places rg) next))
unfolding recycled_id_test
recycled_passed places n m next rg =
    same_test _ _
    (simp tests (
      λ h. (λ k l. (h (suc k) (omega arith)).0, (λ k l. (h k l).1.1, λ k l. (omega (arith, (h k l).0), (h k l).1.0))),
      λ h k l. (above m (recycled_at places rg) h.0 (λ k l. (h.1.1 k l).0) k l, ((h.1.1 k l).1, h.1.0 k l)),
    ))

-- The rules of n places and the lengths of their lists.
unfoldable pub places_test : ℕ → ℕ → ℕ → List ℕ → Bool
places_test places n next rg = both (all n (place_test places next rg)) (short_test n (link_at places rg))

pub registry_passed :
    (places n m next : ℕ) (rg : List ℕ)
    → registry_test places n m next rg
    ≡ both (places_test places n next rg) (both (differ_test n (id_at rg)) (all m (recycled_id_test places n next rg)))
unfolding registry_test places_test
registry_passed places n m next rg =
    rw (places_passed, recycled_passed)
    (same_test _ _
    (simp both_exactly (
      λ (differ, (issued, (ascend, (unregistered, (recycled, (linked, (has_list, (short, cascaded)))))))).
          (((issued, (linked, (has_list, cascaded))), short), (differ, (ascend, (unregistered, recycled)))),
      λ (((issued, (linked, (has_list, cascaded))), short), (differ, (ascend, (unregistered, recycled)))).
          (differ, (issued, (ascend, (unregistered, (recycled, (linked, (has_list, (short, cascaded)))))))),
    )))
