-- Document 01, "Sound memory", what it says of registered and recycled ids and of derivation: a definition a rule, over only what the
-- rule reads, and next to it its test. n ids are registered, m are recycled. That registered ids differ is base's `Differ n id`, with its
-- test `differ_test n id`.
use Rattle.std.specs.Prelude.{◌≡◌, ℕ, suc, pred, ◌<◌, ◌≤◌, Bool, true, not, ltb, leb, List, ◌==◌, ◌≢◌, nat_le, nat_lt}
use Rattle.base.specs.Below.{all}
use Rattle.base.specs.Choose.{pick, both}
use Rattle.base.specs.Distinct.{differ_test}
use Rattle.registry.specs.Words.{id_at, state_at, link_at, recycled_at, revoked, has_list, holders, children}

-- Ids lie in 1..next-1 (registered and recycled ones).
abbrev pub Issued : ℕ → (ℕ → ℕ) → ℕ → Type 0
Issued n id next = (k : ℕ) → k < n → (1 ≤ id k) × (id k < next)

abbrev pub issued_at : ℕ → (ℕ → ℕ) → ℕ → Bool
issued_at next id k = both (nat_le 1 (id k)) (nat_lt (id k) next)

abbrev pub issued_test : ℕ → (ℕ → ℕ) → ℕ → Bool
issued_test n id next = all n (issued_at next id)

-- Recycled ids ascend.
abbrev pub Ascend : ℕ → (ℕ → ℕ) → Type 0
Ascend m recycled = (k : ℕ) → suc k < m → recycled k < recycled (suc k)

abbrev pub ascend_test : ℕ → (ℕ → ℕ) → Bool
ascend_test m recycled = all (pred m) (λ k. ltb (recycled k) (recycled (suc k)))

-- Recycled ids are not registered.
abbrev pub Unregistered : ℕ → (ℕ → ℕ) → ℕ → (ℕ → ℕ) → Type 0
Unregistered m recycled n id = (j : ℕ) → j < m → (k : ℕ) → k < n → recycled j ≢ id k

-- None of n ids is this one.
abbrev pub unregistered_id : ℕ → (ℕ → ℕ) → ℕ → Bool
unregistered_id n id x = all n (λ k. not (x == id k))

abbrev pub unregistered_test : ℕ → (ℕ → ℕ) → ℕ → (ℕ → ℕ) → Bool
unregistered_test m recycled n id = all m (λ j. unregistered_id n id (recycled j))

-- Each parent is registered and parent links end: a link is 0 or names an earlier place.
abbrev pub Linked : ℕ → (ℕ → ℕ) → Type 0
Linked n link = (k : ℕ) → k < n → link k ≤ k

abbrev pub linked_at : (ℕ → ℕ) → ℕ → Bool
linked_at link k = nat_le (link k) k

abbrev pub linked_test : ℕ → (ℕ → ℕ) → Bool
linked_test n link = all n (linked_at link)

-- A child stands once in one list: it has one link, and the place that it names has a list.
abbrev pub ParentHasList : ℕ → (ℕ → ℕ) → (ℕ → ℕ) → Type 0
ParentHasList n link state = (k : ℕ) → k < n → (p : ℕ) → link k ≡ suc p → has_list (state p) ≡ 1

abbrev pub parent_has_list_at : (ℕ → ℕ) → (ℕ → ℕ) → ℕ → Bool
parent_has_list_at link state k = pick (link k == 0) true (has_list (state (pred (link k))) == 1)

abbrev pub parent_has_list_test : ℕ → (ℕ → ℕ) → (ℕ → ℕ) → Bool
parent_has_list_test n link state = all n (parent_has_list_at link state)

-- Lists hold at most 1,024.
abbrev pub Short : ℕ → (ℕ → ℕ) → Type 0
Short n link = (p : ℕ) → p < n → children link n p ≤ 1024

abbrev pub short_test : ℕ → (ℕ → ℕ) → Bool
short_test n link = all n (λ p. leb (children link n p) 1024)

-- A revoked parent's children are revoked.
abbrev pub Cascaded : ℕ → (ℕ → ℕ) → (ℕ → ℕ) → Type 0
Cascaded n link state = (k : ℕ) → k < n → (p : ℕ) → link k ≡ suc p → revoked (state p) ≡ 1 → revoked (state k) ≡ 1

abbrev pub cascaded_at : (ℕ → ℕ) → (ℕ → ℕ) → ℕ → Bool
cascaded_at link state k = pick (link k == 0) true (nat_le (revoked (state (pred (link k)))) (revoked (state k)))

abbrev pub cascaded_test : ℕ → (ℕ → ℕ) → (ℕ → ℕ) → Bool
cascaded_test n link state = all n (cascaded_at link state)

-- An id's holders are at most the spaces with an entry of that id. `spaces id` counts those spaces.
abbrev pub Held : ℕ → (ℕ → ℕ) → (ℕ → ℕ) → (ℕ → ℕ) → Type 0
Held n id state spaces = (k : ℕ) → k < n → holders (state k) ≤ spaces (id k)

-- The holders at each place are at most a count.
abbrev pub within_test : ℕ → (ℕ → ℕ) → (ℕ → ℕ) → Bool
within_test n state count = all n (λ k. leb (holders (state k)) (count k))

abbrev pub held_test : ℕ → (ℕ → ℕ) → (ℕ → ℕ) → (ℕ → ℕ) → Bool
held_test n id state spaces = within_test n state (λ k. spaces (id k))

-- All rules but the last, which speaks of the spaces too: of a registry of `places` places, with n and m ids.
unfoldable pub registry_test : ℕ → ℕ → ℕ → ℕ → List ℕ → Bool
registry_test places n m next rg =
    both (differ_test n (id_at rg))
    (both (issued_test n (id_at rg) next)
    (both (ascend_test m (recycled_at places rg))
    (both (unregistered_test m (recycled_at places rg) n (id_at rg))
    (both (issued_test m (recycled_at places rg) next)
    (both (linked_test n (link_at places rg))
    (both (parent_has_list_test n (link_at places rg) (state_at places rg))
    (both (short_test n (link_at places rg)) (cascaded_test n (link_at places rg) (state_at places rg)))))))))
