-- Each test of the registry is true exactly when its rule holds.
use Rattle.std.specs.Prelude.{◌≡◌, ℕ, suc, pred, ◌≤◌, Bool, true, ◌↔◌, ◌==◌, nat_eq, nat_le}
use Rattle.std.proofs.Common.{arith}
use Rattle.std.proofs.Math.Decide.{ℕ_discrete}
use Rattle.std.proofs.Math.Logic.{by_cases}
use Rattle.std.proofs.Math.Logic.Iff
use Rattle.base.specs.Choose.{pick}
use Rattle.base.specs.Exactly.{some_exactly, eqb_exactly, leb_exactly, all_exactly, tests}
use Rattle.registry.specs.Words.{revoked, has_list}
use Rattle.registry.specs.Sound.{Issued, issued_test, Ascend, ascend_test, Unregistered, unregistered_test, Linked, linked_test, ParentHasList, parent_has_list_test, Short, short_test, Cascaded, cascaded_test, Held, held_test}

pub issued_exactly : (n : ℕ) (id : ℕ → ℕ) (next : ℕ) → (issued_test n id next ≡ true) ↔ Issued n id next
issued_exactly n id next = simp tests Iff.rfl

pub ascend_exactly : (m : ℕ) (recycled : ℕ → ℕ) → (ascend_test m recycled ≡ true) ↔ Ascend m recycled
ascend_exactly m recycled = simp tests (λ h k l. h k (omega arith), λ h k l. h k (omega arith))

pub unregistered_exactly : (m : ℕ) (recycled : ℕ → ℕ) (n : ℕ) (id : ℕ → ℕ)
    → (unregistered_test m recycled n id ≡ true) ↔ Unregistered m recycled n id
unregistered_exactly m recycled n id = simp tests Iff.rfl

pub linked_exactly : (n : ℕ) (link : ℕ → ℕ) → (linked_test n link ≡ true) ↔ Linked n link
linked_exactly n link = simp tests Iff.rfl

-- A test t of the place that link l names, passed where it names none.
named_exactly : (l : ℕ) (t : ℕ → Bool) → (pick (l == 0) true (t (pred l)) ≡ true) ↔ ((p : ℕ) → l ≡ suc p → t p ≡ true)
named_exactly l t =
    let some = some_exactly l (t (pred l)) in (
      λ h p e. let this : pred l ≡ p = omega arith in rw this at (some.0 h (omega arith)),
      λ f. some.1 (λ u. f (pred l) (omega arith)),
    )

pub has_list_exactly : (n : ℕ) (link state : ℕ → ℕ) → (parent_has_list_test n link state ≡ true) ↔ ParentHasList n link state
has_list_exactly n link state =
    let named : (k : ℕ) → _ = λ k. named_exactly (link k) (λ p. nat_eq (has_list (state p)) 1) in
    simp (all_exactly, named, eqb_exactly) Iff.rfl

pub short_exactly : (n : ℕ) (link : ℕ → ℕ) → (short_test n link ≡ true) ↔ Short n link
short_exactly n link = simp tests Iff.rfl

-- Of two flags the first is at most the second exactly when the second is set wherever the first is.
flags_exactly : (a b : ℕ) → (revoked a ≤ revoked b) ↔ (revoked a ≡ 1 → revoked b ≡ 1)
flags_exactly a b = (λ h e. omega arith, λ f. by_cases (ℕ_discrete (revoked a) 1) (λ e. omega (arith, f e)) (λ e. omega arith))

pub cascaded_exactly : (n : ℕ) (link state : ℕ → ℕ) → (cascaded_test n link state ≡ true) ↔ Cascaded n link state
cascaded_exactly n link state =
    let named : (k : ℕ) → _ = λ k. named_exactly (link k) (λ p. nat_le (revoked (state p)) (revoked (state k))) in
    simp (all_exactly, named, leb_exactly, flags_exactly) Iff.rfl

pub held_exactly : (n : ℕ) (id state spaces : ℕ → ℕ) → (held_test n id state spaces ≡ true) ↔ Held n id state spaces
held_exactly n id state spaces = simp tests Iff.rfl
