-- Counts by place, in a list of counters: of the children of each place, and of the entries of each place's id.
use Rattle.std.specs.Prelude.{◌≡◌, ℕ, zero, suc, ◌+◌, ◌<◌, ◌≤◌, true, false, List, length, replicate, ◌==◌, nat_eq, nat_le, slice_index, slice_index_or, slice_set, refl, Option, Some, None}
use Rattle.std.proofs.Common.{sym, ap, ◌∙◌, add-zero, le_antisymm, arith, le-leb, eqb-true, eq-eqb, ne_eqb, length-set, get_or-set_same, get_or-set_other}
use Rattle.std.proofs.Math.Dec.{eqb-suc-suc}
use Rattle.std.proofs.Math.Decide.{ℕ_discrete, dec_lt}
use Rattle.std.proofs.Math.Logic.{by_cases}
use Rattle.std.proofs.Math.Seq.{set_out}
use Rattle.std.proofs.lemmas.Bool.{lt-leb}
use Rattle.base.specs.Below.{one}
use Rattle.base.specs.AllLaws.{all_make, all_broken}
use Rattle.base.specs.SumLaws.{sum-zero, sum_more, sum_grows, one_le}
use Rattle.base.specs.Distinct.{all_different}
use Rattle.base.specs.Exactly.{same_test}
use Rattle.base.specs.Compacted.{fold, fold_ext}
use Rattle.base.specs.Place.{place_of, place_holds, place_is}
use Rattle.registry.specs.Words.{child_of, children}
use Rattle.registry.specs.Sound.{short_test}

zeros_at : (n k : ℕ) → slice_index (replicate n 0) k ≡ zero
zeros_at zero k = refl
zeros_at (suc n) zero = refl
zeros_at (suc n) (suc k) = zeros_at n k

-- One more at place p.
abbrev pub add_one : ℕ → List ℕ → List ℕ
add_one p counts = slice_set counts p (slice_index counts p + 1)

pub add_one_at : (p q : ℕ) (counts : List ℕ) → p < length counts → slice_index (add_one p counts) q ≡ slice_index counts q + one (p == q)
add_one_at p q counts inside =
    by_cases (ℕ_discrete p q)
    (λ same. rw (eq-eqb p q same, ← same) (get_or-set_same counts p (slice_index counts p + 1) 0 inside))
    (λ other. rw (ne_eqb p q other, add-zero) (get_or-set_other counts p q (slice_index counts p + 1) 0 (λ e. other (sym e))))

-- ---- children

-- The children among the first k places are counted, and no count is over 1,024.
pub record Counted (link : ℕ → ℕ) (k : ℕ) (counts : List ℕ) : Type 0 where
  pub count : (p : ℕ) → p < length counts → slice_index counts p ≡ children link k p
  pub short : (p : ℕ) → p < length counts → slice_index counts p ≤ 1024

pub counted_none : (link : ℕ → ℕ) (n : ℕ) → Counted link 0 (replicate n 0)
unfolding children
counted_none link n =
    record {
      count = λ p l. zeros_at n p ∙ sym (sum-zero (λ k. one (child_of link p k)));
      short = λ p l. omega (arith, zeros_at n p);
    }

pub children_more : (link : ℕ → ℕ) (k p : ℕ) → children link (k + 1) p ≡ children link k p + one (child_of link p k)
unfolding children
children_more link k p = sum_more (λ k. one (child_of link p k)) k

children_grow : (link : ℕ → ℕ) (k n p : ℕ) → k ≤ n → children link k p ≤ children link n p
unfolding children
children_grow link k n p l = sum_grows (λ k. one (child_of link p k)) k n l

module _ (link : ℕ → ℕ) (k : ℕ) (counts : List ℕ) (counted : Counted link k counts) where
  -- Place k has no parent.
  pub counted_root : link k ≡ 0 → Counted link (k + 1) counts
  counted_root root = record {
    count = λ p l.
        let other : child_of link p k ≡ false = ne_eqb (link k) (suc p) (λ e. omega arith) in
        omega (arith, counted.count p l, children_more link k p, ap one other);
    short = counted.short;
  }

  module _ (p : ℕ) (child : link k ≡ suc p) (inside : p < length counts) where
    -- It is the child of its parent alone.
    one_child : (q : ℕ) → child_of link q k ≡ (p == q)
    one_child q = rw child (eqb-suc-suc p q)

    -- Its parent's list has room.
    pub counted_child : slice_index_or counts p 0 < 1024 → Counted link (k + 1) (add_one p counts)
    counted_child room = record {
      count = λ q l.
          add_one_at p q counts inside
          ∙ omega (arith, counted.count q (rw length-set at l), children_more link k q, ap one (one_child q));
      short = λ q l.
          by_cases (ℕ_discrete p q)
          (λ same. rw (← same) (omega (arith, add_one_at p p counts inside, one_le (p == p))))
          (λ other. omega (arith, add_one_at p q counts inside, ap one (ne_eqb p q other), counted.short q (rw length-set at l)));
    }

    -- Its parent's list is full already.
    pub counted_full : (n : ℕ) → link k ≤ k → k < n → 1024 ≤ slice_index counts p → false ≡ short_test n link
    counted_full n earlier l full =
        let long : 1024 < children link n p =
        omega (
          arith,
          counted.count p inside,
          children_more link k p,
          ap one (one_child p ∙ eq-eqb p p refl),
          children_grow link (k + 1) n p (omega arith),
        ) in
        all_broken p n (λ p. nat_le (children link n p) 1024) (omega arith) (lt-leb (children link n p) 1024 long)

pub counted_done : (link : ℕ → ℕ) (k n : ℕ) (counts : List ℕ) → Counted link k counts → k ≤ n → n ≤ k → n ≤ length counts
    → true ≡ short_test n link
counted_done link k n counts counted l u long =
    let all_counted : k ≡ n = le_antisymm l u in
    sym
    (all_make n (λ p. nat_le (children link n p) 1024)
    (λ p inside.
    le-leb (children link n p) 1024
    (rw (← all_counted, ← counted.count p (omega arith)) (counted.short p (omega arith)))))

-- ---- entries

-- One more entry of the id at this place; an entry of an id that is registered nowhere counts for none.
abbrev at_place : Option ℕ → List ℕ → List ℕ
at_place (Some k) counts = add_one k counts
at_place None counts = counts

unfoldable pub count_entry : List ℕ → ℕ → List ℕ → List ℕ
count_entry ids id counts = at_place (place_of ids id) counts

-- Where ids differ, the count of each place goes up exactly when the entry has its id.
pub entry_counted : (ids : List ℕ) (id : ℕ) (counts : List ℕ) (k : ℕ) → all_different ids ≡ true → length ids ≤ length counts
    → k < length ids
    → slice_index (count_entry ids id counts) k ≡ slice_index counts k + one (slice_index ids k == id)
unfolding count_entry
entry_counted ids id counts k different long inside = go (place_of ids id) refl
  where
    here : slice_index_or ids k 0 ≡ id → place_of ids id ≡ Some k
    here e = place_is ids id k different inside e

    go : (p : Option ℕ) → place_of ids id ≡ p → slice_index (at_place p counts) k ≡ slice_index counts k + one (slice_index ids k == id)
    go (Some p) e =
        let (l, held) = place_holds ids id p e in
        let only : (slice_index ids k ≡ id) → p ≡ k = λ h. let both_at : Some p ≡ Some k = sym e ∙ here h in cc in
        let same : nat_eq p k ≡ nat_eq (slice_index ids k) id =
        same_test (p == k) (slice_index ids k == id)
        (λ h. eq-eqb (slice_index ids k) id (rw (← eqb-true p k h) held), λ h. eq-eqb p k (only (eqb-true (slice_index ids k) id h))) in
        add_one_at p k counts (omega arith) ∙ ap (λ b. slice_index counts k + one b) same
    go None e =
        let none : nat_eq (slice_index ids k) id ≡ false =
        ne_eqb (slice_index ids k) id
        (λ h. let clash : Some k ≡ None = sym (here h) ∙ e in let z : ◌≡◌ {A = ℕ} 0 1 = cc in omega arith) in
        rw (none, add-zero)

pub length_counted : (ids : List ℕ) (id : ℕ) (counts : List ℕ) → length (count_entry ids id counts) ≡ length counts
unfolding count_entry
length_counted ids id counts = go (place_of ids id)
  where
    go : (p : Option ℕ) → length (at_place p counts) ≡ length counts
    go (Some k) = length-set counts k (slice_index counts k + 1)
    go None = refl

-- No counter is over e: after e entries, none is.
pub record AtMost (e : ℕ) (counts : List ℕ) : Type 0 where
  pub most : (k : ℕ) → slice_index counts k ≤ e

pub at_most_none : (n : ℕ) → AtMost 0 (replicate n 0)
at_most_none n = record { most = λ k. omega (arith, zeros_at n k) }

pub at_most_more : (e : ℕ) (ids : List ℕ) (id : ℕ) (counts : List ℕ) → AtMost e counts → AtMost (e + 1) (count_entry ids id counts)
unfolding count_entry
at_most_more e ids id counts few = record { most = λ k. go (place_of ids id) k }
  where
    go : (p : Option ℕ) (k : ℕ) → slice_index (at_place p counts) k ≤ e + 1
    go (Some p) k =
        by_cases (dec_lt p (length counts))
        (λ inside. omega (arith, add_one_at p k counts inside, one_le (p == k), few.most k))
        (λ outside. rw (set_out counts p (slice_index counts p + 1) (omega arith)) (omega (arith, few.most k)))
    go None k = omega (arith, few.most k)

-- An entry of each of the first n ids of a list.
unfoldable pub count_entries : List ℕ → List ℕ → ℕ → List ℕ → List ℕ
count_entries ids entries n counts = fold (λ j. count_entry ids (slice_index entries j)) n counts

-- It goes by those ids alone.
pub entries_ext :
    (ids xs ys : List ℕ) (n : ℕ) (counts : List ℕ) → ((k : ℕ) → k < n → slice_index xs k ≡ slice_index ys k)
    → count_entries ids xs n counts ≡ count_entries ids ys n counts
unfolding count_entries
entries_ext ids xs ys n counts e =
    fold_ext (λ j. count_entry ids (slice_index xs j)) (λ j. count_entry ids (slice_index ys j)) n counts
    (λ k l b. ap (λ id. count_entry ids id b) (e k l))

pub few_entries : (e : ℕ) (ids entries : List ℕ) (n : ℕ) (counts : List ℕ) → AtMost e counts
    → AtMost (e + n) (count_entries ids entries n counts)
unfolding count_entries fold
few_entries e ids entries zero counts few = record { most = λ k. omega (arith, few.most k) }
few_entries e ids entries (suc n) counts few =
    record {
      most = λ k. omega (
        arith,
        (at_most_more (e + n) ids (slice_index entries n) (count_entries ids entries n counts)
            (few_entries e ids entries n counts few)).most k,
      );
    }

pub length_entries : (ids entries : List ℕ) (n : ℕ) (counts : List ℕ) → length (count_entries ids entries n counts) ≡ length counts
unfolding count_entries fold
length_entries ids entries zero counts = refl
length_entries ids entries (suc n) counts =
    length_counted ids (slice_index entries n) (count_entries ids entries n counts) ∙ length_entries ids entries n counts
