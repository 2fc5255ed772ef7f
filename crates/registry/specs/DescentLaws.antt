-- Laws of the descent of place r: it has exactly the registered places under r, each once, r first and every other behind its parent.
use Rattle.std.specs.Prelude.{◌≡◌, ℕ, zero, suc, ◌+◌, ◌-◌, ◌<◌, ◌≤◌, ◌≢◌, ◌↔◌, List, [], ◌∷◌, ◌++◌, length, nat_eq, slice_index, slice_index_or, refl}
use Rattle.std.proofs.Common.{sym, ap, ◌∙◌, arith, lt-ltb, le-ltb, eqb-true, length-append}
use Rattle.std.proofs.Math.Decide.{ℕ_discrete, dec_lt}
use Rattle.std.proofs.Math.Logic.{by_cases}
use Rattle.std.proofs.lemmas.Bool.{eqb-false}
use Rattle.base.specs.Below.{first}
use Rattle.base.specs.Distinct.{Differ}
use Rattle.base.specs.FirstLaws.{first-le, first_passes, first_before}
use Rattle.base.specs.Members.{In, Once, append_left, append_right, append_each, in_left, in_right}
use Rattle.registry.specs.Words.{link_at}
use Rattle.registry.specs.Sound.{Linked}
use Rattle.registry.specs.Children.{child_places}
use Rattle.registry.specs.ChildrenLaws.{Sisters, child_places_exactly}
use Rattle.registry.specs.Without.{past, past_le, differ_without, left_out}
use Rattle.registry.specs.PlaceLists.{AllBelow}
use Rattle.registry.specs.Descent.{descended_from, descent}

-- Place k is r, or the parent of k is under r.
pub data Under (link : ℕ → ℕ) (r : ℕ) : ℕ → Type 0 where
  itself : Under link r r
  below : (k p : ℕ) → link k ≡ suc p → Under link r p → Under link r k

-- Of n numbers at most n differ.
differ_few : (n m : ℕ) (f : ℕ → ℕ) → Differ m f → ((j : ℕ) → j < m → f j < n) → m ≤ n
differ_few zero m f differ inside = by_cases (dec_lt 0 m) (λ some. absurd (omega (arith, inside 0 some))) (λ none. omega arith)
differ_few (suc n) m f differ inside =
    let k : ℕ = first (λ j. nat_eq (f j) n) m in
    by_cases (dec_lt k m)
    (λ l.
    let last : f k ≡ n = eqb-true (f k) n (first_passes (λ j. nat_eq (f j) n) m l) in
    let rest : ℕ → ℕ = λ j. f (past k j) in
    let gone = left_out k (m - 1) m (omega arith) l f rest (λ j u. refl) differ in
    let fewer = differ_few n (m - 1) rest (differ_without k (m - 1) m (omega arith) l f rest (λ j u. refl) differ)
    (λ j u.
    let other : rest j ≢ n = λ e. gone (j, (u, e ∙ sym last)) in
    omega (arith, inside (past k j) (omega (arith, past_le k j)))) in
    omega arith)
    (λ none.
    let fewer = differ_few n m f differ
    (λ j l.
    let other : f j ≢ n = eqb-false (f j) n (first_before (λ j. nat_eq (f j) n) m j (omega (arith, first-le (λ j. nat_eq (f j) n) m))) in
    omega (arith, inside j l)) in
    omega arith)

-- ---- the places found so far

-- The children of the first `at` places found are found; n places are registered.
pub record Descending (n : ℕ) (link : ℕ → ℕ) (r at : ℕ) (found : List ℕ) : Type 0 where
  pub some : 0 < length found
  pub start : slice_index_or found 0 0 ≡ r
  pub reached : at ≤ length found
  pub inside : (j : ℕ) → j < length found → (r ≤ slice_index found j) × (slice_index found j < n)
  pub parent : (j : ℕ) → j < length found → 0 < j → (i : ℕ) × (i < j) × (i < at) × (link (slice_index found j) ≡ suc (slice_index found i))
  pub once : Once found
  pub closed : (i : ℕ) → i < at → (k : ℕ) → k < n → link k ≡ suc (slice_index found i) → In found k

pub descending_starts : (n : ℕ) (link : ℕ → ℕ) (r : ℕ) → r < n → Descending n link r 0 (r ∷ [])
descending_starts n link r l = record {
  some = omega arith;
  start = refl;
  reached = omega arith;
  inside = λ j u. let here : j ≡ 0 = omega arith in rw here (omega arith);
  parent = λ j u v. absurd (omega arith);
  once = λ j u i v e. omega arith;
  closed = λ i u k v e. absurd (omega arith);
}

module _ (n : ℕ) (link : ℕ → ℕ) (r at : ℕ) (found : List ℕ) (descending : Descending n link r at found) where
  -- Of n places at most n are found.
  pub found_few : length found ≤ n
  found_few = differ_few n (length found) (λ j. slice_index found j) descending.once (λ j l. (descending.inside j l).1)

  module _ (linked : Linked n link) (more : at < length found) (ks : List ℕ) (sisters : Sisters link (slice_index found at) 0 n ks) where
    -- A child is not found before its parent's turn: no place is before r, and any other found place has its parent found.
    new : (j i : ℕ) → j < length ks → i < length found → slice_index found i ≢ slice_index ks j
    new j zero l u e =
        let (low, high, named) = sisters.each j l in
        omega (arith, descending.start, descending.inside at more, linked (slice_index ks j) (omega arith))
    new j (suc i) l u e =
        let (a, before, turn, named) = descending.parent (suc i) u (omega arith) in
        descending.once at more a turn (omega (arith, ap link e, (sisters.each j l).2))

    sisters_once : Once ks
    sisters_once j l i u e = omega (arith, sisters.ascending j l i u)

    was : (i : ℕ) → i < length found → slice_index (found ++ ks) i ≡ slice_index found i
    was = append_left found ks

    goes : Descending n link r (at + 1) (found ++ ks)
    goes = record {
      some = omega (arith, length-append found ks);
      start = was 0 descending.some ∙ descending.start;
      reached = omega (arith, length-append found ks);
      inside =
          append_each found ks (λ j k. (r ≤ k) × (k < n)) descending.inside
          (λ j l.
          let (low, high, named) = sisters.each j l in
          (omega (arith, descending.inside at more, linked (slice_index ks j) (omega arith)), omega arith));
      parent =
          append_each found ks (λ j k. 0 < j → (i : ℕ) × (i < j) × (i < at + 1) × (link k ≡ suc (slice_index (found ++ ks) i)))
          (λ j l later.
          let (i, before, turn, named) = descending.parent j l later in
          (i, before, omega arith, named ∙ ap suc (sym (was i (omega arith)))))
          (λ j l later. (at, omega arith, omega arith, (sisters.each j l).2 ∙ ap suc (sym (was at more))));
      once =
          append_each found ks (λ j k. (i : ℕ) → i < j → slice_index (found ++ ks) i ≢ k)
          (λ j l i u e. descending.once j l i u (sym (was i (omega arith)) ∙ e))
          (λ j l i u e.
          by_cases (dec_lt i (length found))
          (λ old. new j i l old (sym (was i old) ∙ e))
          (λ added.
          let a : ℕ = i - length found in
          let place : length found + a ≡ i = omega arith in
          sisters_once j l a (omega arith) (sym (append_right found ks a) ∙ ap (λ x. slice_index (found ++ ks) x) place ∙ e)));
      closed = λ i l k u e.
          by_cases (ℕ_discrete i at)
          (λ here. in_right found ks k (sisters.whole k (omega arith) (omega arith)
          (e ∙ ap suc (ap (λ x. slice_index (found ++ ks) x) here ∙ was at more))))
          (λ other. in_left found ks k (descending.closed i (omega arith) k u (e ∙ ap suc (was i (omega arith)))));
    }

module _ (places n : ℕ) (rg : List ℕ) (r : ℕ) (linked : Linked n (link_at places rg)) where
  abbrev link : ℕ → ℕ
  link = link_at places rg

  pub descending_goes : (at : ℕ) (found : List ℕ) → Descending n link r at found → at < length found
      → Descending n link r (at + 1) (found ++ child_places places (slice_index found at) n rg)
  descending_goes at found descending more =
      let p : ℕ = slice_index_or found at 0 in
      goes n link r at found descending linked more (child_places places p n rg) (child_places_exactly places p n rg)

  -- ---- all places found

  abbrev Whole : List ℕ → Type 0
  Whole found = Descending n link r (length found) found

  descends : (m at : ℕ) (found : List ℕ) → m + at ≡ n → Descending n link r at found → Whole (descended_from places n rg m at found)
  unfolding descended_from
  descends zero at found e descending =
      let end : at ≡ length found = omega (arith, descending.reached, found_few n link r at found descending) in
      rw end at descending
  descends (suc m) at found e descending =
      by_cases (dec_lt at (length found))
      (λ more.
      rw (lt-ltb at (length found) more)
      (descends m (at + 1) (found ++ child_places places (slice_index found at) n rg) (omega arith)
      (descending_goes at found descending more)))
      (λ none.
      let end : at ≡ length found = omega (arith, descending.reached) in
      rw (le-ltb at (length found) (omega arith)) (rw end at descending))

  module _ (inside : r < n) where
    abbrev found : List ℕ
    found = descent places n rg r

    whole : Whole found
    unfolding descent
    whole = descends n 0 (r ∷ []) (omega arith) (descending_starts n link r inside)

    pub descent_below : AllBelow n found
    descent_below = record { below = λ j l. (whole.inside j l).1 }

    pub descent_once : Once found
    descent_once = whole.once

    pub descent_first : (0 < length found) × (slice_index found 0 ≡ r)
    descent_first = (whole.some, whole.start)

    pub descent_parents_first : (j : ℕ) → 0 < j → j < length found
        → (i : ℕ) × (i < j) × (link (slice_index found j) ≡ suc (slice_index found i))
    descent_parents_first j later l = let (i, before, turn, named) = whole.parent j l later in (i, before, named)

    found_under : (m j : ℕ) → j < m → j < length found → Under link r (slice_index found j)
    found_under zero j few l = absurd (omega arith)
    found_under (suc m) j few l =
        by_cases (dec_lt 0 j)
        (λ later.
        let (i, before, named) = descent_parents_first j later l in
        below (slice_index found j) (slice_index found i) named (found_under m i (omega arith) (omega arith)))
        (λ here.
        let start : slice_index_or found j 0 ≡ r = ap (λ x. slice_index found x) (omega arith) ∙ whole.start in
        rw start itself)

    under_found : {k : ℕ} → Under link r k → k < n → In found k
    under_found itself l = (0, (whole.some, whole.start))
    under_found (below k p named under) l =
        let (j, (u, e)) = under_found under (omega (arith, linked k l)) in
        whole.closed j u k l (named ∙ ap suc (sym e))

    pub descent_exactly : (k : ℕ) → In found k ↔ ((k < n) × Under link r k)
    descent_exactly k = (
      λ (j, (l, e)). (omega (arith, descent_below.below j l), rw e at (found_under (suc j) j (omega arith) l)),
      λ (l, under). under_found under l,
    )
