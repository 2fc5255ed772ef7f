-- Laws of the lists of children: which places stand in one, in what order and how many; and of the ids at some places.
use Rattle.std.specs.Prelude.{◌≡◌, ℕ, zero, suc, ◌+◌, ◌<◌, ◌≤◌, Bool, true, false, ◌≢◌, List, [], ◌∷◌, length, slice_index, slice_index_or, refl}
use Rattle.std.proofs.Common.{sym, ap, ◌∙◌, inl, inr, add-zero, zero-add, arith, eqb-true}
use Rattle.std.proofs.Math.Decide.{ℕ_discrete}
use Rattle.std.proofs.Math.Logic.{by_cases}
use Rattle.std.proofs.lemmas.Bool.{eqb-false}
use Rattle.base.specs.Below.{one}
use Rattle.base.specs.Choose.{pick}
use Rattle.base.specs.Distinct.{Differ}
use Rattle.base.specs.Members.{In, Once, in_cons}
use Rattle.base.specs.SumLaws.{sum-zero, sum_more}
use Rattle.registry.specs.Words.{id_at, link_at, child_of, children}
use Rattle.registry.specs.Children.{child_places_from, child_places, ids_at, child_ids}
use Rattle.registry.specs.HoldersLaws.{place_is}
use Rattle.registry.specs.PlaceLists.{AllBelow}

-- ---- the children of a place

-- The list has the children of place p among the m places from k on, in ascending order.
pub record Sisters (link : ℕ → ℕ) (p k m : ℕ) (ks : List ℕ) : Type 0 where
  pub each : (j : ℕ) → j < length ks → (k ≤ slice_index ks j) × (slice_index ks j < k + m) × (link (slice_index ks j) ≡ suc p)
  pub ascending : (j : ℕ) → j < length ks → (i : ℕ) → i < j → slice_index ks i < slice_index ks j
  pub whole : (i : ℕ) → k ≤ i → i < k + m → link i ≡ suc p → In ks i

module _ (link : ℕ → ℕ) (p k m : ℕ) (later : List ℕ) (sisters : Sisters link p (k + 1) m later) where
  with_child : link k ≡ suc p → Sisters link p k (suc m) (k ∷ later)
  with_child named = record {
    each = λ j l. first_or_later j l;
    ascending = λ j l i u. ascends j l i u;
    whole = λ i l u e.
        by_cases (ℕ_discrete i k)
        (λ here. (in_cons k later i).1 (inl (sym here)))
        (λ other. (in_cons k later i).1 (inr (sisters.whole i (omega arith) (omega arith) e)));
  }
    where
      first_or_later : (j : ℕ) → j < suc (length later)
          → (k ≤ slice_index (k ∷ later) j) × (slice_index (k ∷ later) j < k + suc m) × (link (slice_index (k ∷ later) j) ≡ suc p)
      first_or_later zero l = (omega arith, omega arith, named)
      first_or_later (suc j) l = let is = sisters.each j (omega arith) in (omega arith, omega arith, is.2)

      ascends : (j : ℕ) → j < suc (length later) → (i : ℕ) → i < j → slice_index (k ∷ later) i < slice_index (k ∷ later) j
      ascends zero l i u = absurd (omega arith)
      ascends (suc j) l zero u = omega (arith, (sisters.each j (omega arith)).0)
      ascends (suc j) l (suc i) u = sisters.ascending j (omega arith) i (omega arith)

  with_other : link k ≢ suc p → Sisters link p k (suc m) later
  with_other other = record {
    each = λ j l. let is = sisters.each j l in (omega arith, omega arith, is.2);
    ascending = sisters.ascending;
    whole = λ i l u e.
        let apart : i ≢ k = λ here. other (ap link (sym here) ∙ e) in
        sisters.whole i (omega arith) (omega arith) e;
  }

sisters_from : (places p k m : ℕ) (rg : List ℕ) → Sisters (link_at places rg) p k m (child_places_from places p k m rg)
unfolding child_places_from
sisters_from places p k zero rg = record {
  each = λ j l. absurd (omega arith);
  ascending = λ j l i u. absurd (omega arith);
  whole = λ i l u e. absurd (omega arith);
}
sisters_from places p k (suc m) rg = go (child_of link p k) refl (sisters_from places p (k + 1) m rg)
  where
    link : ℕ → ℕ
    link = link_at places rg

    later : List ℕ
    later = child_places_from places p (k + 1) m rg

    go : (b : Bool) → child_of link p k ≡ b → Sisters link p (k + 1) m later → Sisters link p k (suc m) (pick b (k ∷ later) later)
    go true e sisters = with_child link p k m later sisters (eqb-true (link k) (suc p) e)
    go false e sisters = with_other link p k m later sisters (eqb-false (link k) (suc p) e)

pub child_places_exactly : (places p n : ℕ) (rg : List ℕ) → Sisters (link_at places rg) p 0 n (child_places places p n rg)
unfolding child_places
child_places_exactly places p n rg = sisters_from places p 0 n rg

-- ---- how many they are

-- The children among the k places before, and the m from k on.
child_places_from-length :
    (places p k m : ℕ) (rg : List ℕ)
    → children (link_at places rg) k p + length (child_places_from places p k m rg) ≡ children (link_at places rg) (k + m) p
unfolding child_places_from children
child_places_from-length places p k zero rg = simp add-zero
child_places_from-length places p k (suc m) rg =
    let later : List ℕ = child_places_from places p (k + 1) m rg in
    let place : k + 1 + m ≡ k + suc m = omega arith in
    omega (
      arith,
      child_places_from-length places p (k + 1) m rg,
      sum_more (λ j. one (child_of (link_at places rg) p j)) k,
      one_more (child_of (link_at places rg) p k) k later,
      ap (λ n. children (link_at places rg) n p) place,
    )
  where
    one_more : (b : Bool) (j : ℕ) (js : List ℕ) → length (pick b (j ∷ js) js) ≡ length js + one b
    one_more true j js = omega arith
    one_more false j js = omega arith

pub child_places-length : (places p n : ℕ) (rg : List ℕ) → length (child_places places p n rg) ≡ children (link_at places rg) n p
unfolding child_places children
child_places-length places p n rg =
    omega (
      arith,
      child_places_from-length places p 0 n rg,
      sum-zero (λ j. one (child_of (link_at places rg) p j)),
      ap (λ n. children (link_at places rg) n p) (zero-add n),
    )

-- ---- the ids at some places

pub ids_at-length : (rg ks : List ℕ) → length (ids_at rg ks) ≡ length ks
unfolding ids_at
ids_at-length rg [] = refl
ids_at-length rg (k ∷ ks) = ap suc (ids_at-length rg ks)

pub ids_at_each : (rg ks : List ℕ) (j : ℕ) → j < length ks → slice_index (ids_at rg ks) j ≡ id_at rg (slice_index ks j)
unfolding ids_at
ids_at_each rg [] j l = absurd (omega arith)
ids_at_each rg (k ∷ ks) zero l = refl
ids_at_each rg (k ∷ ks) (suc j) l = ids_at_each rg ks j (omega arith)

-- Where registered ids differ, so do those of places that differ.
pub ids_at_differ : (n : ℕ) (rg : List ℕ) → Differ n (id_at rg) → (ks : List ℕ) → AllBelow n ks → Once ks → Once (ids_at rg ks)
ids_at_differ n rg differ ks inside once j l i u e =
    let count : length (ids_at rg ks) ≡ length ks = ids_at-length rg ks in
    let l' : j < length ks = rw count at l in
    let a : ℕ = slice_index_or ks i 0 in
    let b : ℕ = slice_index_or ks j 0 in
    let same : id_at rg a ≡ id_at rg b = sym (ids_at_each rg ks i (omega arith)) ∙ e ∙ ids_at_each rg ks j l' in
    once j l' i u
    (sym (place_is n rg (id_at rg a) a differ (inside.below i (omega arith)) refl)
    ∙ place_is n rg (id_at rg a) b differ (inside.below j l') (sym same))

pub child_ids-length : (places p n : ℕ) (rg : List ℕ) → length (child_ids places p n rg) ≡ children (link_at places rg) n p
unfolding child_ids
child_ids-length places p n rg = ids_at-length rg (child_places places p n rg) ∙ child_places-length places p n rg
