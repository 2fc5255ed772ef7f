-- Those words of a list that pass a test, in order: which they are, and the turns of a loop that brings them to the front.
use Rattle.std.specs.Prelude.{◌≡◌, ◌↔◌, Bool, true, false, get_or, set, take, drop, List, [], ◌∷◌, ◌++◌, ℕ, ◌+◌, ◌-◌, ◌<◌, ◌≤◌, length, refl}
use Rattle.std.proofs.Common.{ap₂, ◌∙◌, inl, inr, ⊎_elim, true≢false, add-one, arith, drop_of_length-le, length-take-le, get_or-take, get_or-drop, append_assoc, append-nil, length-set, sym, ap, drop-drop, drop-set-lt, take-suc-set}
use Rattle.base.specs.Choose.{pick}
use Rattle.base.specs.Rest.{drop_next}
use Rattle.base.specs.Members.{In, Once, in_cons, once_with, once_later, once_first}

unfoldable pub sifted : (ℕ → Bool) → List ℕ → List ℕ
sifted p [] = []
sifted p (x ∷ xs) = let later = sifted p xs in pick (p x) (x ∷ later) later

module _ (p : ℕ → Bool) where
  -- They are the words that pass.
  pub sifted_exactly : (xs : List ℕ) (y : ℕ) → In (sifted p xs) y ↔ (In xs y × (p y ≡ true))
  unfolding sifted
  sifted_exactly [] y = (λ (j, (l, e)). absurd (omega arith), λ ((j, (l, e)), _). absurd (omega arith))
  sifted_exactly (x ∷ xs) y = go (p x) refl (sifted_exactly xs y)
    where
      later : List ℕ
      later = sifted p xs

      go : (b : Bool) → p x ≡ b → In later y ↔ (In xs y × (p y ≡ true)) → In (pick b (x ∷ later) later) y ↔ (In (x ∷ xs) y × (p y ≡ true))
      go true e ih = (
        λ found.
            ⊎_elim
            (λ here. ((in_cons x xs y).1 (inl here), ap p (sym here) ∙ e))
            (λ rest. let (old, passes) = ih.0 rest in ((in_cons x xs y).1 (inr old), passes))
            ((in_cons x later y).0 found),
        λ (found, passes). (in_cons x later y).1 (⊎_elim inl (λ old. inr (ih.1 (old, passes))) ((in_cons x xs y).0 found)),
      )
      go false e ih = (
        λ found. let (old, passes) = ih.0 found in ((in_cons x xs y).1 (inr old), passes),
        λ (found, passes).
            ⊎_elim
            (λ here. absurd (true≢false (sym passes ∙ ap p (sym here) ∙ e)))
            (λ old. ih.1 (old, passes))
            ((in_cons x xs y).0 found),
      )

  pub sifted_once : (xs : List ℕ) → Once xs → Once (sifted p xs)
  unfolding sifted
  sifted_once [] once = once
  sifted_once (x ∷ xs) once = go (p x) (sifted_once xs (once_later x xs once))
    where
      later : List ℕ
      later = sifted p xs

      go : (b : Bool) → Once later → Once (pick b (x ∷ later) later)
      go true rest = once_with x later rest (λ found. once_first x xs once ((sifted_exactly xs x).0 found).0)
      go false rest = rest

-- They go by the test's answers alone.
pub sifted_ext : (p q : ℕ → Bool) → ((x : ℕ) → p x ≡ q x) → (xs : List ℕ) → sifted p xs ≡ sifted q xs
unfolding sifted
sifted_ext p q same [] = refl
sifted_ext p q same (x ∷ xs) = ap₂ (λ b later. pick b (x ∷ later) later) (same x) (sifted_ext p q same xs)

-- ---- the turns of a loop that goes through the first `count` words and writes those that pass to the front

-- The words before j are gone through, and `kept` of them kept; xs₀ is the list as it was lent.
pub record Sifting (p : ℕ → Bool) (xs₀ : List ℕ) (count : ℕ) (xs : List ℕ) (kept j : ℕ) : Type 0 where
  pub fits : count ≤ length xs₀
  pub inside : j ≤ count
  pub front : kept ≤ j
  pub same : length xs ≡ length xs₀
  pub untouched : drop kept xs ≡ drop kept xs₀
  pub answer : take kept xs ++ sifted p (drop j (take count xs₀)) ≡ sifted p (take count xs₀)

pub sift_starts : (p : ℕ → Bool) (xs : List ℕ) (count : ℕ) → count ≤ length xs → Sifting p xs count xs 0 0
sift_starts p xs count fits =
    record { fits = fits; inside = omega arith; front = omega arith; same = refl; untouched = refl; answer = refl }

module _ (p : ℕ → Bool) (xs₀ : List ℕ) (count : ℕ) (xs : List ℕ) (kept j : ℕ) (sifting : Sifting p xs₀ count xs kept j) where
  pub sift_few : kept ≤ count
  sift_few = omega (arith, sifting.inside, sifting.front)

  pub sift_ends : count ≤ j → take kept xs ≡ sifted p (take count xs₀)
  unfolding sifted
  sift_ends u =
      let none : length (take count xs₀) ≤ j = rw (length-take-le count xs₀ sifting.fits) u in
      rw (drop_of_length-le (take count xs₀) none, append-nil) at sifting.answer

  module _ (l : j < count) where
    pub sift_room : kept < length xs
    sift_room = omega (arith, sifting.fits, sifting.front, sifting.same)

    -- The word at j has not been touched yet.
    pub sift_here : get_or xs j 0 ≡ get_or xs₀ j 0
    sift_here =
        let place : kept + (j - kept) ≡ j = omega (arith, sifting.front) in
        rw place at
        (sym (get_or-drop kept xs (j - kept) 0) ∙ ap (λ ys. get_or ys (j - kept) 0) sifting.untouched ∙ get_or-drop kept xs₀ (j - kept) 0)

    next : drop j (take count xs₀) ≡ get_or xs j 0 ∷ drop (j + 1) (take count xs₀)
    next =
        let more : j < length (take count xs₀) = rw (length-take-le count xs₀ sifting.fits) l in
        rw (sift_here, ← get_or-take count xs₀ j 0 l) (drop_next (take count xs₀) j more)

    pub sift_passes : p (get_or xs j 0) ≡ false → Sifting p xs₀ count xs kept (j + 1)
    unfolding sifted
    sift_passes no' = record {
      fits = sifting.fits;
      inside = omega arith;
      front = omega (arith, sifting.front);
      same = sifting.same;
      untouched = sifting.untouched;
      answer = rw no' at (rw next at sifting.answer);
    }

    pub sift_keeps : p (get_or xs j 0) ≡ true → Sifting p xs₀ count (set xs kept (get_or xs j 0)) (kept + 1) (j + 1)
    unfolding sifted
    sift_keeps yes' = record {
      fits = sifting.fits;
      inside = omega arith;
      front = omega (arith, sifting.front);
      same = length-set xs kept (get_or xs j 0) ∙ sifting.same;
      untouched =
          drop-set-lt (kept + 1) xs kept (get_or xs j 0) (omega arith)
          ∙ sym (drop-drop 1 kept xs)
          ∙ ap (drop 1) sifting.untouched
          ∙ drop-drop 1 kept xs₀;
      answer =
          rw (add-one kept, take-suc-set xs kept (get_or xs j 0) sift_room, append_assoc)
          (rw yes' at (rw next at sifting.answer));
    }
