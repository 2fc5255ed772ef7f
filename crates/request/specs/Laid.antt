-- Bytes written at a place of a list: those that stood there are gone, all others stay.
use Rattle.std.specs.Prelude.{◌≡◌, List, [], ◌++◌, ℕ, ◌+◌, ◌≤◌, length, take, drop}
use Rattle.std.proofs.Common.{sym, ap, ◌∙◌, append_assoc, add_assoc, add-zero, zero-add, arith, length-append, length-drop, take-append-drop, length-take-le, take_at, drop_at, drop-drop}
use Rattle.base.specs.Written.{written}

-- xs at place `at` of the list before makes the list after, and end is the place behind.
pub record Laid (at : ℕ) (xs before after : List ℕ) (end : ℕ) : Type 0 where
  pub list : after ≡ take at before ++ (xs ++ drop (at + length xs) before)
  pub place : end ≡ at + length xs

module _ (at : ℕ) (xs before after : List ℕ) (end : ℕ) (laid : Laid at xs before after end) where
  -- Two lists one behind the other are written as their joint list.
  pub laid_laid : (ys last : List ℕ) (e : ℕ) → Laid end ys after last e → at ≤ length before → Laid at (xs ++ ys) before last e
  laid_laid ys last e next fits =
      let front : List ℕ = take at before ++ xs in
      let rest : List ℕ = drop (at + length xs) before in
      let joint : after ≡ front ++ rest = laid.list ∙ sym (append_assoc (take at before) xs rest) in
      let seam : length front ≡ end = simp (length-append, length-take-le at before fits) (sym laid.place) in
      let behind : drop (end + length ys) (front ++ rest) ≡ drop (at + length (xs ++ ys)) before =
      rw (← drop-drop (length ys) end (front ++ rest), drop_at front rest end seam, drop-drop, length-append, add_assoc) in
      record {
        list = next.list ∙ rw (joint, take_at front rest end seam, behind) (simp append_assoc);
        place = simp length-append (omega (arith, laid.place, next.place));
      }

  -- As long as before, where they fit.
  pub length_laid : end ≤ length before → length after ≡ length before
  length_laid fits =
      let inside : at + length xs ≤ length before = omega (arith, laid.place) in
      rw laid.list (simp (length-append, length-drop, length-take-le at before (omega arith)) (omega arith))

-- No bytes are laid where nothing is written.
pub laid_none : (at : ℕ) (lines : List ℕ) → Laid at [] lines lines at
laid_none at lines = record { list = rw add-zero (sym (take-append-drop at lines)); place = sym (add-zero at) }

-- Bytes at the front.
pub laid_front : (xs before after : List ℕ) (end : ℕ) → Laid 0 xs before after end → after ≡ written xs before
unfolding written
laid_front xs before after end laid = laid.list ∙ ap (λ n. xs ++ drop n before) (zero-add (length xs))

-- Equal bytes are laid alike, whatever follows them.
pub laid_same :
    (at : ℕ) (xs ys zs before after : List ℕ) (end : ℕ)
    → xs ≡ ys
    → Laid at (xs ++ zs) before after end
    → Laid at (ys ++ zs) before after end
laid_same at xs ys zs before after end e laid = rw e at laid
