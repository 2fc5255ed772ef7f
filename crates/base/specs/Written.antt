-- A list in a lent area. Document 01: lists go to a lent area, whose places past the list stay unchanged.
use Rattle.std.specs.Prelude.{◌≡◌, refl, List, ◌++◌, ℕ, ◌+◌, ◌<◌, ◌≤◌, length, get_or, set, take, drop}
use Rattle.std.proofs.Common.{ap, ◌∙◌, zero-add, add-one, arith, length-append, length-set, length-drop, drop_of_length-le, get_or-append-add, get_or-drop}
use Rattle.std.proofs.Math.ListN.{get_or-append}
use Rattle.std.proofs.Math.Seq.{sets-eq, take-append_seam, drop-append_seam}
use Rattle.std.proofs.lemmas.List.Edits.{sets}
use Rattle.base.specs.Rest.{drop_next}

unfoldable pub written : List ℕ → List ℕ → List ℕ
written xs area = xs ++ drop (length xs) area

module _ (xs area : List ℕ) where
  -- The area begins with the list, and its other places are as they were.
  pub take_written : take (length xs) (written xs area) ≡ xs
  unfolding written
  take_written = take-append_seam xs (drop (length xs) area)

  pub drop_written : drop (length xs) (written xs area) ≡ drop (length xs) area
  unfolding written
  drop_written = drop-append_seam xs (drop (length xs) area)

  pub written_in : (i : ℕ) → i < length xs → get_or (written xs area) i 0 ≡ get_or xs i 0
  unfolding written
  written_in i l = get_or-append xs (drop (length xs) area) 0 i l

  pub written_past : (i : ℕ) → get_or (written xs area) (length xs + i) 0 ≡ get_or area (length xs + i) 0
  unfolding written
  written_past i = get_or-append-add xs (drop (length xs) area) i 0 ∙ get_or-drop (length xs) area i 0

  module _ (fits : length xs ≤ length area) where
    pub length_written : length (written xs area) ≡ length area
    unfolding written
    length_written = simp (length-append, length-drop) (omega arith)

    -- Word after word from the front.
    pub written_sets : sets area 0 xs ≡ written xs area
    unfolding written
    written_sets = sets-eq xs area 0 (omega arith) ∙ ap (λ n. xs ++ drop n area) (zero-add (length xs))

-- ---- the turns of a loop that writes the words of xs, word after word

-- The words before j are written, and place i is next; with the others written too the area, area₀ as it was lent, becomes the answer.
pub record Writing (xs area₀ answer area : List ℕ) (i j : ℕ) : Type 0 where
  pub inside : j ≤ length xs
  pub same : length area ≡ length area₀
  pub left : sets area i (drop j xs) ≡ answer

pub write_starts : (xs area : List ℕ) → length xs ≤ length area → Writing xs area (written xs area) area 0 0
write_starts xs area fits = record { inside = omega arith; same = refl; left = written_sets xs area fits }

module _ (xs area₀ answer area : List ℕ) (i j : ℕ) (writing : Writing xs area₀ answer area i j) where
  pub write_goes : j < length xs → Writing xs area₀ answer (set area i (get_or xs j 0)) (i + 1) (j + 1)
  write_goes l = record {
    inside = omega arith;
    same = length-set area i (get_or xs j 0) ∙ writing.same;
    left = rw (add-one i) (rw (drop_next xs j l) at writing.left);
  }

  pub write_ends : length xs ≤ j → area ≡ answer
  write_ends u = rw (drop_of_length-le xs u) at writing.left

pub ruleset write_laws = (write_starts, write_goes, write_ends)
