-- Words moved by one place: down, over the word at `at`, or up, to make room there.
use Rattle.std.specs.Prelude.{◌≡◌, refl, List, [], ◌∷◌, ◌++◌, ℕ, ◌+◌, ◌-◌, ◌<◌, ◌≤◌, length, take, drop, get_or}
use Rattle.std.proofs.Common.{sym, ◌∙◌, append_assoc, arith, length-append, length-drop, length-take-le, get_or-append-add, ap, length-take, get_or-take, get_or-drop}
use Rattle.std.proofs.Math.ListN.{get_or-append}
use Rattle.std.proofs.lemmas.List.{drop-take}
use Rattle.std.specs.List.{copy_within}

-- The words from place `from` up to `end` stand from place `to` on; every other place is as it was.
unfoldable pub moved : ℕ → ℕ → ℕ → List ℕ → List ℕ
moved to from end xs = take to xs ++ (drop from (take end xs) ++ drop (to + (end - from)) xs)

-- The word at `at` is gone: each place from there to end - 2 has its successor's word, and place end - 1 keeps its own.
unfoldable pub shifted_down : ℕ → ℕ → List ℕ → List ℕ
shifted_down at end xs = moved at (at + 1) end xs

shifted_down_example : shifted_down 1 4 (1 ∷ 2 ∷ 3 ∷ 4 ∷ 5 ∷ []) ≡ 1 ∷ 3 ∷ 4 ∷ 4 ∷ 5 ∷ []
unfolding shifted_down moved
shifted_down_example = refl

-- There is room at `at`, which keeps its word: each place from at + 1 to `end` has its predecessor's.
unfoldable pub shifted_up : ℕ → ℕ → List ℕ → List ℕ
shifted_up at end xs = moved (at + 1) at end xs

shifted_up_example : shifted_up 1 3 (1 ∷ 2 ∷ 3 ∷ 4 ∷ 5 ∷ []) ≡ 1 ∷ 2 ∷ 2 ∷ 3 ∷ 5 ∷ []
unfolding shifted_up moved
shifted_up_example = refl

-- ---- what stands where

in_first : (p r : List ℕ) (n i : ℕ) → length p ≡ n → i < n → get_or (p ++ r) i 0 ≡ get_or p i 0
in_first p r n i e l = get_or-append p r 0 i (rw e l)

in_second : (p r : List ℕ) (n i j : ℕ) → length p ≡ n → n + j ≡ i → get_or (p ++ r) i 0 ≡ get_or r j 0
in_second p r n i j e w = rw (← w, ← e, get_or-append-add)

module _ (to from end : ℕ) (xs : List ℕ) (ordered : from ≤ end) (fits : end ≤ length xs) (room : to + (end - from) ≤ length xs) where
  head : length (take to xs) ≡ to
  head = length-take-le to xs (omega arith)

  middle : length (drop from (take end xs)) ≡ end - from
  middle = simp (length-take, length-drop) (omega arith)

  pub length_moved : length (moved to from end xs) ≡ length xs
  unfolding moved
  length_moved = simp (length-append, length-take, length-drop) (omega arith)

  pub moved_before : (i : ℕ) → i < to → get_or (moved to from end xs) i 0 ≡ get_or xs i 0
  unfolding moved
  moved_before i l = rw (in_first (take to xs), head, get_or-take)

  pub moved_inside : (i j : ℕ) → to ≤ i → i + from ≡ j + to → j < end → get_or (moved to from end xs) i 0 ≡ get_or xs j 0
  unfolding moved
  moved_inside i j l w u =
      in_second (take to xs) _ to i (i - to) head (omega arith)
      ∙ in_first (drop from (take end xs)) _ (end - from) (i - to) middle (omega arith)
      ∙ get_or-drop from (take end xs) (i - to) 0
      ∙ get_or-take end xs (from + (i - to)) 0 (omega arith)
      ∙ ap (λ n. get_or xs n 0) (omega arith)

  pub moved_after : (i : ℕ) → to + (end - from) ≤ i → get_or (moved to from end xs) i 0 ≡ get_or xs i 0
  unfolding moved
  moved_after i l =
      in_second (take to xs) _ to i (i - to) head (omega arith)
      ∙ in_second (drop from (take end xs)) _ (end - from) (i - to) (i - (to + (end - from))) middle (omega arith)
      ∙ get_or-drop (to + (end - from)) xs (i - (to + (end - from))) 0
      ∙ ap (λ n. get_or xs n 0) (omega arith)

module _ (at end : ℕ) (xs : List ℕ) (ordered : at < end) (fits : end ≤ length xs) where
  pub length-shifted_down : length (shifted_down at end xs) ≡ length xs
  unfolding shifted_down
  length-shifted_down = length_moved at (at + 1) end xs (omega arith) fits (omega arith)

  pub shifted_down_before : (i : ℕ) → i < at → get_or (shifted_down at end xs) i 0 ≡ get_or xs i 0
  unfolding shifted_down
  shifted_down_before i l = moved_before at (at + 1) end xs (omega arith) fits (omega arith) i l

  pub shifted_down_in : (i : ℕ) → at ≤ i → i + 1 < end → get_or (shifted_down at end xs) i 0 ≡ get_or xs (i + 1) 0
  unfolding shifted_down
  shifted_down_in i l u = moved_inside at (at + 1) end xs (omega arith) fits (omega arith) i (i + 1) l (omega arith) u

  pub shifted_down_after : (i : ℕ) → end ≤ i + 1 → get_or (shifted_down at end xs) i 0 ≡ get_or xs i 0
  unfolding shifted_down
  shifted_down_after i l = moved_after at (at + 1) end xs (omega arith) fits (omega arith) i (omega arith)

module _ (at end : ℕ) (xs : List ℕ) (ordered : at ≤ end) (fits : end < length xs) where
  pub length-shifted_up : length (shifted_up at end xs) ≡ length xs
  unfolding shifted_up
  length-shifted_up = length_moved (at + 1) at end xs ordered (omega arith) (omega arith)

  pub shifted_up_before : (i : ℕ) → i ≤ at → get_or (shifted_up at end xs) i 0 ≡ get_or xs i 0
  unfolding shifted_up
  shifted_up_before i l = moved_before (at + 1) at end xs ordered (omega arith) (omega arith) i (omega arith)

  pub shifted_up_in : (i : ℕ) → at ≤ i → i < end → get_or (shifted_up at end xs) (i + 1) 0 ≡ get_or xs i 0
  unfolding shifted_up
  shifted_up_in i l u = moved_inside (at + 1) at end xs ordered (omega arith) (omega arith) (i + 1) i (omega arith) (omega arith) u

-- ---- what std's `copy_within` leaves

copied : (to from end : ℕ) (xs : List ℕ) → from ≤ end → copy_within xs from end to ≡ moved to from end xs
unfolding moved
copied to from end xs l =
    let ends : from + (end - from) ≡ end = omega arith in
    let e : take (end - from) (drop from xs) ≡ drop from (take end xs) = rw ends at (sym (drop-take from (end - from) xs)) in
    append_assoc (take to xs) (take (end - from) (drop from xs)) (drop (to + (end - from)) xs)
    ∙ ap (λ m. take to xs ++ (m ++ drop (to + (end - from)) xs)) e

pub copied_down : (at end : ℕ) (xs : List ℕ) → at < end → copy_within xs (at + 1) end at ≡ shifted_down at end xs
unfolding shifted_down
copied_down at end xs l = copied at (at + 1) end xs (omega arith)

pub copied_up : (at end : ℕ) (xs : List ℕ) → at ≤ end → copy_within xs at end (at + 1) ≡ shifted_up at end xs
unfolding shifted_up
copied_up at end xs l = copied (at + 1) at end xs l

pub ruleset shift_laws = (copied_down, copied_up)
