-- Words moved by one place, a word at a time: what a loop that moves them has left to do.
use Rattle.std.specs.Prelude.{◌≡◌, refl, List, [], ◌∷◌, ◌++◌, ℕ, ◌+◌, ◌-◌, ◌<◌, ◌≤◌, length, set, take, drop, get_or}
use Rattle.std.proofs.Common.{sym, ◌∙◌, append_assoc, add-one, arith, take-append-drop, drop_of_length-le, length-take-le, take-suc, take-suc-set, drop_at, drop-set-lt, length-take, get_or-take}
use Rattle.std.proofs.Math.Seq.{take-set-lt}
use Rattle.std.proofs.lemmas.List.{set_split, drop-append-le, take-set-le}
use Rattle.base.specs.Rest.{drop_next}
use Rattle.base.specs.Shift.{moved, shifted_down, shifted_up}

moved_none : (to from end : ℕ) (xs : List ℕ) → end ≤ from → moved to from end xs ≡ xs
unfolding moved
moved_none to from end xs l =
    let empty : length (take end xs) ≤ from = rw length-take (omega arith) in
    let place : to + (end - from) ≡ to = omega arith in
    rw (drop_of_length-le (take end xs) empty, place, take-append-drop)

-- Down, the first word goes first.
moved_first : (to from end v : ℕ) (xs : List ℕ) → v ≡ get_or xs from 0 → to ≤ from → from < end → end ≤ length xs
    → moved (to + 1) (from + 1) end (set xs to v) ≡ moved to from end xs
unfolding moved
moved_first to from end v xs h l m fits =
    let more : from < length (take end xs) = rw length-take (omega arith) in
    let done : take (to + 1) (set xs to v) ≡ take to xs ++ (v ∷ []) = rw add-one (take-suc-set xs to v (omega arith)) in
    let next : drop from (take end xs) ≡ v ∷ drop (from + 1) (take end xs) = rw (drop_next (take end xs) from more, get_or-take, h) in
    let place : to + 1 + (end - (from + 1)) ≡ to + (end - from) = omega arith in
    rw (
      done,
      place,
      take-set-lt end xs to v (omega arith),
      drop-set-lt (from + 1) (take end xs) to v (omega arith),
      drop-set-lt (to + (end - from)) xs to v (omega arith),
      next,
      append_assoc,
    )

-- Up, the last.
moved_last : (to from end v : ℕ) (xs : List ℕ) → v ≡ get_or xs end 0 → from ≤ to → from ≤ end → to + (end - from) < length xs
    → moved to from end (set xs (to + (end - from)) v) ≡ moved to from (end + 1) xs
unfolding moved
moved_last to from end v xs h l m fits =
    let n : ℕ = to + (end - from) in
    let front : length (take n xs) ≡ n = length-take-le n xs (omega arith) in
    let here : drop n (set xs n v) ≡ v ∷ drop (n + 1) xs = rw (add-one, set_split xs n v fits, drop_at (take n xs)) in
    let under : from ≤ length (take end xs) = rw length-take (omega arith) in
    let more : drop from (take (end + 1) xs) ≡ drop from (take end xs) ++ (v ∷ []) =
    rw (add-one, take-suc xs end 0 (omega arith), drop-append-le, h) in
    let place : to + (end + 1 - from) ≡ n + 1 = omega arith in
    rw (take-set-le to xs n v (omega arith), take-set-le end xs n v (omega arith), here, more, place, append_assoc)

-- ---- the turns of the two loops: what is left to shift, shifted, is the answer ys, and the list keeps its length n

pub shift_down_turn : (i end n : ℕ) (xs ys : List ℕ) → shifted_down i end xs ≡ ys → length xs ≡ n → end ≤ n → i + 1 < end
    → shifted_down (i + 1) end (set xs i (get_or xs (i + 1) 0)) ≡ ys
unfolding shifted_down
shift_down_turn i end n xs ys e w fits l = moved_first i (i + 1) end (get_or xs (i + 1) 0) xs refl (omega arith) l (omega arith) ∙ e

pub shift_down_done : (i end : ℕ) (xs ys : List ℕ) → shifted_down i end xs ≡ ys → end ≤ i + 1 → xs ≡ ys
unfolding shifted_down
shift_down_done i end xs ys e l = sym (moved_none i (i + 1) end xs l) ∙ e

pub shift_up_turn : (at i n : ℕ) (xs ys : List ℕ) → shifted_up at i xs ≡ ys → length xs ≡ n → i < n → at < i
    → shifted_up at (i - 1) (set xs i (get_or xs (i - 1) 0)) ≡ ys
unfolding shifted_up
shift_up_turn at i n xs ys e w fits l =
    let place : at + 1 + (i - 1 - at) ≡ i = omega arith in
    let next : i - 1 + 1 ≡ i = omega arith in
    rw (place, next) at (moved_last (at + 1) at (i - 1) (get_or xs (i - 1) 0) xs refl (omega arith) (omega arith) (omega arith)) ∙ e

pub shift_up_done : (at i : ℕ) (xs ys : List ℕ) → shifted_up at i xs ≡ ys → i ≤ at → xs ≡ ys
unfolding shifted_up
shift_up_done at i xs ys e l = sym (moved_none (at + 1) at i xs l) ∙ e
