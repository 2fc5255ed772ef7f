-- Where a word stands in a list.
use Rattle.std.specs.Prelude.{◌≡◌, refl, Bool, true, false, not, List, ℕ, zero, suc, ◌<◌, eqb, length, get_or, Option, Some, None}
use Rattle.std.proofs.Common.{sym, ap, ◌∙◌, arith, eqb-true, eq-eqb, ne_eqb}
use Rattle.base.specs.Below.{all, last}
use Rattle.base.specs.LastLaws.{last_le, last_passes, last_after, last_none}
use Rattle.base.specs.Distinct.{all_different, differ_exactly}

-- Place k holds the word.
abbrev pub holds : List ℕ → ℕ → ℕ → Bool
holds xs word k = eqb (get_or xs k 0) word

-- One more than the last place before j that holds the word, or 0 where none does.
unfoldable pub last_of : List ℕ → ℕ → ℕ → ℕ
last_of xs word j = last (holds xs word) j

abbrev placed : ℕ → Option ℕ
placed zero = None
placed (suc k) = Some k

-- The last place that holds the word.
unfoldable pub place_of : List ℕ → ℕ → Option ℕ
place_of xs word = placed (last_of xs word (length xs))

-- The word is there,
pub place_holds : (xs : List ℕ) (word k : ℕ) → place_of xs word ≡ Some k → (k < length xs) × (get_or xs k 0 ≡ word)
unfolding place_of last_of
place_holds xs word k e = go (last (holds xs word) (length xs)) refl e
  where
    go : (n : ℕ) → last (holds xs word) (length xs) ≡ n → placed n ≡ Some k → (k < length xs) × (get_or xs k 0 ≡ word)
    go zero u e = absurd (let z : ◌≡◌ {A = ℕ} 0 1 = cc in omega arith)
    go (suc m) u e =
        let this : last (holds xs word) (length xs) ≡ suc k = cc in
        (omega (arith, last_le (holds xs word) (length xs)), eqb-true _ _ (last_passes (holds xs word) (length xs) k this))

-- and where words differ it is at no other place.
pub place_is : (xs : List ℕ) (word k : ℕ) → all_different xs ≡ true → k < length xs → get_or xs k 0 ≡ word → place_of xs word ≡ Some k
unfolding place_of last_of
place_is xs word k different l e = go (last (holds xs word) (length xs)) refl (last_after (holds xs word) (length xs) k l (eq-eqb _ _ e))
  where
    go : (n : ℕ) → last (holds xs word) (length xs) ≡ n → k < n → placed n ≡ Some k
    go zero u below = absurd (omega arith)
    go (suc m) u below =
        let here : get_or xs m 0 ≡ word = eqb-true _ _ (last_passes (holds xs word) (length xs) m u) in
        let inside : m < length xs = omega (arith, last_le (holds xs word) (length xs)) in
        let apart : ¬ (k < m) = λ b. (differ_exactly (length xs) (λ i. get_or xs i 0)).0 different m inside k b (e ∙ sym here) in
        ap Some (omega arith)

-- That it stands nowhere is told from every place.
abbrev pub is_nowhere : Option ℕ → Bool
is_nowhere (Some k) = false
is_nowhere None = true

-- A word stands nowhere exactly where it is unlike the word at each place.
pub nowhere_test : (xs : List ℕ) (word : ℕ) → is_nowhere (place_of xs word) ≡ all (length xs) (λ k. not (holds xs word k))
unfolding place_of last_of
nowhere_test xs word = go (last (holds xs word) (length xs)) ∙ sym (last_none (holds xs word) (length xs))
  where
    go : (n : ℕ) → is_nowhere (placed n) ≡ eqb n 0
    go zero = refl
    go (suc n) = sym (ne_eqb (suc n) 0 (λ e. omega arith))
