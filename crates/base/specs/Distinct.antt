-- That no two of n values are equal: the values of a function at the places below n, and so the words of a list.
use Rattle.std.specs.Prelude.{◌≡◌, ◌↔◌, Bool, true, not, List, ℕ, ◌<◌, ◌≤◌, eqb, length, get_or, take}
use Rattle.std.proofs.Common.{arith, length-take-le, get_or-take}
use Rattle.std.proofs.Math.Logic.Iff
use Rattle.base.specs.Below.{all}
use Rattle.base.specs.AllLaws.{all_ext}
use Rattle.base.specs.Exactly.{tests}

-- No two of f 0, .., f (n - 1) are equal.
abbrev pub Differ : ℕ → (ℕ → ℕ) → Type 0
Differ n f = (j : ℕ) → j < n → (i : ℕ) → i < j → f i ≡ f j → ⊥

-- x is one of f 0, .., f (n - 1).
abbrev pub Among : ℕ → (ℕ → ℕ) → ℕ → Type 0
Among n f x = (k : ℕ) × ((k < n) × (f k ≡ x))

-- The value at j stands at no place before j.
unfoldable pub is_new : (ℕ → ℕ) → ℕ → Bool
is_new f j = all j (λ i. not (eqb (f i) (f j)))

-- Each value is new where it stands.
unfoldable pub differ_test : ℕ → (ℕ → ℕ) → Bool
differ_test n f = all n (is_new f)

pub differ_exactly : (n : ℕ) (f : ℕ → ℕ) → (differ_test n f ≡ true) ↔ Differ n f
unfolding differ_test is_new
differ_exactly n f = simp tests Iff.rfl

-- It goes by the values alone.
pub differ_ext : (n : ℕ) (f g : ℕ → ℕ) → ((k : ℕ) → k < n → f k ≡ g k) → differ_test n f ≡ differ_test n g
unfolding differ_test is_new
differ_ext n f g e =
    all_ext n (is_new f) (is_new g)
    (λ j l. all_ext j (λ i. not (eqb (f i) (f j))) (λ i. not (eqb (g i) (g j))) (λ i u. rw (e i (omega arith), e j l)))

-- No two words of a list are equal.
abbrev pub all_different : List ℕ → Bool
all_different xs = differ_test (length xs) (λ k. get_or xs k 0)

-- Of the first n words.
pub differ_take : (n : ℕ) (xs : List ℕ) → n ≤ length xs → all_different (take n xs) ≡ differ_test n (λ k. get_or xs k 0)
differ_take n xs fits =
    rw (length-take-le n xs fits) (differ_ext n (λ k. get_or (take n xs) k 0) (λ k. get_or xs k 0) (λ k l. get_or-take n xs k 0 l))
