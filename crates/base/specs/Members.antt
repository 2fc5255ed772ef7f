-- The words of a list: that one is in it, and that none stands in it twice; both by the first word; that a word of a part is in the whole.
use Rattle.std.specs.Prelude.{◌≡◌, ◌↔◌, ◌⊎◌, List, [], ◌∷◌, ◌++◌, ℕ, zero, suc, ◌+◌, ◌-◌, ◌<◌, length, get_or}
use Rattle.std.proofs.Common.{sym, ◌∙◌, inl, inr, ⊎_elim, arith, length-append, get_or-append-add}
use Rattle.std.proofs.Math.Decide.{dec_lt}
use Rattle.std.proofs.Math.ListN.{get_or-append}
use Rattle.std.proofs.Math.Logic.{by_cases}
use Rattle.base.specs.Distinct.{Differ, Among}

-- The word x is in the list.
abbrev pub In : List ℕ → ℕ → Type 0
In xs x = Among (length xs) (λ j. get_or xs j 0) x

-- No word stands in the list twice.
abbrev pub Once : List ℕ → Type 0
Once xs = Differ (length xs) (λ j. get_or xs j 0)

-- ---- by the first word

module _ (x : ℕ) (xs : List ℕ) where
  pub in_cons : (y : ℕ) → In (x ∷ xs) y ↔ ((x ≡ y) ⊎ In xs y)
  in_cons y = (
    λ (j, (l, e)). first_or_later j l e,
    ⊎_elim (λ e. (zero, (omega arith, e))) (λ (j, (l, e)). (suc j, (omega arith, e))),
  )
    where
      first_or_later : (j : ℕ) → j < suc (length xs) → get_or (x ∷ xs) j 0 ≡ y → (x ≡ y) ⊎ In xs y
      first_or_later zero l e = inl e
      first_or_later (suc j) l e = inr (j, (omega arith, e))

  pub once_with : Once xs → ¬ In xs x → Once (x ∷ xs)
  once_with once new zero l i u e = absurd (omega arith)
  once_with once new (suc j) l zero u e = new (j, (omega arith, sym e))
  once_with once new (suc j) l (suc i) u e = once j (omega arith) i (omega arith) e

  pub once_later : Once (x ∷ xs) → Once xs
  once_later once j l i u e = once (suc j) (omega arith) (suc i) (omega arith) e

  pub once_first : Once (x ∷ xs) → ¬ In xs x
  once_first once (j, (l, e)) = once (suc j) (omega arith) 0 (omega arith) (sym e)

pub in_one : (x y : ℕ) → In (x ∷ []) y ↔ (x ≡ y)
in_one x y = (
  λ found. ⊎_elim (λ e. e) (λ (j, (l, e)). absurd (omega arith)) ((in_cons x [] y).0 found),
  λ e. (in_cons x [] y).1 (inl e),
)

-- ---- by two parts

module _ (xs ys : List ℕ) where
  pub append_left : (j : ℕ) → j < length xs → get_or (xs ++ ys) j 0 ≡ get_or xs j 0
  append_left j l = get_or-append xs ys 0 j l

  pub append_right : (j : ℕ) → get_or (xs ++ ys) (length xs + j) 0 ≡ get_or ys j 0
  append_right j = get_or-append-add xs ys j 0

  -- A statement of each place and its word that holds in both parts.
  pub append_each :
      (P : ℕ → ℕ → Type 0) → ((j : ℕ) → j < length xs → P j (get_or xs j 0)) → ((j : ℕ) → j < length ys → P (length xs + j) (get_or ys j 0))
      → (j : ℕ) → j < length (xs ++ ys) → P j (get_or (xs ++ ys) j 0)
  append_each P left right j l =
      by_cases (dec_lt j (length xs))
      (λ u. rw (append_left j u) (left j u))
      (λ u.
      let i : ℕ = j - length xs in
      let place : length xs + i ≡ j = omega arith in
      let later : P (length xs + i) (get_or (xs ++ ys) (length xs + i) 0) =
      rw (append_right i) (right i (omega (arith, length-append xs ys))) in
      rw place at later)

  pub in_left : (x : ℕ) → In xs x → In (xs ++ ys) x
  in_left x (j, (l, e)) = (j, (omega (arith, length-append xs ys), append_left j l ∙ e))

  pub in_right : (x : ℕ) → In ys x → In (xs ++ ys) x
  in_right x (j, (l, e)) = (length xs + j, (omega (arith, length-append xs ys), append_right j ∙ e))
