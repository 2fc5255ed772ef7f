-- A row of values with one of them left out, where the later ones close up: so stand the columns of a registry after a place has left,
-- and the recycled ids before one more has joined them.
use Rattle.std.specs.Prelude.{◌≡◌, ℕ, ◌+◌, ◌-◌, ◌<◌, ◌≤◌, ◌≢◌, ◌⊎◌, ◌↔◌, nat_lt}
use Rattle.std.proofs.Common.{sym, ap, ◌∙◌, ⊎_elim, lt-ltb, le-ltb, arith, inl, inr}
use Rattle.std.proofs.Math.Decide.{ℕ_discrete, dec_lt}
use Rattle.std.proofs.Math.Logic.{by_cases}
use Rattle.base.specs.Below.{sum}
use Rattle.base.specs.Choose.{pick}
use Rattle.base.specs.Distinct.{Differ, Among}
use Rattle.base.specs.SumLaws.{sum_ext, sum_more, sum_split}
use Rattle.registry.specs.Rules.{Same}

-- The j-th number when k is passed over.
unfoldable pub past : ℕ → ℕ → ℕ
past k j = pick (nat_lt j k) j (j + 1)

-- Which of the numbers other than k this one is.
unfoldable pub rank : ℕ → ℕ → ℕ
rank k p = pick (nat_lt k p) (p - 1) p

-- The first m values of g are those of f without the one at k.
abbrev pub Without : ℕ → ℕ → (ℕ → ℕ) → (ℕ → ℕ) → Type 0
Without k m f g = Same m (λ j. f (past k j)) g

module _ (k : ℕ) where
  pub past_below : (j : ℕ) → j < k → past k j ≡ j
  unfolding past
  past_below j l = rw (lt-ltb j k l)

  pub past_from : (j : ℕ) → k ≤ j → past k j ≡ j + 1
  unfolding past
  past_from j l = rw (le-ltb j k l)

  pub past_cases : (j : ℕ) → ((j < k) × (past k j ≡ j)) ⊎ ((k ≤ j) × (past k j ≡ j + 1))
  past_cases j = by_cases (dec_lt j k) (λ l. inl (l, past_below j l)) (λ l. inr (omega arith, past_from j (omega arith)))

  pub past_le : (j : ℕ) → past k j ≤ j + 1
  past_le j = ⊎_elim (λ c. omega arith) (λ c. omega arith) (past_cases j)

  pub past_apart : (j : ℕ) → past k j ≢ k
  past_apart j e = ⊎_elim (λ c. omega arith) (λ c. omega arith) (past_cases j)

  pub past_grows : (i j : ℕ) → i < j → past k i < past k j
  past_grows i j l =
      ⊎_elim
      (λ c. ⊎_elim (λ d. omega arith) (λ d. omega arith) (past_cases j))
      (λ c. omega (arith, past_from j (omega arith)))
      (past_cases i)

  pub rank_cases : (p : ℕ) → p ≢ k → ((p < k) × (rank k p ≡ p)) ⊎ ((k < p) × (rank k p ≡ p - 1))
  unfolding rank
  rank_cases p other =
      by_cases (dec_lt k p) (λ l. inr (l, rw (lt-ltb k p l))) (λ l. inl (omega arith, rw (le-ltb k p (omega arith))))

  pub past_rank : (p : ℕ) → p ≢ k → past k (rank k p) ≡ p
  past_rank p other =
      ⊎_elim
      (λ c. omega (arith, past_below (rank k p) (omega arith)))
      (λ c. omega (arith, past_from (rank k p) (omega arith)))
      (rank_cases p other)

-- Of n values, the one at k is left out, and m are left.
module _ (k m n : ℕ) (one_more : m + 1 ≡ n) (inside : k < n) where
  pub rank_inside : (p : ℕ) → p < n → p ≢ k → rank k p < m
  rank_inside p l other = ⊎_elim (λ c. omega arith) (λ c. omega arith) (rank_cases k p other)

  pub sum_without : (f : ℕ → ℕ) → sum f n ≡ sum (λ j. f (past k j)) m + f k
  sum_without f =
      let g : ℕ → ℕ = λ j. f (past k j) in
      let later : ℕ = m - k in
      let before : sum g k ≡ sum f k = sum_ext g f k (λ j l. ap f (past_below k j l)) in
      let after : sum (λ i. g (k + i)) later ≡ sum (λ i. f (k + 1 + i)) later =
      sum_ext (λ i. g (k + i)) (λ i. f (k + 1 + i)) later (λ i l. ap f (omega (arith, past_from k (k + i) (omega arith)))) in
      let all_others : sum g (k + later) ≡ sum g m = ap (sum g) (omega arith) in
      let whole : sum f (k + 1 + later) ≡ sum f n = ap (sum f) (omega arith) in
      omega (arith, sum_split g k later, sum_split f (k + 1) later, sum_more f k)

  module _ (f g : ℕ → ℕ) (without : Without k m f g) where
    pub among_without : (x : ℕ) → Among n f x ↔ ((f k ≡ x) ⊎ Among m g x)
    among_without x = (
      λ (p, (l, e)).
          by_cases (ℕ_discrete p k)
          (λ here. inl (ap f (sym here) ∙ e))
          (λ other.
          let still : rank k p < m = rank_inside p l other in
          inr (rank k p, (still, without (rank k p) still ∙ ap f (past_rank k p other) ∙ e))),
      ⊎_elim
          (λ e. (k, (inside, e)))
          (λ (j, (l, e)). (past k j, (omega (arith, past_le k j), sym (without j l) ∙ e))),
    )

    module _ (differ : Differ n f) where
      pub differ_without : Differ m g
      differ_without j l i u e =
          differ (past k j) (omega (arith, past_le k j)) (past k i) (past_grows k i j u)
          (sym (without i (omega arith)) ∙ e ∙ without j l)

      -- The value left out is gone.
      pub left_out : ¬ Among m g (f k)
      left_out (j, (l, e)) =
          let same : f (past k j) ≡ f k = sym (without j l) ∙ e in
          ⊎_elim
          (λ c. differ k inside (past k j) (omega arith) same)
          (λ c. differ (past k j) (omega arith) k (omega arith) (sym same))
          (past_cases k j)
