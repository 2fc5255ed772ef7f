-- Laws of the log: pairs that join it stand behind those that it has, which stay; where they are absent and differ, all its pairs
-- differ; and of some pairs exactly those that it has not are absent.
use Rattle.std.specs.Prelude.{◌≡◌, ◌↔◌, ◌⊎◌, Bool, true, false, List, [], ◌∷◌, ◌++◌, ℕ, ◌+◌, ◌-◌, ◌<◌, ◌≤◌, take, not, eqb, ltb, length, drop, refl}
use Rattle.std.proofs.Common.{sym, ◌∙◌, inl, inr, ⊎_elim, true≢false, arith, length-append, length-drop, length-take-le, get_or-take, get_or-drop, eqb-true, eq-eqb, length-take, ap, take_at, drop_at}
use Rattle.std.proofs.Math.Decide.{dec_lt}
use Rattle.std.proofs.Math.ListN.{get_or-append}
use Rattle.std.proofs.Math.Logic.{by_cases}
use Rattle.std.proofs.lemmas.Bool.{not-true}
use Rattle.base.specs.Choose.{pick, refuted}
use Rattle.base.specs.Distinct.{Differ, Among}
use Rattle.base.specs.FirstLaws.{first_some_exactly, first_ext}
use Rattle.base.specs.Members.{In, Once}
use Rattle.base.specs.Sifted.{sifted, sifted_exactly, sifted_once, sifted_ext}
use Rattle.revocation.specs.Words.{pair_at}
use Rattle.revocation.specs.Log.{log_has, absent_of, appended}
use Rattle.revocation.specs.Sound.{Pairs}

pub has_exactly : (n : ℕ) (lg : List ℕ) (pair : ℕ) → (log_has n lg pair ≡ true) ↔ Among n (pair_at lg) pair
unfolding log_has
has_exactly n lg pair = (
  λ h. let (k, (l, e)) = (first_some_exactly (λ k. eqb (pair_at lg k) pair) n).0 h in (k, (l, eqb-true (pair_at lg k) pair e)),
  λ (k, (l, e)). (first_some_exactly (λ k. eqb (pair_at lg k) pair) n).1 (k, (l, eq-eqb (pair_at lg k) pair e)),
)

pub lacks_exactly : (n : ℕ) (lg : List ℕ) (pair : ℕ) → (log_has n lg pair ≡ false) ↔ (¬ Among n (pair_at lg) pair)
lacks_exactly n lg pair = (
  λ no' among. true≢false (sym ((has_exactly n lg pair).1 among) ∙ no'),
  λ none. refuted (log_has n lg pair) (λ h. none ((has_exactly n lg pair).0 h)),
)

-- The log goes by its first n pairs alone.
module _ (n : ℕ) (lg : List ℕ) (fits : n ≤ length lg) where
  pub has_take : (pair : ℕ) → log_has (length (take n lg)) (take n lg) pair ≡ log_has n lg pair
  unfolding log_has
  has_take pair =
      rw (length-take-le n lg fits)
      (ap (λ k. ltb k n) (first_ext (λ k. eqb (pair_at (take n lg) k) pair) (λ k. eqb (pair_at lg k) pair) n (λ k l. rw get_or-take)))

  pub absent_take : (pairs : List ℕ) → absent_of (length (take n lg)) (take n lg) pairs ≡ absent_of n lg pairs
  unfolding absent_of
  absent_take =
      sifted_ext (λ pair. not (log_has (length (take n lg)) (take n lg) pair)) (λ pair. not (log_has n lg pair))
      (λ pair. ap not (has_take pair))

  pub differ_taken : Differ n (pair_at lg) → Once (take n lg)
  differ_taken differ =
      rw (length-take-le n lg fits)
      (λ j l i u e. differ j l i u (sym (get_or-take n lg i 0 (omega arith)) ∙ e ∙ get_or-take n lg j 0 l))

-- ---- pairs behind those that are logged

module _ (n : ℕ) (pairs lg : List ℕ) (fits : n + length pairs ≤ length lg) where
  front : length (take n lg) ≡ n
  front = length-take-le n lg (omega arith)

  pub length_appended : length (appended n pairs lg) ≡ length lg
  unfolding appended
  length_appended = simp (length-append, length-take, length-drop) (omega arith)

  -- What was logged stays,
  pub take_appended : take n (appended n pairs lg) ≡ take n lg
  unfolding appended
  take_appended = take_at (take n lg) (pairs ++ drop (n + length pairs) lg) n front

  pub appended_before : (k : ℕ) → k < n → pair_at (appended n pairs lg) k ≡ pair_at lg k
  appended_before k l = rw (← get_or-take n (appended n pairs lg) k 0 l, take_appended, get_or-take)

  -- the pairs follow in order,
  behind : drop n (appended n pairs lg) ≡ pairs ++ drop (n + length pairs) lg
  unfolding appended
  behind = drop_at (take n lg) (pairs ++ drop (n + length pairs) lg) n front

  pub appended_in : (j : ℕ) → j < length pairs → pair_at (appended n pairs lg) (n + j) ≡ pair_at pairs j
  appended_in j l = rw (← get_or-drop n (appended n pairs lg) j 0, behind, get_or-append)

  -- The two kinds of a place below n + length pairs.
  where_from : (k : ℕ) → k < n + length pairs → (k < n) ⊎ ((j : ℕ) × ((j < length pairs) × (n + j ≡ k)))
  where_from k l = by_cases (dec_lt k n) inl (λ u. inr (k - n, (omega arith, omega arith)))

  pub has_appended :
      (pair : ℕ) → (log_has (n + length pairs) (appended n pairs lg) pair ≡ true) ↔ ((log_has n lg pair ≡ true) ⊎ In pairs pair)
  has_appended pair = (
    λ h.
        let (k, (l, e)) = (has_exactly (n + length pairs) (appended n pairs lg) pair).0 h in
        ⊎_elim
        (λ u. inl ((has_exactly n lg pair).1 (k, (u, sym (appended_before k u) ∙ e))))
        (λ (j, (u, w)). inr (j, (u, sym (appended_in j u) ∙ ap (pair_at (appended n pairs lg)) w ∙ e)))
        (where_from k l),
    λ h.
        (has_exactly (n + length pairs) (appended n pairs lg) pair).1
        (⊎_elim
        (λ had. let (k, (l, e)) = (has_exactly n lg pair).0 had in (k, (omega arith, appended_before k l ∙ e)))
        (λ (j, (l, e)). (n + j, (omega arith, appended_in j l ∙ e)))
        h),
  )

  pub pairs_appended : Pairs n (pair_at lg) → Pairs (length pairs) (pair_at pairs)
      → Pairs (n + length pairs) (pair_at (appended n pairs lg))
  pairs_appended coded new k l =
      ⊎_elim
      (λ u. rw (appended_before k u) (coded k u))
      (λ (j, (u, w)). rw (← w, appended_in j u) (new j u))
      (where_from k l)

  pub differ_appended :
      Differ n (pair_at lg) → Once pairs → ((pair : ℕ) → In pairs pair → log_has n lg pair ≡ false)
      → Differ (n + length pairs) (pair_at (appended n pairs lg))
  differ_appended old new absent j l i u e =
      ⊎_elim
      (λ below. old j below i u (sym (appended_before i (omega arith)) ∙ e ∙ appended_before j below))
      (λ (j', (inside, w)).
      let there : pair_at (appended n pairs lg) j ≡ pair_at pairs j' = ap (pair_at (appended n pairs lg)) (sym w) ∙ appended_in j' inside in
      ⊎_elim
      (λ below.
      (lacks_exactly n lg (pair_at pairs j')).0 (absent (pair_at pairs j') (j', (inside, refl)))
      (i, (below, sym (appended_before i below) ∙ e ∙ there)))
      (λ (i', (under, v)).
      new j' inside i' (omega arith) (sym (appended_in i' under) ∙ ap (pair_at (appended n pairs lg)) v ∙ e ∙ there))
      (where_from i (omega arith)))
      (where_from j l)

-- ---- the absent ones

module _ (n : ℕ) (lg : List ℕ) where
  pub absent_one : (pair : ℕ) → absent_of n lg (pair ∷ []) ≡ pick (not (log_has n lg pair)) (pair ∷ []) []
  unfolding absent_of sifted
  absent_one pair = refl

  -- They are those of the pairs that the log has not.
  pub absent_exactly : (pairs : List ℕ) (pair : ℕ) → In (absent_of n lg pairs) pair ↔ (In pairs pair × (log_has n lg pair ≡ false))
  unfolding absent_of
  absent_exactly pairs pair =
      let exactly = sifted_exactly (λ pair. not (log_has n lg pair)) pairs pair in (
        λ found. let (among, lacks) = exactly.0 found in (among, not-true (log_has n lg pair) lacks),
        λ (among, lacks). exactly.1 (among, ap not lacks),
      )

  pub absent_differ : (pairs : List ℕ) → Once pairs → Once (absent_of n lg pairs)
  unfolding absent_of
  absent_differ = sifted_once (λ pair. not (log_has n lg pair))

  pub absent_pairs : (pairs : List ℕ) → Pairs (length pairs) (pair_at pairs)
      → Pairs (length (absent_of n lg pairs)) (pair_at (absent_of n lg pairs))
  absent_pairs pairs coded k l =
      let ((j, (u, e)), _) = (absent_exactly pairs (pair_at (absent_of n lg pairs) k)).0 (k, (l, refl)) in
      rw (← e) (coded j u)

-- ---- pairs that join if absent

-- The log when these pairs have joined it, each if absent, and how many pairs it then has.
abbrev pub joined : ℕ → List ℕ → List ℕ → List ℕ
joined n pairs lg = appended n (absent_of n lg pairs) lg

abbrev pub joined_count : ℕ → List ℕ → List ℕ → ℕ
joined_count n pairs lg = n + length (absent_of n lg pairs)

module _ (n : ℕ) (pairs lg : List ℕ) (fits : joined_count n pairs lg ≤ length lg) where
  -- It has what it had, and each of the pairs.
  pub has_joined :
      (pair : ℕ) → (log_has (joined_count n pairs lg) (joined n pairs lg) pair ≡ true) ↔ ((log_has n lg pair ≡ true) ⊎ In pairs pair)
  has_joined pair = (
    λ h.
        ⊎_elim inl (λ among. inr ((absent_exactly n lg pairs pair).0 among).0)
        ((has_appended n (absent_of n lg pairs) lg fits pair).0 h),
    λ h.
        (has_appended n (absent_of n lg pairs) lg fits pair).1
        (⊎_elim inl (λ among. sort among (log_has n lg pair) refl) h),
  )
    where
      sort : In pairs pair → (b : Bool) → log_has n lg pair ≡ b → (log_has n lg pair ≡ true) ⊎ In (absent_of n lg pairs) pair
      sort among true e = inl e
      sort among false e = inr ((absent_exactly n lg pairs pair).1 (among, e))

  pub differ_joined : Differ n (pair_at lg) → Once pairs → Differ (joined_count n pairs lg) (pair_at (joined n pairs lg))
  differ_joined old differ =
      differ_appended n (absent_of n lg pairs) lg fits old (absent_differ n lg pairs differ)
      (λ pair among. ((absent_exactly n lg pairs pair).0 among).1)
