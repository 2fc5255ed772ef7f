-- Laws of marking places as revoked: of all words only their states change, and of these only whether they are revoked; and of marking a
-- whole descent: exactly the places under its first become revoked, and the rules of a registry hold on.
use Rattle.std.specs.Prelude.{◌≡◌, ℕ, suc, ◌+◌, ◌-◌, ◌*◌, ◌/◌, ◌<◌, ◌≤◌, Bool, true, false, ◌≢◌, ◌⊎◌, ◌↔◌, List, [], ◌∷◌, length, set, ◌==◌, nat_eq, slice_index, slice_set, refl}
use Rattle.std.proofs.Common.{sym, ap, ◌∙◌, inl, inr, ⊎_elim, arith, eq-eqb, ne_eqb}
use Rattle.std.proofs.Math.Decide.{ℕ_discrete, dec_lt}
use Rattle.std.proofs.Math.Logic.{by_cases}
use Rattle.std.proofs.lemmas.Bool.{eqb-false}
use Rattle.std.proofs.lemmas.List.{set-get_or}
use Rattle.base.specs.Choose.{pick}
use Rattle.base.specs.Members.{In, in_cons}
use Rattle.base.specs.Sifted.{sifted, sifted_exactly}
use Rattle.registry.specs.Words.{state_at, link_at, revoked, has_list, holders}
use Rattle.registry.specs.Sound.{Linked}
use Rattle.registry.specs.Rules.{RegisteredRules, RegistryRules, Same, has_list_same}
use Rattle.registry.specs.StatesOnly.{StatesOnly, ByAt, by_keeps, states_only_none, states_only_one, states_only_then, same_ids, same_links, states_only_registered, states_only_recycled}
use Rattle.registry.specs.PlaceLists.{AllBelow, all_below_more, all_below_first, all_below_later}
use Rattle.registry.specs.Descent.{descent, unrevoked_of, marked_state, marked}
use Rattle.registry.specs.DescentLaws.{Under, below, descent_below, descent_exactly}

-- ---- a state

module _ (state : ℕ) where
  -- A marked state is the state with its lowest bit set.
  pub marked_state_is : marked_state state ≡ state / 2 * 2 + 1
  marked_state_is =
      by_cases (ℕ_discrete (revoked state) 0)
      (λ unrevoked. rw (eq-eqb (revoked state) 0 unrevoked) (omega arith))
      (λ gone. rw (ne_eqb (revoked state) 0 gone) (omega arith))

  marked_revoked : revoked (marked_state state) ≡ 1
  marked_revoked = omega (arith, marked_state_is)

  marked_rest : (has_list (marked_state state) ≡ has_list state) × (holders (marked_state state) ≡ holders state)
  marked_rest = omega (arith, marked_state_is)

  marked_again : revoked state ≡ 1 → marked_state state ≡ state
  marked_again gone = omega (arith, marked_state_is)

-- ---- the words

-- Of the words only the states of these places change, to marked ones.
abbrev pub OnlyMarked : ℕ → List ℕ → List ℕ → List ℕ → Type 0
OnlyMarked places ks rg rg' = StatesOnly (ByAt marked_state (In ks)) places rg rg'

-- Of the places k and ks, first k, then the others: marked twice is marked.
marked_both :
    (k : ℕ) (ks : List ℕ) (j s s' s'' : ℕ) → ByAt marked_state (λ j. j ≡ k) j s s' → ByAt marked_state (In ks) j s' s''
    → ByAt marked_state (In (k ∷ ks)) j s s''
marked_both k ks j s s' s'' one rest =
    ⊎_elim
    (λ (found, e). inl ((in_cons k ks j).1 (inr found), e ∙ marked_same one))
    (λ (none', e).
    ⊎_elim
    (λ (here, e₁). inl ((in_cons k ks j).1 (inl (sym here)), e ∙ e₁))
    (λ (other, e₁). inr (λ found. ⊎_elim (λ h. other (sym h)) none' ((in_cons k ks j).0 found), e ∙ e₁))
    one)
    rest
  where
    marked_same : ByAt marked_state (λ j. j ≡ k) j s s' → marked_state s' ≡ marked_state s
    marked_same = by_keeps marked_state marked_state (λ s. marked_again (marked_state s) (marked_revoked s)) (λ j. j ≡ k) j s s'

pub marked_only : (places : ℕ) (ks rg : List ℕ) → AllBelow places ks → 5 * places + 1 ≤ length rg
    → OnlyMarked places ks rg (marked places ks rg)
unfolding marked
marked_only places [] rg inside long = states_only_none places (ByAt marked_state (In [])) (λ k s. inr (λ (j, (l, e)). omega arith, refl))
    rg
marked_only places (k ∷ ks) rg inside long =
    let rg₁ : List ℕ = set rg (2 * places + k) (marked_state (state_at places rg k)) in
    let one = states_only_one places marked_state k rg (all_below_first places k ks inside) long in
    states_only_then places (ByAt marked_state (λ j. j ≡ k)) (ByAt marked_state (In ks)) (ByAt marked_state (In (k ∷ ks)))
    (marked_both k ks)
    rg rg₁ (marked places ks rg₁) one (marked_only places ks rg₁ (all_below_later places k ks inside) (omega (arith, one.same_length)))

module _ (places : ℕ) (ks rg rg' : List ℕ) (only : OnlyMarked places ks rg rg') (k : ℕ) where
  pub only_marked_elsewhere : ¬ In ks k → state_at places rg' k ≡ state_at places rg k
  only_marked_elsewhere none' = ⊎_elim (λ (found, e). absurd (none' found)) (λ (_, e). e) (only.states k)

  pub only_marked_has_list : has_list (state_at places rg' k) ≡ has_list (state_at places rg k)
  only_marked_has_list = by_keeps has_list marked_state (λ s. (marked_rest s).0) (In ks) k _ _ (only.states k)

  pub only_marked_holders : holders (state_at places rg' k) ≡ holders (state_at places rg k)
  only_marked_holders = by_keeps holders marked_state (λ s. (marked_rest s).1) (In ks) k _ _ (only.states k)

  pub only_marked_revoked : (revoked (state_at places rg' k) ≡ 1) ↔ ((revoked (state_at places rg k) ≡ 1) ⊎ In ks k)
  only_marked_revoked =
      ⊎_elim
      (λ (found, e). (λ gone. inr found, λ either. ap revoked e ∙ marked_revoked (state_at places rg k)))
      (λ (none', e). (
        λ gone. inl (sym (ap revoked e) ∙ gone),
        ⊎_elim (λ gone. ap revoked e ∙ gone) (λ found. absurd (none' found)),
      ))
      (only.states k)

-- ---- those that are not revoked yet

pub unrevoked_below : (n places : ℕ) (rg ks : List ℕ) → AllBelow n ks → AllBelow n (unrevoked_of places rg ks)
unfolding unrevoked_of
unrevoked_below n places rg ks inside = record {
  below = λ j l.
      let exactly = sifted_exactly (λ k. nat_eq (revoked (state_at places rg k)) 0) ks (slice_index (unrevoked_of places rg ks) j) in
      let ((i, (u, e)), _) = exactly.0 (j, (l, refl)) in
      omega (arith, inside.below i u);
}

-- What is revoked in rg₀ is revoked in rg.
abbrev Later : ℕ → List ℕ → List ℕ → Type 0
Later places rg₀ rg = (k : ℕ) → revoked (state_at places rg₀ k) ≡ 1 → revoked (state_at places rg k) ≡ 1

-- Of places that were revoked before, marking changes nothing.
marked_later :
    (places : ℕ) (rg₀ ks rg : List ℕ) → Later places rg₀ rg → AllBelow places ks → 5 * places + 1 ≤ length rg
    → marked places (unrevoked_of places rg₀ ks) rg ≡ marked places ks rg
unfolding marked unrevoked_of sifted
marked_later places rg₀ [] rg later inside long = refl
marked_later places rg₀ (k ∷ ks) rg later inside long =
    go (revoked (state_at places rg₀ k) == 0) refl
    (marked_later places rg₀ ks rg later rest long)
    (marked_later places rg₀ ks rg₁ later_still rest (omega (arith, one.same_length)))
  where
    rest : AllBelow places ks
    rest = all_below_later places k ks inside

    rg₁ : List ℕ
    rg₁ = slice_set rg (2 * places + k) (marked_state (state_at places rg k))

    one : StatesOnly (ByAt marked_state (λ j. j ≡ k)) places rg rg₁
    one = states_only_one places marked_state k rg (all_below_first places k ks inside) long

    later_still : Later places rg₀ rg₁
    later_still j gone =
        ⊎_elim (λ (_, e). ap revoked e ∙ marked_revoked (state_at places rg j)) (λ (_, e). ap revoked e ∙ later j gone) (one.states j)

    left : List ℕ
    left = unrevoked_of places rg₀ ks

    go : (b : Bool) → (revoked (state_at places rg₀ k) == 0) ≡ b → marked places left rg ≡ marked places ks rg
        → marked places left rg₁ ≡ marked places ks rg₁
        → marked places (pick b (k ∷ left) left) rg ≡ marked places ks rg₁
    go true e as_it_is once_marked = once_marked
    go false e as_it_is once_marked =
        let some : revoked (state_at places rg₀ k) ≢ 0 = eqb-false (revoked (state_at places rg₀ k)) 0 e in
        let kept : marked_state (state_at places rg k) ≡ state_at places rg k =
        marked_again (state_at places rg k) (later k (omega arith)) in
        let same : rg₁ ≡ rg = ap (set rg (2 * places + k)) kept ∙ set-get_or rg (2 * places + k) 0 in
        as_it_is ∙ ap (marked places ks) (sym same)

-- So to mark only those that are not revoked yet gives the same words.
pub marked_unrevoked :
    (places : ℕ) (ks rg : List ℕ) → AllBelow places ks → 5 * places + 1 ≤ length rg
    → marked places (unrevoked_of places rg ks) rg ≡ marked places ks rg
marked_unrevoked places ks rg inside long = marked_later places rg ks rg (λ k gone. gone) inside long

-- ---- a whole descent

module _ (places n : ℕ) (rg : List ℕ) (r : ℕ) (inside : r < n) (fit : n ≤ places) (long : 5 * places + 1 ≤ length rg) where
  abbrev ks : List ℕ
  ks = descent places n rg r

  abbrev gone : List ℕ
  gone = marked places ks rg

  module _ (linked : Linked n (link_at places rg)) where
    pub descent_marked_only : OnlyMarked places ks rg gone
    descent_marked_only = marked_only places ks rg (all_below_more n places ks fit (descent_below places n rg r linked inside)) long

    pub descent_marked_revoked :
        (k : ℕ) → (revoked (state_at places gone k) ≡ 1)
        ↔ ((revoked (state_at places rg k) ≡ 1) ⊎ ((k < n) × Under (link_at places rg) r k))
    descent_marked_revoked k =
        let marks = only_marked_revoked places ks rg gone descent_marked_only k in
        let exactly = descent_exactly places n rg r linked inside k in (
          λ h. ⊎_elim inl (λ found. inr (exactly.0 found)) (marks.0 h),
          λ h. marks.1 (⊎_elim inl (λ under. inr (exactly.1 under)) h),
        )

    -- Every word but the states of the places under r is as it was.
    pub descent_marked_others : (i : ℕ) → ((k : ℕ) → k < n → Under (link_at places rg) r k → i ≢ 2 * places + k)
        → slice_index gone i ≡ slice_index rg i
    descent_marked_others i other =
        by_cases (dec_lt i (2 * places))
        (λ low. descent_marked_only.before i low)
        (λ from.
        let k : ℕ = i - 2 * places in
        let place : 2 * places + k ≡ i = omega arith in
        let unmarked : ¬ In ks k = λ found. let (l, under) =
        (descent_exactly places n rg r linked inside k).0 found in other k l under (sym place) in
        rw place at (only_marked_elsewhere places ks rg gone descent_marked_only k unmarked))

  -- The children of what is under r are under r, so the rules hold on.
  pub descent_marked_keeps : (m next : ℕ) (spaces : ℕ → ℕ) → RegistryRules places n m next spaces rg
      → RegistryRules places n m next spaces gone
  descent_marked_keeps m next spaces rules =
      let old : RegisteredRules places n next rg = rules.registered in
      let link : ℕ → ℕ = link_at places rg in
      let link' : ℕ → ℕ = link_at places gone in
      let only : OnlyMarked places ks rg gone = descent_marked_only old.linked in
      let revokes = descent_marked_revoked old.linked in
      let links : Same n link link' = λ k l. same_links places rg gone only k in
      record {
        registered =
            states_only_registered places rg gone only n fit next
            (has_list_same n link link' links (state_at places rg) (state_at places gone) old.linked
            (λ k l. only_marked_has_list places ks rg gone only k) old.parent_has_list)
            (λ k l p e h.
            let child : link k ≡ suc p = sym (links k l) ∙ e in
            (revokes k).1
            (⊎_elim (λ was. inl (old.cascaded k l p child was)) (λ (u, under). inr (l, below k p child under)) ((revokes p).0 h)))
            old;
        recycled = states_only_recycled places rg gone only n fit next m rules.recycled;
        held = λ k l. rw (only_marked_holders places ks rg gone only k, same_ids places rg gone only k (omega arith)) (rules.held k l);
      }
