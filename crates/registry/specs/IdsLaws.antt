-- Laws of taking the smallest recycled id: the others stand one place lower, and nothing else changes; the rules hold on without it, and
-- it is free to be registered. And of recycling an id: it joins the others, and nothing else changes; the rules hold on with it.
use Rattle.std.specs.Prelude.{◌≡◌, ℕ, zero, suc, ◌+◌, ◌-◌, ◌*◌, ◌<◌, ◌≤◌, ◌≢◌, ◌⊎◌, ◌↔◌, List, length, nat_lt, slice_index, refl}
use Rattle.std.proofs.Common.{sym, ◌∙◌, inl, inr, ⊎_elim, arith, ltb-true, ltb-false, ap, length-set, get_or-set_same, get_or-set_other}
use Rattle.std.proofs.Math.Decide.{ℕ_discrete, dec_lt}
use Rattle.std.proofs.Math.Logic.{by_cases}
use Rattle.base.specs.Distinct.{Among}
use Rattle.base.specs.FirstLaws.{first-le, first_passes, first_before}
use Rattle.base.specs.Shift.{shifted_up, length-shifted_down, shifted_down_before, shifted_down_in, length-shifted_up, shifted_up_before, shifted_up_in}
use Rattle.registry.specs.Words.{id_at, state_at, recycled_at, revoked, has_list}
use Rattle.registry.specs.Sound.{Ascend, Held}
use Rattle.registry.specs.Ids.{first_taken, join_place, recycled_with}
use Rattle.registry.specs.Rules.{RegisteredRules, RecycledRules, RegistryRules, registered_same}
use Rattle.registry.specs.Without.{Without, past_cases, among_without}

-- The rules of registered ids and of holders read the columns alone.
module _ (places n : ℕ) (rg rg' : List ℕ) (fit : n ≤ places) (columns : (i : ℕ) → i < 4 * places
    → slice_index rg' i ≡ slice_index rg i) where
  columns_registered : (next : ℕ) → RegisteredRules places n next rg → RegisteredRules places n next rg'
  columns_registered next =
      registered_same places n next rg rg'
      (λ k l. columns k (omega arith))
      (λ k l. columns (3 * places + k) (omega arith))
      (λ k l. ap has_list (columns (2 * places + k) (omega arith)))
      (λ k l. ap revoked (columns (2 * places + k) (omega arith)))

  columns_held : (spaces : ℕ → ℕ) → Held n (id_at rg) (state_at places rg) spaces → Held n (id_at rg') (state_at places rg') spaces
  columns_held spaces held k l = rw (columns k (omega arith), columns (2 * places + k) (omega arith)) (held k l)

-- ---- taking the smallest

above_first : (m : ℕ) (recycled : ℕ → ℕ) → Ascend m recycled → (j : ℕ) → suc j < m → recycled 0 < recycled (suc j)
above_first m recycled ascend zero l = ascend 0 l
above_first m recycled ascend (suc j) l = omega (arith, above_first m recycled ascend j (omega arith), ascend (suc j) l)

module _ (places m : ℕ) (rg : List ℕ) (some : 0 < m) (fit : m ≤ places + 1) (long : 5 * places + 1 ≤ length rg) where
  pub length_taken : length (first_taken places m rg) ≡ length rg
  unfolding first_taken
  length_taken = length-shifted_down (4 * places) (4 * places + m) rg (omega arith) (omega arith)

  -- The four columns stand before the recycled ids.
  pub taken_columns : (i : ℕ) → i < 4 * places → slice_index (first_taken places m rg) i ≡ slice_index rg i
  unfolding first_taken
  taken_columns i l = shifted_down_before (4 * places) (4 * places + m) rg (omega arith) (omega arith) i l

  pub taken_recycled : (k : ℕ) → suc k < m → recycled_at places (first_taken places m rg) k ≡ recycled_at places rg (suc k)
  unfolding first_taken
  taken_recycled k l =
      shifted_down_in (4 * places) (4 * places + m) rg (omega arith) (omega arith) (4 * places + k) (omega arith) (omega arith)
      ∙ ap (λ i. slice_index rg i) (omega arith)

  module _ (n next : ℕ) (registered_fit : n ≤ places) where
    module _ (rules : RecycledRules places n m next rg) where
      taken_others : RecycledRules places n (m - 1) next (first_taken places m rg)
      taken_others = record {
        ascend = λ k l. rw (taken_recycled k (omega arith), taken_recycled (suc k) (omega arith)) (rules.ascend (suc k) (omega arith));
        unregistered = λ j l k u e.
            rules.unregistered (suc j) (omega arith) k u (sym (taken_recycled j (omega arith)) ∙ e ∙ taken_columns k (omega arith));
        issued = λ k l. rw (taken_recycled k (omega arith)) (rules.issued (suc k) (omega arith));
      }

      pub taken_unregistered : (k : ℕ) → k < n → recycled_at places rg 0 ≢ id_at (first_taken places m rg) k
      taken_unregistered k l e = rules.unregistered 0 some k l (e ∙ taken_columns k (omega arith))

      -- It is below all that remain.
      pub taken_smallest : (j : ℕ) → j < m - 1 → recycled_at places rg 0 < recycled_at places (first_taken places m rg) j
      taken_smallest j l = rw (taken_recycled j (omega arith)) (above_first m (recycled_at places rg) rules.ascend j (omega arith))

    pub taken_keeps : (spaces : ℕ → ℕ) → RegistryRules places n m next spaces rg
        → RegistryRules places n (m - 1) next spaces (first_taken places m rg)
    taken_keeps spaces rules = record {
      registered = columns_registered places n rg (first_taken places m rg) registered_fit taken_columns next rules.registered;
      recycled = taken_others rules.recycled;
      held = columns_held places n rg (first_taken places m rg) registered_fit taken_columns spaces rules.held;
    }

-- ---- recycling

module _ (places m id : ℕ) (rg : List ℕ) (room : m ≤ places) (long : 5 * places + 1 ≤ length rg) where
  abbrev joined : List ℕ
  joined = recycled_with places m id rg

  -- Where the id joins.
  abbrev place : ℕ
  place = join_place places m id rg

  abbrev recycled : ℕ → ℕ
  recycled = recycled_at places rg

  place_inside : place ≤ m
  place_inside = first-le (λ j. nat_lt id (recycled j)) m

  ordered : 4 * places + place ≤ 4 * places + m
  ordered = omega (arith, place_inside)

  -- The words with room made for the id.
  abbrev opened : List ℕ
  opened = shifted_up (4 * places + place) (4 * places + m) rg

  length_opened : length opened ≡ length rg
  length_opened = length-shifted_up (4 * places + place) (4 * places + m) rg ordered (omega arith)

  pub length-recycled_with : length joined ≡ length rg
  unfolding recycled_with
  length-recycled_with = length-set opened (4 * places + place) id ∙ length_opened

  -- The words before the id are as they were, and those of the ids behind it one place on.
  word_before : (i : ℕ) → i < 4 * places + place → slice_index joined i ≡ slice_index rg i
  unfolding recycled_with
  word_before i l =
      get_or-set_other opened (4 * places + place) i id 0 (omega arith)
      ∙ shifted_up_before (4 * places + place) (4 * places + m) rg ordered (omega arith) i (omega arith)

  word_behind : (j : ℕ) → place ≤ j → j < m → recycled_at places joined (suc j) ≡ recycled j
  unfolding recycled_with
  word_behind j l u =
      get_or-set_other opened (4 * places + place) (4 * places + suc j) id 0 (omega arith)
      ∙ ap (λ i. slice_index opened i) (omega arith)
      ∙ shifted_up_in (4 * places + place) (4 * places + m) rg ordered (omega arith) (4 * places + j) (omega arith) (omega arith)

  -- The four columns stand before the recycled ids.
  pub recycled_with_columns : (i : ℕ) → i < 4 * places → slice_index joined i ≡ slice_index rg i
  recycled_with_columns i l = word_before i (omega arith)

  pub recycled_with_new : recycled_at places joined place ≡ id
  unfolding recycled_with
  recycled_with_new = get_or-set_same opened (4 * places + place) id 0 (omega (arith, length_opened, place_inside))

  pub recycled_with_others : Without place m (recycled_at places joined) recycled
  recycled_with_others j l =
      ⊎_elim
      (λ (low, e). sym (ap (recycled_at places joined) e ∙ word_before (4 * places + j) (omega arith)))
      (λ (high, e). sym (ap (recycled_at places joined) (omega arith) ∙ word_behind j high l))
      (past_cases place j)

  pub recycled_with_has : (x : ℕ) → Among (m + 1) (recycled_at places joined) x ↔ ((x ≡ id) ⊎ Among m recycled x)
  recycled_with_has x =
      let split = among_without place m (m + 1) refl (omega (arith, place_inside))
      (recycled_at places joined) recycled recycled_with_others x in (
        λ among. ⊎_elim (λ e. inl (sym e ∙ recycled_with_new)) inr (split.0 among),
        λ either. split.1 (⊎_elim (λ e. inl (recycled_with_new ∙ sym e)) inr either),
      )

  module _ (unrecycled : (j : ℕ) → j < m → recycled j ≢ id) where
    -- The id is above what stands before it, and below what stands behind.
    above_before : (j : ℕ) → j < place → recycled j < id
    above_before j l =
        let other : recycled j ≢ id = unrecycled j (omega (arith, place_inside)) in
        omega (arith, ltb-false id (recycled j) (first_before (λ j. nat_lt id (recycled j)) m j l))

    below_next : place < m → id < recycled place
    below_next l = ltb-true id (recycled place) (first_passes (λ j. nat_lt id (recycled j)) m l)

    still_ascend : Ascend m recycled → Ascend (m + 1) (recycled_at places joined)
    still_ascend ascend k l =
        by_cases (dec_lt k place)
        (λ before.
        let this : recycled_at places joined k ≡ recycled k = word_before (4 * places + k) (omega arith) in
        by_cases (ℕ_discrete (suc k) place)
        (λ new. omega (arith, above_before k before, ap (recycled_at places joined) new, recycled_with_new))
        (λ other. omega (arith, word_before (4 * places + suc k) (omega arith), ascend k (omega (arith, place_inside)))))
        (λ behind.
        let next : recycled_at places joined (suc k) ≡ recycled k = word_behind k (omega arith) (omega arith) in
        by_cases (ℕ_discrete k place)
        (λ new. omega (arith, below_next (omega arith), ap recycled new, ap (recycled_at places joined) new, recycled_with_new))
        (λ other.
        let back : suc (k - 1) ≡ k = omega arith in
        omega (
          arith,
          word_behind (k - 1) (omega arith) (omega arith),
          ascend (k - 1) (omega arith),
          ap recycled back,
          ap (recycled_at places joined) back,
        )))

  -- What holds of the id and of each id that was recycled holds of each that is.
  each : (P : ℕ → Type 0) → P id → ((j : ℕ) → j < m → P (recycled j)) → (j : ℕ) → j < m + 1 → P (recycled_at places joined j)
  each P new others j l =
      ⊎_elim (λ e. rw e new) (λ (i, (u, e)). rw e at (others i u)) ((recycled_with_has (recycled_at places joined j)).0 (j, (l, refl)))

  pub recycled_with_keeps :
      (n next : ℕ) (spaces : ℕ → ℕ) → n ≤ places → RegistryRules places n m next spaces rg → 1 ≤ id → id < next
      → ((k : ℕ) → k < n → id_at rg k ≢ id) → ((j : ℕ) → j < m → recycled_at places rg j ≢ id)
      → RegistryRules places n (m + 1) next spaces joined
  recycled_with_keeps n next spaces registered_fit rules positive issued fresh unrecycled =
      let old : RecycledRules places n m next rg = rules.recycled in
      record {
        registered = columns_registered places n rg joined registered_fit recycled_with_columns next rules.registered;
        recycled = record {
          ascend = still_ascend unrecycled old.ascend;
          unregistered =
              each (λ x. (k : ℕ) → k < n → x ≢ id_at joined k)
              (λ k u e. fresh k u (sym (e ∙ recycled_with_columns k (omega arith))))
              (λ j l k u e. old.unregistered j l k u (e ∙ recycled_with_columns k (omega arith)));
          issued = each (λ x. (1 ≤ x) × (x < next)) (positive, issued) old.issued;
        };
        held = columns_held places n rg joined registered_fit recycled_with_columns spaces rules.held;
      }
