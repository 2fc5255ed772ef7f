-- Laws of unregistering a place: what stands where afterwards, whose children lose their parent, and that the rules of a registry hold on.
use Rattle.std.specs.Prelude.{◌≡◌, ℕ, zero, suc, ◌+◌, ◌-◌, ◌*◌, ◌<◌, ◌≤◌, ◌≢◌, ◌⊎◌, ◌↔◌, List, length, slice_index, slice_set, refl}
use Rattle.std.proofs.Common.{ap, sym, ◌∙◌, ⊎_elim, zero-add, arith, lt-ltb, le-ltb, eq-eqb, ne_eqb, get_or-set_same, inl, inr, length-set, get_or-set_other}
use Rattle.std.proofs.Math.Decide.{ℕ_discrete, dec_lt}
use Rattle.std.proofs.Math.Logic.{by_cases}
use Rattle.base.specs.Below.{sum, one}
use Rattle.base.specs.Distinct.{Differ, Among}
use Rattle.base.specs.Exactly.{eqb_exactly, same_test}
use Rattle.base.specs.SumLaws.{sum_ext}
use Rattle.base.specs.Shift.{shifted_down, length-shifted_down, shifted_down_before, shifted_down_in, shifted_down_after}
use Rattle.registry.specs.Words.{id_at, object_at, state_at, link_at, recycled_at, child_of, children}
use Rattle.registry.specs.Sound.{Linked}
use Rattle.registry.specs.Holders.{place_of}
use Rattle.registry.specs.Registering.{relinked, links_mended, unregistered}
use Rattle.registry.specs.Without.{past, rank, Without, past_below, past_from, past_cases, past_le, past_apart, past_rank, sum_without, among_without, differ_without, left_out}
use Rattle.registry.specs.Rules.{RegisteredRules, RecycledRules, RegistryRules, Same, issued_same, ascend_same}
use Rattle.registry.specs.RegisteringLaws.{SamePlaces, registered_among}

-- A link when place k leaves: to k, before it, or past it.
relinked_cases :
    (k link : ℕ)
    → ((link ≡ suc k) × (relinked k link ≡ 0))
    ⊎ (((link ≤ k) × (relinked k link ≡ link)) ⊎ ((suc k < link) × (relinked k link ≡ link - 1)))
relinked_cases k link =
    by_cases (ℕ_discrete link (suc k))
    (λ to. inl (to, rw (eq-eqb link (suc k) to)))
    (λ other.
    by_cases (dec_lt (suc k) link)
    (λ later. inr (inr (later, rw (ne_eqb link (suc k) other, lt-ltb (suc k) link later))))
    (λ earlier. inr (inl (omega arith, rw (ne_eqb link (suc k) other, le-ltb (suc k) link (omega arith))))))

relinked_le : (k link : ℕ) → relinked k link ≤ link
relinked_le k link = ⊎_elim (λ c. omega arith) (⊎_elim (λ c. omega arith) (λ c. omega arith)) (relinked_cases k link)

relinked_earlier : (k link : ℕ) → link ≤ k → relinked k link ≡ link
relinked_earlier k link l = ⊎_elim (λ c. omega arith) (⊎_elim (λ c. omega arith) (λ c. omega arith)) (relinked_cases k link)

-- It names place p afterwards exactly if it named the one that stands at p then.
relinked_exactly : (k link p : ℕ) → (relinked k link ≡ suc p) ↔ (link ≡ suc (past k p))
relinked_exactly k link p = (
  λ e.
      ⊎_elim
      (λ c. absurd (omega arith))
      (⊎_elim (λ c. omega (arith, past_below k p (omega arith))) (λ c. omega (arith, past_from k p (omega arith))))
      (relinked_cases k link),
  λ e.
      ⊎_elim
      (λ c. absurd (past_apart k p (omega arith)))
      (⊎_elim
      (λ c. ⊎_elim (λ d. omega arith) (λ d. omega arith) (past_cases k p))
      (λ c. ⊎_elim (λ d. omega arith) (λ d. omega arith) (past_cases k p)))
      (relinked_cases k link),
)

module _ (k : ℕ) where
  length_mended : (m i : ℕ) (xs : List ℕ) → length (links_mended k i m xs) ≡ length xs
  unfolding links_mended
  length_mended zero i xs = refl
  length_mended (suc m) i xs =
      length_mended m (i + 1) (slice_set xs i (relinked k (slice_index xs i))) ∙ length-set xs i (relinked k (slice_index xs i))

  mended_other : (m i : ℕ) (xs : List ℕ) (j : ℕ) → (j < i) ⊎ (i + m ≤ j) → slice_index (links_mended k i m xs) j ≡ slice_index xs j
  unfolding links_mended
  mended_other zero i xs j out = refl
  mended_other (suc m) i xs j out =
      let v : ℕ = relinked k (slice_index xs i) in
      mended_other m (i + 1) (slice_set xs i v) j (⊎_elim (λ l. inl (omega arith)) (λ u. inr (omega arith)) out)
      ∙ get_or-set_other xs i j v 0 (⊎_elim (λ l. omega arith) (λ u. omega arith) out)

  mended_in : (m i : ℕ) (xs : List ℕ) (j : ℕ) → i + m ≤ length xs → i ≤ j → j < i + m
      → slice_index (links_mended k i m xs) j ≡ relinked k (slice_index xs j)
  unfolding links_mended
  mended_in zero i xs j fits l u = absurd (omega arith)
  mended_in (suc m) i xs j fits l u =
      let v : ℕ = relinked k (slice_index xs i) in
      by_cases (ℕ_discrete j i)
      (λ here.
      mended_other m (i + 1) (slice_set xs i v) j (inl (omega arith))
      ∙ rw here (get_or-set_same xs i v 0 (omega arith)))
      (λ other.
      mended_in m (i + 1) (slice_set xs i v) j (rw length-set (omega arith)) (omega arith) (omega arith)
      ∙ ap (relinked k) (get_or-set_other xs i j v 0 other))

-- The column from word b on without its place k: the later ones of its first n places move down by one, and nothing else changes.
record Closed (b k n : ℕ) (xs ys : List ℕ) : Type 0 where
  same_length : length ys ≡ length xs
  without : Without k (n - 1) (λ j. slice_index xs (b + j)) (λ j. slice_index ys (b + j))
  other : (i : ℕ) → (i < b) ⊎ (b + n ≤ i) → slice_index ys i ≡ slice_index xs i

closed : (b k n : ℕ) (xs : List ℕ) → k < n → b + n ≤ length xs → Closed b k n xs (shifted_down (b + k) (b + n) xs)
closed b k n xs inside fits = record {
  same_length = length-shifted_down (b + k) (b + n) xs (omega arith) fits;
  without = λ j l.
      ⊎_elim
      (λ (low, e). shifted_down_before (b + k) (b + n) xs (omega arith) fits (b + j) (omega arith)
      ∙ ap (λ i. slice_index xs (b + i)) (sym e))
      (λ (high, e).
      shifted_down_in (b + k) (b + n) xs (omega arith) fits (b + j) (omega arith) (omega arith) ∙ ap (λ i. slice_index xs i) (omega arith))
      (past_cases k j);
  other = λ i.
      ⊎_elim
      (λ l. shifted_down_before (b + k) (b + n) xs (omega arith) fits i (omega arith))
      (λ u. shifted_down_after (b + k) (b + n) xs (omega arith) fits i (omega arith));
}

module _ (places n k : ℕ) (rg : List ℕ) (inside : k < n) (fit : n ≤ places) (long : 5 * places + 1 ≤ length rg) where
  abbrev rest : List ℕ
  rest = unregistered places n k rg

  -- The registry as one column after the other closes up.
  abbrev rg₁ : List ℕ
  rg₁ = shifted_down k n rg

  abbrev rg₂ : List ℕ
  rg₂ = shifted_down (places + k) (places + n) rg₁

  abbrev rg₃ : List ℕ
  rg₃ = shifted_down (2 * places + k) (2 * places + n) rg₂

  abbrev rg₄ : List ℕ
  rg₄ = shifted_down (3 * places + k) (3 * places + n) rg₃

  ids_closed : Closed 0 k n rg rg₁
  ids_closed = simp zero-add at (closed 0 k n rg inside (omega arith))

  objects_closed : Closed places k n rg₁ rg₂
  objects_closed = closed places k n rg₁ inside (omega (arith, ids_closed.same_length))

  states_closed : Closed (2 * places) k n rg₂ rg₃
  states_closed = closed (2 * places) k n rg₂ inside (omega (arith, ids_closed.same_length, objects_closed.same_length))

  links_closed : Closed (3 * places) k n rg₃ rg₄
  links_closed = closed (3 * places) k n rg₃ inside (omega (
    arith,
    ids_closed.same_length,
    objects_closed.same_length,
    states_closed.same_length,
  ))

  length_closed : length rg₄ ≡ length rg
  length_closed = links_closed.same_length ∙ states_closed.same_length ∙ objects_closed.same_length ∙ ids_closed.same_length

  pub length_unregistered : length rest ≡ length rg
  unfolding unregistered
  length_unregistered = length_mended k (n - 1 - k) (3 * places + k) rg₄ ∙ length_closed

  -- Then the links from place k on are mended.
  mended : (i : ℕ) → (i < 3 * places + k) ⊎ (3 * places + n ≤ i) → slice_index rest i ≡ slice_index rg₄ i
  unfolding unregistered
  mended i out = mended_other k (n - 1 - k) (3 * places + k) rg₄ i (⊎_elim inl (λ u. inr (omega arith)) out)

  pub unregistered_without : Without k (n - 1) (id_at rg) (id_at rest)
  unregistered_without j l =
      mended j (inl (omega arith)) ∙ links_closed.other j (inl (omega arith)) ∙ states_closed.other j (inl (omega arith))
      ∙ objects_closed.other j (inl (omega arith)) ∙ simp zero-add at (ids_closed.without j l)

  pub unregistered_object : Without k (n - 1) (object_at places rg) (object_at places rest)
  unregistered_object j l =
      let i : ℕ = places + j in
      let from : ℕ = places + past k j in
      mended i (inl (omega arith)) ∙ links_closed.other i (inl (omega arith)) ∙ states_closed.other i (inl (omega arith))
      ∙ objects_closed.without j l ∙ ids_closed.other from (inr (omega arith))

  pub unregistered_state : Without k (n - 1) (state_at places rg) (state_at places rest)
  unregistered_state j l =
      let i : ℕ = 2 * places + j in
      let from : ℕ = 2 * places + past k j in
      mended i (inl (omega arith)) ∙ links_closed.other i (inl (omega arith)) ∙ states_closed.without j l
      ∙ objects_closed.other from (inr (omega arith)) ∙ ids_closed.other from (inr (omega arith))

  -- The links before they are mended.
  closed_link : Without k (n - 1) (link_at places rg) (link_at places rg₄)
  closed_link j l =
      let from : ℕ = 3 * places + past k j in
      links_closed.without j l ∙ states_closed.other from (inr (omega arith)) ∙ objects_closed.other from (inr (omega arith))
      ∙ ids_closed.other from (inr (omega arith))

  pub unregistered_link : (j : ℕ) → k ≤ j → j < n - 1 → link_at places rest j ≡ relinked k (link_at places rg (past k j))
  unfolding unregistered
  unregistered_link j from l =
      mended_in k (n - 1 - k) (3 * places + k) rg₄ (3 * places + j) (omega (arith, length_closed)) (omega arith) (omega arith)
      ∙ ap (relinked k) (closed_link j l)

  pub unregistered_before : SamePlaces places k rg rest
  unregistered_before = record {
    ids = λ j l. unregistered_without j (omega arith) ∙ ap (id_at rg) (past_below k j l);
    objects = λ j l. unregistered_object j (omega arith) ∙ ap (object_at places rg) (past_below k j l);
    states = λ j l. unregistered_state j (omega arith) ∙ ap (state_at places rg) (past_below k j l);
    links = λ j l.
        mended (3 * places + j) (inl (omega arith)) ∙ closed_link j (omega arith) ∙ ap (link_at places rg) (past_below k j l);
    behind = λ i l.
        mended i (inr (omega arith)) ∙ links_closed.other i (inr (omega arith)) ∙ states_closed.other i (inr (omega arith))
        ∙ objects_closed.other i (inr (omega arith)) ∙ ids_closed.other i (inr (omega arith));
  }

  stood_inside : (j : ℕ) → j < n - 1 → past k j < n
  stood_inside j l = omega (arith, past_le k j)

  module _ (linked : Linked n (link_at places rg)) where
    -- A link names no place from its own on, so the links before place k name none that moves: they are as if mended too.
    pub unregistered_relinked : Same (n - 1) (λ j. relinked k (link_at places rg (past k j))) (link_at places rest)
    unregistered_relinked j l =
        by_cases (dec_lt j k)
        (λ low.
        rw (past_below k j low)
        (unregistered_before.links j low ∙ sym (relinked_earlier k (link_at places rg j) (omega (arith, linked j (omega arith))))))
        (λ high. unregistered_link j (omega arith) l)

    -- Place j is a child of place p exactly if it was one where they stood.
    pub unregistered_child : (j p : ℕ) → j < n - 1 → (link_at places rest j ≡ suc p) ↔ (link_at places rg (past k j) ≡ suc (past k p))
    unregistered_child j p l = rw (unregistered_relinked j l) (relinked_exactly k (link_at places rg (past k j)) p)

    child_test : (j p : ℕ) → j < n - 1 → child_of (link_at places rest) p j ≡ child_of (link_at places rg) (past k p) (past k j)
    child_test j p l = same_test _ _ (simp eqb_exactly (unregistered_child j p l))

    pub unregistered_linked : Linked (n - 1) (link_at places rest)
    unregistered_linked j l =
        let link : ℕ = link_at places rg (past k j) in
        let earlier : link ≤ past k j = linked (past k j) (stood_inside j l) in
        rw (unregistered_relinked j l)
        (⊎_elim
        (λ low. omega (arith, relinked_le k link))
        (λ high. ⊎_elim (λ c. omega arith) (⊎_elim (λ c. omega arith) (λ c. omega arith)) (relinked_cases k link))
        (past_cases k j))

    -- No list has more children than before.
    children_left : (p : ℕ) → children (link_at places rest) (n - 1) p ≤ children (link_at places rg) n (past k p)
    unfolding children
    children_left p =
        let stood : ℕ → ℕ = λ i. one (child_of (link_at places rg) (past k p) i) in
        let same : sum (λ j. one (child_of (link_at places rest) p j)) (n - 1) ≡ sum (λ j. stood (past k j)) (n - 1) =
        sum_ext (λ j. one (child_of (link_at places rest) p j)) (λ j. stood (past k j)) (n - 1)
        (λ j l. ap one (child_test j p l)) in
        omega (arith, sum_without k (n - 1) n (omega arith) inside stood)

  module _ (next : ℕ) (old : RegisteredRules places n next rg) where
    parent_left : (j p : ℕ) → j < n - 1 → link_at places rest j ≡ suc p → p < n - 1
    parent_left j p l e = omega (arith, unregistered_linked old.linked j l)

    rest_rules : RegisteredRules places (n - 1) next rest
    rest_rules = record {
      differ = differ_without k (n - 1) n (omega arith) inside (id_at rg) (id_at rest) unregistered_without old.differ;
      issued = λ j l. rw (unregistered_without j l) (old.issued (past k j) (stood_inside j l));
      linked = unregistered_linked old.linked;
      parent_has_list = λ j l p e.
          rw (unregistered_state p (parent_left j p l e))
          (old.parent_has_list (past k j) (stood_inside j l) (past k p) ((unregistered_child old.linked j p l).0 e));
      short = λ p l. omega (arith, children_left old.linked p, old.short (past k p) (stood_inside p l));
      cascaded = λ j l p e gone.
          rw (unregistered_state j l)
          (old.cascaded (past k j) (stood_inside j l) (past k p) ((unregistered_child old.linked j p l).0 e)
          (rw (unregistered_state p (parent_left j p l e)) at gone));
    }

  pub unregistered_keeps :
      (m next : ℕ) (spaces : ℕ → ℕ) → RegistryRules places n m next spaces rg → RegistryRules places (n - 1) m next spaces rest
  unregistered_keeps m next spaces rules =
      let old : RecycledRules places n m next rg = rules.recycled in
      let again : Same m (recycled_at places rg) (recycled_at places rest) =
      λ j l. unregistered_before.behind (4 * places + j) (omega arith) in
      record {
        registered = rest_rules next rules.registered;
        recycled = record {
          ascend = ascend_same m (recycled_at places rg) (recycled_at places rest) again old.ascend;
          unregistered = λ i u j l e.
              old.unregistered i u (past k j) (stood_inside j l) (sym (again i u) ∙ e ∙ unregistered_without j l);
          issued = issued_same m (recycled_at places rg) (recycled_at places rest) next again old.issued;
        };
        held = λ j l. rw (unregistered_state j l, unregistered_without j l) (rules.held (past k j) (stood_inside j l));
      }

  pub unregistered_ids : Differ n (id_at rg) → (x : ℕ) → (place_of (n - 1) rest x < n - 1) ↔ ((place_of n rg x < n) × (x ≢ id_at rg k))
  unregistered_ids differ x =
      let split = among_without k (n - 1) n (omega arith) inside (id_at rg) (id_at rest) unregistered_without x in
      let gone = left_out k (n - 1) n (omega arith) inside (id_at rg) (id_at rest) unregistered_without differ in
      let before : (place_of n rg x < n) ↔ Among n (id_at rg) x = registered_among n rg x in
      let after : (place_of (n - 1) rest x < n - 1) ↔ Among (n - 1) (id_at rest) x = registered_among (n - 1) rest x in (
        λ l. (before.1 (split.1 (inr (after.0 l))), λ e. gone (rw e at (after.0 l))),
        λ (l, other). after.1 (⊎_elim (λ e. absurd (other (sym e))) (λ among. among) (split.0 (before.0 l))),
      )

  -- The children of place k have no parent then. Any other keeps its parent, by the place where that stands then.
  module _ (linked : Linked n (link_at places rg)) (j : ℕ) (l : j < n - 1) where
    pub unregistered_frees : link_at places rg (past k j) ≡ suc k → link_at places rest j ≡ 0
    unregistered_frees e =
        unregistered_relinked linked j l ∙ rw (e, eq-eqb (suc k) (suc k) refl)

    pub unregistered_parent : (p : ℕ) → p ≢ k → link_at places rg (past k j) ≡ suc p → link_at places rest j ≡ suc (rank k p)
    unregistered_parent p other e = (unregistered_child linked j (rank k p) l).1 (e ∙ ap suc (sym (past_rank k p other)))
