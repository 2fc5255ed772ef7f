-- Laws of the collection of the children of place p with no children and no holders: exactly they leave the registry, the places up to p
-- stay as they are, and the rules of a registry hold on.
use Rattle.std.specs.Prelude.{◌≡◌, ℕ, zero, suc, ◌+◌, ◌-◌, ◌*◌, ◌<◌, ◌≤◌, Bool, true, false, not, ◌≢◌, ◌↔◌, List, length, ◌==◌, refl}
use Rattle.std.proofs.Common.{sym, ◌∙◌, ⊎_elim, true≢false, arith, eqb-true, ne_eqb, ap}
use Rattle.std.proofs.Math.Decide.{ℕ_discrete}
use Rattle.std.proofs.Math.Logic.{by_cases}
use Rattle.std.proofs.Math.Logic.Iff
use Rattle.base.specs.Choose.{pick, both, both_left}
use Rattle.base.specs.Distinct.{Differ, Among}
use Rattle.base.specs.Exactly.{eqb_exactly, same_test}
use Rattle.base.specs.FirstLaws.{first_some_exactly}
use Rattle.registry.specs.Words.{id_at, object_at, state_at, link_at, holders, child_of}
use Rattle.registry.specs.Sound.{Linked}
use Rattle.registry.specs.Holders.{place_of}
use Rattle.registry.specs.HoldersLaws.{place_holds, place_is}
use Rattle.registry.specs.Registering.{unregistered, has_child, unneeded, Collected, collected_below, collected}
use Rattle.registry.specs.Rules.{RegistryRules}
use Rattle.registry.specs.Without.{past, rank, past_below, past_le, past_cases, rank_cases, past_rank, rank_inside}
use Rattle.registry.specs.RegisteringLaws.{SamePlaces, same_places_refl, same_places_trans, registered_among}
use Rattle.registry.specs.UnregisteringLaws.{length_unregistered, unregistered_without, unregistered_before, unregistered_child, unregistered_linked, unregistered_keeps}

-- Place k has a child exactly if it is named by one of the n links.
has_child_exactly : (places n : ℕ) (rg : List ℕ) (k : ℕ) → (has_child places n rg k ≡ true) ↔ Among n (link_at places rg) (suc k)
has_child_exactly places n rg k = simp eqb_exactly at (first_some_exactly (child_of (link_at places rg) k) n)

unneeded_child : (places p n : ℕ) (rg : List ℕ) (k : ℕ) → unneeded places p n rg k ≡ true → link_at places rg k ≡ suc p
unfolding unneeded
unneeded_child places p n rg k h = eqb-true (link_at places rg k) (suc p) (both_left (child_of (link_at places rg) p k) _ h)

-- x is registered, and the collection from place k - 1 down to the first leaves it so.
record Stays (places p k n : ℕ) (rg : List ℕ) (x : ℕ) : Type 0 where
  place : ℕ
  registered : place < n
  holds : id_at rg place ≡ x
  needed : place < k → unneeded places p n rg place ≡ false

-- What the collection from place k - 1 down to the first makes of n ids.
pub record Collects (places p k n : ℕ) (rg : List ℕ) (c : Collected) : Type 0 where
  pub fewer : c.left ≤ n
  pub same_length : length c.words ≡ length rg
  parent_inside : Linked n (link_at places rg) → p < n → p < c.left
  before : Linked n (link_at places rg) → SamePlaces places (p + 1) rg c.words
  exactly : Linked n (link_at places rg) → (x : ℕ) → Among c.left (id_at c.words) x ↔ Stays places p k n rg x
  keeps : (m next : ℕ) (spaces : ℕ → ℕ) → RegistryRules places n m next spaces rg → RegistryRules places c.left m next spaces c.words

-- ---- one of them leaves

module _ (places p n k : ℕ) (rg : List ℕ) (inside : k < n) (fit : n ≤ places) (long : 5 * places + 1 ≤ length rg)
    (gone : unneeded places p n rg k ≡ true) where
  abbrev rest : List ℕ
  rest = unregistered places n k rg

  module _ (linked : Linked n (link_at places rg)) where
    -- It stands behind its parent.
    parent_before : p < k
    parent_before = omega (arith, unneeded_child places p n rg k gone, linked k inside)

    -- A place before it loses no child, but for the parent.
    has_child_stays : (j : ℕ) → j < k → j ≢ p → has_child places (n - 1) rest j ≡ has_child places n rg j
    has_child_stays j l other =
        let stood : past k j ≡ j = past_below k j l in
        let before = has_child_exactly places n rg j in
        let after = has_child_exactly places (n - 1) rest j in
        let moves : (i : ℕ) → i < n - 1 → (link_at places rest i ≡ suc j) ↔ (link_at places rg (past k i) ≡ suc j) =
        λ i u. rw stood at (unregistered_child places n k rg inside fit long linked i j u) in
        same_test _ _ (
          λ h. let (i, (u, e)) = after.0 h in before.1 (past k i, (omega (arith, past_le k i), (moves i u).0 e)),
          λ h.
              let (i, (u, e)) = before.0 h in
              let apart : i ≢ k = λ same. other (omega (arith, ap (link_at places rg) same, unneeded_child places p n rg k gone)) in
              let still : rank k i < n - 1 = rank_inside k (n - 1) n (omega arith) inside i u apart in
              after.1 (rank k i, (still, (moves (rank k i) still).1 (ap (link_at places rg) (past_rank k i apart) ∙ e))),
        )

    -- So it is needed as before; the parent is not its own child.
    unneeded_stays : (j : ℕ) → j < k → unneeded places p (n - 1) rest j ≡ unneeded places p n rg j
    unfolding unneeded
    unneeded_stays j l =
        let same = unregistered_before places n k rg inside fit long in
        rw (same.links j l, same.states j l) (
        by_cases (ℕ_discrete (link_at places rg j) (suc p))
        (λ named. ap (λ b. both (child_of (link_at places rg) p j) (both (holders (state_at places rg j) == 0) (not b)))
        (has_child_stays j l (λ e. omega (arith, linked j (omega arith)))))
        (λ other. rw (ne_eqb (link_at places rg j) (suc p) other)))

    -- What stays behind it is what was to stay with it.
    stays_left : (x : ℕ) → Stays places p k (n - 1) rest x ↔ Stays places p (suc k) n rg x
    stays_left x = (
      λ s. record {
        place = past k s.place;
        registered = omega (arith, past_le k s.place);
        holds = sym (moved s.place s.registered) ∙ s.holds;
        needed = λ u.
            ⊎_elim
            (λ (low, stood). rw stood (sym (unneeded_stays s.place low) ∙ s.needed low))
            (λ (high, stood). absurd (omega arith))
            (past_cases k s.place);
      },
      λ s.
          let q : ℕ = s.place in
          let apart : q ≢ k = λ same. true≢false (sym gone ∙ ap (unneeded places p n rg) (sym same) ∙ s.needed (omega arith)) in
          let still : rank k q < n - 1 = rank_inside k (n - 1) n (omega arith) inside q s.registered apart in
          record {
            place = rank k q;
            registered = still;
            holds = moved (rank k q) still ∙ ap (id_at rg) (past_rank k q apart) ∙ s.holds;
            needed = λ u.
                ⊎_elim
                (λ (low, here). rw here (unneeded_stays q low ∙ s.needed (omega arith)))
                (λ (high, here). absurd (omega arith))
                (rank_cases k q apart);
          },
    )
      where
        moved : (j : ℕ) → j < n - 1 → id_at rest j ≡ id_at rg (past k j)
        moved = unregistered_without places n k rg inside fit long

  collects_left : (c : Collected) → Collects places p k (n - 1) rest c → Collects places p (suc k) n rg c
  collects_left c later =
      let relinked : Linked n (link_at places rg) → Linked (n - 1) (link_at places rest) =
      unregistered_linked places n k rg inside fit long in
      record {
        fewer = omega (arith, later.fewer);
        same_length = later.same_length ∙ length_unregistered places n k rg inside fit long;
        parent_inside = λ linked parent. later.parent_inside (relinked linked) (omega (arith, parent_before linked));
        before = λ linked.
            same_places_trans places (p + 1) k rg rest c.words (omega (arith, parent_before linked))
            (unregistered_before places n k rg inside fit long) (later.before (relinked linked));
        exactly = λ linked x. Iff.trans (later.exactly (relinked linked) x) (stays_left linked x);
        keeps = λ m next spaces rules. later.keeps m next spaces (unregistered_keeps places n k rg inside fit long m next spaces rules);
      }

-- ---- one that is needed stays

module _ (places p n k : ℕ) (rg : List ℕ) (needed : unneeded places p n rg k ≡ false) where
  stays_needed : (x : ℕ) → Stays places p k n rg x ↔ Stays places p (suc k) n rg x
  stays_needed x = (
    λ s. record {
      place = s.place;
      registered = s.registered;
      holds = s.holds;
      needed = λ u. by_cases (ℕ_discrete s.place k) (λ here. rw here needed) (λ other. s.needed (omega arith));
    },
    λ s. record { place = s.place; registered = s.registered; holds = s.holds; needed = λ u. s.needed (omega arith) },
  )

  collects_needed : (c : Collected) → Collects places p k n rg c → Collects places p (suc k) n rg c
  collects_needed c later = record {
    fewer = later.fewer;
    same_length = later.same_length;
    parent_inside = later.parent_inside;
    before = later.before;
    exactly = λ linked x. Iff.trans (later.exactly linked x) (stays_needed x);
    keeps = later.keeps;
  }

-- ---- all of them

-- Place p need not be registered.
pub collects :
    (places p k n : ℕ) (rg : List ℕ) → k ≤ n → n ≤ places → 5 * places + 1 ≤ length rg
    → Collects places p k n rg (collected_below places p k n rg)
unfolding collected_below
collects places p zero n rg below fit long = record {
  fewer = omega arith;
  same_length = refl;
  parent_inside = λ linked parent. parent;
  before = λ linked. same_places_refl places (p + 1) rg;
  exactly = λ linked x. (
    λ (q, (l, e)). record { place = q; registered = l; holds = e; needed = λ u. absurd (omega arith) },
    λ s. (s.place, (s.registered, s.holds)),
  );
  keeps = λ m next spaces rules. rules;
}
collects places p (suc k) n rg below fit long =
    go (unneeded places p n rg k) refl
    (collects places p k (n - 1) rest (omega arith) (omega arith) (omega (arith, length_unregistered places n k rg (omega arith) fit long)))
    (collects places p k n rg (omega arith) fit long)
  where
    rest : List ℕ
    rest = unregistered places n k rg

    go : (b : Bool) → unneeded places p n rg k ≡ b
        → Collects places p k (n - 1) rest (collected_below places p k (n - 1) rest)
        → Collects places p k n rg (collected_below places p k n rg)
        → Collects places p (suc k) n rg (pick b (collected_below places p k (n - 1) rest) (collected_below places p k n rg))
    go true gone left stayed = collects_left places p n k rg (omega arith) fit long gone _ left
    go false needed left stayed = collects_needed places p n k rg needed _ stayed

-- The parent is registered at its place as before.
pub record ParentStays (places p : ℕ) (rg : List ℕ) (c : Collected) : Type 0 where
  pub registered_still : p < c.left
  pub same_id : id_at c.words p ≡ id_at rg p
  pub same_object : object_at places c.words p ≡ object_at places rg p
  pub same_state : state_at places c.words p ≡ state_at places rg p

module _ (places p n : ℕ) (rg : List ℕ) (inside : p < n) (fit : n ≤ places) (long : 5 * places + 1 ≤ length rg) where
  abbrev after : Collected
  after = collected places p n rg

  whole : Collects places p n n rg after
  unfolding collected
  whole = collects places p n n rg (omega arith) fit long

  pub collected_left : after.left ≤ n
  collected_left = whole.fewer

  pub length_collected : length after.words ≡ length rg
  length_collected = whole.same_length

  pub collected_keeps :
      (m next : ℕ) (spaces : ℕ → ℕ) → RegistryRules places n m next spaces rg
      → RegistryRules places after.left m next spaces after.words
  collected_keeps = whole.keeps

  module _ (linked : Linked n (link_at places rg)) where
    -- The places up to the parent keep their words, and so do the words behind the columns.
    pub collected_before : SamePlaces places (p + 1) rg after.words
    collected_before = whole.before linked

    pub collected_parent : ParentStays places p rg after
    collected_parent = record {
      registered_still = whole.parent_inside linked inside;
      same_id = collected_before.ids p (omega arith);
      same_object = collected_before.objects p (omega arith);
      same_state = collected_before.states p (omega arith);
    }

    -- The ids left are those whose places were needed before the collection.
    pub collected_exactly :
        Differ n (id_at rg) → (x : ℕ)
        → (place_of after.left after.words x < after.left)
        ↔ ((place_of n rg x < n) × (unneeded places p n rg (place_of n rg x) ≡ false))
    collected_exactly differ x =
        Iff.trans (registered_among after.left after.words x)
        (Iff.trans (whole.exactly linked x) (
          λ s. rw (place_is n rg x s.place differ s.registered s.holds) (s.registered, s.needed s.registered),
          λ (l, needed). record { place = place_of n rg x; registered = l; holds = place_holds n rg x l; needed = λ u. needed },
        ))
