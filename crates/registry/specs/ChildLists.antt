-- The children of each place as a list in two arrays of places: `firsts` has each place's first child, `nexts` what follows each place
-- among the children of its parent. A place is kept as one more than its number, so that 0 says that there is none.
use Rattle.std.specs.Prelude.{◌≡◌, ℕ, zero, suc, ◌+◌, ◌-◌, ◌<◌, ◌≤◌, Bool, true, false, ◌≢◌, List, [], ◌∷◌, length, replicate, slice_index, slice_index_or, slice_set, refl}
use Rattle.std.proofs.Common.{ap, ◌∙◌, length-set, get_or-set_same, get_or-set_other, arith, eq-eqb, ne_eqb, eqb-true}
use Rattle.std.proofs.Math.Decide.{ℕ_discrete}
use Rattle.std.proofs.Math.ListN.{length-replicate}
use Rattle.std.proofs.Math.Logic.{by_cases}
use Rattle.base.specs.Choose.{pick}
use Rattle.registry.specs.Words.{link_at, child_of}
use Rattle.registry.specs.Sound.{Linked}
use Rattle.registry.specs.Counts.{AtMost, at_most_none}
use Rattle.registry.specs.Children.{child_places_from, child_places}

-- The first of these places, so kept.
abbrev pub head_of : List ℕ → ℕ
head_of [] = 0
head_of (k ∷ ks) = suc k

-- The places of a list, from the one that `at` names on, at most m.
unfoldable pub list_from : List ℕ → ℕ → ℕ → List ℕ
list_from nexts zero at = []
list_from nexts (suc m) zero = []
list_from nexts (suc m) (suc k) = k ∷ list_from nexts m (slice_index nexts k)

-- The children among the n registered places from k on.
abbrev children_from : ℕ → ℕ → List ℕ → ℕ → ℕ → List ℕ
children_from places n rg p k = child_places_from places p k (n - k) rg

-- They are listed, each in its parent's list.
pub record ChildLists (places n : ℕ) (rg firsts nexts : List ℕ) (k : ℕ) : Type 0 where
  pub firsts_room : n ≤ length firsts
  pub nexts_room : n ≤ length nexts
  pub firsts_inside : AtMost (length nexts) firsts
  pub nexts_inside : AtMost (length nexts) nexts
  pub first : (p : ℕ) → p < n → slice_index firsts p ≡ head_of (children_from places n rg p k)
  pub next : (j : ℕ) → k ≤ j → j < n → (p : ℕ) → link_at places rg j ≡ suc p
      → slice_index nexts j ≡ head_of (children_from places n rg p (j + 1))

at_most_set : (e : ℕ) (xs : List ℕ) (i v : ℕ) → AtMost e xs → i < length xs → v ≤ e → AtMost e (slice_set xs i v)
at_most_set e xs i v few inside l = record {
  most = λ k.
      by_cases (ℕ_discrete k i)
      (λ here. rw (here, get_or-set_same xs i v 0 inside) l)
      (λ other. rw (get_or-set_other xs i k v 0 other) (few.most k));
}

pub list_empty : (nexts : List ℕ) (room : ℕ) → list_from nexts room 0 ≡ []
unfolding list_from
list_empty nexts zero = refl
list_empty nexts (suc room) = refl

module _ (places n : ℕ) (rg : List ℕ) where
  -- Before the first all lists are empty.
  pub lists_none : (a b : ℕ) → n ≤ a → n ≤ b → ChildLists places n rg (replicate a 0) (replicate b 0) n
  unfolding child_places_from
  lists_none a b l u = record {
    firsts_room = rw length-replicate l;
    nexts_room = rw length-replicate u;
    firsts_inside = record { most = λ k. omega (arith, (at_most_none a).most k) };
    nexts_inside = record { most = λ k. omega (arith, (at_most_none b).most k) };
    first = λ p v.
        let none : n - n ≡ 0 = omega arith in
        let zeros : List ℕ = replicate a 0 in
        let empty : slice_index_or zeros p 0 ≡ 0 = omega (arith, (at_most_none a).most p) in
        rw (none, empty);
    next = λ j v w. absurd (omega arith);
  }

  module _ (k : ℕ) (l : k < n) (p : ℕ) where
    more : n - k ≡ suc (n - (k + 1))
    more = omega arith

    child_more : link_at places rg k ≡ suc p → children_from places n rg p k ≡ k ∷ children_from places n rg p (k + 1)
    unfolding child_places_from
    child_more e = rw (more, eq-eqb (link_at places rg k) (suc p) e)

    other_more : link_at places rg k ≢ suc p → children_from places n rg p k ≡ children_from places n rg p (k + 1)
    unfolding child_places_from
    other_more d = rw (more, ne_eqb (link_at places rg k) (suc p) d)

  -- The place before is listed: at the front of its parent's list, if it has a parent.
  module _ (firsts nexts : List ℕ) (k : ℕ) (l : k < n) (lists : ChildLists places n rg firsts nexts (k + 1)) where
    pub lists_root : link_at places rg k ≡ 0 → ChildLists places n rg firsts nexts k
    lists_root none = record {
      firsts_room = lists.firsts_room;
      nexts_room = lists.nexts_room;
      firsts_inside = lists.firsts_inside;
      nexts_inside = lists.nexts_inside;
      first = λ p u. rw (other_more k l p (λ e. omega arith)) (lists.first p u);
      next = λ j u v p e.
          let apart : j ≢ k = λ here. omega (arith, ap (link_at places rg) here) in
          lists.next j (omega arith) v p e;
    }

    pub lists_child : Linked n (link_at places rg) → (q : ℕ) → link_at places rg k ≡ suc q
        → ChildLists places n rg (slice_set firsts q (suc k)) (slice_set nexts k (slice_index firsts q)) k
    lists_child linked q named =
        let parent : q < n = omega (arith, linked k l) in
        record {
          firsts_room = rw length-set lists.firsts_room;
          nexts_room = rw length-set lists.nexts_room;
          firsts_inside =
              rw length-set
              (at_most_set (length nexts) firsts q (suc k) lists.firsts_inside (omega (arith, lists.firsts_room))
              (omega (arith, lists.nexts_room)));
          nexts_inside =
              rw length-set
              (at_most_set (length nexts) nexts k (slice_index firsts q) lists.nexts_inside (omega (arith, lists.nexts_room))
              (lists.firsts_inside.most q));
          first = λ p u.
              by_cases (ℕ_discrete p q)
              (λ here.
              rw (here, child_more k l q named) (get_or-set_same firsts q (suc k) 0 (omega (arith, lists.firsts_room))))
              (λ other.
              rw (get_or-set_other firsts q p (suc k) 0 other, other_more k l p (λ e. other (omega arith))) (lists.first p u));
          next = λ j u v p e.
              by_cases (ℕ_discrete j k)
              (λ here.
              let same : p ≡ q = omega (arith, ap (link_at places rg) here) in
              rw (here, same) (get_or-set_same nexts k (slice_index firsts q) 0 (omega (arith, lists.nexts_room)) ∙ lists.first q parent))
              (λ other. get_or-set_other nexts k j (slice_index firsts q) 0 other ∙ lists.next j (omega arith) v p e);
        }

  -- Where all are listed, the list of place p has its children.
  module _ (firsts nexts : List ℕ) (lists : ChildLists places n rg firsts nexts 0) (p : ℕ) where
    lists_from : (m k : ℕ) → k + m ≡ n → (room : ℕ) → length (child_places_from places p k m rg) ≤ room
        → list_from nexts room (head_of (child_places_from places p k m rg)) ≡ child_places_from places p k m rg
    unfolding child_places_from list_from
    lists_from zero k e room fits = list_empty nexts room
    lists_from (suc m) k e room fits = go (child_of (link_at places rg) p k) refl (lists_from m (k + 1) (omega arith)) room fits
      where
        later : List ℕ
        later = child_places_from places p (k + 1) m rg

        go : (b : Bool) → child_of (link_at places rg) p k ≡ b
            → ((room : ℕ) → length later ≤ room → list_from nexts room (head_of later) ≡ later)
            → (room : ℕ) → length (pick b (k ∷ later) later) ≤ room
            → list_from nexts room (head_of (pick b (k ∷ later) later)) ≡ pick b (k ∷ later) later
        go true named rest zero fits = absurd (omega arith)
        go true named rest (suc room) fits =
            let left : n - (k + 1) ≡ m = omega arith in
            let follows : slice_index_or nexts k 0 ≡ head_of later =
            rw left at (lists.next k (omega arith) (omega arith) p (eqb-true (link_at places rg k) (suc p) named)) in
            rw follows (ap (λ ks. k ∷ ks) (rest room (omega arith)))
        go false other rest room fits = rest room fits

    pub lists_children : (room : ℕ) → p < n → length (child_places places p n rg) ≤ room
        → list_from nexts room (slice_index firsts p) ≡ child_places places p n rg
    unfolding child_places
    lists_children room l fits =
        let all : n - 0 ≡ n = omega arith in
        rw (rw all at (lists.first p l)) (lists_from n 0 (omega arith) room fits)
