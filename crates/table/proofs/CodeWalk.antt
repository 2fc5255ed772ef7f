-- The turns of the loops that walk: where a walk stands after one step more, and what is left to count at each step.
use Rattle.std.proofs.Common.{◌≡◌, refl, sym, ap, ◌∙◌, List, Bool, true, false, not, ℕ, ◌+◌, ◌-◌, ◌%◌, ◌<◌, ◌≤◌, add-zero, add_comm, mod-eq_of_lt, arith, rules, eqb-true, lt-ltb, le-ltb, eqb, None, Some}
use Rattle.std.proofs.Math.Decide.{dec_lt}
use Rattle.std.proofs.Math.Logic.{by_cases}
use Rattle.std.proofs.Math.Nat.{sub-zero, mod-add-mod}
use Rattle.base.specs.Choose.{pick, both, both_left, both_right}
use Rattle.base.specs.Below.{first_from, first}
use Rattle.base.specs.FirstLaws.{first_is, first_after, first_up_start, first_up_found, first_up_next, first_up_done}
use Rattle.table.specs.Slots.{kind_at, is_empty, is_live, id_at}
use Rattle.table.specs.Walk.{home_of, walk, stops, steps_to_stop, ended, search, search_from, steps_to_free, free_for}
use Rattle.table.specs.declared.Search.{Search}
use Rattle.table.proofs.laws.Walks.{walk_home, walk_next}

-- ---- where a walk stands

pub walk_starts : (id slots i : ℕ) → i ≡ home_of id slots → i ≡ walk id slots 0
walk_starts id slots i e = e ∙ sym (walk_home id slots)

pub walk_steps : (id slots t i j : ℕ) → i ≡ walk id slots t → j ≡ (i + 1) % slots → j ≡ walk id slots (t + 1)
walk_steps id slots t i j e f = f ∙ ap (λ n. (n + 1) % slots) e ∙ sym (walk_next id slots t)

-- ---- the search

-- A slot that is passed: it has not the id, and is not empty.
passed_on : (ws : List ℕ) (id i : ℕ) → both (is_live ws i) (eqb (id_at ws i) id) ≡ false → is_empty ws i ≡ false → stops ws id i ≡ false
passed_on ws id i other some = go (is_live ws i) other
  where
    go : (c : Bool) → both c (eqb (id_at ws i) id) ≡ false → pick c (eqb (id_at ws i) id) (is_empty ws i) ≡ false
    go true h = h
    go false h = some

-- An empty slot is not live.
bare : (ws : List ℕ) (i : ℕ) → is_empty ws i ≡ true → is_live ws i ≡ false
bare ws i empty =
    let none = eqb-true (kind_at ws i) 0 empty in
    rw none

-- What a search answers that begins after p visits.
unfoldable pub later : ℕ → Search → Search
later p s = record { found = s.found; visits = s.visits + p }

later_later : (p : ℕ) (s : Search) → later p (later 1 s) ≡ later (p + 1) s
unfolding later
later_later p s = ap (λ v. record { found = s.found; visits = v }) (omega arith)

-- One step more, of one slot more.
ended_later : (ws : List ℕ) (n t i : ℕ) → ended ws (n + 1) (t + 1) i ≡ later 1 (ended ws n t i)
unfolding later
ended_later ws n t i =
    by_cases (dec_lt t n)
    (λ l. rw (lt-ltb t n l, lt-ltb (t + 1) (n + 1) (omega arith)))
    (λ g. rw (le-ltb t n (omega arith), le-ltb (t + 1) (n + 1) (omega arith)))

from_none : (ws : List ℕ) (slots id i : ℕ) → search_from ws slots id i 0 ≡ record { found = None; visits = 0 }
unfolding search_from first first_from
from_none ws slots id i = refl

-- The search from slot i on, over one slot and n more, stops there or goes on with the next slot.
module _ (ws : List ℕ) (slots id i n : ℕ) (l : i < slots) where
  here : (i + 0) % slots ≡ i
  here = rw add-zero (mod-eq_of_lt l)

  from_stops : stops ws id i ≡ true → search_from ws slots id i (n + 1) ≡ record { found = pick (is_live ws i) (Some i) None; visits = 1 }
  unfolding search_from
  from_stops s =
      let none = first_is (λ t. stops ws id ((i + t) % slots)) (n + 1) 0 (omega arith) (rw here s) (λ k u. absurd (omega arith)) in
      rw (none, lt-ltb 0 (n + 1) (omega arith), here)

  from_passes : stops ws id i ≡ false → search_from ws slots id i (n + 1) ≡ later 1 (search_from ws slots id ((i + 1) % slots) n)
  unfolding search_from
  from_passes passed =
      let next : (t : ℕ) → (i + (t + 1)) % slots ≡ ((i + 1) % slots + t) % slots =
      λ t. rw mod-add-mod (ap (λ x. x % slots) (omega arith)) in
      let steps = simp next at (first_after (λ t. stops ws id ((i + t) % slots)) n (rw here passed)) in
      rw (steps, next, ended_later)

-- A search over n slots with the answer s goes on at slot i, after `passed` visits.
module _ (ws : List ℕ) (slots id n passed i : ℕ) (s : Search) (left : s ≡ later passed (search_from ws slots id i (n - passed)))
    (l : i < slots)
  where
    module _ (more : passed < n) where
      one_more : n - (passed + 1) + 1 ≡ n - passed
      one_more = omega arith

      stopped : stops ws id i ≡ true → record { found = pick (is_live ws i) (Some i) None; visits = passed + 1 } ≡ s
      unfolding later
      stopped h = sym (left ∙ rw (← one_more, from_stops ws slots id i (n - (passed + 1)) l h, add_comm 1 passed))

      pub find_found : (b : Bool) → b ≡ both (is_live ws i) (eqb (id_at ws i) id) → b ≡ true
          → record { found = Some i; visits = passed + 1 } ≡ s
      find_found b e yes' =
          let live = both_left (is_live ws i) (eqb (id_at ws i) id) (sym e ∙ yes') in
          let same = both_right (is_live ws i) (eqb (id_at ws i) id) (sym e ∙ yes') in
          rw live at (stopped (rw live same))

      pub find_empty : (z : Bool) → z ≡ is_empty ws i → z ≡ true → record { found = None; visits = passed + 1 } ≡ s
      find_empty z e yes' =
          let none = bare ws i (sym e ∙ yes') in
          rw none at (stopped (rw none (sym e ∙ yes')))

      pub find_goes :
          (b z : Bool) (j : ℕ) → b ≡ both (is_live ws i) (eqb (id_at ws i) id) → b ≡ false → z ≡ is_empty ws i → z ≡ false
          → j ≡ (i + 1) % slots
          → s ≡ later (passed + 1) (search_from ws slots id j (n - (passed + 1)))
      find_goes b z j e no' f some next =
          let passes = passed_on ws id i (sym e ∙ no') (sym f ∙ some) in
          left ∙ rw (← one_more, from_passes ws slots id i (n - (passed + 1)) l passes, ← next, later_later)

    pub find_ends : passed ≤ n → n ≤ passed → record { found = None; visits = n } ≡ s
    unfolding later
    find_ends u past =
        let none : n - passed ≡ 0 = omega arith in
        let all : 0 + passed ≡ n = omega arith in
        sym (left ∙ rw (none, from_none ws slots id i, all))

pub find_starts : (ws : List ℕ) (slots id i n : ℕ) → search_from ws slots id i n ≡ later 0 (search_from ws slots id i (n - 0))
unfolding later
find_starts ws slots id i n = rw (sub-zero, add-zero)

pub ruleset find_laws = (find_starts, find_found, find_empty, find_goes, find_ends, rules)

-- The search is the one over all slots from home on.
from_home : (ws : List ℕ) (slots id : ℕ) → search ws slots id ≡ search_from ws slots id (home_of id slots) slots
unfolding search steps_to_stop walk search_from
from_home ws slots id = refl

pub find_none : (ws : List ℕ) (slots id : ℕ) → slots ≡ 0 → record { found = None; visits = 0 } ≡ search ws slots id
find_none ws slots id e = rw (e, from_home, from_none)

module _ (ws : List ℕ) (slots id i : ℕ) (home : i ≡ home_of id slots) where
  home_starts : search ws slots id ≡ later 0 (search_from ws slots id i (slots - 0))
  home_starts = rw (from_home, ← home) (find_starts ws slots id i slots)

  module _ (l : i < slots) where
    pub home_found : (b : Bool) → b ≡ both (is_live ws i) (eqb (id_at ws i) id) → b ≡ true
        → record { found = Some i; visits = 1 } ≡ search ws slots id
    home_found = find_found ws slots id slots 0 i (search ws slots id) home_starts l (omega arith)

    pub home_empty : (z : Bool) → z ≡ is_empty ws i → z ≡ true → record { found = None; visits = 1 } ≡ search ws slots id
    home_empty = find_empty ws slots id slots 0 i (search ws slots id) home_starts l (omega arith)

    pub home_goes :
        (b z : Bool) (j : ℕ) (rest : Search) → b ≡ both (is_live ws i) (eqb (id_at ws i) id) → b ≡ false → z ≡ is_empty ws i → z ≡ false
        → j ≡ (i + 1) % slots → rest ≡ search_from ws slots id j (slots - 1)
        → record { found = rest.found; visits = rest.visits + 1 } ≡ search ws slots id
    unfolding later
    home_goes b z j rest e no' f some next answer =
        sym (find_goes ws slots id slots 0 i (search ws slots id) home_starts l (omega arith) b z j e no' f some next ∙ rw (← answer))

pub ruleset home_laws = (find_none, home_found, home_empty, home_goes, rules)

-- ---- the walk for a free place

abbrev is_free : List ℕ → ℕ → ℕ → ℕ → Bool
is_free ws slots id t = not (is_live ws (walk id slots t))

-- The steps to a free slot, counted on from step t.
unfoldable pub free_from : List ℕ → ℕ → ℕ → ℕ → ℕ
free_from ws slots id t = first_from (is_free ws slots id) (slots - t) t

module _ (ws : List ℕ) (slots id : ℕ) where
  pub free_starts : steps_to_free ws slots id ≡ free_from ws slots id 0
  unfolding steps_to_free free_from
  free_starts = first_up_start (is_free ws slots id) slots

  module _ (t i : ℕ) (left : steps_to_free ws slots id ≡ free_from ws slots id t) (w : i ≡ walk id slots t) where
    pub free_goes : (b : Bool) → t < slots → b ≡ is_live ws i → not b ≡ false → steps_to_free ws slots id ≡ free_from ws slots id (t + 1)
    unfolding free_from
    free_goes b l e live = first_up_next (is_free ws slots id) slots t (steps_to_free ws slots id) left l (rw (← w, ← e) live)

    pub free_stops : (b : Bool) → t < slots → b ≡ is_live ws i → not b ≡ true → i ≡ free_for ws slots id
    unfolding free_from free_for
    free_stops b l e other =
        w ∙ ap (walk id slots) (first_up_found (is_free ws slots id) slots t (steps_to_free ws slots id) left l
        (rw (← w, ← e) other))

    pub free_ends : slots ≤ t → i ≡ free_for ws slots id
    unfolding free_from free_for
    free_ends l = w ∙ ap (walk id slots) (first_up_done (is_free ws slots id) slots t (steps_to_free ws slots id) left l)

pub ruleset free_laws = (walk_starts, walk_steps, free_starts, free_goes, free_stops, free_ends, rules)
