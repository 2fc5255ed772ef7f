-- A search is exact: what it finds is a live entry of that id, every live entry is found where it stands, and it says absent exactly
-- when no live slot has the id.
use Rattle.std.proofs.Common.{◌≡◌, refl, sym, ap, ◌∙◌, ◌≢◌, ◌↔◌, Bool, true, false, List, ℕ, ◌+◌, ◌<◌, arith, eqb-true, eq-eqb, ne_eqb, eqb, Option, None, Some}
use Rattle.std.proofs.Math.Decide.{dec_lt}
use Rattle.std.proofs.Math.Logic.{by_cases}
use Rattle.base.specs.Choose.{pick}
use Rattle.base.specs.FirstLaws.{first_passes, first_is}
use Rattle.table.specs.Slots.{is_empty, is_live, id_at}
use Rattle.table.specs.Walk.{walk, stops, steps_to_stop, search}
use Rattle.table.specs.Sound.{Met, Sound}
use Rattle.table.specs.declared.CapTable.{CapTable}
use Rattle.table.proofs.laws.Walks.{walk_lt, walk_injective, search_stops, search_runs_out}

-- ---- what a search finds

picked : (b : Bool) (i j : ℕ) → pick b (Some i) None ≡ Some j → (b ≡ true) × (i ≡ j)
picked true i j e = (refl, cc)
picked false i j e = (cc, cc)

-- It found slot i, so it stopped there.
pub found_stops :
    (ws : List ℕ) (slots id i : ℕ) → (search ws slots id).found ≡ Some i
    → (steps_to_stop ws slots id < slots) × (walk id slots (steps_to_stop ws slots id) ≡ i) × (is_live ws i ≡ true)
found_stops ws slots id i e =
    by_cases (dec_lt n slots)
    (λ l.
    let at_n = ap (λ s. s.found) (search_stops ws slots id n refl l) in
    let (live, here) = picked (is_live ws (walk id slots n)) (walk id slots n) i (sym at_n ∙ e) in
    (l, here, rw here at live))
    (λ past.
    let none : (search ws slots id).found ≡ None = ap (λ s. s.found) (search_runs_out ws slots id n refl (omega arith)) in
    let z : ◌≡◌ {A = ℕ} 0 1 = cc in
    absurd (omega arith))
  where
    n : ℕ
    n = steps_to_stop ws slots id

pub search_at :
    (ws : List ℕ) (slots id i : ℕ) → (search ws slots id).found ≡ Some i → (i < slots) × (is_live ws i ≡ true) × (id_at ws i ≡ id)
unfolding steps_to_stop
search_at ws slots id i e =
    let (l, here, live) = found_stops ws slots id i e in
    let stopped : stops ws id i ≡ true = rw here at (first_passes (λ t. stops ws id (walk id slots t)) slots l) in
    (rw here at (walk_lt id slots (steps_to_stop ws slots id) (omega arith)), live, eqb-true (id_at ws i) id (rw live at stopped))

-- Where no live slot has the id it finds nothing.
pub none_absent :
    (ws : List ℕ) (slots id : ℕ) → ((i : ℕ) → i < slots → is_live ws i ≡ true → id_at ws i ≢ id) → (search ws slots id).found ≡ None
none_absent ws slots id others = go (search ws slots id).found refl
  where
    go : (f : Option ℕ) → (search ws slots id).found ≡ f → (search ws slots id).found ≡ None
    go (Some i) e = let (l, live, same) = search_at ws slots id i e in absurd (others i l live same)
    go None e = e

-- ---- what is live is found, where it is met on its own walk and no other live slot has its id

pub live_stops : (ws : List ℕ) (i : ℕ) → is_live ws i ≡ true → stops ws (id_at ws i) i ≡ true
live_stops ws i live = rw live (eq-eqb (id_at ws i) (id_at ws i) refl)

-- A search passes a slot that is not empty and has not the id.
pub other_passed : (ws : List ℕ) (id i : ℕ) → is_empty ws i ≡ false → (is_live ws i ≡ true → id_at ws i ≢ id) → stops ws id i ≡ false
other_passed ws id i full others = go (is_live ws i) refl
  where
    go : (b : Bool) → is_live ws i ≡ b → pick b (eqb (id_at ws i) id) (is_empty ws i) ≡ false
    go true live = ne_eqb (id_at ws i) id (others live)
    go false _ = full

module _
    (ws : List ℕ) (slots i : ℕ) (live : is_live ws i ≡ true) (met : Met ws slots i)
    (alone : (j : ℕ) → j < slots → is_live ws j ≡ true → id_at ws j ≡ id_at ws i → j ≡ i)
  where
    -- A slot before it on the walk that had its id would be it.
    met_first : (s : ℕ) → s < met.steps → is_live ws (walk (id_at ws i) slots s) ≡ true → id_at ws (walk (id_at ws i) slots s) ≢ id_at ws i
    met_first s l h e =
        let here = alone (walk (id_at ws i) slots s) (walk_lt (id_at ws i) slots s (omega arith)) h e in
        let again = walk_injective (id_at ws i) slots s met.steps (omega arith) met.within (here ∙ sym met.there) in
        omega arith

    pub met_steps : steps_to_stop ws slots (id_at ws i) ≡ met.steps
    unfolding steps_to_stop
    met_steps =
        first_is (λ t. stops ws (id_at ws i) (walk (id_at ws i) slots t)) slots met.steps met.within
        (rw met.there (live_stops ws i live))
        (λ s l. other_passed ws (id_at ws i) (walk (id_at ws i) slots s) (met.before s l) (met_first s l))

    pub met_found : search ws slots (id_at ws i) ≡ record { found = Some i; visits = met.steps + 1 }
    met_found = search_stops ws slots (id_at ws i) met.steps met_steps met.within ∙ rw (met.there, live)

-- ---- so a search is exact where live ids differ and every live slot is met

abbrev pub Differ : List ℕ → ℕ → Type 0
Differ ws slots = (i j : ℕ) → i < slots → j < slots → is_live ws i ≡ true → is_live ws j ≡ true → id_at ws i ≡ id_at ws j → i ≡ j

abbrev pub AllMet : List ℕ → ℕ → Type 0
AllMet ws slots = (i : ℕ) → i < slots → is_live ws i ≡ true → Met ws slots i

-- A search of the id of each live slot finds that slot.
abbrev pub AllFound : List ℕ → ℕ → Type 0
AllFound ws slots = (i : ℕ) → i < slots → is_live ws i ≡ true → (search ws slots (id_at ws i)).found ≡ Some i

module _ (ws : List ℕ) (slots : ℕ) (differ : Differ ws slots) (met : AllMet ws slots) where
  pub live_found : AllFound ws slots
  live_found i l live = ap (λ s. s.found) (met_found ws slots i live (met i l live) (λ j u h e. differ j i u l h live e))

  pub at_exactly : (id i : ℕ) → ((search ws slots id).found ≡ Some i) ↔ ((i < slots) × (is_live ws i ≡ true) × (id_at ws i ≡ id))
  at_exactly id i = (search_at ws slots id i, λ (l, live, same). rw same at (live_found i l live))

  pub absent_exactly : (id : ℕ) → ((search ws slots id).found ≡ None) ↔ ((i : ℕ) → i < slots → is_live ws i ≡ true → id_at ws i ≢ id)
  absent_exactly id = (
    λ absent i l live same.
        let found : (search ws slots id).found ≡ Some i = (at_exactly id i).1 (l, live, same) in
        let z : ◌≡◌ {A = ℕ} 0 1 = cc in
        omega arith,
    none_absent ws slots id,
  )

-- ---- a sound table

module _ (most : ℕ) (ws : List ℕ) (t : CapTable) (sound : Sound most ws t) where
  pub live_is_found : (i : ℕ) → i < t.slots → is_live ws i ≡ true → (search ws t.slots (id_at ws i)).found ≡ Some i
  live_is_found = live_found ws t.slots sound.differ sound.met

  pub at_exactly_when_live :
      (id i : ℕ) → ((search ws t.slots id).found ≡ Some i) ↔ ((i < t.slots) × (is_live ws i ≡ true) × (id_at ws i ≡ id))
  at_exactly_when_live = at_exactly ws t.slots sound.differ sound.met

  pub absent_exactly_when_none :
      (id : ℕ) → ((search ws t.slots id).found ≡ None) ↔ ((i : ℕ) → i < t.slots → is_live ws i ≡ true → id_at ws i ≢ id)
  absent_exactly_when_none = absent_exactly ws t.slots sound.differ sound.met
