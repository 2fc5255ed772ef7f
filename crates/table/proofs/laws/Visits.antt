-- How many slots a walk visits: at most one more than the live and the removed entries. So while a slot is empty every walk ends.
-- Each slot that a walk passes is live or removed and it passes none twice, so its steps are at most the two counts together.
-- The first part asks only what a table in the middle of a rebuild has too; the second says it of a search of a sound table. Structure,
-- Rebuild and Insert say it of the walk for a free place.
use Rattle.std.proofs.Common.{◌≡◌, refl, ap, Bool, true, false, not, true≢false, List, ℕ, zero, suc, ◌+◌, ◌<◌, ◌≤◌, arith, eqb-true, eqb, None}
use Rattle.std.proofs.Math.Decide.{dec_lt}
use Rattle.std.proofs.Math.Logic.{by_cases}
use Rattle.std.proofs.lemmas.Bool.{not-false}
use Rattle.base.specs.Choose.{pick}
use Rattle.base.specs.Below.{sum, one, first}
use Rattle.base.specs.FirstLaws.{first-le, first_before}
use Rattle.base.specs.SumLaws.{sum-add, sum-le, sum_one_all}
use Rattle.base.specs.Around.{sum_around_le}
use Rattle.table.specs.Slots.{kind_at, is_empty, is_removed, is_live, id_at}
use Rattle.table.specs.Walk.{home_of, walk, stops, steps_to_stop, steps_to_free, search}
use Rattle.table.specs.Sound.{Sound}
use Rattle.table.specs.declared.CapTable.{CapTable}
use Rattle.table.proofs.laws.Walks.{home_lt, walk_lt, search_stops, search_runs_out}

abbrev pub Coded : List ℕ → ℕ → Type 0
Coded ws slots = (i : ℕ) → i < slots → kind_at ws i ≤ 2

abbrev pub live_in : List ℕ → ℕ → ℕ
live_in ws slots = sum (λ i. one (is_live ws i)) slots

abbrev pub removed_in : List ℕ → ℕ → ℕ
removed_in ws slots = sum (λ i. one (is_removed ws i)) slots

-- ---- any table of listed kinds

-- 1 for a slot that is live or removed, else 0.
used : List ℕ → ℕ → ℕ
used ws i = one (is_live ws i) + one (is_removed ws i)

-- A kind that is listed and not empty is live or removed.
scratch_in_use : (kind : ℕ) → kind ≤ 2 → eqb kind 0 ≡ false → 1 ≤ one (eqb kind 2) + one (eqb kind 1)
scratch_in_use zero l e = absurd (true≢false e)
scratch_in_use (suc zero) l e = omega arith
scratch_in_use (suc (suc zero)) l e = omega arith
scratch_in_use (suc (suc (suc k))) l e = absurd (omega arith)

-- A walk that has passed k slots, none of them empty, has passed k live or removed entries.
passed_le :
    (ws : List ℕ) (slots id k : ℕ) → Coded ws slots → 0 < slots → k ≤ slots
    → ((s : ℕ) → s < k → is_empty ws (walk id slots s) ≡ false) → k ≤ live_in ws slots + removed_in ws slots
unfolding used walk
passed_le ws slots id k coded pos le passed =
    let met : ℕ → ℕ = λ s. used ws (walk id slots s) in
    let each : (s : ℕ) → s < k → 1 ≤ met s =
    λ s l. let i = walk id slots s in scratch_in_use (kind_at ws i) (coded i (walk_lt id slots s pos)) (passed s l) in
    omega (
      arith,
      sum_one_all (λ s. true) k (λ s l. refl),
      sum-le (λ s. 1) met k each,
      sum_around_le (used ws) slots (home_of id slots) k (home_lt id slots pos) le,
      sum-add (λ i. one (is_live ws i)) (λ i. one (is_removed ws i)) slots,
    )

-- A walk that looks for a slot with a test that fails at none but used slots.
steps_le :
    (ws : List ℕ) (slots id : ℕ) (p : ℕ → Bool) → Coded ws slots → ((i : ℕ) → p i ≡ false → is_empty ws i ≡ false)
    → first (λ t. p (walk id slots t)) slots ≤ live_in ws slots + removed_in ws slots
steps_le ws zero id p coded fails = omega (arith, first-le (λ t. p (walk id 0 t)) 0)
steps_le ws (suc c) id p coded fails =
    let q : ℕ → Bool = λ t. p (walk id (suc c) t) in
    passed_le ws (suc c) id (first q (suc c)) coded (omega arith) (first-le q (suc c))
    (λ s l. fails (walk id (suc c) s) (first_before q (suc c) s l))

-- What is live is not empty.
live_not_empty : (kind : ℕ) → eqb kind 2 ≡ true → eqb kind 0 ≡ false
live_not_empty kind e = rw (eqb-true kind 2 e)

pub passed_not_empty : (ws : List ℕ) (id i : ℕ) → stops ws id i ≡ false → is_empty ws i ≡ false
passed_not_empty ws id i = go (is_live ws i) refl
  where
    go : (b : Bool) → is_live ws i ≡ b → pick b (eqb (id_at ws i) id) (is_empty ws i) ≡ false → is_empty ws i ≡ false
    go true live e = live_not_empty (kind_at ws i) live
    go false live e = e

pub stop_le : (ws : List ℕ) (slots id : ℕ) → Coded ws slots → steps_to_stop ws slots id ≤ live_in ws slots + removed_in ws slots
unfolding steps_to_stop
stop_le ws slots id coded = steps_le ws slots id (stops ws id) coded (passed_not_empty ws id)

pub free_le : (ws : List ℕ) (slots id : ℕ) → Coded ws slots → steps_to_free ws slots id ≤ live_in ws slots + removed_in ws slots
unfolding steps_to_free
free_le ws slots id coded =
    steps_le ws slots id (λ i. not (is_live ws i)) coded (λ i e. live_not_empty (kind_at ws i) (not-false (is_live ws i) e))

pub visits_le : (ws : List ℕ) (slots id : ℕ) → Coded ws slots → (search ws slots id).visits ≤ live_in ws slots + removed_in ws slots + 1
visits_le ws slots id coded =
    let steps : steps_to_stop ws slots id ≤ live_in ws slots + removed_in ws slots = stop_le ws slots id coded in
    by_cases (dec_lt (steps_to_stop ws slots id) slots)
    (λ l. omega (arith, ap (λ s. s.visits) (search_stops ws slots id _ refl l)))
    (λ l. omega (arith, ap (λ s. s.visits) (search_runs_out ws slots id _ refl (omega arith))))

pub no_slots_no_visits : (ws : List ℕ) (id : ℕ) → search ws 0 id ≡ record { found = None; visits = 0 }
unfolding search steps_to_stop first
no_slots_no_visits ws id = refl

-- ---- a sound table

module _ (most : ℕ) (ws : List ℕ) (t : CapTable) (sound : Sound most ws t) (id : ℕ) where
  -- A search visits at most one slot more than the live and removed entries,
  pub search_visits : (search ws t.slots id).visits ≤ t.full + t.tombstones + 1
  search_visits = omega (arith, visits_le ws t.slots id sound.coded)

  -- and never runs out of slots.
  pub search_ends : 0 < t.slots → steps_to_stop ws t.slots id < t.slots
  search_ends pos = omega (arith, stop_le ws t.slots id sound.coded)
