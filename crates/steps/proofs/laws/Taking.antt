-- The three ways of taking an id: the smallest recycled one, the next where none is recycled, or none.
use Rattle.std.proofs.Common.{◌≡◌, ℕ, ◌+◌, ◌-◌, ◌^◌, ◌<◌, ◌≤◌, List, set, refl, arith, le-ltb, lt-ltb, Option, Some, None}
use Rattle.std.proofs.Math.Decide.{dec_lt}
use Rattle.std.proofs.Math.Logic.{by_cases}
use Rattle.registry.specs.Ids.{first_taken}
use Rattle.world.specs.Numbers.{next_of, recycled_of}
use Rattle.world.specs.Regions.{registry, on_region}
use Rattle.world.specs.Sound.{recycled}
use Rattle.world.specs.declared.Numbers.{Numbers}
use Rattle.steps.specs.Steps.{taken_id, take_step}

module _ (d : Numbers) (mem : List ℕ) where
  pub takes_recycled : (between : List ℕ) (id : ℕ) → 0 < recycled_of mem
      → between ≡ on_region d registry (first_taken d.places (recycled_of mem)) mem
      → id ≡ recycled d mem 0 → (set between 12 (recycled_of mem - 1) ≡ take_step d mem) × (Some id ≡ taken_id d mem)
  unfolding take_step taken_id
  takes_recycled between id some taken is = rw (lt-ltb 0 (recycled_of mem) some, taken, is) (refl, refl)

  module _ (none : recycled_of mem ≤ 0) where
    pub takes_next : next_of mem < 2 ^ 48 → (set mem 5 (next_of mem + 1) ≡ take_step d mem) × (Some (next_of mem) ≡ taken_id d mem)
    unfolding take_step taken_id
    takes_next left = rw (le-ltb 0 (recycled_of mem) none, lt-ltb (next_of mem) (2 ^ 48) left) (refl, refl)

    pub takes_none : 2 ^ 48 ≤ next_of mem → (mem ≡ take_step d mem) × (None ≡ taken_id d mem)
    unfolding take_step taken_id
    takes_none over = rw (le-ltb 0 (recycled_of mem) none, le-ltb (next_of mem) (2 ^ 48) over) (refl, refl)

-- The id alone of the ways of the next one, and what proves an id taken by the test of the next.
module _ (d : Numbers) (mem : List ℕ) (none : recycled_of mem ≤ 0) where
  pub takes_next_id : next_of mem < 2 ^ 48 → taken_id d mem ≡ Some (next_of mem)
  unfolding taken_id
  takes_next_id left = rw (le-ltb 0 (recycled_of mem) none, lt-ltb (next_of mem) (2 ^ 48) left) refl

  pub takes_none_id : 2 ^ 48 ≤ next_of mem → taken_id d mem ≡ None
  unfolding taken_id
  takes_none_id over = rw (le-ltb 0 (recycled_of mem) none, le-ltb (next_of mem) (2 ^ 48) over) refl

pub ruleset take_laws = (takes_next, takes_none, takes_next_id, takes_none_id)

-- What holds of each holds of taking.
pub take_by_cases :
    (d : Numbers) (mem : List ℕ) (P : Option ℕ → List ℕ → Type 0)
    → (0 < recycled_of mem
    → P (Some (recycled d mem 0)) (set (on_region d registry (first_taken d.places (recycled_of mem)) mem) 12 (recycled_of mem - 1)))
    → (recycled_of mem ≤ 0 → next_of mem < 2 ^ 48 → P (Some (next_of mem)) (set mem 5 (next_of mem + 1))) → P None mem
    → P (taken_id d mem) (take_step d mem)
take_by_cases d mem P again new none =
    by_cases (dec_lt 0 (recycled_of mem))
    (λ some. let (steps, takes) = takes_recycled d mem _ _ some refl refl in rw (← steps, ← takes) (again some))
    (λ empty.
    by_cases (dec_lt (next_of mem) (2 ^ 48))
    (λ more. let (steps, takes) = takes_next d mem (omega arith) more in rw (← steps, ← takes) (new (omega arith) more))
    (λ over. let (steps, takes) = takes_none d mem (omega arith) (omega arith) in rw (← steps, ← takes) none))

-- Where none is left, nothing is taken.
pub none_taken : (d : Numbers) (mem : List ℕ) → taken_id d mem ≡ None → take_step d mem ≡ mem
none_taken d mem =
    take_by_cases d mem (λ t after. t ≡ None → after ≡ mem)
    (λ some e. let z : ◌≡◌ {A = ℕ} 0 1 = cc in absurd (omega arith))
    (λ none more e. let z : ◌≡◌ {A = ℕ} 0 1 = cc in absurd (omega arith))
    (λ e. refl)
