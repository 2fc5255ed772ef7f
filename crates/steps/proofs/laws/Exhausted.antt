-- No id is left exactly where none is recycled and next is 2^48: document 01's case of 9 and 12.
use Rattle.std.proofs.Common.{◌≡◌, ℕ, ◌^◌, ◌≤◌, ◌↔◌, List, sym, refl, arith, Some, None}
use Rattle.std.proofs.Math.Decide.{dec_lt}
use Rattle.std.proofs.Math.Logic.{by_cases}
use Rattle.world.specs.Numbers.{next_of, recycled_of}
use Rattle.world.specs.declared.Numbers.{Numbers}
use Rattle.steps.specs.Steps.{taken_id}
use Rattle.steps.proofs.laws.Taking.{takes_recycled, takes_next, takes_none}

pub exhausted_exactly : (d : Numbers) (mem : List ℕ) → (taken_id d mem ≡ None) ↔ ((recycled_of mem ≤ 0) × (2 ^ 48 ≤ next_of mem))
exhausted_exactly d mem = (
  λ none.
      by_cases (dec_lt 0 (recycled_of mem))
      (λ some. absurd (left _ none (takes_recycled d mem _ _ some refl refl).1))
      (λ empty.
      by_cases (dec_lt (next_of mem) (2 ^ 48))
      (λ more. absurd (left _ none (takes_next d mem (omega arith) more).1))
      (λ over. (omega arith, omega arith))),
  λ (empty, over). sym (takes_none d mem empty over).1,
)
  where
    left : (id : ℕ) → taken_id d mem ≡ None → Some id ≡ taken_id d mem → ⊥
    left id none is = let z : ◌≡◌ {A = ℕ} 0 1 = cc in omega arith
