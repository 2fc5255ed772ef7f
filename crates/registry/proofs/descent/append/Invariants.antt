-- `registry::descent::append` meets its contract: the places found, with those of the list that are left behind them, are the answer.
use Rattle.std.proofs.Common.{◌≡◌, ℕ, ◌-◌, ◌≤◌, List, ◌++◌, length, take}
use Rattle.registry.specs.Counts.{AtMost}
use Rattle.registry.specs.ChildLists.{list_from}
use Rattle.registry.proofs.descent.append.Given as goal

-- order₀ is the order as it was lent, with so many places found.
pub record Appending (nexts : List ℕ) (head : ℕ) (order₀ : List ℕ) (count : ℕ) (order : List ℕ) (at found : ℕ) : Type 0 where
  pub named : at ≤ length nexts
  pub inside : AtMost (length nexts) nexts
  pub room : found ≤ length order₀
  pub same : length order ≡ length order₀
  pub answer : take found order ++ list_from nexts (length order₀ - found) at ≡ take count order₀
      ++ list_from nexts (length order₀ - count) head

abbrev pub invariant-loop-found : goal.invariant-loop-found
invariant-loop-found l = Appending l.nexts l.head l.initial.order l.count l.order l.at l.found
