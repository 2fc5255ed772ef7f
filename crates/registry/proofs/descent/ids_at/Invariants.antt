-- `registry::descent::ids_at` meets its contract: with the ids of the places from j on written behind those before, the area becomes the
-- answer.
use Rattle.std.proofs.Common.{ℕ, List}
use Rattle.base.specs.Written.{written, Writing}
use Rattle.registry.specs.Children.{ids_at}
use Rattle.registry.proofs.descent.ids_at.Given as goal

-- ids₀ is the area as it was lent.
abbrev pub WritingIds : List ℕ → List ℕ → List ℕ → List ℕ → ℕ → Type 0
WritingIds rg order ids₀ ids j = Writing (ids_at rg order) ids₀ (written (ids_at rg order) ids₀) ids j j

abbrev pub invariant-loop-j : goal.invariant-loop-j
invariant-loop-j l = WritingIds l.rg l.order l.initial.ids l.ids l.j
