-- `registry::descent::keep_unrevoked` meets its contract: the places that are not revoked are sifted from the others.
use Rattle.std.proofs.Common.{ℕ, Bool, eqb, List, take}
use Rattle.base.specs.Sifted.{Sifting}
use Rattle.registry.specs.Words.{state_at, revoked}
use Rattle.registry.specs.PlaceLists.{AllBelow}
use Rattle.registry.proofs.descent.keep_unrevoked.Given as goal

abbrev pub unrevoked : ℕ → List ℕ → ℕ → Bool
unrevoked places rg k = eqb (revoked (state_at places rg k)) 0

-- The first j of so many places are gone through; order₀ is the order as it was lent.
pub record Keeping (places : ℕ) (rg order₀ : List ℕ) (count : ℕ) (order : List ℕ) (kept j : ℕ) : Type 0 where
  pub sifting : Sifting (unrevoked places rg) order₀ count order kept j
  pub below : AllBelow places (take count order₀)

abbrev pub invariant-loop-j : goal.invariant-loop-j
invariant-loop-j l = Keeping l.places l.rg l.initial.order l.count l.order l.kept l.j
