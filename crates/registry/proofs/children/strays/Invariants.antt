-- `registry::children::strays` meets its contract: those of the ids before j that have no place are counted.
use Rattle.std.proofs.Common.{ℕ, not, ltb, List, length, get_or}
use Rattle.base.specs.Below.{one}
use Rattle.registry.specs.Holders.{place_of}
use Rattle.registry.proofs.Counting.{Counting}
use Rattle.registry.proofs.children.strays.Given as goal

-- What an id counts for, and what the j-th does.
abbrev pub counts_for : ℕ → List ℕ → ℕ → ℕ
counts_for n rg id = one (not (ltb (place_of n rg id) n))

abbrev pub stray : ℕ → List ℕ → List ℕ → ℕ → ℕ
stray n rg ids j = counts_for n rg (get_or ids j 0)

abbrev pub invariant-loop-id : goal.invariant-loop-id
invariant-loop-id l = Counting (stray l.n l.rg l.ids) (length l.ids) l.count l.id-index
