-- `registry::descent::mark` meets its contract: with the places that are left marked, what is done so far becomes the answer.
use Rattle.std.proofs.Common.{◌≡◌, ◌≤◌, length, drop}
use Rattle.registry.specs.Descent.{marked}
use Rattle.registry.proofs.descent.mark.Given as goal

abbrev pub invariant-loop-k : goal.invariant-loop-k
invariant-loop-k l = (l.k-index ≤ length l.order) × (length l.rg ≡ length l.initial.rg)
    × (marked l.places (drop l.k-index l.order) l.rg ≡ marked l.places l.order l.initial.rg)
