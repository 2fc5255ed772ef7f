-- `registry::registering::collect` meets its contract: with the places below k gone through, what is done so far becomes the answer.
use Rattle.std.proofs.Common.{◌≡◌, ◌≤◌, length}
use Rattle.registry.specs.Registering.{collected_below, collected}
use Rattle.registry.proofs.registering.collect.Given as goal

abbrev pub invariant-loop-k : goal.invariant-loop-k
invariant-loop-k l =
    (l.k ≤ l.left) × (l.left ≤ l.n) × (length l.rg ≡ length l.initial.rg)
    × (collected_below l.places l.p l.k l.left l.rg ≡ collected l.places l.p l.n l.initial.rg)
