-- `registry::registering::mend_links` meets its contract: with the links that are left mended, what is done so far becomes the answer.
use Rattle.std.proofs.Common.{◌≡◌, ◌+◌, ◌-◌, length}
use Rattle.registry.specs.Registering.{links_mended}
use Rattle.registry.proofs.registering.mend_links.Given as goal

abbrev pub invariant-loop-at : goal.invariant-loop-at
invariant-loop-at l =
    (length l.rg ≡ length l.initial.rg)
    × (links_mended l.k l.at (l.i + l.m - l.at) l.rg ≡ links_mended l.k l.i l.m l.initial.rg)
