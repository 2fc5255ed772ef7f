-- `registry::holders::release_all` meets its contract: with the ids that are left, what is done so far becomes the answer.
use Rattle.registry.specs.Holders.{released}
use Rattle.registry.proofs.Holding.{EachFrom}
use Rattle.registry.proofs.holders.release_all.Given as goal

abbrev pub invariant-loop-id : goal.invariant-loop-id
invariant-loop-id l = EachFrom (released l.places l.n) l.ids l.initial.rg l.rg l.id-index
