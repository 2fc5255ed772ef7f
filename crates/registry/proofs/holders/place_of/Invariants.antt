-- No place before k has the id, so the first from k on is the first.
use Rattle.std.proofs.Common.{◌≡◌, ◌-◌, eqb}
use Rattle.base.specs.Below.{first_from}
use Rattle.registry.specs.Words.{id_at}
use Rattle.registry.specs.Holders.{place_of}
use Rattle.registry.proofs.holders.place_of.Given as goal

abbrev pub invariant-loop-k : goal.invariant-loop-k
invariant-loop-k l = place_of l.n l.rg l.id ≡ first_from (λ k. eqb (id_at l.rg k) l.id) (l.n - l.k) l.k
