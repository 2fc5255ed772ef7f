-- `registry::view::Registry::edges` meets its contract: the links of the places before k that name a parent are counted.
use Rattle.std.proofs.Common.{not, eqb}
use Rattle.base.specs.Below.{one}
use Rattle.registry.specs.Words.{link_at}
use Rattle.registry.proofs.Counting.{Counting}
use Rattle.registry.proofs.view.Registry.edges.Given as goal

abbrev pub invariant-loop-k : goal.invariant-loop-k
invariant-loop-k l = Counting (λ k. one (not (eqb (link_at l.self.places l.self.words.now k) 0))) l.self.count l.count l.k
