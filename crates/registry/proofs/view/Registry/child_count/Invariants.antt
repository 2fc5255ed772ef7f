-- `registry::view::Registry::child_count` meets its contract: the links of the places before k that name place p are counted.
use Rattle.base.specs.Below.{one}
use Rattle.registry.specs.Words.{link_at, child_of}
use Rattle.registry.proofs.Counting.{Counting}
use Rattle.registry.proofs.view.Registry.child_count.Given as goal

abbrev pub invariant-loop-k : goal.invariant-loop-k
invariant-loop-k l = Counting (λ k. one (child_of (link_at l.self.places l.self.words.now) l.p k)) l.self.count l.count l.k
