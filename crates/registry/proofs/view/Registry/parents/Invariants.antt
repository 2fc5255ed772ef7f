-- `registry::view::Registry::parents` meets its contract: the flags of the places before k are counted.
use Rattle.registry.specs.Words.{state_at, has_list}
use Rattle.registry.proofs.Counting.{Counting}
use Rattle.registry.proofs.view.Registry.parents.Given as goal

abbrev pub invariant-loop-k : goal.invariant-loop-k
invariant-loop-k l = Counting (λ k. has_list (state_at l.self.places l.self.words.now k)) l.self.count l.count l.k
