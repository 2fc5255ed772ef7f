-- `registry_look::holders_within` meets its contract: the holders before k are within their counts.
use Rattle.std.proofs.Common.{◌≡◌, true, ◌≤◌, leb, get_or}
use Rattle.base.specs.Below.{all}
use Rattle.registry.specs.Words.{state_at, holders}
use Rattle.registry_look.proofs.holders_within.Given as goal

abbrev pub invariant-loop-k : goal.invariant-loop-k
invariant-loop-k l =
    (l.k ≤ l.registry.count)
    × (all l.k (λ k. leb (holders (state_at l.registry.places l.registry.words.now k)) (get_or l.counts k 0)) ≡ true)
