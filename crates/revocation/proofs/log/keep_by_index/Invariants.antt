-- `revocation::log::keep_by_index` meets its contract: the pairs that the log has not are sifted from the others.
use Rattle.std.proofs.Common.{Bool, not, List, ℕ, length}
use Rattle.base.specs.Sifted.{Sifting}
use Rattle.revocation.specs.Log.{log_has}
use Rattle.revocation.proofs.log.keep_by_index.Given as goal

abbrev pub absent : List ℕ → ℕ → Bool
absent lg pair = not (log_has (length lg) lg pair)

abbrev pub invariant-loop-j : goal.invariant-loop-j
invariant-loop-j l = Sifting (absent l.log.words.now) l.initial.pairs l.count l.pairs l.kept l.j
