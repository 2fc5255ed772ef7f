-- `registry_look::count_entries` meets its contract: the entries gone through are counted.
use Rattle.std.proofs.Common.{◌≡◌, List, ℕ, ◌≤◌, length}
use Rattle.registry.specs.Counts.{count_entries}
use Rattle.registry_look.proofs.count_entries.Given as goal

-- The first j entries are counted; counts₀ are the counters as they were lent.
pub record Done (ids entries counts₀ counts : List ℕ) (j : ℕ) : Type 0 where
  pub inside : j ≤ length entries
  pub counted : counts ≡ count_entries ids entries j counts₀

abbrev pub invariant-loop-id : goal.invariant-loop-id
invariant-loop-id l = Done l.ids.words.now l.entries l.initial.counts l.counts l.id-index
