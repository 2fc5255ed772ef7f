-- `revocation::look::pid_new` meets its contract: a free place is apart from all, and the queues before i have other pids than j.
use Rattle.std.proofs.Common.{◌≡◌, Bool, true, List, ℕ, ◌≤◌}
use Rattle.base.specs.Below.{all}
use Rattle.revocation.specs.Words.{pid_at, length_at}
use Rattle.revocation.specs.Sound.{apart_test}
use Rattle.revocation.proofs.look.pid_new.Given as goal

abbrev pub others : List ℕ → ℕ → ℕ → Bool
others qs j i = apart_test (pid_at qs) (length_at qs) i j

abbrev pub invariant-loop-i : goal.invariant-loop-i
invariant-loop-i l = (l.i ≤ l.j) × (all l.i (others l.qs l.j) ≡ true)
