-- `revocation::look::pids_differ` meets its contract: the queues before j have different pids.
use Rattle.std.proofs.Common.{◌≡◌, true, ◌≤◌}
use Rattle.base.specs.Below.{all}
use Rattle.revocation.specs.Words.{pid_at, length_at}
use Rattle.revocation.specs.Sound.{apart_test}
use Rattle.revocation.proofs.look.pids_differ.Given as goal

abbrev pub invariant-loop-j : goal.invariant-loop-j
invariant-loop-j l = (l.j ≤ l.p) × (all l.j (λ j. all j (λ i. apart_test (pid_at l.qs) (length_at l.qs) i j)) ≡ true)
