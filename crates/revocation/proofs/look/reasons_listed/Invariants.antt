-- `revocation::look::reasons_listed` meets its contract: the notices before i have listed reasons.
use Rattle.std.proofs.Common.{◌≡◌, true, ◌≤◌, leb}
use Rattle.base.specs.Below.{all}
use Rattle.revocation.specs.Words.{reason_at}
use Rattle.revocation.proofs.look.reasons_listed.Given as goal

abbrev pub invariant-loop-i : goal.invariant-loop-i
invariant-loop-i l = (l.i ≤ l.n) × (all l.i (λ i. leb (reason_at l.qu i) 3) ≡ true)
