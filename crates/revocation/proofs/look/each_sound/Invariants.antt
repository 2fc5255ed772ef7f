-- `revocation::look::each_sound` meets its contract: the places before q keep their rules.
use Rattle.std.proofs.Common.{◌≡◌, true, ◌≤◌}
use Rattle.base.specs.Below.{all}
use Rattle.revocation.specs.Words.{queue_at}
use Rattle.revocation.specs.Sound.{queue_test}
use Rattle.revocation.proofs.look.each_sound.Given as goal

abbrev pub invariant-loop-q : goal.invariant-loop-q
invariant-loop-q l = (l.q ≤ l.p) × (all l.q (λ q. queue_test (queue_at l.qs q)) ≡ true)
