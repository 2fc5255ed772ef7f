-- The first s quotas are at most M.
use Rattle.std.proofs.Common.{true, ◌≡◌, leb, get_or}
use Rattle.base.specs.Below.{all}
use Rattle.world.proofs.open.quotas_fit.Given as goal

abbrev pub invariant-loop-quota : goal.invariant-loop-quota
invariant-loop-quota l = all l.quota-index (λ k. leb (get_or l.quotas k 0) l.most) ≡ true
