-- `revocation::queues::copy_notices` meets its contract: with the notices from the i-th on written behind those before, the area becomes
-- the answer.
use Rattle.std.proofs.Common.{◌≡◌, List, ℕ, ◌-◌, ◌*◌, ◌≤◌, length}
use Rattle.std.proofs.Math.Seq.{sets}
use Rattle.base.specs.Written.{written}
use Rattle.revocation.specs.Words.{length_of}
use Rattle.revocation.specs.Queue.{notices_from, notices}
use Rattle.revocation.proofs.queues.copy_notices.Given as goal

-- The notices from the i-th on are left to copy; area₀ is the area as it was lent.
pub record Copying (qu area₀ area : List ℕ) (i : ℕ) : Type 0 where
  pub inside : i ≤ length_of qu
  pub same : length area ≡ length area₀
  pub answer : sets area (3 * i) (notices_from qu i (length_of qu - i)) ≡ written (notices qu) area₀

abbrev pub invariant-loop-i : goal.invariant-loop-i
invariant-loop-i l = Copying l.qu l.initial.area l.area l.i
