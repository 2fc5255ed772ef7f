use Rattle.std.proofs.Common.{◌≡◌, refl, ◌∙◌, List, ℕ, suc, ◌+◌, ◌-◌, ◌*◌, ◌<◌, ◌≤◌, arith, rules, length}
use Rattle.std.proofs.Math.Nat.{sub-zero}
use Rattle.std.proofs.Math.Seq.{sets, length-sets}
use Rattle.base.specs.Written.{written, written_sets}
use Rattle.revocation.specs.Words.{length_of}
use Rattle.revocation.specs.Queue.{notices_from, notices}
use Rattle.revocation.specs.NoticesLaws.{length_notices}
use Rattle.revocation.proofs.queues.copy_notices.Invariants.{Copying}
use Rattle.revocation.proofs.queues.copy_notices.Goals as goal

starts : (qu area : List ℕ) → 3 * length_of qu ≤ length area → Copying qu area area 0
unfolding notices
starts qu area fits = record {
  inside = omega arith;
  same = refl;
  answer = rw sub-zero (written_sets (notices qu) area (omega (arith, length_notices qu)));
}

module _ (qu area₀ area : List ℕ) (i : ℕ) (copying : Copying qu area₀ area i) where
  room : 3 * length_of qu ≤ length area₀ → i < length_of qu → 3 * i + 3 ≤ length area
  room fits l = omega (arith, copying.same)

  goes : (after : List ℕ) → i < length_of qu → after ≡ sets area (3 * i) (notices_from qu i 1) → Copying qu area₀ after (i + 1)
  unfolding notices_from
  goes after l e =
      let more : length_of qu - i ≡ suc (length_of qu - (i + 1)) = omega arith in
      let behind : 3 * (i + 1) ≡ suc (suc (suc (3 * i))) = omega arith in
      record {
        inside = omega arith;
        same = rw e (length-sets area (3 * i) (notices_from qu i 1) ∙ copying.same);
        answer = rw (e, behind) (rw more at copying.answer);
      }

  ends : length_of qu ≤ i → area ≡ written (notices qu) area₀
  unfolding notices_from
  ends u = let none : length_of qu - i ≡ 0 = omega arith in rw none at copying.answer

ruleset laws = (rules, starts, room, goes, ends)

pub loop-i-init : goal.loop-i-init
loop-i-init c = search laws

pub loop-i-preserved : goal.loop-i-preserved
loop-i-preserved c = search laws

pub returns : goal.returns
returns c = search laws
