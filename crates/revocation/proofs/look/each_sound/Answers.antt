use Rattle.std.proofs.Common.{◌≡◌, Bool, List, ℕ, ◌+◌, ◌-◌, ◌*◌, rules, take, drop}
use Rattle.std.proofs.Math.Nat.{add-sub_cancel_left}
use Rattle.base.specs.AllLaws.{all_tests}
use Rattle.revocation.specs.Words.{queue_at}
use Rattle.revocation.specs.Sound.{queue_test}
use Rattle.revocation.proofs.look.each_sound.Goals as goal

-- What is lent of place q is its queue.
tested :
    (qs : List ℕ) (q : ℕ) (r : Bool) → r ≡ queue_test (take ((q * 771 + 771) - q * 771) (drop (q * 771) qs))
    → r ≡ queue_test (queue_at qs q)
tested qs q r e = rw add-sub_cancel_left at e

ruleset laws = (rules, all_tests, tested)

pub loop-q-init : goal.loop-q-init
loop-q-init c = search laws

pub loop-q-preserved : goal.loop-q-preserved
loop-q-preserved c = search laws

pub returns-then-not-queue_sound : goal.returns-then-not-queue_sound
returns-then-not-queue_sound c = search laws
