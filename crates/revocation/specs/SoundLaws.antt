-- Each test of the log and of the queues is true exactly when its rule holds.
use Rattle.std.specs.Prelude.{◌≡◌, ◌↔◌, true, List, ℕ, ◌<◌}
use Rattle.std.proofs.Math.Logic.Iff
use Rattle.base.specs.Exactly.{some_exactly, tests}
use Rattle.revocation.specs.Words.{length_of}
use Rattle.revocation.specs.Sound.{Pairs, pairs_test, SoundQueue, queue_test, PidsDiffer, pids_differ_test}

pub pairs_exactly : (n : ℕ) (pair : ℕ → ℕ) → (pairs_test n pair ≡ true) ↔ Pairs n pair
pairs_exactly n pair = simp tests Iff.rfl

-- Of a place that is a queue, the rule is asked; of a free one, nothing.
pub queue_exactly : (qu : List ℕ) → (queue_test qu ≡ true) ↔ (0 < length_of qu → SoundQueue qu)
unfolding queue_test
queue_exactly qu =
    simp (some_exactly, tests) (
      λ h l. record { coded_first = (h l).0; short = (h l).1.0; coded_reasons = (h l).1.1 },
      λ f l. ((f l).coded_first, ((f l).short, (f l).coded_reasons)),
    )

pub pids_exactly : (places : ℕ) (pid long : ℕ → ℕ) → (pids_differ_test places pid long ≡ true) ↔ PidsDiffer places pid long
pids_exactly places pid long = simp tests (λ h j l i u a b. h j l i u (a, b), λ h j l i u used. h j l i u used.0 used.1)
