-- Document 01, "Sound memory", what it says of the log and of the queues: a definition a rule, and next to it its test. That the n log
-- pairs differ is base's `Differ n pair`, with its test `differ_test n pair`.
use Rattle.std.specs.Prelude.{Bool, true, not, List, ◌≡◌, ℕ, ◌^◌, ◌≤◌, ◌<◌, leb, ltb, eqb}
use Rattle.base.specs.Below.{all}
use Rattle.base.specs.Choose.{pick, both}
use Rattle.base.specs.Distinct.{differ_test}
use Rattle.revocation.specs.Words.{pair_at, queue_at, pid_at, length_at, first_of, length_of, reason_at}

-- Coded fields hold listed values: a pair has a 48-bit id and an 8-bit generation.
abbrev pub Pairs : ℕ → (ℕ → ℕ) → Type 0
Pairs n pair = (k : ℕ) → k < n → pair k < 2 ^ 56

abbrev pub pairs_test : ℕ → (ℕ → ℕ) → Bool
pairs_test n pair = all n (λ k. ltb (pair k) (2 ^ 56))

-- Queues are at most 256 long; coded fields hold listed values. That a queue is not empty holds by the layout: a place of length 0 is
-- no queue.
pub record SoundQueue (qu : List ℕ) : Type 0 where
  pub coded_first : first_of qu < 256
  pub short : length_of qu ≤ 256
  pub coded_reasons : (i : ℕ) → i < length_of qu → reason_at qu i ≤ 3

-- A free place may hold anything but for its length.
unfoldable pub queue_test : List ℕ → Bool
queue_test qu =
    pick (eqb (length_of qu) 0) true
    (both (ltb (first_of qu) 256) (both (leb (length_of qu) 256) (all (length_of qu) (λ i. leb (reason_at qu i) 3))))

-- Queues have different pids. `pid q` and `long q` are the pid and the length at place q.
abbrev pub PidsDiffer : ℕ → (ℕ → ℕ) → (ℕ → ℕ) → Type 0
PidsDiffer places pid long =
    (j : ℕ) → j < places → (i : ℕ) → i < j → 0 < long i → 0 < long j → pid i ≡ pid j → ⊥

-- The places i and j are not two queues with one pid.
abbrev pub apart_test : (ℕ → ℕ) → (ℕ → ℕ) → ℕ → ℕ → Bool
apart_test pid long i j = pick (both (ltb 0 (long i)) (ltb 0 (long j))) (not (eqb (pid i) (pid j))) true

abbrev pub pids_differ_test : ℕ → (ℕ → ℕ) → (ℕ → ℕ) → Bool
pids_differ_test places pid long = all places (λ j. all j (λ i. apart_test pid long i j))

-- ---- together

unfoldable pub log_test : ℕ → List ℕ → Bool
log_test n lg = both (pairs_test n (pair_at lg)) (differ_test n (pair_at lg))

unfoldable pub queues_test : ℕ → List ℕ → Bool
queues_test places qs = both (all places (λ q. queue_test (queue_at qs q))) (pids_differ_test places (pid_at qs) (length_at qs))
