-- The free ones before q are counted.
use Rattle.std.proofs.Common.{Bool, List, ◌≡◌, sym, ap, ℕ, ◌+◌, ◌≤◌, eqb}
use Rattle.base.specs.Below.{sum, one}
use Rattle.base.specs.SumLaws.{sum-zero, sum_goes, sum_done}
use Rattle.world.specs.Sound.{lengths}
use Rattle.world.specs.declared.Numbers.{Numbers}
use Rattle.revocation_steps.specs.Revocation.{free_queues}
use Rattle.revocation_steps.proofs.queues.free_queues.Given as goal

module _ (d : Numbers) (mem : List ℕ) where
  abbrev pub here : ℕ → ℕ
  here q = one (eqb (lengths d mem q) 0)

  -- The free ones before q.
  abbrev pub Counted : ℕ → ℕ → Type 0
  Counted q free = free ≡ sum here q

  pub starts : Counted 0 0
  starts = sym (sum-zero here)

  module _ (q free : ℕ) (counted : Counted q free) where
    pub done : q ≤ d.queues → d.queues ≤ q → free ≡ free_queues d mem
    unfolding free_queues
    done l u = sum_done here q d.queues free counted l u

    pub counts : (b : Bool) → b ≡ eqb (lengths d mem q) 0 → Counted (q + 1) (free + one b)
    counts b e = sum_goes here q free (one b) counted (ap one e)

abbrev pub invariant-loop-q : goal.invariant-loop-q
invariant-loop-q l = (l.free ≤ l.q) × Counted l.d l.mem l.q l.free
