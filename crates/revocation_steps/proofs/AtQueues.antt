-- The words of a queue, read in the memory where the queue starts.
use Rattle.std.proofs.Common.{Bool, List, ◌≡◌, sym, ◌∙◌, ℕ, ◌+◌, ◌*◌, ◌<◌, ◌≤◌, arith, length, get_or}
use Rattle.world.specs.Layout.{inside}
use Rattle.world.specs.Regions.{queue, start_of, StartsAt}
use Rattle.world.specs.Sound.{pids, lengths}
use Rattle.world.specs.Views.{view_word}
use Rattle.world.specs.declared.Numbers.{Numbers}
use Rattle.steps.specs.Ready.{Fits}

module _ (d : Numbers) (mem : List ℕ) (q at : ℕ) (starts : StartsAt d (queue q) at) where
  pub pid_here : get_or mem (at + 0) 0 ≡ pids d mem q
  pid_here = rw starts.is (sym (view_word d (queue q) mem 0 (omega arith)))

  pub length_here : get_or mem (at + 2) 0 ≡ lengths d mem q
  length_here = rw starts.is (sym (view_word d (queue q) mem 2 (omega arith)))

-- Where place q starts, counted from where the first queue does.
pub queue_from : (d : Numbers) (first q : ℕ) → StartsAt d (queue 0) first → q < d.queues → StartsAt d (queue q) (first + q * 771)
unfolding start_of
queue_from d first q starts l =
    let is : first + q * 771 ≡ start_of d (queue q) = omega (arith, starts.is) in
    record { is = is; fits = omega (arith, is, inside d (queue q) l) }

pub queue_inside : (d : Numbers) (mem : List ℕ) (first q : ℕ) → Fits d mem → StartsAt d (queue 0) first → q < d.queues
    → first + q * 771 + 771 ≤ length mem
queue_inside d mem first q fits starts l = omega (arith, (queue_from d first q starts l).fits, fits.long_enough)

-- What a test answers, the turns of a loop say of what it tests.
pub test_says : (answer test v : Bool) → answer ≡ test → answer ≡ v → test ≡ v
test_says answer test v e h = sym e ∙ h

pub ruleset at_queues = (pid_here, length_here)
