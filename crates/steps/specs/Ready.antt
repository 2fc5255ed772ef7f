-- What a step asks of the memory. Every sound memory has it, and every step keeps it.
use Rattle.std.specs.Prelude.{◌≡◌, true, ℕ, ◌+◌, ◌<◌, ◌≤◌, List, length}
use Rattle.space.specs.Sound.{space_test}
use Rattle.world.specs.Numbers.{InRange, registered_of, recycled_of}
use Rattle.revocation.specs.Words.{first_of, length_of}
use Rattle.world.specs.Regions.{space, queue, length_for, view}
use Rattle.world.specs.declared.Numbers.{Numbers}

-- Numbers in range, and memory long enough for them.
pub record Fits (d : Numbers) (mem : List ℕ) : Type 0 where
  pub in_range : InRange d
  pub long_enough : length_for d ≤ length mem

pub record Ready (d : Numbers) (mem : List ℕ) : Type 0 where
  pub fits : Fits d mem
  pub head : 16 ≤ length mem
  pub registered_fit : registered_of mem ≤ d.places
  pub recycled_fit : recycled_of mem ≤ d.places + 1
  pub spaces_tested : (s : ℕ) → s < d.spaces → space_test d.most (view d (space s) mem) ≡ true

-- What a notice asks: every queue can take one more.
pub record QueuesReady (d : Numbers) (mem : List ℕ) : Type 0 where
  pub fits : Fits d mem
  pub firsts : (q : ℕ) → q < d.queues → 0 < length_of (view d (queue q) mem) → first_of (view d (queue q) mem) < 256
  pub lengths : (q : ℕ) → q < d.queues → length_of (view d (queue q) mem) ≤ 256
