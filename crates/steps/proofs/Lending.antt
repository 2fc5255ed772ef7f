-- A region of the memory, lent by its places: what the callee is lent, what it asks, and what stands after it has returned.
use Rattle.std.proofs.Common.{◌≡◌, ℕ, ◌-◌, ◌<◌, ◌≤◌, List, ◌++◌, length, take, drop, set, ap₂}
use Rattle.space.specs.Words.{InRange}
use Rattle.space.proofs.laws.Kept.{in_range}
use Rattle.world.specs.Regions.{Region, space, queue, view, on_region, Spans}
use Rattle.world.specs.Views.{lent_view, lent_region, queue_words}
use Rattle.world.specs.declared.Numbers.{Numbers}
use Rattle.steps.specs.Ready.{Fits, Ready}
use Rattle.steps.specs.Steps.{space_of}
use Rattle.steps.proofs.laws.Ready.{ready_space}

module _ (d : Numbers) (r : Region) (mem : List ℕ) (start end : ℕ) (spans : Spans d r start end) where
  pub lent : take (end - start) (drop start mem) ≡ view d r mem
  lent = lent_view d r mem start end spans.is spans.ends

  pub lent_back : (f : List ℕ → List ℕ) (ws : List ℕ) → ws ≡ f (take (end - start) (drop start mem))
      → take start mem ++ (ws ++ drop (end - start) (drop start mem)) ≡ on_region d r f mem
  lent_back f ws h = lent_region d r mem start end f ws spans.is spans.ends h

  -- with a word of the head set after it.
  pub lent_and_word : (f : List ℕ → List ℕ) (ws : List ℕ) (i v w : ℕ) → v ≡ w → ws ≡ f (take (end - start) (drop start mem))
      → set (take start mem ++ (ws ++ drop (end - start) (drop start mem))) i v ≡ set (on_region d r f mem) i w
  lent_and_word f ws i v w same h = ap₂ (λ after v. set after i v) (lent_back f ws h) same

-- What a callee asks of a space that it is lent, and of a queue.
pub lent_in_range : (d : Numbers) (s : ℕ) (mem : List ℕ) (start end : ℕ) → Spans d (space s) start end → Ready d mem → s < d.spaces
    → InRange (take (end - start) (drop start mem))
lent_in_range d s mem start end spans ready l =
    rw (lent d (space s) mem start end spans) (in_range d.most (space_of d s mem) (ready_space d mem ready s l))

pub queue_long : (d : Numbers) (q : ℕ) (mem : List ℕ) (start end : ℕ) → Spans d (queue q) start end → Fits d mem → q < d.queues
    → 771 ≤ length (take (end - start) (drop start mem))
queue_long d q mem start end spans fits l = rw (lent d (queue q) mem start end spans) (queue_words d mem fits.long_enough q l)

pub ruleset lends = (lent_in_range, lent_back, lent_and_word)
