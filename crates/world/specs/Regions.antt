-- How the memory is cut: head, S spaces of equal width, registry, log, P queues. What lies past the last region is never read or written.
use Rattle.std.specs.Prelude.{List, ◌≡◌, ℕ, zero, suc, ◌+◌, ◌*◌, ◌≤◌}
use Rattle.base.specs.Part.{part, on_part}
use Rattle.space.specs.Words.{words_for}
use Rattle.world.specs.declared.Numbers.{Numbers}

pub data Region : Type 0 where
  head : Region
  space : ℕ → Region
  registry : Region
  log : Region
  queue : ℕ → Region

-- The words of a space, with a table of the most slots that it can have.
unfoldable pub width_of : Numbers → ℕ
width_of d = words_for d.most

abbrev pub registry_at : Numbers → ℕ
registry_at d = 16 + d.spaces * width_of d

abbrev pub log_at : Numbers → ℕ
log_at d = registry_at d + (5 * d.places + 1)

abbrev pub queues_at : Numbers → ℕ
queues_at d = log_at d + d.pairs

-- The length that the memory needs, in words: memory is too short exactly below it.
unfoldable pub length_for : Numbers → ℕ
length_for d = queues_at d + d.queues * 771

unfoldable pub start_of : Numbers → Region → ℕ
start_of d head = 0
start_of d (space s) = 16 + s * width_of d
start_of d registry = registry_at d
start_of d log = log_at d
start_of d (queue q) = queues_at d + q * 771

abbrev pub size_of : Numbers → Region → ℕ
size_of d head = 16
size_of d (space s) = width_of d
size_of d registry = 5 * d.places + 1
size_of d log = d.pairs
size_of d (queue q) = 771

-- The words of a region, and the memory with one region changed.
abbrev pub view : Numbers → Region → List ℕ → List ℕ
view d r mem = part (start_of d r) (size_of d r) mem

abbrev pub on_region : Numbers → Region → (List ℕ → List ℕ) → List ℕ → List ℕ
on_region d r f mem = on_part (start_of d r) (size_of d r) f mem

-- The memory with each of the regions R 0, R 1, .., R (n - 1) changed, in this order.
unfoldable pub on_each : Numbers → (ℕ → Region) → (ℕ → List ℕ → List ℕ) → ℕ → List ℕ → List ℕ
on_each d R f zero mem = mem
on_each d R f (suc n) mem = on_region d (R n) (f n) (on_each d R f n mem)

-- Where a region starts, with what whoever reads or writes it has to know.
pub record StartsAt (d : Numbers) (r : Region) (start : ℕ) : Type 0 where
  pub is : start ≡ start_of d r
  pub fits : start + size_of d r ≤ length_for d

-- Where it starts and ends.
pub record Spans (d : Numbers) (r : Region) (start end : ℕ) : Type 0 where
  pub is : start ≡ start_of d r
  pub ends : start + size_of d r ≡ end
  pub fits : end ≤ length_for d
