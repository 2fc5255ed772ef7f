-- `table_look::kinds_sound` meets its contract. The invariant: the first i slots are counted by kind, and the numbers of the live ones
-- are written.
use Rattle.std.proofs.Common.{◌≡◌, List, ℕ, ◌≤◌}
use Rattle.base.specs.Compacted.{passing, Compacting}
use Rattle.table.specs.Slots.{is_live, is_removed}
use Rattle.table.specs.Sound.{coded_at}
use Rattle.table_look.proofs.kinds_sound.Given as goal

-- The first i slots are done; xs₀ is the memory for the numbers as it was lent.
pub record Done (ws : List ℕ) (slots : ℕ) (xs₀ xs : List ℕ) (n removed coded i : ℕ) : Type 0 where
  pub live : Compacting (λ i. i) (is_live ws) slots xs₀ xs n i
  pub few_removed : removed ≤ i
  pub few_coded : coded ≤ i
  pub removed_is : removed ≡ passing (is_removed ws) i
  pub coded_is : coded ≡ passing (coded_at ws) i

abbrev pub invariant-loop-i : goal.invariant-loop-i
invariant-loop-i l = Done l.words l.t.slots l.initial.live l.live l.n l.removed l.coded l.i
