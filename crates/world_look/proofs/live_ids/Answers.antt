use Rattle.std.proofs.Common.{List, ◌≡◌, ℕ, ◌+◌, ◌≤◌, ◌<◌, rules, set}
use Rattle.base.specs.Below.{one}
use Rattle.base.specs.Compacted.{Compacting, compact_starts, compact_goes, compact_ends}
use Rattle.table.specs.Slots.{is_live, id_at, id_of, entry_at}
use Rattle.table.specs.declared.CapabilityEntry.{CapabilityEntry}
use Rattle.world_look.specs.Look.{live_below, live_ids}
use Rattle.world_look.proofs.live_ids.Goals as goal

module _ (ws : List ℕ) (slots : ℕ) (xs₀ xs : List ℕ) (n i : ℕ) (writing : Compacting (id_at ws) (is_live ws) slots xs₀ xs n i) where
  goes :
      (entry : CapabilityEntry) (v more : ℕ) → i < slots → entry ≡ entry_at ws i → v ≡ id_of entry → more ≡ one (is_live ws i) → more ≤ 1
      → Compacting (id_at ws) (is_live ws) slots xs₀ (set xs n v) (n + more) (i + 1)
  unfolding entry_at
  goes entry v more l e h = compact_goes (id_at ws) (is_live ws) slots xs₀ xs n i writing v more l (rw (h, e))

  count : slots ≤ i → n ≡ live_below ws slots
  count u = (compact_ends (id_at ws) (is_live ws) slots xs₀ xs n i writing u).passed

  ends : slots ≤ i → xs ≡ live_ids ws slots xs₀
  unfolding live_ids
  ends u = (compact_ends (id_at ws) (is_live ws) slots xs₀ xs n i writing u).written

ruleset laws = (rules, compact_starts, goes, count, ends)

pub loop-i-init : goal.loop-i-init
loop-i-init c = search laws

pub loop-i-preserved : goal.loop-i-preserved
loop-i-preserved c = search laws

pub returns-clause-ids_after : goal.returns-clause-ids_after
returns-clause-ids_after c = search laws
