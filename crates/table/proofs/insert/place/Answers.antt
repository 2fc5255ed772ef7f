-- `table::insert::place` meets its contract: the first slot that is not live, and a mark there used up.
use Rattle.std.proofs.Common.{◌≡◌, List, ℕ, ◌+◌, ◌-◌}
use Rattle.base.specs.Below.{one}
use Rattle.table.specs.Slots.{id_of, is_removed, put_entry}
use Rattle.table.specs.Walk.{free_for}
use Rattle.table.specs.Insert.{placed}
use Rattle.table.specs.declared.CapTable.{CapTable}
use Rattle.table.specs.declared.CapabilityEntry.{CapabilityEntry}
use Rattle.table.proofs.insert.place.Goals as goal

at_free : (ws after : List ℕ) (t : CapTable) (e : CapabilityEntry) (id i marks moved : ℕ) → id ≡ id_of e → i ≡ free_for ws t.slots id
    → marks ≡ t.tombstones - one (is_removed ws i) → after ≡ put_entry ws i e
    → record { words = after; counts = record { slots = t.slots; full = t.full + 1; tombstones = marks }; moved = moved }
    ≡ placed (record { words = ws; counts = t; moved = moved }) e
unfolding placed
at_free ws after t e id i marks moved h f m p = rw (p, m, f, h)

pub returns : goal.returns
returns c = search at_free
