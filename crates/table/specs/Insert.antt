-- What changes a table: placing, rebuilding, inserting, removing.
use Rattle.std.specs.Prelude.{Bool, List, [], ◌∷◌, ℕ, zero, suc, ◌+◌, ◌-◌, ◌*◌, ◌<◌, ◌≤◌, max, ltb, length, set, Option, None, Some}
use Rattle.base.specs.Choose.{pick}
use Rattle.base.specs.Arith.{next_power}
use Rattle.base.specs.Below.{one}
use Rattle.table.specs.Slots.{is_live, is_removed, id_of, entry_at, put_entry, put_mark}
use Rattle.table.specs.Walk.{free_for}
use Rattle.table.specs.declared.CapabilityEntry.{CapabilityEntry}
use Rattle.table.specs.declared.CapTable.{CapTable}
use Rattle.table.specs.declared.Inserted.{Inserted}

-- A table as a call leaves it, with the entries that the call moved.
pub record Table : Type 0 where
  pub words : List ℕ
  pub counts : CapTable
  pub moved : ℕ

-- The words that a call leaves and its answer, as one table.
abbrev pub leaves : List ℕ → Inserted → Table
leaves ws r = record { words = ws; counts = r.table; moved = r.moved }

-- The live entries of slots i to i + n - 1, in slot order.
unfoldable pub live_entries : List ℕ → ℕ → ℕ → List CapabilityEntry
live_entries ws i zero = []
live_entries ws i (suc n) = let r = live_entries ws (suc i) n in pick (is_live ws i) (entry_at ws i ∷ r) r

-- The entries of slots i to i + n - 1, whatever their kind: what a scratch array is filled with.
unfoldable pub scratch_entries : List ℕ → ℕ → ℕ → List CapabilityEntry
scratch_entries ws i zero = []
scratch_entries ws i (suc n) = entry_at ws i ∷ scratch_entries ws (suc i) n

-- A scratch array and how many entries it holds.
pub record Scratch : Type 0 where
  pub kept : List ℕ
  pub count : ℕ

abbrev pub holds : List ℕ → ℕ → Scratch
holds kept count = record { kept = kept; count = count }

-- The live entries of slots i to i + n - 1 put into the scratch one after the other, behind those that it holds already.
unfoldable pub gathered : List ℕ → ℕ → ℕ → Scratch → Scratch
gathered ws i zero s = s
gathered ws i (suc n) s =
    gathered ws (suc i) n
    (record { kept = pick (is_live ws i) (put_entry s.kept s.count (entry_at ws i)) s.kept; count = s.count + one (is_live ws i) })

-- The first n slots empty; their other words stay.
unfoldable pub emptied : List ℕ → ℕ → List ℕ
emptied ws zero = ws
emptied ws (suc n) = set (emptied ws n) (4 * n + 3) 0

-- The entries placed one after the other, each at the first slot not live.
unfoldable pub place_all : List CapabilityEntry → List ℕ → ℕ → List ℕ
place_all [] ws slots = ws
place_all (e ∷ es) ws slots = place_all es (put_entry ws (free_for ws slots (id_of e)) e) slots

-- A rebuild to n slots: live entries re-placed in slot order, removed marks gone.
unfoldable pub rebuilt : List ℕ → ℕ → ℕ → List ℕ
rebuilt ws slots n = place_all (live_entries ws 0 slots) (emptied ws n) n

-- The next power of two at or above twice the entries, at least 8.
abbrev pub slots_for : ℕ → ℕ
slots_for entries = max 8 (next_power (2 * entries))

-- Before placing, if 4(live + removed + 1) > 3 x slots, rebuild ..
unfoldable pub crowded : CapTable → Bool
crowded t = ltb (3 * t.slots) (4 * (t.full + t.tombstones + 1))

-- .. at the next power of two at or above 2(live + 1), at least 8.
unfoldable pub room_for : ℕ → ℕ
room_for live = slots_for (live + 1)

-- What an insert asks of the words and the counts: ranges, and words for the slots that the table has and for those of a rebuild.
pub record Insertable (ws : List ℕ) (t : CapTable) : Type 0 where
  pub few_slots : t.slots ≤ 512
  pub few_live : t.full < 256
  pub few_removed : t.tombstones ≤ 512
  pub held : 4 * t.slots ≤ length ws
  pub rebuild : 4 * room_for t.full ≤ length ws

-- What is left of it once there is room.
pub record Placeable (ws : List ℕ) (t : CapTable) : Type 0 where
  pub some_slots : 0 < t.slots
  pub few_slots : t.slots ≤ 512
  pub few_live : t.full ≤ 512
  pub held : 4 * t.slots ≤ length ws

-- The table rebuilt with room for one entry more.
abbrev pub enlarged : List ℕ → CapTable → Table
enlarged ws t =
    let n = room_for t.full in
    let live = length (live_entries ws 0 t.slots) in
    record { words = rebuilt ws t.slots n; counts = record { slots = n; full = live; tombstones = 0 }; moved = live }

unfoldable pub made_room : List ℕ → CapTable → Table
made_room ws t = pick (crowded t) (enlarged ws t) (record { words = ws; counts = t; moved = 0 })

-- Then place at the first slot not live; a removed mark there is used up.
unfoldable pub placed : Table → CapabilityEntry → Table
placed t e =
    let i = free_for t.words t.counts.slots (id_of e) in
    record {
      words = put_entry t.words i e;
      counts = record {
        slots = t.counts.slots;
        full = t.counts.full + 1;
        tombstones = t.counts.tombstones - one (is_removed t.words i);
      };
      moved = t.moved;
    }

unfoldable pub insert_new : List ℕ → CapTable → CapabilityEntry → Table
insert_new ws t e = placed (made_room ws t) e

-- A table with nothing in it has 0 slots.
abbrev pub none : CapTable
none = record { slots = 0; full = 0; tombstones = 0 }

-- Removing the last live entry returns the table to 0 slots. Where slot i holds no entry nothing changes.
unfoldable pub removed_at : List ℕ → CapTable → ℕ → Table
removed_at ws t i =
    pick (is_live ws i)
    (record {
      words = put_mark ws i;
      counts =
          pick (ltb 1 t.full)
          (record { slots = t.slots; full = t.full - 1; tombstones = t.tombstones + 1 })
          none;
      moved = 0;
    })
    (record { words = ws; counts = t; moved = 0 })

-- What leaves: the entry of slot i, or nothing.
abbrev pub held_at : List ℕ → ℕ → Option CapabilityEntry
held_at ws i = pick (is_live ws i) (Some (entry_at ws i)) None
