-- Document 01's rows about one table, P1 to P7. Every table here starts from nothing, and where a row names no ids they are 0, 1, 2 and
-- so on.
use Rattle.std.specs.Prelude.{Bool, List, [], ◌∷◌, ℕ, zero, suc, eqb, replicate, Option, None, Some}
use Rattle.base.specs.Arith.{next_power}
use Rattle.base.specs.Below.{first, first_from}
use Rattle.base.specs.Choose.{both}
use Rattle.table.specs.Slots.{entry_at, put_entry, put_mark}
use Rattle.table.specs.Walk.{home_of, walk, search, steps_to_stop, steps_to_free, free_for}
use Rattle.table.specs.Insert.{Table, insert_new, none, live_entries, placed, made_room, crowded, room_for, rebuilt, place_all, emptied, removed_at}
use Rattle.table.specs.declared.Search.{Search}
use Rattle.rows.specs.Claims.{same}

-- ---- what the rows do

start : Table
start = record { words = replicate 64 0; counts = none; moved = 0 }

find : ℕ → Table → Search
unfolding search steps_to_stop walk home_of first first_from
find id t = search t.words t.counts.slots id

insert : ℕ → Table → Table
unfolding insert_new placed made_room crowded room_for next_power rebuilt place_all emptied live_entries entry_at put_entry free_for
    steps_to_free walk
    home_of first first_from
insert id t =
    insert_new t.words t.counts (record { capability = record { 0 = id }; object = 0; rights = record { 0 = 0 }; uses = 0 })

remove_found : Option ℕ → Table → Table
unfolding removed_at put_mark
remove_found (Some i) t = removed_at t.words t.counts i
remove_found None t = t

remove : ℕ → Table → Table
unfolding remove_found find
remove id t = remove_found (find id t).found t

-- The ids one after the other.
insert_each : List ℕ → Table → Table
unfolding insert
insert_each [] t = t
insert_each (id ∷ ids) t = insert_each ids (insert id t)

remove_each : List ℕ → Table → Table
unfolding remove
remove_each [] t = t
remove_each (id ∷ ids) t = remove_each ids (remove id t)

-- ---- what the rows claim

homes : ℕ → List ℕ → List ℕ
unfolding home_of
homes slots [] = []
homes slots (id ∷ ids) = home_of id slots ∷ homes slots ids

-- The n slots that the walk of an id meets from step s on.
met : ℕ → ℕ → ℕ → ℕ → List ℕ
unfolding walk home_of
met id slots s zero = []
met id slots s (suc n) = walk id slots s ∷ met id slots (suc s) n

visited : ℕ → Table → List ℕ
unfolding find met
visited id t = met id t.counts.slots 0 (find id t).visits

-- The slot, or none.
place : Option ℕ → List ℕ
place (Some i) = i ∷ []
place None = []

-- Live entries, removed ones, slots, and the entries that the last call moved.
numbers : Table → List ℕ
numbers t = t.counts.full ∷ t.counts.tombstones ∷ t.counts.slots ∷ t.moved ∷ []

-- ---- the rows

-- P1 homes in 8 slots of ids 0..7: 0, 1, 2, 4, 5, 7, 0, 2.
unfoldable pub p1 : Bool
unfolding same homes
p1 = same (homes 8 (0 ∷ 1 ∷ 2 ∷ 3 ∷ 4 ∷ 5 ∷ 6 ∷ 7 ∷ [])) (0 ∷ 1 ∷ 2 ∷ 4 ∷ 5 ∷ 7 ∷ 0 ∷ 2 ∷ [])

-- P2 insert 2, 7, remove 2: search 7 visits 2 (slots 2, 3).
after2 : Table
unfolding insert_each remove start
after2 = remove 2 (insert_each (2 ∷ 7 ∷ []) start)

unfoldable pub p2 : Bool
unfolding same find visited place after2
p2 =
    both (eqb (find 7 after2).visits 2)
    (both (same (visited 7 after2) (2 ∷ 3 ∷ [])) (same (place (find 7 after2).found) (3 ∷ [])))

-- P3 then search 2 visits 3, absent; insert 2 lands in slot 2.
unfoldable pub p3 : Bool
unfolding same find insert place after2
p3 =
    both (eqb (find 2 after2).visits 3)
    (both (same (place (find 2 after2).found) []) (same (place (find 2 (insert 2 after2)).found) (2 ∷ [])))

-- P4 sixth live entry: still 8 slots.
six : Table
unfolding insert_each start
six = insert_each (0 ∷ 1 ∷ 2 ∷ 3 ∷ 4 ∷ 5 ∷ []) start

unfoldable pub p4 : Bool
unfolding same numbers six
p4 = same (numbers six) (6 ∷ 0 ∷ 8 ∷ 0 ∷ [])

-- P5 seventh: 16 slots, 6 moved.
unfoldable pub p5 : Bool
unfolding same numbers six insert
p5 = same (numbers (insert 6 six)) (7 ∷ 0 ∷ 16 ∷ 6 ∷ [])

-- P6 five live, one removed, insert: 16, 5 moved.
unfoldable pub p6 : Bool
unfolding same numbers six insert remove
p6 =
    let t = remove 3 six in
    both (same (numbers t) (5 ∷ 1 ∷ 8 ∷ 0 ∷ [])) (same (numbers (insert 6 t)) (6 ∷ 0 ∷ 16 ∷ 5 ∷ []))

-- P7 one live, five removed, insert: 8, 1 moved.
unfoldable pub p7 : Bool
unfolding same numbers six insert remove_each
p7 =
    let t = remove_each (0 ∷ 1 ∷ 2 ∷ 4 ∷ 5 ∷ []) six in
    both (same (numbers t) (1 ∷ 5 ∷ 8 ∷ 0 ∷ [])) (same (numbers (insert 6 t)) (2 ∷ 0 ∷ 8 ∷ 1 ∷ []))
