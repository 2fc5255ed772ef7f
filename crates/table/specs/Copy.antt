-- The n-th live entry, and copying a table into another.
use Rattle.std.specs.Prelude.{List, [], ◌∷◌, ℕ, zero, suc, ◌+◌, Option, None, Some}
use Rattle.table.specs.Insert.{Table, insert_new, none, live_entries}
use Rattle.table.specs.declared.CapabilityEntry.{CapabilityEntry}

-- The n-th of the entries, n from 0, or past the last.
unfoldable pub nth_of : List CapabilityEntry → ℕ → Option CapabilityEntry
nth_of [] n = None
nth_of (e ∷ es) zero = Some e
nth_of (e ∷ es) (suc n) = nth_of es n

-- The copy of an entry: the same capability, uses zeroed.
abbrev pub fresh : CapabilityEntry → CapabilityEntry
fresh e = record { capability = e.capability; object = e.object; rights = e.rights; uses = 0 }

-- The entries inserted one after the other, uses zeroed; the moves add up.
unfoldable pub insert_all : List CapabilityEntry → Table → Table
insert_all [] t = t
insert_all (e ∷ es) t =
    let u = insert_new t.words t.counts (fresh e) in
    insert_all es (record { words = u.words; counts = u.counts; moved = t.moved + u.moved })

-- A copy of the source's live entries, in slot order, over what the target's words held: the target starts at 0 slots.
unfoldable pub copied : List ℕ → ℕ → List ℕ → Table
copied source slots target = insert_all (live_entries source 0 slots) (record { words = target; counts = none; moved = 0 })
