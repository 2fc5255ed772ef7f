-- The ids of a space's entries, in slot order: those that its clearing, or a copy over it, gives back.
use Rattle.std.specs.Prelude.{◌≡◌, ℕ, suc, List, [], ◌∷◌, length, refl}
use Rattle.std.proofs.Common.{ap}
use Rattle.table.specs.Insert.{live_entries}
use Rattle.table.specs.Slots.{id_of}
use Rattle.table.specs.declared.CapabilityEntry.{CapabilityEntry}
use Rattle.space.specs.Words.{table_of, slot_words}

unfoldable pub ids_of : List CapabilityEntry → List ℕ
ids_of [] = []
ids_of (e ∷ es) = id_of e ∷ ids_of es

pub ids_of-length : (es : List CapabilityEntry) → length (ids_of es) ≡ length es
unfolding ids_of
ids_of-length [] = refl
ids_of-length (e ∷ es) = ap suc (ids_of-length es)

unfoldable pub entry_ids : List ℕ → List ℕ
entry_ids sp = ids_of (live_entries (slot_words sp) 0 (table_of sp).slots)
