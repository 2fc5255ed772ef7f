-- The table's records as numbers.
use Rattle.std.specs.Prelude.{Bool, true, false, List, ℕ, ◌-◌, ◌^◌, get_or, set, Option, None, Some}
use Rattle.table.specs.Insert.{Table}
use Rattle.table.specs.declared.CapTable.{CapTable}
use Rattle.table.specs.declared.CapabilityEntry.{CapabilityEntry}
use Rattle.table.specs.declared.Search.{Search}
use Rattle.table_probe.specs.declared.Ended.{Ended}

-- A table beside its words: slots, full, tombstones.
abbrev pub counts_of : List ℕ → CapTable
counts_of ns = record { slots = get_or ns 0 0; full = get_or ns 1 0; tombstones = get_or ns 2 0 }

-- The table over its numbers, and behind it the entries that a call moved.
unfoldable pub keeps : List ℕ → CapTable → ℕ → List ℕ
keeps ns t moved = set (set (set (set ns 0 t.slots) 1 t.full) 2 t.tombstones) 3 moved

-- The words and the numbers as a call leaves them.
pub record Probed : Type 0 where
  pub words : List ℕ
  pub numbers : List ℕ

abbrev pub left : List ℕ → List ℕ → Probed
left ws ns = record { words = ws; numbers = ns }

abbrev pub leaves : List ℕ → Table → Probed
leaves ns t = left t.words (keeps ns t.counts t.moved)

abbrev pub entry_of : ℕ → ℕ → ℕ → ℕ → CapabilityEntry
entry_of token object rights uses = record {
  capability = record { 0 = token };
  object = object;
  rights = record { 0 = rights };
  uses = uses;
}

-- The entry over the four words.
unfoldable pub entry_words : List ℕ → CapabilityEntry → List ℕ
entry_words out e = set (set (set (set out 0 e.capability.0) 1 e.object) 2 e.uses) 3 e.rights.0

-- Where a search ended; all ones where the id is absent.
abbrev pub place : Option ℕ → ℕ
place (Some i) = i
place None = 2 ^ 64 - 1

abbrev pub ended : Search → Ended
ended s = record { at = place s.found; visits = s.visits }

-- Whether there is an entry, and what its four words hold afterwards; with none they stay.
pub record EntryOut : Type 0 where
  pub there : Bool
  pub entry : List ℕ

abbrev pub answers : Bool → List ℕ → EntryOut
answers there entry = record { there = there; entry = entry }

abbrev pub got_words : List ℕ → Option CapabilityEntry → EntryOut
got_words out (Some e) = answers true (entry_words out e)
got_words out None = answers false out

abbrev pub nth_words : List ℕ → Option CapabilityEntry → EntryOut
nth_words out (Some e) = answers true (entry_words out e)
nth_words out None = answers false out
