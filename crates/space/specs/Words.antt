-- The words of a space: 0 quota, 1 generation, 2 hits, 3 misses, 4 spare, 5 slots, 6 live, 7 removed, and from 8 on the slots of its
-- table, four words each. `used` and `total_caps` are the word `live` itself, so they cannot differ from the live count.
use Rattle.std.specs.Prelude.{ℕ, ◌+◌, ◌*◌, ◌^◌, ◌<◌, ◌≤◌, List, ◌++◌, length, take, drop, slice_index, slice_set}
use Rattle.table.specs.Insert.{Table, slots_for}
use Rattle.table.specs.declared.CapTable.{CapTable}

abbrev pub quota_of : List ℕ → ℕ
quota_of sp = slice_index sp 0

abbrev pub generation_of : List ℕ → ℕ
generation_of sp = slice_index sp 1

abbrev pub hits_of : List ℕ → ℕ
hits_of sp = slice_index sp 2

abbrev pub misses_of : List ℕ → ℕ
misses_of sp = slice_index sp 3

abbrev pub table_of : List ℕ → CapTable
table_of sp = record { slots = slice_index sp 5; full = slice_index sp 6; tombstones = slice_index sp 7 }

abbrev pub slot_words : List ℕ → List ℕ
slot_words sp = drop 8 sp

-- The space with other counts of its table.
unfoldable pub with_counts : List ℕ → CapTable → List ℕ
with_counts sp t = slice_set (slice_set (slice_set sp 5 t.slots) 6 t.full) 7 t.tombstones

-- The space with another table, slots and counts.
unfoldable pub with_table : List ℕ → Table → List ℕ
with_table sp t = with_counts (take 8 sp ++ t.words) t.counts

-- How many words a space has where quotas are at most `most`: 8, and 4 for each slot of the largest table.
abbrev pub words_for : ℕ → ℕ
words_for most = 8 + 4 * slots_for most

-- What a call asks of a space's words: ranges, and words for the slots that the table has and for those that its quota allows. Every
-- sound space has them.
pub record InRange (sp : List ℕ) : Type 0 where
  pub coded : generation_of sp < 2 ^ 8
  pub few_allowed : quota_of sp ≤ 256
  pub few_slots : (table_of sp).slots ≤ 512
  pub few_removed : (table_of sp).tombstones ≤ 512
  pub held : 8 + 4 * (table_of sp).slots ≤ length sp
  pub allowed : words_for (quota_of sp) ≤ length sp

-- A slot of the table.
pub record SlotOf (sp : List ℕ) (i : ℕ) : Type 0 where
  pub range : InRange sp
  pub below : i < (table_of sp).slots
