-- Document 01: copying a space ignores the target's quota, zeroes uses, keeps slot order of the source while re-placing, and takes its
-- generation. Source and target may be one space: the entries go by way of a scratch array.
use Rattle.std.specs.Prelude.{ℕ, List, slice_set}
use Rattle.table.specs.Insert.{Table, scratch_entries, none}
use Rattle.table.specs.Copy.{insert_all, copied}
use Rattle.space.specs.Words.{generation_of, table_of, slot_words, with_table}

-- The space with another table and another generation.
abbrev pub remade : List ℕ → Table → ℕ → List ℕ
remade sp t generation = slice_set (with_table sp t) 1 generation

-- The target's table after a copy of the source.
unfoldable pub copied_table : List ℕ → List ℕ → Table
copied_table source target = copied (slot_words source) (table_of source).slots (slot_words target)

-- The target after it, with the source's generation.
unfoldable pub copied_space : List ℕ → List ℕ → List ℕ
copied_space source target = remade target (copied_table source target) (generation_of source)

-- The table that the scratch's first `count` entries make, from 0 slots.
unfoldable pub replacement : List ℕ → List ℕ → ℕ → Table
replacement sp scratch count = insert_all (scratch_entries scratch 0 count) (record { words = slot_words sp; counts = none; moved = 0 })

unfoldable pub replaced : List ℕ → List ℕ → ℕ → ℕ → List ℕ
replaced sp scratch count generation = remade sp (replacement sp scratch count) generation
