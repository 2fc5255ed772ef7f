-- What changes one space: inserting, removing, clearing, and its generation. Document 01, "Table of a space (001)".
use Rattle.std.specs.Prelude.{ℕ, ◌+◌, ◌%◌, ◌^◌, List, nat_le, slice_set, Option, None, Some, Result, Ok, Err}
use Rattle.answers.specs.Answer.{Answer, Done, AlreadyExists, SpaceQuota, answer_of}
use Rattle.answers.specs.declared.Refusal.{Refusal}
use Rattle.base.specs.Choose.{when}
use Rattle.table.specs.Insert.{Table, insert_new, removed_at, none}
use Rattle.table.specs.Slots.{id_of}
use Rattle.table.specs.declared.CapabilityEntry.{CapabilityEntry}
use Rattle.space.specs.Words.{quota_of, generation_of, table_of, slot_words, with_counts, with_table}
use Rattle.space.specs.Lookup.{is_found, search_id, exactly}

-- ---- inserting

-- What an insert leaves: the space's words, its answer, and the entries that it moved.
pub record InsertOut : Type 0 where
  pub words : List ℕ
  pub answer : Answer
  pub moved : ℕ

-- What the code answers, as that record: a refusal moves nothing.
abbrev pub moved_of : Result ℕ Refusal → ℕ
moved_of (Ok moved) = moved
moved_of (Err refusal) = 0

abbrev pub answered : Result ℕ Refusal → List ℕ → InsertOut
answered r sp = record { words = sp; answer = answer_of r; moved = moved_of r }

-- A refusal changes nothing.
abbrev pub refused : List ℕ → Answer → InsertOut
refused sp answer = record { words = sp; answer = answer; moved = 0 }

abbrev pub inserted_table : List ℕ → CapabilityEntry → Table
inserted_table sp e = insert_new (slot_words sp) (table_of sp) e

unfoldable pub inserted : List ℕ → CapabilityEntry → List ℕ
inserted sp e = with_table sp (inserted_table sp e)

abbrev pub accepted : List ℕ → CapabilityEntry → InsertOut
accepted sp e = record { words = inserted sp e; answer = Done; moved = (inserted_table sp e).moved }

-- Insert tests quota, then the id.
unfoldable pub insert_out : List ℕ → CapabilityEntry → InsertOut
insert_out sp e =
    when (nat_le (quota_of sp) (table_of sp).full) (refused sp SpaceQuota)
    (when (is_found (search_id sp (id_of e)).found) (refused sp AlreadyExists) (accepted sp e))

-- ---- removing

-- The entry of slot i leaves.
abbrev pub removed_table : List ℕ → ℕ → Table
removed_table sp i = removed_at (slot_words sp) (table_of sp) i

unfoldable pub removed : List ℕ → ℕ → List ℕ
removed sp i = with_table sp (removed_table sp i)

abbrev pub removed_found : List ℕ → Option ℕ → List ℕ
removed_found sp (Some i) = removed sp i
removed_found sp None = sp

-- Only exactly the token removes its entry.
unfoldable pub removed_token : List ℕ → ℕ → List ℕ
removed_token sp token = removed_found sp (exactly sp token)

-- ---- the space as a whole

-- Clearing leaves 0 slots.
unfoldable pub cleared : List ℕ → List ℕ
cleared sp = with_counts sp none

-- The space generation, 8 bits, wraps.
unfoldable pub next_generation : List ℕ → List ℕ
next_generation sp = slice_set sp 1 ((generation_of sp + 1) % 2 ^ 8)
