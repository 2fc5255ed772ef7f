-- The calls that read a space: what each answers and leaves, on every memory and every argument. Document 01's order of refusals: 26, 20,
-- 21, then the source's.
use Rattle.std.specs.Prelude.{List, ℕ, ◌^◌, leb}
use Rattle.answers.specs.Answer.{Done, BadField}
use Rattle.base.specs.Choose.{when}
use Rattle.space.specs.Lookup.{looked_up, got_entry}
use Rattle.space.specs.Words.{table_of, slot_words}
use Rattle.steps.specs.Enter.{on_space}
use Rattle.steps.specs.Replies.{Left, replied, refuse, Reply}
use Rattle.steps.specs.Steps.{space_of, facts_of, lookup_step}
use Rattle.steps.specs.declared.Facts.{Facts}
use Rattle.table.specs.Copy.{nth_of}
use Rattle.table.specs.Insert.{live_entries}
use Rattle.space_reads.specs.Replies.{rights_reply, held_reply, no_entry, entry_reply, nth_reply, no_facts, EntryReply, FactsReply, StatsReply}

-- ---- what a space says of itself

-- All of it, zeros on a refusal; each call answers its part.
unfoldable pub facts_out : List ℕ → ℕ → FactsReply
facts_out mem s = on_space no_facts mem s (λ d. record { answer = Done; facts = facts_of (space_of d s mem) })

abbrev pub fact_out : (Facts → ℕ) → List ℕ → ℕ → Reply
fact_out fact mem s = replied (facts_out mem s).answer (fact (facts_out mem s).facts) 0

abbrev pub used_out : List ℕ → ℕ → Reply
used_out mem s = fact_out (λ f. f.used) mem s

abbrev pub quota_out : List ℕ → ℕ → Reply
quota_out mem s = fact_out (λ f. f.quota) mem s

abbrev pub capacity_out : List ℕ → ℕ → Reply
capacity_out mem s = fact_out (λ f. f.slots) mem s

abbrev pub generation_out : List ℕ → ℕ → Reply
generation_out mem s = fact_out (λ f. f.generation) mem s

abbrev pub stats_out : List ℕ → ℕ → StatsReply
stats_out mem s =
    let f = facts_out mem s in
    record { answer = f.answer; hits = f.facts.hits; misses = f.facts.misses; total_caps = f.facts.used }

-- ---- finding entries

-- Lookup matches the whole token, and is counted: 8 for an absent one.
unfoldable pub lookup_out : List ℕ → ℕ → ℕ → Left Reply
lookup_out mem s token =
    on_space (refuse mem) mem s (λ d.
    let l = looked_up (space_of d s mem) token in
    record { reply = rights_reply l.got l.visits; memory = lookup_step d s token mem })

-- The same with the whole entry, as it was before this use.
unfoldable pub lookup_entry_out : List ℕ → ℕ → ℕ → Left EntryReply
lookup_entry_out mem s token =
    on_space (λ a. record { reply = no_entry a 0; memory = mem }) mem s (λ d.
    let l = looked_up (space_of d s mem) token in
    record { reply = entry_reply l.got l.visits; memory = lookup_step d s token mem })

-- Whether the token is there with the rights: a lookup, counted as any.
unfoldable pub check_rights_out : List ℕ → ℕ → ℕ → ℕ → Left Reply
check_rights_out mem s token required =
    on_space (refuse mem) mem s (λ d.
    let l = looked_up (space_of d s mem) token in
    record { reply = held_reply required l.got l.visits; memory = lookup_step d s token mem })

-- By the id alone, whatever its generation, not counted: 21 for an id over 2^48-1, 8 for an absent one.
unfoldable pub get_entry_out : List ℕ → ℕ → ℕ → EntryReply
get_entry_out mem s id =
    on_space (λ a. no_entry a 0) mem s (λ d.
    let l = got_entry (space_of d s mem) id in
    when (leb (2 ^ 48) id) (no_entry BadField 0) (entry_reply l.got l.visits))

-- The n-th live entry in slot order, n from 0, 8 past the last.
unfoldable pub nth_entry_out : List ℕ → ℕ → ℕ → EntryReply
nth_entry_out mem s n =
    on_space (λ a. no_entry a 0) mem s (λ d.
    let sp = space_of d s mem in
    nth_reply (nth_of (live_entries (slot_words sp) 0 (table_of sp).slots) n))
