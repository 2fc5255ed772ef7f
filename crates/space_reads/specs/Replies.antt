-- What a call answers for what a step found: document 01's answer, the values, and the added counts. A refusal's values are 0;
-- a search's visits are answered whether it found the entry or not.
use Rattle.std.specs.Prelude.{ℕ, Option, None, Some, Result, Ok, Err}
use Rattle.answers.specs.Answer.{Answer, Done, Refuses, NotFound}
use Rattle.answers.specs.declared.Refusal.{Refusal}
use Rattle.base.specs.Below.{one}
use Rattle.table.specs.declared.CapabilityEntry.{CapabilityEntry}
use Rattle.token.specs.Rights.{holds}
use Rattle.token.specs.declared.capability.CapabilityToken.{CapabilityToken}
use Rattle.token.specs.declared.rights.Rights.{Rights}
use Rattle.steps.specs.Replies.{replied, Reply}
use Rattle.steps.specs.declared.Facts.{Facts}
use Rattle.steps.specs.declared.replies.Refused.{Refused}
use Rattle.space_reads.specs.declared.FoundEntry.{FoundEntry}
use Rattle.space_reads.specs.declared.SpaceStats.{SpaceStats}

-- An entry for an answer, zeros on a refusal, and the slots that its search visited.
pub record EntryReply : Type 0 where
  pub answer : Answer
  pub token : CapabilityToken
  pub object : ℕ
  pub rights : Rights
  pub uses : ℕ
  pub visits : ℕ

-- All that a space says of itself, zeros on a refusal; calls answer parts of it.
pub record FactsReply : Type 0 where
  pub answer : Answer
  pub facts : Facts

-- The statistics of a space, zeros on a refusal.
pub record StatsReply : Type 0 where
  pub answer : Answer
  pub hits : ℕ
  pub misses : ℕ
  pub total_caps : ℕ

-- ---- an entry that was looked for

-- 0 with its value, or 8.
abbrev pub found_reply : (CapabilityEntry → ℕ) → Option CapabilityEntry → ℕ → Reply
found_reply value (Some e) visits = replied Done (value e) visits
found_reply value None visits = replied NotFound 0 visits

abbrev pub rights_reply : Option CapabilityEntry → ℕ → Reply
rights_reply got visits = found_reply (λ e. e.rights.0) got visits

-- Whether the token is held with the rights: 1 or 0.
abbrev pub held_reply : ℕ → Option CapabilityEntry → ℕ → Reply
held_reply required (Some e) visits = replied Done (one (holds e.rights.0 required)) visits
held_reply required None visits = replied Done 0 visits

-- ---- an entry as the answer

abbrev pub whole_entry : CapabilityEntry → ℕ → EntryReply
whole_entry e visits =
    record { answer = Done; token = e.capability; object = e.object; rights = e.rights; uses = e.uses; visits = visits }

abbrev pub no_entry : Answer → ℕ → EntryReply
no_entry answer visits =
    record { answer = answer; token = record { 0 = 0 }; object = 0; rights = record { 0 = 0 }; uses = 0; visits = visits }

abbrev pub entry_reply : Option CapabilityEntry → ℕ → EntryReply
entry_reply (Some e) visits = whole_entry e visits
entry_reply None visits = no_entry NotFound visits

-- The n-th entry; 8 past the last.
abbrev pub nth_reply : Option CapabilityEntry → EntryReply
nth_reply (Some e) = whole_entry e 0
nth_reply None = no_entry NotFound 0

-- ---- all that a space says of itself

abbrev pub no_facts : Answer → FactsReply
no_facts answer =
    record { answer = answer; facts = record { quota = 0; generation = 0; hits = 0; misses = 0; slots = 0; used = 0 } }

-- ---- what the code's outcomes tell

abbrev pub told_entry : Result FoundEntry Refused → EntryReply
told_entry (Ok found) = whole_entry found.entry found.visits
told_entry (Err r) = no_entry (Refuses r.refusal) r.count

abbrev pub told_facts : Result Facts Refusal → FactsReply
told_facts (Ok facts) = record { answer = Done; facts = facts }
told_facts (Err refusal) = no_facts (Refuses refusal)

abbrev pub told_stats : Result SpaceStats Refusal → StatsReply
told_stats (Ok stats) = record { answer = Done; hits = stats.hits; misses = stats.misses; total_caps = stats.total_caps }
told_stats (Err refusal) = record { answer = Refuses refusal; hits = 0; misses = 0; total_caps = 0 }
