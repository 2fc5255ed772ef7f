-- The entries and statistics of a space as a host sees them: the answer by its number, tokens and rights by theirs, all else as it is.
use Rattle.std.specs.Prelude.{◌≡◌, Result}
use Rattle.answers.specs.Number.{number_of}
use Rattle.answers.specs.declared.Refusal.{Refusal}
use Rattle.space_reads.specs.Replies.{EntryReply, StatsReply, told_entry, told_stats}
use Rattle.space_reads.specs.declared.FoundEntry.{FoundEntry}
use Rattle.space_reads.specs.declared.SpaceStats.{SpaceStats}
use Rattle.steps.specs.declared.replies.Refused.{Refused}
use Rattle.host_spaces.specs.declared.spaces.EntryAnswer.{EntryAnswer}
use Rattle.host_spaces.specs.declared.spaces.StatsAnswer.{StatsAnswer}

unfoldable pub entry_answer : EntryReply → EntryAnswer
entry_answer r =
    record {
      answer = number_of r.answer;
      token = r.token.0;
      object = r.object;
      rights = r.rights.0;
      uses = r.uses;
      visits = r.visits;
    }

unfoldable pub stats_answer : StatsReply → StatsAnswer
stats_answer r = record { answer = number_of r.answer; hits = r.hits; misses = r.misses; total_caps = r.total_caps }

-- What the code's conversions answer.
abbrev pub EntryAnswers : Result FoundEntry Refused → EntryAnswer → Type 0
EntryAnswers outcome answer = answer ≡ entry_answer (told_entry outcome)

abbrev pub StatsAnswers : Result SpaceStats Refusal → StatsAnswer → Type 0
StatsAnswers outcome answer = answer ≡ stats_answer (told_stats outcome)
