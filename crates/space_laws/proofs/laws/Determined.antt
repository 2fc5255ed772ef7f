-- No two outcomes of a call that answers an entry, the facts or the statistics of a space are told alike (steps, Determined).
use Rattle.std.specs.Prelude.{Result, Ok, Err}
use Rattle.std.proofs.Common.{◌≡◌, refl}
use Rattle.answers.specs.Answer.{Answer, Refuses}
use Rattle.answers.specs.Answer as answers
use Rattle.answers.specs.declared.Refusal.{Refusal}
use Rattle.steps.specs.declared.Facts.{Facts}
use Rattle.steps.specs.declared.replies.Refused.{Refused}
use Rattle.steps.proofs.laws.Determined.{Determines, read_back}
use Rattle.space_reads.specs.Replies.{EntryReply, FactsReply, StatsReply, told_entry, told_facts, told_stats}
use Rattle.space_reads.specs.declared.FoundEntry.{FoundEntry}
use Rattle.space_reads.specs.declared.SpaceStats.{SpaceStats}

pub entry_determines : Determines told_entry
entry_determines = read_back told_entry back same
  where
    outcome : Answer → EntryReply → Result FoundEntry Refused
    outcome answers.Done r =
        Ok (record {
          entry = record { capability = r.token; object = r.object; rights = r.rights; uses = r.uses };
          visits = r.visits;
        })
    outcome (Refuses why) r = Err (record { refusal = why; count = r.visits })

    back : EntryReply → Result FoundEntry Refused
    back r = outcome r.answer r

    same : (o : Result FoundEntry Refused) → back (told_entry o) ≡ o
    same (Ok r) = refl
    same (Err r) = refl

pub facts_determine : Determines told_facts
facts_determine = read_back told_facts back same
  where
    outcome : Answer → Facts → Result Facts Refusal
    outcome answers.Done facts = Ok facts
    outcome (Refuses why) facts = Err why

    back : FactsReply → Result Facts Refusal
    back r = outcome r.answer r.facts

    same : (o : Result Facts Refusal) → back (told_facts o) ≡ o
    same (Ok r) = refl
    same (Err why) = refl

pub stats_determine : Determines told_stats
stats_determine = read_back told_stats back same
  where
    outcome : Answer → StatsReply → Result SpaceStats Refusal
    outcome answers.Done r = Ok (record { hits = r.hits; misses = r.misses; total_caps = r.total_caps })
    outcome (Refuses why) r = Err why

    back : StatsReply → Result SpaceStats Refusal
    back r = outcome r.answer r

    same : (o : Result SpaceStats Refusal) → back (told_stats o) ≡ o
    same (Ok r) = refl
    same (Err why) = refl
