-- No two outcomes of the call that answers the statistics of the notifications are told alike (steps, Determined).
use Rattle.std.specs.Prelude.{Result, Ok, Err}
use Rattle.std.proofs.Common.{◌≡◌, refl}
use Rattle.answers.specs.Answer.{Answer, Refuses}
use Rattle.answers.specs.Answer as answers
use Rattle.answers.specs.declared.Refusal.{Refusal}
use Rattle.steps.proofs.laws.Determined.{Determines, read_back}
use Rattle.notification_calls.specs.Calls.{QueuesReply, told_queues}
use Rattle.notification_calls.specs.declared.Queues.{Queues}

pub queues_determine : Determines told_queues
queues_determine = read_back told_queues back same
  where
    outcome : Answer → QueuesReply → Result Queues Refusal
    outcome answers.Done r = Ok (record { processes = r.processes; notifications = r.notifications })
    outcome (Refuses why) r = Err why

    back : QueuesReply → Result Queues Refusal
    back r = outcome r.answer r

    same : (o : Result Queues Refusal) → back (told_queues o) ≡ o
    same (Ok r) = refl
    same (Err why) = refl
