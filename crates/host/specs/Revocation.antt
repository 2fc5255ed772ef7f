-- The statistics of the notifications as a host sees them: the answer by its number, all else as it is.
use Rattle.std.specs.Prelude.{◌≡◌, Result}
use Rattle.answers.specs.Number.{number_of}
use Rattle.answers.specs.declared.Refusal.{Refusal}
use Rattle.notification_calls.specs.Calls.{QueuesReply, told_queues}
use Rattle.notification_calls.specs.declared.Queues.{Queues}
use Rattle.host.specs.declared.revoking.QueuesAnswer.{QueuesAnswer}

unfoldable pub queues_answer : QueuesReply → QueuesAnswer
queues_answer r = record { answer = number_of r.answer; processes = r.processes; notifications = r.notifications }

-- What the code's conversion answers.
abbrev pub QueuesAnswers : Result Queues Refusal → QueuesAnswer → Type 0
QueuesAnswers outcome answer = answer ≡ queues_answer (told_queues outcome)
