-- The replies of the calls as a host sees them: the answer by its number, all else as it is.
use Rattle.std.specs.Prelude.{◌≡◌, List, ℕ, Result}
use Rattle.answers.specs.Number.{number_of}
use Rattle.steps.specs.Replies.{Left, WithArea, Reply}
use Rattle.steps.specs.Replies as steps
use Rattle.steps.specs.declared.replies.Done.{Done}
use Rattle.steps.specs.declared.replies.Refused.{Refused}
use Rattle.host_replies.specs.declared.CallAnswer.{CallAnswer}

unfoldable pub call_answer : Reply → CallAnswer
call_answer r = record { answer = number_of r.answer; value = r.value; count = r.count }

-- What the code's conversion answers.
abbrev pub Answers : Result Done Refused → CallAnswer → Type 0
Answers outcome answer = answer ≡ call_answer (steps.told outcome)

-- What a call leaves, with its reply seen so.
unfoldable pub told : {A B : Type 0} → (A → B) → Left A → Left B
told seen left = record { reply = seen left.reply; memory = left.memory }

-- What a call leaves of a lent area, with its reply seen so.
pub record AreaAnswer : Type 0 where
  pub reply : CallAnswer
  pub area : List ℕ

unfoldable pub area_answer : WithArea → AreaAnswer
area_answer l = record { reply = call_answer l.reply; area = l.area }
