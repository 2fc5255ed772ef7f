-- What every call tells, and with it the memory that it leaves.
use Rattle.std.specs.Prelude.{◌≡◌, ℕ, List, length, nat_lt, Result, Ok, Err}
use Rattle.answers.specs.Answer.{Answer, Done, Refuses, BadField}
use Rattle.answers.specs.declared.Refusal.{Refusal}
use Rattle.base.specs.Choose.{when}
use Rattle.base.specs.Written.{written}
use Rattle.steps.specs.declared.replies.Refused.{Refused}
use Rattle.steps.specs.declared.replies.Done.{Done as DoneReply}

-- An answer, a value, 0 on a refusal, and the slots that a search visited or the entries that were moved.
pub record Reply : Type 0 where
  pub answer : Answer
  pub value : ℕ
  pub count : ℕ

-- An answer with the memory that the call leaves.
pub record Left (A : Type 0) : Type 0 where
  pub reply : A
  pub memory : List ℕ

abbrev pub replied : Answer → ℕ → ℕ → Reply
replied answer value count = record { answer = answer; value = value; count = count }

abbrev pub done : ℕ → Reply
done value = replied Done value 0

-- A refusal's value is 0.
abbrev pub refusal : Answer → Reply
refusal answer = replied answer 0 0

-- What the code's outcome tells.
abbrev pub told : Result DoneReply Refused → Reply
told (Ok r) = replied Done r.value r.count
told (Err r) = replied (Refuses r.refusal) 0 r.count

-- A refusal alone has the count 0.
abbrev pub Unvisited : Refusal → Refused → Type 0
Unvisited refusal refused = refused ≡ record { refusal = refusal; count = 0 }

-- A refusal with the memory that it leaves: what the call began with, but for the exceptions that a definition names.
abbrev pub refuse : List ℕ → Answer → Left Reply
refuse mem answer = record { reply = refusal answer; memory = mem }

-- An answer with the lent area that the call leaves.
pub record WithArea : Type 0 where
  pub reply : Reply
  pub area : List ℕ

-- A list goes to the front of the lent area, whose places past it stay unchanged; the value is its length. 21 for an area too short.
unfoldable pub into_area : List ℕ → List ℕ → WithArea
into_area xs area =
    when (nat_lt (length area) (length xs)) (record { reply = refusal BadField; area = area })
    (record { reply = done (length xs); area = written xs area })
