-- A call's answer that is given exactly in its case, and a refusal's value.
use Rattle.std.proofs.Common.{◌≡◌, ◌≢◌, ◌↔◌, ap}
use Rattle.answers.specs.Number.{number_of}
use Rattle.answers.specs.Answer.{Answer, Done}
use Rattle.steps.specs.Replies.{Left, Reply}

abbrev pub answer_of : Left Reply → Answer
answer_of out = out.reply.answer

-- A refusal's value is 0.
abbrev pub NoValue : Reply → Type 0
NoValue r = r.answer ≢ Done → r.value ≡ 0

-- The answer is a exactly in the case A.
abbrev pub Exactly : Answer → Type 0 → Left Reply → Type 0
Exactly a A out = (answer_of out ≡ a) ↔ A

-- The answer is given and its case holds; or it is another, and its case does not.
pub given : {a b : Answer} {A : Type 0} → a ≡ b → A → (a ≡ b) ↔ A
given e holds = (λ e. holds, λ h. e)

pub not_given : (a b : Answer) {A : Type 0} → number_of a ≢ number_of b → ¬ A → (a ≡ b) ↔ A
not_given a b other none = (λ e. absurd (other (ap number_of e)), λ holds. absurd (none holds))
