-- Document 01's number and value for each case of an enum that answers: done and what was made, or the refusal's number and 0.
use Rattle.std.specs.Prelude.{◌≡◌, ℕ, false, Result, Ok, Err}
use Rattle.answers.specs.Number.{number_of_refusal}
use Rattle.answers.specs.declared.Refusal.{Refusal}
use Rattle.token.specs.Flags.{has_flag}
use Rattle.token.specs.declared.capability.CapabilityToken.{CapabilityToken}
use Rattle.token.specs.declared.flags.CapabilityFlags.{CapabilityFlags}
use Rattle.host_tokens.specs.declared.flags.FlagsAnswer.{FlagsAnswer}
use Rattle.host_tokens.specs.declared.flags.HasAnswer.{HasAnswer}
use Rattle.host_tokens.specs.declared.tokens.TokenAnswer.{TokenAnswer}

unfoldable pub token_answer : Result CapabilityToken Refusal → TokenAnswer
token_answer (Ok token) = record { answer = 0; token = token.0 }
token_answer (Err why) = record { answer = number_of_refusal why; token = 0 }

-- what the conversion to the host's answer gives
abbrev pub Answers : Result CapabilityToken Refusal → TokenAnswer → Type 0
Answers made answer = answer ≡ token_answer made

unfoldable pub has_answer : ℕ → Result CapabilityFlags Refusal → HasAnswer
has_answer flags (Ok perm) = record { answer = 0; has = has_flag flags perm }
has_answer flags (Err why) = record { answer = number_of_refusal why; has = false }

unfoldable pub flags_answer : Result ℕ Refusal → FlagsAnswer
flags_answer (Ok flags) = record { answer = 0; flags = flags }
flags_answer (Err why) = record { answer = number_of_refusal why; flags = 0 }
