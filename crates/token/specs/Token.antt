-- Document 01, "Tokens and rights": a token's word, from the low end, is id 48 bits, generation 8, type 4, flags 4; and
-- "Answer numbers": a field that does not fit gives 21. TokenLaws.antt proves that word and fields determine each other.
use Rattle.std.specs.Prelude.{ℕ, ◌+◌, ◌-◌, ◌*◌, ◌/◌, ◌%◌, ◌^◌, ltb, Result, Ok, Err}
use Rattle.base.specs.Choose.{pick}
use Rattle.answers.specs.declared.Refusal.{Refusal}
use Rattle.answers.specs.declared.Refusal.TheVariants.{BadField}
use Rattle.token.specs.declared.capability.CapabilityToken.{CapabilityToken}

abbrev pub packed : ℕ → ℕ → ℕ → ℕ → ℕ
packed id generation cap_type flags = id + generation * 2 ^ 48 + cap_type * 2 ^ 56 + flags * 2 ^ 60

abbrev pub id_of : ℕ → ℕ
id_of word = word % 2 ^ 48

abbrev pub generation_of : ℕ → ℕ
generation_of word = word / 2 ^ 48 % 2 ^ 8

abbrev pub type_of : ℕ → ℕ
type_of word = word / 2 ^ 56 % 2 ^ 4

abbrev pub flags_of : ℕ → ℕ
flags_of word = word / 2 ^ 60 % 2 ^ 4

-- an id over 2^48-1, a type over 15 or flags over 15 is refused; otherwise the token is the packed word
abbrev pub made : ℕ → ℕ → ℕ → ℕ → Result CapabilityToken Refusal
made id generation cap_type flags =
    pick (ltb (2 ^ 48 - 1) id) (Err BadField)
    (pick (ltb 15 cap_type) (Err BadField)
    (pick (ltb 15 flags) (Err BadField)
    (Ok (record { 0 = packed id generation cap_type flags }))))
