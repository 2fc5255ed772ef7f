-- The four permissions that a token's flags hold (document 01: "the flags hold the first four"), each by its bit.
use Rattle.std.specs.Prelude.{ℕ, ◌^◌, Bool, true, false, List, [], ◌∷◌, eqb, ◌≡◌, Result, Ok, Err}
use Rattle.std.specs.Int.Bits.{bit_or}
use Rattle.base.specs.Choose.{pick, both}
use Rattle.answers.specs.declared.Refusal.{Refusal}
use Rattle.answers.specs.declared.Refusal.TheVariants.{BadField}
use Rattle.token.specs.declared.flags.CapabilityFlags.{CapabilityFlags}
use Rattle.token.specs.declared.flags.CapabilityFlags.TheVariants.{Read, Write, Execute, Grant}
use Rattle.token.specs.Bits.{bit}

-- a permission's bit; its number is 2 to that power
abbrev pub bit_of : CapabilityFlags → ℕ
bit_of Read = 0
bit_of Write = 1
bit_of Execute = 2
bit_of Grant = 3

-- what the conversion to a number answers
abbrev pub HasNumber : CapabilityFlags → ℕ → Type 0
HasNumber perm number = number ≡ 2 ^ bit_of perm

abbrev pub has_flag : ℕ → CapabilityFlags → Bool
has_flag flags perm = eqb (bit flags (bit_of perm)) 1

-- the permission that a number names; any other number is refused
abbrev pub named : ℕ → Result CapabilityFlags Refusal
named n =
    pick (eqb n (2 ^ bit_of Read)) (Ok Read)
    (pick (eqb n (2 ^ bit_of Write)) (Ok Write)
    (pick (eqb n (2 ^ bit_of Execute)) (Ok Execute)
    (pick (eqb n (2 ^ bit_of Grant)) (Ok Grant)
    (Err BadField))))

-- what the conversion from a number answers
abbrev pub Names : ℕ → Result CapabilityFlags Refusal → Type 0
Names number answer = answer ≡ named number

abbrev pub is_flag : Result CapabilityFlags Refusal → Bool
is_flag (Ok perm) = true
is_flag (Err refusal) = false

abbrev pub all_flags : List ℕ → Bool
all_flags [] = true
all_flags (n ∷ rest) = both (is_flag (named n)) (all_flags rest)

abbrev pub union_of : List ℕ → ℕ
union_of [] = 0
union_of (n ∷ rest) = bit_or n (union_of rest)

-- a number that is no permission's is refused; otherwise the flags are the union of all
abbrev pub combined : List ℕ → Result ℕ Refusal
combined numbers = pick (all_flags numbers) (Ok (union_of numbers)) (Err BadField)
