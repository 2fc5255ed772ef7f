-- Document 01, "Tokens and rights": rights are 32 bits; READ, WRITE, EXECUTE, GRANT, REVOKE, DELETE, MODIFY, CREATE are
-- bits 0 to 7, and the flags hold the first four. Rights are a set; RightsLaws.antt says of each definition below what it
-- means for each right.
use Rattle.std.specs.Prelude.{ℕ, ◌-◌, ◌%◌, ◌^◌, Bool, List, [], ◌∷◌, eqb}
use Rattle.std.specs.Int.Bits.{bit_and, bit_or}

abbrev pub READ : ℕ
READ = 2 ^ 0

abbrev pub WRITE : ℕ
WRITE = 2 ^ 1

abbrev pub EXECUTE : ℕ
EXECUTE = 2 ^ 2

abbrev pub GRANT : ℕ
GRANT = 2 ^ 3

abbrev pub REVOKE : ℕ
REVOKE = 2 ^ 4

abbrev pub DELETE : ℕ
DELETE = 2 ^ 5

abbrev pub MODIFY : ℕ
MODIFY = 2 ^ 6

abbrev pub CREATE : ℕ
CREATE = 2 ^ 7

abbrev pub ALL : ℕ
ALL = 2 ^ 8 - 1

-- the constants by number
abbrev pub constants : List ℕ
constants = READ ∷ WRITE ∷ EXECUTE ∷ GRANT ∷ REVOKE ∷ DELETE ∷ MODIFY ∷ CREATE ∷ ALL ∷ []

-- every right of b is one of a
abbrev pub holds : ℕ → ℕ → Bool
holds a b = eqb (bit_and a b) b

-- the rights that both have
abbrev pub common : ℕ → ℕ → ℕ
common a b = bit_and a b

-- the rights that either has
abbrev pub either : ℕ → ℕ → ℕ
either a b = bit_or a b

-- the rights that a has not, of all 32
abbrev pub others : ℕ → ℕ
others a = (2 ^ 32 - 1) - a

-- the rights of a that b has not
abbrev pub without : ℕ → ℕ → ℕ
without a b = common a (others b)

-- the first four, as a token's flags
abbrev pub to_flags : ℕ → ℕ
to_flags a = a % 2 ^ 4
