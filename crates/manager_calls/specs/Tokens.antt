-- The token of a registered id: what it is made of, and whether one is current. d are the numbers of a sound memory.
use Rattle.std.specs.Prelude.{Bool, List, ℕ, ◌%◌, ◌^◌, eqb}
use Rattle.base.specs.Choose.{both}
use Rattle.registry.specs.Words.{revoked}
use Rattle.token.specs.Rights.{to_flags}
use Rattle.token.specs.Token.{packed, generation_of}
use Rattle.world.specs.Sound.{states}
use Rattle.world.specs.declared.Numbers.{Numbers}

-- The token of an unrevoked id, whose generation is 0: with the type, and the flags of the rights. Every id of a sound memory has at most
-- 48 bits.
abbrev pub token_of : ℕ → ℕ → ℕ → ℕ
token_of id cap_type rights = packed (id % 2 ^ 48) 0 cap_type (to_flags rights)

-- Place k is unrevoked and of the token's generation.
abbrev pub current : Numbers → List ℕ → ℕ → ℕ → Bool
current d mem token k = both (eqb (revoked (states d mem k)) 0) (eqb (generation_of token) (revoked (states d mem k)))
