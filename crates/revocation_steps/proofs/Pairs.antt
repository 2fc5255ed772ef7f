-- A token's pair, id and generation, is the low 56 bits of its word.
use Rattle.std.proofs.Common.{◌≡◌, ℕ, ◌%◌, ◌^◌, ◌<◌, arith}
use Rattle.revocation.specs.Log.{pair_of}
use Rattle.token.specs.Token.{id_of, generation_of}

pub token_pair : (token : ℕ) → token % 2 ^ 56 ≡ pair_of (id_of token) (generation_of token)
token_pair token = omega arith

pub pair_coded : (token : ℕ) → pair_of (id_of token) (generation_of token) < 2 ^ 56
pair_coded token = omega arith
