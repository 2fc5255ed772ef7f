-- Document 01, "Revocation": each joins the log as (id, earlier generation) if absent. n pairs are logged, in the order of arrival.
use Rattle.std.specs.Prelude.{Bool, not, List, ◌++◌, ℕ, ◌+◌, ◌*◌, ◌^◌, eqb, ltb, length, take, drop}
use Rattle.base.specs.Below.{first}
use Rattle.base.specs.Sifted.{sifted}
use Rattle.revocation.specs.Words.{pair_at}

-- A pair as a word.
abbrev pub pair_of : ℕ → ℕ → ℕ
pair_of id generation = id + generation * 2 ^ 48

-- The log has the pair.
unfoldable pub log_has : ℕ → List ℕ → ℕ → Bool
log_has n lg pair = ltb (first (λ k. eqb (pair_at lg k) pair) n) n

-- Of these pairs, which differ, those that are absent.
unfoldable pub absent_of : ℕ → List ℕ → List ℕ → List ℕ
absent_of n lg pairs = sifted (λ pair. not (log_has n lg pair)) pairs

-- These pairs behind the n that are logged.
unfoldable pub appended : ℕ → List ℕ → List ℕ → List ℕ
appended n pairs lg = take n lg ++ (pairs ++ drop (n + length pairs) lg)
