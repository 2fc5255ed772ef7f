-- A number as the set of its one bits: what rights and flags are.
use Rattle.std.specs.Prelude.{ℕ, ◌/◌, ◌%◌, ◌^◌}

-- 1 where i is in the set, else 0
abbrev pub bit : ℕ → ℕ → ℕ
bit n i = n / 2 ^ i % 2
