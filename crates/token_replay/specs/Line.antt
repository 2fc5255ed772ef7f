-- A line of the list, as `line.rt` reads it: numbers in lower-case hex, at fixed places.
use Rattle.std.specs.Prelude.{List, ℕ, zero, suc, ◌+◌, ◌*◌, ◌/◌, ◌%◌, get_or}
use Rattle.token_replay.specs.declared.line.Call.{Call}

-- the codes of `0` to `9` lie below 64 and end in 0 to 9; those of `a` to `f` lie from 64 on and end in 1 to 6
abbrev pub digit_of : ℕ → ℕ
digit_of code = (code % 16 + code / 64 * 9) % 16

-- the number that n digits from `at` on spell
unfoldable pub spelt : List ℕ → ℕ → ℕ → ℕ
spelt line at zero = 0
spelt line at (suc n) = spelt line at n * 16 + digit_of (get_or line (at + n) 0)

abbrev pub call_of : List ℕ → Call
call_of line =
    record {
      number = spelt line 0 2;
      a = spelt line 3 16;
      b = spelt line 20 16;
      c = spelt line 37 16;
      d = spelt line 54 16;
    }
