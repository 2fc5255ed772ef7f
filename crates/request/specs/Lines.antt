-- Document 01: each line is record number, op, answer, value as 16 lower-case hex digits. Single blanks lie between them, and a line feed
-- ends the line.
use Rattle.std.specs.Prelude.{List, [], ◌∷◌, ◌++◌, ℕ, ltb}
use Rattle.base.specs.Choose.{pick}
use Rattle.io.specs.Digits.{last_digits}

-- How many digits a number below 10,000 has.
abbrev pub width : ℕ → ℕ
width n = pick (ltb n 10) 1 (pick (ltb n 100) 2 (pick (ltb n 1000) 3 4))

unfoldable pub decimal : ℕ → List ℕ
decimal n = last_digits 10 (width n) n

unfoldable pub hex : ℕ → List ℕ
hex value = last_digits 16 16 value

unfoldable pub line_of : ℕ → ℕ → ℕ → ℕ → List ℕ
line_of number op answer value =
    decimal number ++ (32 ∷ (decimal op ++ (32 ∷ (decimal answer ++ (32 ∷ (hex value ++ (10 ∷ [])))))))
