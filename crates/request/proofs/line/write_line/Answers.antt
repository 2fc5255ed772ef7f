-- `request::line::write_line` meets its contract: its four fields are written one behind the other.
use Rattle.std.proofs.Common.{◌≡◌, ◌∙◌, List, [], ◌∷◌, ◌++◌, append_assoc, ℕ, ◌+◌, ◌<◌, ◌≤◌, arith, rules, length, length-append}
use Rattle.request.specs.Laid.{Laid, laid_laid}
use Rattle.request.specs.Lines.{width, decimal, hex, line_of}
use Rattle.request.specs.LinesLaws.{length_decimal, width_4, width_2, length_line}
use Rattle.request.proofs.line.write_line.Goals as goal

-- A number and a blank.
abbrev field : ℕ → List ℕ
field n = decimal n ++ (32 ∷ [])

module _ (n at end : ℕ) (before after : List ℕ) (laid : Laid at (field n) before after end) where
  behind : end ≡ at + (width n + 1)
  behind = laid.place ∙ simp (length-append, length_decimal)

  behind_4 : end ≤ at + 5
  behind_4 = omega (arith, behind, width_4 n)

  behind_2 : n < 100 → end ≤ at + 3
  behind_2 small = omega (arith, behind, width_2 n small)

written :
    (number op answer value at : ℕ) (l₀ l₁ l₂ l₃ l₄ : List ℕ) (e₁ e₂ e₃ e₄ : ℕ)
    → at ≤ length l₀
    → op < 100
    → answer < 100
    → Laid at (field number) l₀ l₁ e₁
    → Laid e₁ (field op) l₁ l₂ e₂
    → Laid e₂ (field answer) l₂ l₃ e₃
    → Laid e₃ (hex value ++ (10 ∷ [])) l₃ l₄ e₄
    → Laid at (line_of number op answer value) l₀ l₄ e₄ × (e₄ ≤ at + 28)
unfolding line_of
written number op answer value at l₀ l₁ l₂ l₃ l₄ e₁ e₂ e₃ e₄ fits a b first second third fourth =
    let two : Laid at (field number ++ field op) l₀ l₂ e₂ = laid_laid _ _ _ _ _ first _ _ _ second fits in
    let three : Laid at ((field number ++ field op) ++ field answer) l₀ l₃ e₃ = laid_laid _ _ _ _ _ two _ _ _ third fits in
    let line : Laid at (line_of number op answer value) l₀ l₄ e₄ = simp append_assoc at (laid_laid _ _ _ _ _ three _ _ _ fourth fits) in
    (line, omega (arith, line.place, length_line number op answer value a b))

pub put_decimal-third-requires : goal.put_decimal-third-requires
put_decimal-third-requires c = (search rules, omega (arith, behind_4 _ _ _ _ _ c.put_decimal-second.ensures))

pub put_decimal-fourth-requires : goal.put_decimal-fourth-requires
put_decimal-fourth-requires c = (
  search rules,
  omega (
    arith,
    behind_4 _ _ _ _ _ c.put_decimal-second.ensures,
    behind_2 _ _ _ _ _ c.put_decimal-third.ensures (omega arith),
  ),
)

pub put_hex-requires : goal.put_hex-requires
put_hex-requires c =
    omega (
      arith,
      behind_4 _ _ _ _ _ c.put_decimal-second.ensures,
      behind_2 _ _ _ _ _ c.put_decimal-third.ensures (omega arith),
      behind_2 _ _ _ _ _ c.put_decimal-fourth.ensures (omega arith),
    )

pub returns : goal.returns
returns c =
    written _ _ _ _ _ _ _ _ _ _ _ _ _ _ (omega arith) (omega arith) (omega arith)
    c.put_decimal-second.ensures
    c.put_decimal-third.ensures
    c.put_decimal-fourth.ensures
    c.put_hex.ensures
