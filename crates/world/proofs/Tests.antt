-- Several tests at once, as the code takes them one after the other: the first that fails decides.
use Rattle.std.proofs.Common.{Bool, true, false, ◌≡◌, ℕ, ◌≤◌, ◌<◌, rules, eq-eqb, ne_eqb, le-leb, eqb, leb}
use Rattle.std.proofs.lemmas.Bool.{lt-leb}
use Rattle.base.specs.Choose.{both}

-- A test that a call answers, as r.
pub fails : (r a b : Bool) → r ≡ a → r ≡ false → false ≡ both a b
fails r a b e f = rw (← e, f)

pub passes : (r a b x : Bool) → r ≡ a → r ≡ true → x ≡ b → x ≡ both a b
passes r a b x e t h = rw (← e, t) h

-- A test of two numbers.
pub differs : (m n : ℕ) (b : Bool) → (m ≡ n → ⊥) → false ≡ both (eqb m n) b
differs m n b f = rw (ne_eqb m n f)

pub agrees : (m n : ℕ) (b x : Bool) → m ≡ n → x ≡ b → x ≡ both (eqb m n) b
agrees m n b x t h = rw (eq-eqb m n t) h

pub over : (m n : ℕ) (b : Bool) → n < m → false ≡ both (leb m n) b
over m n b l = rw (lt-leb m n l)

pub within : (m n : ℕ) (b x : Bool) → m ≤ n → x ≡ b → x ≡ both (leb m n) b
within m n b x l h = rw (le-leb m n l) h

pub ruleset tests = (rules, fails, passes, differs, agrees, over, within)
