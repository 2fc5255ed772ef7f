-- Why a capability was revoked, as a number and by name. Document 01: reasons print as explicit, parent_revoked, process_exit,
-- policy_enforced. A name is the list of its ASCII bytes.
use Rattle.std.specs.Prelude.{List, [], ◌∷◌, ◌≡◌, refl, ℕ, ◌≤◌, eqb, Result, Ok, Err}
use Rattle.std.proofs.Common.{arith}
use Rattle.answers.specs.declared.Refusal.{Refusal}
use Rattle.answers.specs.declared.Refusal.TheVariants.{BadField}
use Rattle.base.specs.Choose.{pick}
use Rattle.revocation.specs.declared.RevocationReason.{RevocationReason}
use Rattle.revocation.specs.declared.RevocationReason.TheVariants.{Explicit, ParentRevoked, ProcessExit, PolicyEnforced}

abbrev pub number_of : RevocationReason → ℕ
number_of Explicit = 0
number_of ParentRevoked = 1
number_of ProcessExit = 2
number_of PolicyEnforced = 3

-- What the conversion to a number answers.
abbrev pub HasNumber : RevocationReason → ℕ → Type 0
HasNumber reason number = number ≡ number_of reason

-- The reason of a number up to 3.
abbrev pub reason_of : ℕ → RevocationReason
reason_of number =
    pick (eqb number 0) Explicit (pick (eqb number 1) ParentRevoked (pick (eqb number 2) ProcessExit PolicyEnforced))

-- The reason that has a number; any other number is refused.
abbrev pub named : ℕ → Result RevocationReason Refusal
named number =
    pick (eqb number 0) (Ok Explicit)
    (pick (eqb number 1) (Ok ParentRevoked)
    (pick (eqb number 2) (Ok ProcessExit)
    (pick (eqb number 3) (Ok PolicyEnforced)
    (Err BadField))))

-- What the conversion from a number answers.
abbrev pub Names : ℕ → Result RevocationReason Refusal → Type 0
Names number answer = answer ≡ named number

abbrev pub name_of : RevocationReason → List ℕ
name_of Explicit = 101 ∷ 120 ∷ 112 ∷ 108 ∷ 105 ∷ 99 ∷ 105 ∷ 116 ∷ []
name_of ParentRevoked = 112 ∷ 97 ∷ 114 ∷ 101 ∷ 110 ∷ 116 ∷ 95 ∷ 114 ∷ 101 ∷ 118 ∷ 111 ∷ 107 ∷ 101 ∷ 100 ∷ []
name_of ProcessExit = 112 ∷ 114 ∷ 111 ∷ 99 ∷ 101 ∷ 115 ∷ 115 ∷ 95 ∷ 101 ∷ 120 ∷ 105 ∷ 116 ∷ []
name_of PolicyEnforced = 112 ∷ 111 ∷ 108 ∷ 105 ∷ 99 ∷ 121 ∷ 95 ∷ 101 ∷ 110 ∷ 102 ∷ 111 ∷ 114 ∷ 99 ∷ 101 ∷ 100 ∷ []

-- Every reason is a listed value of a notice's reason.
pub number_listed : (reason : RevocationReason) → number_of reason ≤ 3
number_listed Explicit = omega arith
number_listed ParentRevoked = omega arith
number_listed ProcessExit = omega arith
number_listed PolicyEnforced = omega arith

-- Each is the reason of its number.
pub reason_of_number : (reason : RevocationReason) → reason_of (number_of reason) ≡ reason
reason_of_number Explicit = refl
reason_of_number ParentRevoked = refl
reason_of_number ProcessExit = refl
reason_of_number PolicyEnforced = refl
