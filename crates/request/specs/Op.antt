-- The operations by number: 1 create, 2 delegate, 3 lookup, 4 check, 5 remove, 6 delete, 7 held revoke, 8 clear, 9 copy, 10 `revoke_all`,
-- 11 insert, 12 space-made create, 13 space revoke, 14 drain, 15 `revoke_capability`.
use Rattle.std.specs.Prelude.{◌≡◌, refl, ℕ, eqb, ⊤, Result, Ok, Err}
use Rattle.answers.specs.declared.Refusal.{Refusal}
use Rattle.answers.specs.declared.Refusal.TheVariants.{BadField}
use Rattle.base.specs.Choose.{pick}
use Rattle.request.specs.declared.op.Op.{Op}
use Rattle.request.specs.declared.op.Op.TheVariants.{Create, Delegate, Lookup, Check, Remove, Delete, RevokeHeld, Clear, Copy, RevokeAll, Insert, CreateInSpace, RevokeInSpace, Drain, RevokeCapability}

abbrev pub number_of : Op → ℕ
number_of Create = 1
number_of Delegate = 2
number_of Lookup = 3
number_of Check = 4
number_of Remove = 5
number_of Delete = 6
number_of RevokeHeld = 7
number_of Clear = 8
number_of Copy = 9
number_of RevokeAll = 10
number_of Insert = 11
number_of CreateInSpace = 12
number_of RevokeInSpace = 13
number_of Drain = 14
number_of RevokeCapability = 15

-- The operation that has a number; any other number is refused.
unfoldable pub named : ℕ → Result Op Refusal
named number =
    pick (eqb number 1) (Ok Create)
    (pick (eqb number 2) (Ok Delegate)
    (pick (eqb number 3) (Ok Lookup)
    (pick (eqb number 4) (Ok Check)
    (pick (eqb number 5) (Ok Remove)
    (pick (eqb number 6) (Ok Delete)
    (pick (eqb number 7) (Ok RevokeHeld)
    (pick (eqb number 8) (Ok Clear)
    (pick (eqb number 9) (Ok Copy)
    (pick (eqb number 10) (Ok RevokeAll)
    (pick (eqb number 11) (Ok Insert)
    (pick (eqb number 12) (Ok CreateInSpace)
    (pick (eqb number 13) (Ok RevokeInSpace)
    (pick (eqb number 14) (Ok Drain)
    (pick (eqb number 15) (Ok RevokeCapability)
    (Err BadField)))))))))))))))

-- What the conversion from a number answers.
abbrev pub Names : ℕ → Result Op Refusal → Type 0
Names number answer = answer ≡ named number

-- Whether a record is good, without its operation.
abbrev pub forgotten : Result Op Refusal → Result ⊤ Refusal
forgotten (Ok op) = Ok tt
forgotten (Err refusal) = Err refusal

-- Each operation is named by its number.
pub named_back : (op : Op) → named (number_of op) ≡ Ok op
unfolding named
named_back Create = refl
named_back Delegate = refl
named_back Lookup = refl
named_back Check = refl
named_back Remove = refl
named_back Delete = refl
named_back RevokeHeld = refl
named_back Clear = refl
named_back Copy = refl
named_back RevokeAll = refl
named_back Insert = refl
named_back CreateInSpace = refl
named_back RevokeInSpace = refl
named_back Drain = refl
named_back RevokeCapability = refl
