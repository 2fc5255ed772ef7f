-- Document 01: a field that an op does not read must be zero (else 21), by a fixed table over the ops. 20 first where the op reads a space
-- number of S or more. An op outside 1..15 answers 21.
use Rattle.std.specs.Prelude.{Bool, true, not, List, [], ◌∷◌, ℕ, ◌/◌, ◌%◌, ◌^◌, eqb, ltb, get_or, ⊤, Result, Ok, Err}
use Rattle.answers.specs.declared.Refusal.{Refusal}
use Rattle.answers.specs.declared.Refusal.TheVariants.{BadSpace, BadField}
use Rattle.base.specs.Below.{all}
use Rattle.base.specs.Choose.{pick, both, when}
use Rattle.request.specs.declared.Request.{Request}

-- The fields by number: 0 space, 1 second space, 2 valid, 3 type, 4 rights, 5 word A, 6 word B.
abbrev pub field_at : Request → ℕ → ℕ
field_at r i = get_or (r.space ∷ r.second ∷ r.valid ∷ r.cap_type ∷ r.rights ∷ r.a ∷ r.b ∷ []) i 0

-- One mask for each op, from 0 to 15: bit i says that the op reads field i.
abbrev pub masks : List ℕ
masks =
    0b0000000  -- none
    ∷ 0b0111101  -- create: space, valid, type, rights, A object
    ∷ 0b0110011  -- delegate: space, second is target, rights, A token
    ∷ 0b0100001  -- lookup: space, A
    ∷ 0b0110001  -- check: space, rights, A
    ∷ 0b0100001  -- remove: space, A
    ∷ 0b0100000  -- delete: A
    ∷ 0b1100001  -- held revoke: space, A, B time
    ∷ 0b0000001  -- clear: space
    ∷ 0b0000011  -- copy: space is target, second is source
    ∷ 0b0000001  -- revoke_all: space
    ∷ 0b1110001  -- insert: space, rights, A token, B object
    ∷ 0b0110001  -- space-made create: space, rights, A object
    ∷ 0b0100001  -- space revoke: space, A id
    ∷ 0b0100000  -- drain: A pid
    ∷ 0b1100000  -- revoke_capability: A, B time
    ∷ []

abbrev pub reads : ℕ → ℕ → Bool
reads op i = eqb (get_or masks op 0 / 2 ^ i % 2) 1

-- Every field that the op does not read is zero, and so are the last ten bits.
unfoldable pub zero_unread : Request → Bool
zero_unread r = both (all 7 (λ i. pick (reads r.op i) true (eqb (field_at r i) 0))) (eqb r.zero 0)

-- The op reads a space number of S or more.
unfoldable pub too_far : Request → ℕ → Bool
too_far r spaces = not (all 2 (λ i. pick (reads r.op i) (ltb (field_at r i) spaces) true))

unfoldable pub verdict_of : Request → ℕ → Result ⊤ Refusal
verdict_of r spaces =
    when (eqb r.op 0) (Err BadField)
    (when (ltb 15 r.op) (Err BadField)
    (when (too_far r spaces) (Err BadSpace)
    (when (not (zero_unread r)) (Err BadField) (Ok tt))))
