-- What the contract of each call says is one equation whose right side speaks of the input alone: `told result ≡ the_out mem.now ..` where
-- nothing is lent to be changed, `record { reply = told result; memory = mem.new } ≡ the_out mem.old ..` where the memory is, `record {
-- reply = told result; area = area.new } ≡ the_out ..` where an area is (get_children, get_derivation_tree, peek_notifications,
-- write_reason), and the one inside the other where both are (drain_notifications, run). An opening has its answer beside the memory.
-- `told`, and each other definition that a contract tells an outcome by, tells no two outcomes alike. Two results that keep a contract on
-- one input are therefore equal, in answer, value and count, memory and area.
use Rattle.std.specs.Prelude.{⊤, Result, Ok, Err}
use Rattle.std.proofs.Common.{◌≡◌, refl, ℕ, List, sym, ap, ◌∙◌}
use Rattle.answers.specs.Answer.{Answer, Refuses, answer_of}
use Rattle.answers.specs.Answer as answers
use Rattle.answers.specs.declared.Refusal.{Refusal}
use Rattle.world.specs.Open.{OpenOut}
use Rattle.steps.specs.Replies.{Left, WithArea, Reply, told}
use Rattle.steps.specs.declared.replies.Done.{Done}
use Rattle.steps.specs.declared.replies.Refused.{Refused}

-- A reading call: A is the type of its answer.
pub one_answer : {A : Type 0} (out a b : A) → a ≡ out → b ≡ out → a ≡ b
one_answer out a b p q = p ∙ sym q

-- A call that is lent the memory to change.
pub one_result :
    {A : Type 0} (out : Left A) (a b : A) (left after : List ℕ) → record { reply = a; memory = left } ≡ out
    → record { reply = b; memory = after } ≡ out → (a ≡ b) × (left ≡ after)
one_result out a b left after p q =
    let same = one_answer out _ _ p q in
    (ap (λ (l : Left _). l.reply) same, ap (λ (l : Left _). l.memory) same)

-- A call that is lent an area.
pub one_list :
    (out : WithArea) (a b : Reply) (left after : List ℕ) → record { reply = a; area = left } ≡ out
    → record { reply = b; area = after } ≡ out
    → (a ≡ b) × (left ≡ after)
one_list out a b left after p q =
    let same = one_answer out _ _ p q in
    (ap (λ (l : WithArea). l.reply) same, ap (λ (l : WithArea). l.area) same)

-- ---- the outcomes themselves

-- No two outcomes are told alike.
abbrev pub Determines : {O A : Type 0} → (O → A) → Type 0
Determines {O} tells = (a b : O) → tells a ≡ tells b → a ≡ b

-- Since the outcome can be read back.
pub read_back : {O A : Type 0} (tells : O → A) (back : A → O) → ((o : O) → back (tells o) ≡ o) → Determines tells
read_back tells back same a b e = sym (same a) ∙ ap back e ∙ same b

pub told_determines : Determines told
told_determines = read_back told back same
  where
    outcome : Answer → ℕ → ℕ → Result Done Refused
    outcome answers.Done value count = Ok (record { value = value; count = count })
    outcome (Refuses why) value count = Err (record { refusal = why; count = count })

    back : Reply → Result Done Refused
    back r = outcome r.answer r.value r.count

    same : (o : Result Done Refused) → back (told o) ≡ o
    same (Ok r) = refl
    same (Err r) = refl

-- An opening, whose outcome has no value.
pub opening_determines : Determines (answer_of {A = ⊤})
opening_determines = read_back answer_of back same
  where
    back : Answer → Result ⊤ Refusal
    back answers.Done = Ok tt
    back (Refuses why) = Err why

    same : (o : Result ⊤ Refusal) → back (answer_of o) ≡ o
    same (Ok r) = refl
    same (Err why) = refl

-- A reading call.
pub one_outcome : {O A : Type 0} (tells : O → A) → Determines tells → (out : A) (a b : O) → tells a ≡ out → tells b ≡ out → a ≡ b
one_outcome tells determines out a b p q = determines a b (one_answer out _ _ p q)

-- A call that is lent the memory to change.
pub one_outcome_left :
    {O A : Type 0} (tells : O → A) → Determines tells → (out : Left A) (a b : O) (left after : List ℕ)
    → record { reply = tells a; memory = left } ≡ out
    → record { reply = tells b; memory = after } ≡ out
    → (a ≡ b) × (left ≡ after)
one_outcome_left tells determines out a b left after p q =
    let same = one_result out _ _ left after p q in
    (determines a b same.0, same.1)

-- A call that is lent an area.
pub one_outcome_listed :
    (out : WithArea) (a b : Result Done Refused) (left after : List ℕ) → record { reply = told a; area = left } ≡ out
    → record { reply = told b; area = after } ≡ out
    → (a ≡ b) × (left ≡ after)
one_outcome_listed out a b left after p q =
    let same = one_list out _ _ left after p q in
    (told_determines a b same.0, same.1)

-- A call that is lent both.
pub one_outcome_both :
    (out : Left WithArea) (a b : Result Done Refused) (area listed left after : List ℕ)
    → record { reply = record { reply = told a; area = area }; memory = left } ≡ out
    → record { reply = record { reply = told b; area = listed }; memory = after } ≡ out
    → (a ≡ b) × (area ≡ listed) × (left ≡ after)
one_outcome_both out a b area listed left after p q =
    let same = one_result out _ _ left after p q in
    let seen = one_outcome_listed _ a b area listed same.0 refl in
    (seen.0, seen.1, same.1)

-- An opening.
pub one_opening :
    (out : OpenOut) (a b : Result ⊤ Refusal) (left after : List ℕ) → record { answer = answer_of a; memory = left } ≡ out
    → record { answer = answer_of b; memory = after } ≡ out
    → (a ≡ b) × (left ≡ after)
one_opening out a b left after p q =
    let same = one_answer out _ _ p q in
    (opening_determines a b (ap (λ (o : OpenOut). o.answer) same), ap (λ (o : OpenOut). o.memory) same)
