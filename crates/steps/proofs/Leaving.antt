-- A call's answer and the memory, or the lent area, that it leaves, as one: equal by their two parts.
use Rattle.std.proofs.Common.{◌≡◌, ℕ, List, sym, ◌∙◌, ap₂}
use Rattle.steps.specs.Replies.{Left, WithArea, Reply}

pub left_both :
    {A : Type 0} (r r' : A) (m m' : List ℕ) → r ≡ r' → m ≡ m'
    → ◌≡◌ {A = Left A} (record { reply = r; memory = m }) (record { reply = r'; memory = m' })
left_both r r' m m' same kept = ap₂ (λ r m. record { reply = r; memory = m }) same kept

pub left_is : {A : Type 0} {r r' : A} {m m' : List ℕ} {x : Left A} → r ≡ r' → m ≡ m' → x ≡ record { reply = r'; memory = m' }
    → record { reply = r; memory = m } ≡ x
left_is same kept is = left_both _ _ _ _ same kept ∙ sym is

pub area_both :
    (r r' : Reply) (a a' : List ℕ) → r ≡ r' → a ≡ a'
    → ◌≡◌ {A = WithArea} (record { reply = r; area = a }) (record { reply = r'; area = a' })
area_both r r' a a' same kept = ap₂ (λ r a. record { reply = r; area = a }) same kept

pub area_is : {r r' : Reply} {a a' : List ℕ} {x : WithArea} → r ≡ r' → a ≡ a' → x ≡ record { reply = r'; area = a' }
    → record { reply = r; area = a } ≡ x
area_is same kept is = area_both _ _ _ _ same kept ∙ sym is
