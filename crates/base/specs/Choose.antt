-- Choosing by a test. `pick` computes wherever the test does; `when` is the same choice shut, one link of a chain of refusals,
-- so that a law meets it by its head.
use Rattle.std.specs.Prelude.{◌≡◌, refl, Bool, true, false}
use Rattle.std.proofs.Common.{sym, ◌∙◌}

abbrev pub pick : {A : Type 0} → Bool → A → A → A
pick true a b = a
pick false a b = b

-- Both tests hold.
abbrev pub both : Bool → Bool → Bool
both true b = b
both false b = false

-- The first answer where the test holds, else what follows.
unfoldable pub when : {A : Type 0} → Bool → A → A → A
when b a rest = pick b a rest

pub when_yes : {A : Type 0} (b : Bool) (a rest : A) → b ≡ true → when b a rest ≡ a
unfolding when
when_yes b a rest e = rw e

pub when_no : {A : Type 0} (b : Bool) (a rest : A) → b ≡ false → when b a rest ≡ rest
unfolding when
when_no b a rest e = rw e

pub both_left : (a b : Bool) → both a b ≡ true → a ≡ true
both_left true b e = refl
both_left false b e = e

pub both_right : (a b : Bool) → both a b ≡ true → b ≡ true
both_right true b e = e
both_right false b e = search

pub both_make : (a b : Bool) → a ≡ true → b ≡ true → both a b ≡ true
both_make a b p q = rw p q

-- The turns of `if a() { return b(); } false`, where a() answers ra and b() answers rb.
pub both_goes : (a b ra rb : Bool) → ra ≡ a → ra ≡ true → rb ≡ b → rb ≡ both a b
both_goes a b ra rb e yes' h = rw (sym e ∙ yes') h

pub both_stops : (a b ra : Bool) → ra ≡ a → ra ≡ false → false ≡ both a b
both_stops a b ra e no' = rw (sym e ∙ no')

pub both_swap : (a b c d : Bool) → both (both a b) (both c d) ≡ both (both a c) (both b d)
both_swap true true c d = refl
both_swap true false true d = refl
both_swap true false false d = refl
both_swap false b c d = refl

pub both_true : (a : Bool) → both a true ≡ a
both_true true = refl
both_true false = refl

pub both_false : (a : Bool) → both a false ≡ false
both_false true = refl
both_false false = refl

-- A test that cannot hold is false.
pub refuted : (b : Bool) → ¬ (b ≡ true) → b ≡ false
refuted true f = absurd (f refl)
refuted false f = refl
