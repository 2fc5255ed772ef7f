-- What holds of f of two numbers holds of f of two equal ones, where the result comes by way of a word.
use Rattle.std.specs.Prelude.{◌≡◌, ℕ}

pub of_both : {A : Type 0} (f : ℕ → ℕ → A) (r word : A) (a b x y : ℕ) → r ≡ word → word ≡ f a b → a ≡ x → b ≡ y → r ≡ f x y
of_both f r word a b x y is so fst snd = cc
