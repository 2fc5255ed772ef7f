-- Lists of places: that all of one are below a bound, and how this goes by its first place.
use Rattle.std.specs.Prelude.{ℕ, zero, suc, ◌<◌, ◌≤◌, List, ◌∷◌, length, slice_index}
use Rattle.std.proofs.Common.{arith}

-- Each place of the list is below n.
pub record AllBelow (n : ℕ) (ks : List ℕ) : Type 0 where
  pub below : (j : ℕ) → j < length ks → slice_index ks j < n

pub all_below_at : (n : ℕ) (ks : List ℕ) (j : ℕ) → AllBelow n ks → j < length ks → slice_index ks j < n
all_below_at n ks j inside l = inside.below j l

pub all_below_more : (n m : ℕ) (ks : List ℕ) → n ≤ m → AllBelow n ks → AllBelow m ks
all_below_more n m ks l inside = record { below = λ j u. omega (arith, inside.below j u) }

-- ---- by the first place

pub all_below_first : (n i : ℕ) (ks : List ℕ) → AllBelow n (i ∷ ks) → i < n
all_below_first n i ks inside = inside.below zero (omega arith)

pub all_below_later : (n i : ℕ) (ks : List ℕ) → AllBelow n (i ∷ ks) → AllBelow n ks
all_below_later n i ks inside = record { below = λ j l. inside.below (suc j) (omega arith) }
