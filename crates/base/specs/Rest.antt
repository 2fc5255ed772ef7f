-- What is left of a list from place i on, in the words of a loop that counts i up: the word there, then what is left from i + 1 on.
use Rattle.std.specs.Prelude.{◌≡◌, List, ◌∷◌, ℕ, ◌+◌, ◌<◌, length, get_or, drop}
use Rattle.std.proofs.Common.{add-one, drop-cons}

pub drop_next : (xs : List ℕ) (i : ℕ) → i < length xs → drop i xs ≡ get_or xs i 0 ∷ drop (i + 1) xs
drop_next xs i l = rw add-one (drop-cons xs i 0 l)
