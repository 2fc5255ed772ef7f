-- Claims that are decided by computation: a test is true or it is not.
use Rattle.std.specs.Prelude.{Bool, true, false, List, [], ◌∷◌, ℕ, eqb}
use Rattle.base.specs.Choose.{both}

-- Every claim of the list holds.
unfoldable pub every : List Bool → Bool
every [] = true
every (claim ∷ claims) = both claim (every claims)

-- The two lists are the same.
unfoldable pub same : List ℕ → List ℕ → Bool
same [] [] = true
same [] (b ∷ bs) = false
same (a ∷ cs) [] = false
same (a ∷ cs) (b ∷ bs) = both (eqb a b) (same cs bs)
