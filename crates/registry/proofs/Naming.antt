-- Links as the code compares them: with p + 1, which names place p.
use Rattle.std.proofs.Common.{◌≡◌, ℕ, suc, ◌+◌, true, false, eqb, ◌≢◌, arith, eq-eqb, ne_eqb}

module _ (link p : ℕ) where
  pub names_it : link ≡ p + 1 → eqb link (suc p) ≡ true
  names_it e = eq-eqb link (suc p) (omega arith)

  pub names_other : link ≢ p + 1 → eqb link (suc p) ≡ false
  names_other d = ne_eqb link (suc p) (omega arith)
