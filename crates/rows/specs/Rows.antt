-- Document 01, "Table rows to prove (P)": the rows as one list of claims about the definitions. proofs/Rows.antt proves them by
-- computation.
use Rattle.std.specs.Prelude.{Bool, List, [], ◌∷◌}
use Rattle.rows.specs.IdRow.{p8}
use Rattle.rows.specs.StreamRow.{p9}
use Rattle.rows.specs.TableRows.{p1, p2, p3, p4, p5, p6, p7}

unfoldable pub rows : List Bool
rows = p1 ∷ p2 ∷ p3 ∷ p4 ∷ p5 ∷ p6 ∷ p7 ∷ p8 ∷ p9 ∷ []
