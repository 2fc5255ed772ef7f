-- Document 01's rows P1 to P9 hold: one list, one proof, by computation from the definitions.
use Rattle.std.proofs.Common.{true, ◌≡◌, refl}
use Rattle.rows.proofs.Unfolded.{base, walks, inserts, space, registry, revocation, world, look, steps, cascades, calls, records, run}
use Rattle.rows.specs.Claims.{every}
use Rattle.rows.specs.IdRow.{p8}
use Rattle.rows.specs.Rows.{rows}
use Rattle.rows.specs.StreamRow.{p9}
use Rattle.rows.specs.TableRows.{p1, p2, p3, p4, p5, p6, p7}

pub rows_hold : every rows ≡ true
unfolding every rows p1 p2 p3 p4 p5 p6 p7 p8 p9 base walks inserts space registry revocation world look steps cascades calls records run
rows_hold = refl
