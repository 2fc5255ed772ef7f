-- It lends enough, so the run is not refused.
use Rattle.std.proofs.Common.{rules}
use Rattle.request_run.proofs.laws.Room.{alone_writes, alone_counts}
use Rattle.request_run.proofs.run_alone.Goals as goal

pub returns-in-Ok-clause-lines_after : goal.returns-in-Ok-clause-lines_after
returns-in-Ok-clause-lines_after c =
    let ran = rw c.in-Ok.is at c.run.ensures.mem_after in
    (alone_writes _ _ _ _ _ (search rules) ran, alone_counts _ _ _ _ _ (search rules) ran)

pub returns-in-Err-clause-lines_after : goal.returns-in-Err-clause-lines_after
returns-in-Err-clause-lines_after c =
    let ran = rw c.in-Err.is at c.run.ensures.mem_after in
    (alone_writes _ _ _ _ _ (search rules) ran, alone_counts _ _ _ _ _ (search rules) ran)
