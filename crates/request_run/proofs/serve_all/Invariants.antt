-- `request_run::serve_all` meets its contract: what is left to run, behind what is written, is the whole run.
use Rattle.request_run.specs.RunLaws.{Running}
use Rattle.request_run.proofs.serve_all.Given as goal

abbrev pub invariant-loop-left : goal.invariant-loop-left
invariant-loop-left l = Running l.records l.initial.mem l.initial.lines l.mem l.lines l.left l.number l.at l.end

abbrev pub decreases-loop-left : goal.decreases-loop-left
decreases-loop-left l = l.left
