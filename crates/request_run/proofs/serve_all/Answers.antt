use Rattle.std.proofs.Common.{rules}
use Rattle.request_run.specs.RunLaws.{run_starts, run_goes, ends_over, ends_through, ends_none, ends_short}
use Rattle.request_run.proofs.serve_all.Goals as goal

ruleset laws = (rules, run_starts, run_goes, ends_over, ends_through, ends_none, ends_short)

pub loop-left-init : goal.loop-left-init
loop-left-init c = search laws

pub returns-then-rest-eq0 : goal.returns-then-rest-eq0
returns-then-rest-eq0 c = search laws

pub returns-then-rest-lt24 : goal.returns-then-rest-lt24
returns-then-rest-lt24 c = search laws

pub loop-left-preserved : goal.loop-left-preserved
loop-left-preserved c = search laws

pub returns-then-at-records : goal.returns-then-at-records
returns-then-at-records c = search laws

pub returns : goal.returns
returns c = search laws
