use Rattle.std.proofs.Common.{rules, le-leb}
use Rattle.std.proofs.lemmas.Bool.{lt-leb}
use Rattle.base.specs.AllLaws.{all_loop}
use Rattle.world.proofs.open.quotas_fit.Goals as goal

ruleset laws = (rules, le-leb, lt-leb, all_loop)

pub loop-quota-init : goal.loop-quota-init
loop-quota-init c = search laws

pub loop-quota-preserved : goal.loop-quota-preserved
loop-quota-preserved c = search laws

pub returns-then-most-quota : goal.returns-then-most-quota
returns-then-most-quota c = search laws
