use Rattle.std.proofs.Common.{rules, eq-eqb, ne_eqb}
use Rattle.base.specs.FirstLaws.{first_up}
use Rattle.registry.specs.Holders.{place_of}
use Rattle.registry.proofs.holders.place_of.Goals as goal

ruleset laws = (rules, first_up, eq-eqb, ne_eqb)

pub loop-k-init : goal.loop-k-init
unfolding place_of
loop-k-init c = search laws

pub returns-then-rg-k : goal.returns-then-rg-k
returns-then-rg-k c = search laws

pub loop-k-preserved : goal.loop-k-preserved
loop-k-preserved c = search laws

pub returns : goal.returns
returns c = search laws
