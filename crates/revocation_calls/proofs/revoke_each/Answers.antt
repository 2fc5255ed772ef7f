-- Each token has its turn.
use Rattle.std.proofs.Common.{rules}
use Rattle.revocation_calls.proofs.laws.Each.{starts, still_sound, gave_few, ends, turn}
use Rattle.revocation_calls.proofs.revoke_each.Goals as goal

ruleset laws = (rules, starts, still_sound, gave_few, ends, turn)

pub loop-token-preserved : goal.loop-token-preserved
loop-token-preserved c = search laws

pub returns : goal.returns
returns c = search laws
