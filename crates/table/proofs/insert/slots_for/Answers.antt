-- `table::insert::slots_for` meets its contract: the larger of 8 and the power.
use Rattle.std.proofs.Common.{arith}
use Rattle.table.proofs.laws.Room.{slots_few}
use Rattle.table.proofs.insert.slots_for.Goals as goal

pub returns : goal.returns
returns c = omega (arith, slots_few c.args.entries (omega arith))
