-- The first s spaces are open.
use Rattle.std.proofs.Common.{◌≡◌}
use Rattle.world.specs.Open.{open_spaces}
use Rattle.world.proofs.open.open_spaces.Given as goal

abbrev pub invariant-loop-s : goal.invariant-loop-s
invariant-loop-s l = l.mem ≡ open_spaces l.d l.quotas l.s l.initial.mem
