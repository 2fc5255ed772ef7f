-- The first q queues are free.
use Rattle.std.proofs.Common.{◌≡◌}
use Rattle.world.specs.Open.{open_queues}
use Rattle.world.proofs.open.open_queues.Given as goal

abbrev pub invariant-loop-q : goal.invariant-loop-q
invariant-loop-q l = l.mem ≡ open_queues l.d l.q l.initial.mem
