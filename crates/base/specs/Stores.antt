-- What stands at a place of a list after several stores. `simp stores` finds it where it is known that the places differ and that the
-- list has them.
use Rattle.std.proofs.Common.{get_or-set_same, get_or-set_other, lt-length-set}

pub ruleset stores = (get_or-set_other, get_or-set_same, lt-length-set)
