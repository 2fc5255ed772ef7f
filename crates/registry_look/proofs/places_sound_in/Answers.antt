-- `registry_look::places_sound_in` meets its contract: fresh counters have counted nothing.
use Rattle.registry.specs.Counts.{counted_none}
use Rattle.registry_look.proofs.places_sound_in.Goals as goal

pub each_place_sound-requires-clause-counted : goal.each_place_sound-requires-clause-counted
each_place_sound-requires-clause-counted c c' = counted_none _ _
