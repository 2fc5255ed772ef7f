-- The first s spaces are looked at.
use Rattle.world_look.specs.Look.{Looked}
use Rattle.world_look.proofs.spaces_sound.Given as goal

abbrev pub invariant-loop-s : goal.invariant-loop-s
invariant-loop-s l = Looked l.d l.mem l.ids.words.now l.s l.counts
