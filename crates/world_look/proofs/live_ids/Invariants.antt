-- The ids of the live ones among the first i slots are written, and n is how many they are.
use Rattle.base.specs.Compacted.{Compacting}
use Rattle.table.specs.Slots.{is_live, id_at}
use Rattle.world_look.proofs.live_ids.Given as goal

abbrev pub invariant-loop-i : goal.invariant-loop-i
invariant-loop-i l = Compacting (id_at l.words) (is_live l.words) l.slots l.initial.ids l.ids l.n l.i
