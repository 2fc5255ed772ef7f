-- What is lent is the queues, one after the other.
use Rattle.std.proofs.Common.{Bool, List, ◌≡◌, ◌∙◌, ℕ, ◌-◌, ◌*◌, arith, take, drop, length-take, length-drop}
use Rattle.revocation.specs.Sound as rules
use Rattle.world.specs.Lent.{queues_passed}
use Rattle.world.specs.Regions.{queue, queues_at, length_for, start_of}
use Rattle.world.specs.Sound.{queues_test}
use Rattle.world.specs.declared.Numbers.{Numbers}
use Rattle.world_look.proofs.queues_sound.Goals as goal

module _ (d : Numbers) (mem : List ℕ) (start end : ℕ) (at : start ≡ start_of d (queue 0)) (all : end ≡ length_for d) where
  passed : (r : Bool) → r ≡ rules.queues_test d.queues (take (end - start) (drop start mem)) → r ≡ queues_test d mem
  unfolding start_of length_for
  passed r h =
      let from : start ≡ queues_at d = omega arith in
      let words : length_for d - queues_at d ≡ d.queues * 771 = omega arith in
      h ∙ rw (all, from, words, queues_passed)

pub queues_sound-requires : goal.queues_sound-requires
unfolding start_of length_for
queues_sound-requires c = simp (length-take, length-drop) (omega arith)

pub returns : goal.returns
returns c = search passed
