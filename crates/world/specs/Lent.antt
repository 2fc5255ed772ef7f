-- The queues as the look is lent them, all in one part of the memory.
use Rattle.std.specs.Prelude.{List, ◌≡◌, ℕ, ◌*◌, ◌<◌}
use Rattle.std.proofs.Common.{ap₂, mul-le-mul_right, suc-mul, arith}
use Rattle.base.specs.AllLaws.{all_ext}
use Rattle.base.specs.Choose.{both}
use Rattle.base.specs.Part.{part, part-part}
use Rattle.revocation.specs.Sound as rules
use Rattle.revocation.specs.Words.{queue_at}
use Rattle.world.specs.Regions.{queue, queues_at, start_of, view}
use Rattle.world.specs.Sound.{queues_test}
use Rattle.world.specs.declared.Numbers.{Numbers}

module _ (d : Numbers) (mem : List ℕ) where
  abbrev pub queues : List ℕ
  queues = part (queues_at d) (d.queues * 771) mem

  queue_is : (q : ℕ) → q < d.queues → queue_at queues q ≡ view d (queue q) mem
  unfolding start_of
  queue_is q l =
      part-part (queues_at d) (d.queues * 771) (q * 771) 771 mem (omega (arith, mul-le-mul_right 771 l, suc-mul q 771))

  pub queues_passed : rules.queues_test d.queues queues ≡ queues_test d mem
  unfolding rules.queues_test queues_test
  queues_passed =
      ap₂ both
      (all_ext d.queues (λ q. rules.queue_test (queue_at queues q)) (λ q. rules.queue_test (view d (queue q) mem))
      (λ q l. rw (queue_is q l)))
      (all_ext d.queues _ _ (λ j l. all_ext j _ _ (λ i u. rw (queue_is i (omega arith), queue_is j l))))
