-- The turns of the loops of open.rt: what each has written so far is a definition at the loop's counter.
use Rattle.std.proofs.Common.{List, ◌≡◌, ℕ, ◌+◌, arith, rules, set, length-set}
use Rattle.world.specs.Each.{each_none, each_more, each_done}
use Rattle.world.specs.Open.{open_head, open_spaces, open_queues, opened}
use Rattle.world.specs.Regions.{head, queue, start_of, on_region}
use Rattle.world.specs.Views.{set_region}
use Rattle.world.specs.declared.Numbers.{Numbers}

-- ---- open_queues

pub queue_more : (d : Numbers) (mem₀ mem : List ℕ) (q start : ℕ) → mem ≡ open_queues d q mem₀ → start ≡ start_of d (queue q)
    → set mem (start + 2) 0 ≡ open_queues d (q + 1) mem₀
queue_more d mem₀ mem q start e at =
    each_more d queue (λ q qu. set qu 2 0) q mem₀ mem _ e (rw at (set_region d (queue q) mem 2 0 (omega arith)))

pub ruleset queue_laws = (rules, length-set, each_none, queue_more, each_done)

-- ---- open_spaces

pub ruleset space_laws = (rules, each_none, each_more, each_done)

-- ---- write_world

pub all_written : (d : Numbers) (quotas mem a b c : List ℕ) → a ≡ on_region d head (λ hd. open_head d) mem
    → b ≡ open_spaces d quotas d.spaces a → c ≡ open_queues d d.queues b → c ≡ opened d quotas mem
unfolding opened
all_written d quotas mem a b c h i j = rw (j, i, h)
