-- Document 01, "Revocation": what revoking a registered id answers and leaves. d are the numbers of a sound memory; `listed` is the process
-- list.
use Rattle.std.specs.Prelude.{List, ℕ, ◌+◌, eqb, ltb, length}
use Rattle.answers.specs.Answer.{LogFull, PidTableFull}
use Rattle.base.specs.Choose.{when}
use Rattle.registry.specs.Words.{revoked}
use Rattle.revocation_steps.specs.Revocation.{free_queues, carried_out, queues_needed, cascade, cascade_ids, cascade_pairs}
use Rattle.steps.specs.Replies.{Left, done, refuse, Reply}
use Rattle.world.specs.Numbers.{logged_of}
use Rattle.world.specs.Sound.{states}
use Rattle.world.specs.declared.Numbers.{Numbers}

-- A cascade, given its places, their ids, and of their pairs those that the log has not. 24 where more new pairs are needed
-- than places free, then 25 where more new queues are, both before the registry, the log or the queues change.
abbrev pub carrying_out : Numbers → List ℕ → List ℕ → List ℕ → ℕ → List ℕ → List ℕ → Left Reply
carrying_out d places ids pairs time listed mem =
    when (ltb d.pairs (logged_of mem + length pairs)) (refuse mem LogFull)
    (when (ltb (free_queues d mem) (queues_needed d mem listed (length places))) (refuse mem PidTableFull)
    (record { reply = done 0; memory = carried_out d places ids pairs time listed mem }))

-- Place r is registered. Already revoked: 0, nothing changes.
unfoldable pub revoking : Numbers → ℕ → ℕ → List ℕ → List ℕ → Left Reply
revoking d r time listed mem =
    when (eqb (revoked (states d mem r)) 1) (record { reply = done 0; memory = mem })
    (carrying_out d (cascade d mem r) (cascade_ids d mem r) (cascade_pairs d mem r) time listed mem)
