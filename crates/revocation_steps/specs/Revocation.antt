-- Document 01, "Revocation": what a revocation leaves of the log, the epoch and the queues, and of the registry with the descendants of an
-- id. Each definition speaks of the whole memory; d are its numbers.
use Rattle.std.specs.Prelude.{Bool, true, false, not, List, [], ◌∷◌, ℕ, ◌+◌, eqb, ltb, length, set, drop}
use Rattle.base.specs.Below.{first, sum, one}
use Rattle.base.specs.Choose.{pick, both}
use Rattle.registry.specs.Children.{ids_at}
use Rattle.registry.specs.Descent.{descent, unrevoked_of, marked}
use Rattle.revocation.specs.Log.{absent_of, appended}
use Rattle.revocation.specs.Queue.{pushed, begun, freed}
use Rattle.revocation.specs.Reason.{number_of}
use Rattle.revocation.specs.declared.RevocationReason.TheVariants.{ParentRevoked}
use Rattle.steps.specs.Steps.{add_step}
use Rattle.world.specs.Numbers.{epoch_word, revoked_word, logged_word, registered_of, logged_of}
use Rattle.world.specs.Regions.{registry, log, queue, view, on_region}
use Rattle.world.specs.Sound.{pids, lengths}
use Rattle.world.specs.declared.Numbers.{Numbers}

-- ---- the log

abbrev pub log_of : Numbers → List ℕ → List ℕ
log_of d mem = view d log mem

-- These pairs behind those that are logged.
unfoldable pub log_step : Numbers → List ℕ → List ℕ → List ℕ
log_step d pairs mem =
    let n = logged_of mem in
    set (on_region d log (appended n pairs) mem) logged_word (n + length pairs)

-- ---- the queues

-- The place of the queue of a pid, or P.
abbrev pub queue_for : Numbers → List ℕ → ℕ → ℕ
queue_for d mem pid = first (λ q. both (ltb 0 (lengths d mem q)) (eqb (pids d mem q) pid)) d.queues

-- The first free place, or P.
abbrev pub free_queue : Numbers → List ℕ → ℕ
free_queue d mem = first (λ q. eqb (lengths d mem q) 0) d.queues

-- A notice for a pid: behind the others of its queue, or as the first of a new queue. Where no place is free, 25 was answered before.
unfoldable pub notify_step : Numbers → ℕ → ℕ → ℕ → ℕ → List ℕ → List ℕ
notify_step d pid id time reason mem =
    let q = queue_for d mem pid in
    let f = free_queue d mem in
    pick (ltb q d.queues) (on_region d (queue q) (pushed id time reason) mem)
    (pick (ltb f d.queues) (on_region d (queue f) (begun pid id time reason) mem) mem)

-- The id is queued to every listed pid as parent_revoked; a repeat is served twice.
unfoldable pub notify_pids : Numbers → List ℕ → ℕ → ℕ → List ℕ → List ℕ
notify_pids d [] id time mem = mem
notify_pids d (pid ∷ listed) id time mem = notify_pids d listed id time (notify_step d pid id time (number_of ParentRevoked) mem)

-- Each of these ids in turn.
unfoldable pub notify_all : Numbers → List ℕ → List ℕ → ℕ → List ℕ → List ℕ
notify_all d listed [] time mem = mem
notify_all d listed (id ∷ later) time mem = notify_all d listed later time (notify_pids d listed id time mem)

-- A queue is freed.
unfoldable pub free_step : Numbers → ℕ → List ℕ → List ℕ
free_step d q mem = on_region d (queue q) freed mem

-- How many places are free, and how many of the listed pids, a repeat once, have no queue.
unfoldable pub free_queues : Numbers → List ℕ → ℕ
free_queues d mem = sum (λ q. one (eqb (lengths d mem q) 0)) d.queues

abbrev pub is_in : ℕ → List ℕ → Bool
is_in x [] = false
is_in x (y ∷ ys) = pick (eqb x y) true (is_in x ys)

unfoldable pub new_queues : Numbers → List ℕ → List ℕ → ℕ
new_queues d mem [] = 0
new_queues d mem (pid ∷ listed) =
    one (both (not (ltb (queue_for d mem pid) d.queues)) (not (is_in pid listed))) + new_queues d mem listed

-- ---- a cascade from place r

-- The places that it revokes: r and all below it, breadth first, each once, if not yet revoked.
abbrev pub cascade : Numbers → List ℕ → ℕ → List ℕ
cascade d mem r =
    let rg = view d registry mem in
    unrevoked_of d.places rg (descent d.places (registered_of mem) rg r)

-- Their ids; as each has generation 0 until then, its pair is its id.
abbrev pub cascade_ids : Numbers → List ℕ → ℕ → List ℕ
cascade_ids d mem r = ids_at (view d registry mem) (cascade d mem r)

-- The pairs that the log has not.
abbrev pub cascade_pairs : Numbers → List ℕ → ℕ → List ℕ
cascade_pairs d mem r = absent_of (logged_of mem) (log_of d mem) (cascade_ids d mem r)

-- Places ks with their ids are revoked and counted; each joins the log if absent, epoch plus one either way; each id but the first is
-- queued.
abbrev pub carried_out : Numbers → List ℕ → List ℕ → List ℕ → ℕ → List ℕ → List ℕ → List ℕ
carried_out d ks ids pairs time listed mem =
    notify_all d listed (drop 1 ids) time
    (add_step epoch_word (length ks)
    (log_step d pairs
    (add_step revoked_word (length ks)
    (on_region d registry (marked d.places ks) mem))))

-- How many new queues a cascade over `count` places needs: none where it revokes no descendant.
abbrev pub queues_needed : Numbers → List ℕ → List ℕ → ℕ → ℕ
queues_needed d mem listed count = pick (ltb 1 count) (new_queues d mem listed) 0
