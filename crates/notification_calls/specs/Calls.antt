-- The calls for notifications: what each answers and leaves, on every memory and every argument. Document 01's order of refusals: 26, 21,
-- 25.
use Rattle.std.specs.Prelude.{not, List, [], ℕ, ◌^◌, leb, ltb, length, Result, Ok, Err}
use Rattle.answers.specs.Answer.{Answer, Done, Refuses, BadField, PidTableFull}
use Rattle.answers.specs.declared.Refusal.{Refusal}
use Rattle.base.specs.Below.{sum, one}
use Rattle.base.specs.Choose.{pick, both, when}
use Rattle.base.specs.Written.{written}
use Rattle.revocation.specs.Queue.{notices}
use Rattle.revocation_steps.specs.Revocation.{queue_for, free_queue, notify_step, free_step}
use Rattle.steps.specs.Enter.{on_world}
use Rattle.steps.specs.Replies.{Left, WithArea, done, refusal, refuse, Reply}
use Rattle.world.specs.Regions.{queue, view}
use Rattle.world.specs.Sound.{lengths}
use Rattle.world.specs.declared.Numbers.{Numbers}
use Rattle.notification_calls.specs.declared.Queues.{Queues}

-- ---- a notice for a pid

-- 21 for an id over 2^48-1 or a number that is no reason's; 25 where the pid has no queue and no place is free.
unfoldable pub notify_out : List ℕ → ℕ → ℕ → ℕ → ℕ → Left Reply
notify_out mem pid id reason time =
    on_world (refuse mem) mem (λ d.
    when (leb (2 ^ 48) id) (refuse mem BadField)
    (when (ltb 3 reason) (refuse mem BadField)
    (when (both (not (ltb (queue_for d mem pid) d.queues)) (not (ltb (free_queue d mem) d.queues))) (refuse mem PidTableFull)
    (record { reply = done 0; memory = notify_step d pid id time reason mem }))))

-- ---- the notices of a pid

-- The queue of the pid is at place q, which is past the last where it has none. Its notices, oldest first, three words each.
abbrev pub notices_for : Numbers → List ℕ → ℕ → List ℕ
notices_for d mem q = pick (ltb q d.queues) (notices (view d (queue q) mem)) []

abbrev pub count_for : Numbers → List ℕ → ℕ → ℕ
count_for d mem q = pick (ltb q d.queues) (lengths d mem q) 0

-- They go to the area; the value is how many notices.
abbrev pub peeked : Numbers → List ℕ → ℕ → List ℕ → WithArea
peeked d mem q area = record { reply = done (count_for d mem q); area = written (notices_for d mem q) area }

-- 21 for an area too short.
unfoldable pub peek_out : List ℕ → ℕ → List ℕ → WithArea
peek_out mem pid area =
    on_world (λ a. record { reply = refusal a; area = area }) mem (λ d.
    let q = queue_for d mem pid in
    when (ltb (length area) (length (notices_for d mem q))) (record { reply = refusal BadField; area = area }) (peeked d mem q area))

-- The memory without the queue at place q, if there is one.
abbrev pub without : Numbers → List ℕ → ℕ → List ℕ
without d mem q = pick (ltb q d.queues) (free_step d q mem) mem

unfoldable pub drain_out : List ℕ → ℕ → List ℕ → Left WithArea
drain_out mem pid area =
    on_world (λ a. record { reply = record { reply = refusal a; area = area }; memory = mem }) mem (λ d.
    let q = queue_for d mem pid in
    when (ltb (length area) (length (notices_for d mem q)))
    (record { reply = record { reply = refusal BadField; area = area }; memory = mem })
    (record { reply = peeked d mem q area; memory = without d mem q }))

unfoldable pub notification_count_out : List ℕ → ℕ → Reply
notification_count_out mem pid = on_world refusal mem (λ d. done (count_for d mem (queue_for d mem pid)))

unfoldable pub cleanup_out : List ℕ → ℕ → Left Reply
cleanup_out mem pid =
    on_world (refuse mem) mem (λ d. record { reply = done 0; memory = without d mem (queue_for d mem pid) })

-- ---- the notices of all

-- How many processes have notifications, and how many notifications there are, zeros on a refusal.
pub record QueuesReply : Type 0 where
  pub answer : Answer
  pub processes : ℕ
  pub notifications : ℕ

abbrev pub no_queues : Answer → QueuesReply
no_queues answer = record { answer = answer; processes = 0; notifications = 0 }

-- How many queues there are, and how many notices in all.
unfoldable pub notification_stats_out : List ℕ → QueuesReply
notification_stats_out mem =
    on_world no_queues mem (λ d.
    record {
      answer = Done;
      processes = sum (λ q. one (ltb 0 (lengths d mem q))) d.queues;
      notifications = sum (lengths d mem) d.queues;
    })

-- What the code's outcome tells.
abbrev pub told_queues : Result Queues Refusal → QueuesReply
told_queues (Ok queues) = record { answer = Done; processes = queues.processes; notifications = queues.notifications }
told_queues (Err refusal) = no_queues (Refuses refusal)
