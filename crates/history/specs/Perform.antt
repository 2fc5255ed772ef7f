-- What a call answers and leaves, as its contract fixes it, and a history: calls one after the other on one memory.
use Rattle.std.specs.Prelude.{List, [], ◌∷◌, ℕ}
use Rattle.answers.specs.Answer.{Answer}
use Rattle.delegation_calls.specs.Delegation.{delegate_out}
use Rattle.manager_calls.specs.Calls as manager
use Rattle.manager_calls.specs.Calls.{StatsReply, TreeReply}
use Rattle.notification_calls.specs.Calls as notification
use Rattle.notification_calls.specs.Calls.{QueuesReply}
use Rattle.revocation_calls.specs.Calls as revocation
use Rattle.revocation_reads.specs.Calls as revocation_reads
use Rattle.space_calls.specs.Calls as space
use Rattle.space_reads.specs.Calls as space_reads
use Rattle.space_reads.specs.Replies.{EntryReply, StatsReply as SpaceStatsReply}
use Rattle.steps.specs.Replies.{Left, WithArea, Reply}
use Rattle.world.specs.Open.{opening}
use Rattle.history.specs.Call.{Reading, Accepting, Changing, Call, open_world, reads, accepts, changes}
use Rattle.history.specs.Call.{space_used, space_quota, space_table_capacity, space_generation, space_stats, space_get_entry, space_nth_entry, is_valid, manager_stats, get_children, derivation_tree_stats, census, is_revoked, epoch, get_derivation_tree, peek_notifications, notification_count, notification_stats}
use Rattle.history.specs.Call.{space_insert, space_copy, space_create, create, delegate}
use Rattle.history.specs.Call.{space_lookup, space_lookup_entry, space_check_rights, space_remove, space_increment_generation, space_clear, space_revoke_all, space_revoke, alloc_cap_id, delete, check, revoke, revoke_capability, revoke_held, revoke_batch, notify_process, drain_notifications, cleanup_process_notifications}

-- All that a call gives back, the lent area among it.
pub data Answered : Type 0 where
  opened : Answer → Answered
  plain : Reply → Answered
  entry : EntryReply → Answered
  space_statistics : SpaceStatsReply → Answered
  statistics : StatsReply → Answered
  tree : TreeReply → Answered
  queues : QueuesReply → Answered
  list : WithArea → Answered

-- The answer of document 01's table in it.
abbrev pub answer_of : Answered → Answer
answer_of (opened answer) = answer
answer_of (plain r) = r.answer
answer_of (entry r) = r.answer
answer_of (space_statistics r) = r.answer
answer_of (statistics r) = r.answer
answer_of (tree r) = r.answer
answer_of (queues r) = r.answer
answer_of (list r) = r.reply.answer

unfoldable pub read : Reading → List ℕ → Answered
read (space_used s) mem = plain (space_reads.used_out mem s)
read (space_quota s) mem = plain (space_reads.quota_out mem s)
read (space_table_capacity s) mem = plain (space_reads.capacity_out mem s)
read (space_generation s) mem = plain (space_reads.generation_out mem s)
read (space_stats s) mem = space_statistics (space_reads.stats_out mem s)
read (space_get_entry s id) mem = entry (space_reads.get_entry_out mem s id)
read (space_nth_entry s n) mem = entry (space_reads.nth_entry_out mem s n)
read (is_valid token) mem = plain (manager.is_valid_out mem token)
read manager_stats mem = statistics (manager.stats_out mem)
read (get_children id area) mem = list (manager.children_out mem id area)
read derivation_tree_stats mem = tree (manager.tree_stats_out mem)
read (census s) mem = plain (manager.census_out mem s)
read (is_revoked token) mem = plain (revocation_reads.is_revoked_out mem token)
read epoch mem = plain (revocation_reads.epoch_out mem)
read (get_derivation_tree id area) mem = list (revocation_reads.descendants_out mem id area)
read (peek_notifications pid area) mem = list (notification.peek_out mem pid area)
read (notification_count pid) mem = plain (notification.notification_count_out mem pid)
read notification_stats mem = queues (notification.notification_stats_out mem)

unfoldable pub accept : Accepting → List ℕ → Left Reply
accept (space_insert s token object rights fits) mem = space.insert_call_out mem s token object rights
accept (space_copy target source) mem = space.copy_out mem target source
accept (space_create s rights object fits) mem = space.create_out mem s rights object
accept (create s object valid cap_type rights fits) mem = manager.create_out mem s object valid cap_type rights
accept (delegate token source target rights fits) mem = delegate_out mem token source target rights

-- An answer and a memory with the answer as one of all kinds.
abbrev pub told : {A : Type 0} → (A → Answered) → Left A → Left Answered
told kind out = record { reply = kind out.reply; memory = out.memory }

unfoldable pub change : Changing → List ℕ → Left Answered
change (space_lookup s token) mem = told plain (space_reads.lookup_out mem s token)
change (space_lookup_entry s token) mem = told entry (space_reads.lookup_entry_out mem s token)
change (space_check_rights s token required) mem = told plain (space_reads.check_rights_out mem s token required)
change (space_remove s token) mem = told plain (space.remove_out mem s token)
change (space_increment_generation s) mem = told plain (space.increment_out mem s)
change (space_clear s) mem = told plain (space.clear_out mem s)
change (space_revoke_all s) mem = told plain (space.revoke_all_out mem s)
change (space_revoke s id) mem = told plain (space.revoke_out mem s id)
change alloc_cap_id mem = told plain (space.alloc_out mem)
change (delete token) mem = told plain (manager.delete_out mem token)
change (check token required s) mem = told plain (manager.check_out mem token required s)
change (revoke token time listed) mem = told plain (revocation.revoke_out mem token time listed)
change (revoke_capability token time listed) mem = told plain (revocation.revoke_capability_out mem token time listed)
change (revoke_held s token time listed) mem = told plain (revocation.revoke_held_out mem s token time listed)
change (revoke_batch tokens time listed) mem = told plain (revocation.revoke_batch_out mem tokens time listed)
change (notify_process pid id reason time) mem = told plain (notification.notify_out mem pid id reason time)
change (drain_notifications pid area) mem = told list (notification.drain_out mem pid area)
change (cleanup_process_notifications pid) mem = told plain (notification.cleanup_out mem pid)

unfoldable pub perform : Call → List ℕ → Left Answered
perform (open_world d quotas) mem =
    let out = opening d quotas mem in
    record { reply = opened out.answer; memory = out.memory }
perform (reads call) mem = record { reply = read call mem; memory = mem }
perform (accepts call) mem = told plain (accept call mem)
perform (changes call) mem = change call mem

-- The memory after a history.
unfoldable pub after : List Call → List ℕ → List ℕ
after [] mem = mem
after (call ∷ later) mem = after later (perform call mem).memory
