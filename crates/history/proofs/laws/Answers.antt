-- On a sound memory no call but an opening is given 26.
use Rattle.std.proofs.Common.{false, true≢false, List, ◌↔◌, ◌≢◌, ◌≡◌, ℕ}
use Rattle.answers.specs.Answer.{Answer, BadWorld}
use Rattle.steps.proofs.laws.Told.{Told}
use Rattle.space_laws.proofs.laws.Refused as space
use Rattle.manager_laws.proofs.laws.CreateTold.{create_entered}
use Rattle.manager_laws.proofs.laws.DelegateTold.{delegate_told_26}
use Rattle.manager_laws.proofs.laws.Refused as manager
use Rattle.revocation_laws.proofs.laws.Told as revocation
use Rattle.world.specs.Sound.{Sound}
use Rattle.history.specs.Call.{Reading, Accepting, Changing, Call, open_world, reads, accepts, changes}
use Rattle.history.specs.Call.{space_used, space_quota, space_table_capacity, space_generation, space_stats, space_get_entry, space_nth_entry, is_valid, manager_stats, get_children, derivation_tree_stats, census, is_revoked, epoch, get_derivation_tree, peek_notifications, notification_count, notification_stats}
use Rattle.history.specs.Call.{space_insert, space_copy, space_create, create, delegate}
use Rattle.history.specs.Call.{space_lookup, space_lookup_entry, space_check_rights, space_remove, space_increment_generation, space_clear, space_revoke_all, space_revoke, alloc_cap_id, delete, check, revoke, revoke_capability, revoke_held, revoke_batch, notify_process, drain_notifications, cleanup_process_notifications}
use Rattle.history.specs.Perform.{answer_of, read, accept, change, perform}
use Rattle.history.specs.Promises.{is_opening}

module _ (mem : List ℕ) (sound : Sound mem) where
  -- By what the calls' laws say of 26, without a space and with one.
  sure : (answer : Answer) → (answer ≡ BadWorld) ↔ (¬ Sound mem) → answer ≢ BadWorld
  sure answer exactly e = exactly.0 e sound

  fine : (s : ℕ) (answer : Answer) → Told mem s answer → answer ≢ BadWorld
  fine s answer told = sure answer told.bad_world

  read_fine : (call : Reading) → answer_of (read call mem) ≢ BadWorld
  unfolding read
  read_fine (space_used s) = fine s _ (space.facts_entered mem s)
  read_fine (space_quota s) = fine s _ (space.facts_entered mem s)
  read_fine (space_table_capacity s) = fine s _ (space.facts_entered mem s)
  read_fine (space_generation s) = fine s _ (space.facts_entered mem s)
  read_fine (space_stats s) = fine s _ (space.facts_entered mem s)
  read_fine (space_get_entry s id) = fine s _ (space.get_entry_entered mem s id)
  read_fine (space_nth_entry s n) = fine s _ (space.nth_entry_entered mem s n)
  read_fine (is_valid token) = sure _ (manager.is_valid_entered mem token)
  read_fine manager_stats = sure _ (manager.stats_entered mem)
  read_fine (get_children id area) = sure _ (manager.children_entered mem id area)
  read_fine derivation_tree_stats = sure _ (manager.tree_stats_entered mem)
  read_fine (census s) = fine s _ (manager.census_entered mem s)
  read_fine (is_revoked token) = sure _ (revocation.is_revoked_entered mem token)
  read_fine epoch = sure _ (revocation.epoch_entered mem)
  read_fine (get_derivation_tree id area) = sure _ (revocation.descendants_entered mem id area)
  read_fine (peek_notifications pid area) = sure _ (revocation.peek_entered mem pid area)
  read_fine (notification_count pid) = sure _ (revocation.notification_count_entered mem pid)
  read_fine notification_stats = sure _ (revocation.notification_stats_entered mem)

  accept_fine : (call : Accepting) → (accept call mem).reply.answer ≢ BadWorld
  unfolding accept
  accept_fine (space_insert s token object rights fits) = fine s _ (space.insert_entered mem s token object rights)
  accept_fine (space_copy target source) = sure _ (space.copy_entered mem target source).0
  accept_fine (space_create s rights object fits) = fine s _ (space.create_entered mem s rights object)
  accept_fine (create s object valid cap_type rights fits) = fine s _ (create_entered mem s object valid cap_type rights)
  accept_fine (delegate token source target rights fits) = sure _ (delegate_told_26 mem token source target rights)

  change_fine : (call : Changing) → answer_of (change call mem).reply ≢ BadWorld
  unfolding change
  change_fine (space_lookup s token) = fine s _ (space.lookup_entered mem s token)
  change_fine (space_lookup_entry s token) = fine s _ (space.lookup_entry_entered mem s token)
  change_fine (space_check_rights s token required) = fine s _ (space.check_rights_entered mem s token required)
  change_fine (space_remove s token) = fine s _ (space.remove_entered mem s token)
  change_fine (space_increment_generation s) = fine s _ (space.increment_entered mem s)
  change_fine (space_clear s) = fine s _ (space.clear_entered mem s)
  change_fine (space_revoke_all s) = fine s _ (space.revoke_all_entered mem s)
  change_fine (space_revoke s id) = fine s _ (space.revoke_entered mem s id)
  change_fine alloc_cap_id = sure _ (space.alloc_entered mem)
  change_fine (delete token) = sure _ (manager.delete_entered mem token)
  change_fine (check token required s) = fine s _ (manager.check_entered mem token required s)
  change_fine (revoke token time listed) = sure _ (revocation.revoke_entered mem time listed token)
  change_fine (revoke_capability token time listed) = sure _ (revocation.revoke_capability_entered mem time listed token)
  change_fine (revoke_held s token time listed) = fine s _ (revocation.held_entered mem time listed s token)
  change_fine (revoke_batch tokens time listed) = sure _ (revocation.batch_entered mem time listed tokens)
  change_fine (notify_process pid id reason time) = sure _ (revocation.notify_entered mem pid id reason time)
  change_fine (drain_notifications pid area) = sure _ (revocation.drain_entered mem pid area)
  change_fine (cleanup_process_notifications pid) = sure _ (revocation.cleanup_entered mem pid)

  pub never_26 : (call : Call) → is_opening call ≡ false → answer_of (perform call mem).reply ≢ BadWorld
  unfolding perform
  never_26 (open_world d quotas) opens = absurd (true≢false opens)
  never_26 (reads call) opens = read_fine call
  never_26 (accepts call) opens = accept_fine call
  never_26 (changes call) opens = change_fine call
