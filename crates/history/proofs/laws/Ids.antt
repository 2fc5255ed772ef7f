-- An id that was issued and not given back is never issued again: through any calls it stays so, until it is deleted itself or the memory
-- is opened anew; and each call that issues an id issues none such (`create_new`, `delegate_new`, `alloc_new`, `space_create_new`).
use Rattle.std.proofs.Common.{false, List, [], ◌∷◌, ◌≢◌, ◌⊎◌, ◌≡◌, refl, sym, subst, ℕ}
use Rattle.answers.specs.Answer.{Done}
use Rattle.manager_calls.specs.Calls.{delete_out}
use Rattle.manager_laws.proofs.laws.Ids as manager
use Rattle.manager_laws.proofs.laws.Spent.{Spent, NoneFreed}
use Rattle.revocation_laws.proofs.laws.Steady as revocation
use Rattle.space_laws.proofs.laws.Elsewhere as space
use Rattle.token.specs.Token.{id_of}
use Rattle.world.specs.Numbers.{numbers_of}
use Rattle.world.specs.Sound.{Sound}
use Rattle.world.specs.declared.Numbers.{Numbers}
use Rattle.history.specs.Call.{Accepting, Changing, Call, open_world, reads, accepts, changes}
use Rattle.history.specs.Call.{space_insert, space_copy, space_create, create, delegate}
use Rattle.history.specs.Call.{space_lookup, space_lookup_entry, space_check_rights, space_remove, space_increment_generation, space_clear, space_revoke_all, space_revoke, alloc_cap_id, delete, check, revoke, revoke_capability, revoke_held, revoke_batch, notify_process, drain_notifications, cleanup_process_notifications}
use Rattle.history.specs.Perform.{accept, change, perform, after}
use Rattle.history.specs.Promises.{reopens, reopened}
use Rattle.history.proofs.laws.Kept.{accept_kept, change_kept, perform_lasts, not_reopened}
use Rattle.history.proofs.laws.Opening.{opening_refused}
use Rattle.history.proofs.laws.RevocationIds.{ids_steady}
use Rattle.history.proofs.laws.SpaceIds.{space_frees_none, alloc_frees_none, space_create_frees_none}

-- The call does not give the id back: it is no delete of it that is given 0.
abbrev pub NotGivenBack : ℕ → Call → List ℕ → Type 0
NotGivenBack x call mem =
    (token : ℕ) → call ≡ changes (delete token) → (x ≢ id_of token) ⊎ ((delete_out mem token).reply.answer ≢ Done)

-- Nor does any call of the history.
unfoldable pub NeverGivenBack : ℕ → List Call → List ℕ → Type 0
NeverGivenBack x [] mem = Unit {0}
NeverGivenBack x (call ∷ later) mem = NotGivenBack x call mem × NeverGivenBack x later (perform call mem).memory

module _ (mem : List ℕ) (sound : Sound mem) (x : ℕ) (spent : Spent mem x) where
  abbrev d : Numbers
  d = numbers_of mem

  accept_frees_none : (call : Accepting) → NoneFreed (numbers_of mem) mem (accept call mem).memory
  unfolding accept
  accept_frees_none (space_insert s token object rights fits) = space_frees_none mem s _ (space.insert_only mem s token object rights fits)
  accept_frees_none (space_copy target source) = space_frees_none mem target _ (space.copy_only mem target source)
  accept_frees_none (space_create s rights object fits) = space_create_frees_none mem s rights object fits
  accept_frees_none (create s object valid cap_type rights fits) = manager.create_frees_none mem s object valid cap_type rights fits
  accept_frees_none (delegate token source target rights fits) = manager.delegate_frees_none mem token source target rights fits

  -- A call that frees no id.
  changed : (call : Changing) → NoneFreed (numbers_of mem) mem (change call mem).memory → Spent (change call mem).memory x
  changed call none = manager.spent_after mem sound x spent _ (change_kept mem sound call) none

  change_spent : (call : Changing) → NotGivenBack x (changes call) mem → Spent (change call mem).memory x
  unfolding change
  change_spent (space_lookup s token) kept = changed (space_lookup s token) (space_frees_none mem s _ (space.lookup_only mem s token))
  change_spent (space_lookup_entry s token) kept =
      changed (space_lookup_entry s token) (space_frees_none mem s _ (space.lookup_entry_only mem s token))
  change_spent (space_check_rights s token required) kept =
      changed (space_check_rights s token required) (space_frees_none mem s _ (space.check_rights_only mem s token required))
  change_spent (space_remove s token) kept = changed (space_remove s token) (space_frees_none mem s _ (space.remove_only mem s token))
  change_spent (space_increment_generation s) kept =
      changed (space_increment_generation s) (space_frees_none mem s _ (space.increment_only mem s))
  change_spent (space_clear s) kept = changed (space_clear s) (space_frees_none mem s _ (space.clear_only mem s))
  change_spent (space_revoke_all s) kept = changed (space_revoke_all s) (space_frees_none mem s _ (space.revoke_all_only mem s))
  change_spent (space_revoke s id) kept = changed (space_revoke s id) (space_frees_none mem s _ (space.revoke_only mem s id))
  change_spent alloc_cap_id kept = changed alloc_cap_id (alloc_frees_none mem)
  change_spent (delete token) kept = manager.delete_spent mem sound x spent token (kept token refl)
  change_spent (check token required s) kept = changed (check token required s) (manager.check_frees_none mem token required s)
  change_spent (revoke token time listed) kept =
      changed (revoke token time listed) (revocation.revoke_steady mem sound (NoneFreed d) (ids_steady d) token time listed)
  change_spent (revoke_capability token time listed) kept =
      changed (revoke_capability token time listed)
      (revocation.revoke_capability_steady mem sound (NoneFreed d) (ids_steady d) token time listed)
  change_spent (revoke_held s token time listed) kept =
      changed (revoke_held s token time listed) (revocation.held_revoke_steady mem sound (NoneFreed d) (ids_steady d) s token time listed)
  change_spent (revoke_batch tokens time listed) kept =
      changed (revoke_batch tokens time listed) (revocation.batch_steady mem sound (NoneFreed d) (ids_steady d) tokens time listed)
  change_spent (notify_process pid id reason time) kept =
      changed (notify_process pid id reason time) (revocation.notify_steady mem sound (NoneFreed d) (ids_steady d) pid id reason time)
  change_spent (drain_notifications pid area) kept =
      changed (drain_notifications pid area) (revocation.drain_steady mem sound (NoneFreed d) (ids_steady d) pid area)
  change_spent (cleanup_process_notifications pid) kept =
      changed (cleanup_process_notifications pid) (revocation.cleanup_steady mem sound (NoneFreed d) (ids_steady d) pid)

  -- After every call but an opening given 0 and the id's own deletion.
  pub call_spent : (call : Call) → reopens call mem ≡ false → NotGivenBack x call mem → Spent (perform call mem).memory x
  unfolding perform
  call_spent (open_world d quotas) refused kept = subst (λ after. Spent after x) (sym (opening_refused d quotas mem refused)) spent
  call_spent (reads call) refused kept = spent
  call_spent (accepts call) refused kept =
      manager.spent_after mem sound x spent _ (accept_kept mem sound call) (accept_frees_none call)
  call_spent (changes call) refused kept = change_spent call kept

-- So after every history without these.
pub history_spent :
    (history : List Call) (mem : List ℕ) → Sound mem → reopened history mem ≡ false → (x : ℕ) → NeverGivenBack x history mem
    → Spent mem x → Spent (after history mem) x
unfolding after NeverGivenBack
history_spent [] mem sound closed x kept spent = spent
history_spent (call ∷ later) mem sound closed x (first, rest) spent =
    let (refused, still_closed) = not_reopened call later mem closed in
    history_spent later (perform call mem).memory (perform_lasts call mem sound).sound still_closed x rest
    (call_spent mem sound x spent call refused first)

-- What is issued after such a history is another id.
pub never_again :
    (history : List Call) (mem : List ℕ) → Sound mem → reopened history mem ≡ false → (x : ℕ) → NeverGivenBack x history mem
    → Spent mem x → (id : ℕ) → manager.Unspent (after history mem) id → id ≢ x
never_again history mem sound closed x kept spent id unspent = unspent x (history_spent history mem sound closed x kept spent)
