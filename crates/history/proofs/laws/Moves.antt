-- All moves of a space are paid: over any history until an opening is given 0, what its rebuilds moved, with the potential it has then, is
-- at most the potential that it had and 3 for each entry accepted. In a world just opened there is none.
use Rattle.std.proofs.Common.{false, List, [], ◌∷◌, ◌≡◌, sym, ap, subst, ◌∙◌, ℕ, ◌+◌, ◌*◌, ◌≤◌, ◌<◌, arith, length}
use Rattle.manager_calls.specs.Calls.{delete_out, check_out}
use Rattle.manager_laws.proofs.laws.StepsKept.{deleted_kept}
use Rattle.manager_laws.proofs.laws.Ways.{delete_by_cases, check_by_cases}
use Rattle.revocation_laws.proofs.laws.Steady as revocation
use Rattle.revocation_laws.proofs.laws.Steady.{Steady}
use Rattle.steps.specs.Replies.{Left, Reply}
use Rattle.steps.specs.Steps.{lookup_step, place_in, unregister_step}
use Rattle.steps.proofs.laws.RegistrySteps.{unregister_step_changes, unregister_step_kept, recycle_step_changes, add_step_changes}
use Rattle.table.proofs.laws.Potential.{none_pays}
use Rattle.token.specs.Token.{id_of}
use Rattle.world.specs.Numbers.{numbers_of, deleted_word, recycled_of}
use Rattle.world.specs.Open.{open_space, opened}
use Rattle.world.specs.Opened.{opened_view}
use Rattle.world.specs.Regions.{space, length_for}
use Rattle.world.specs.Sound.{Sound}
use Rattle.world.specs.declared.Numbers.{Numbers}
use Rattle.history.specs.Call.{Accepting, Changing, Call, open_world, reads, accepts, changes}
use Rattle.history.specs.Call.{space_insert, space_copy, space_create, create, delegate}
use Rattle.history.specs.Call.{space_lookup, space_lookup_entry, space_check_rights, space_remove, space_increment_generation, space_clear, space_revoke_all, space_revoke, alloc_cap_id, delete, check, revoke, revoke_capability, revoke_held, revoke_batch, notify_process, drain_notifications, cleanup_process_notifications}
use Rattle.history.specs.Counts.{accepted_in, moved_in, all_accepted, all_moved}
use Rattle.history.specs.Perform.{accept, change, perform, after}
use Rattle.history.specs.Promises.{reopens, reopened}
use Rattle.history.proofs.laws.CreateMoves.{create_pays}
use Rattle.history.proofs.laws.DelegateMoves.{delegate_pays}
use Rattle.history.proofs.laws.Kept.{perform_kept, perform_lasts, not_reopened}
use Rattle.history.proofs.laws.Opening.{opening_refused}
use Rattle.history.proofs.laws.Paid.{potential_in, Pays, Quiet, quiet_refl, quiet_trans, changed_quiet, lookup_quiet}
use Rattle.history.proofs.laws.RevocationMoves.{quiet_steady}
use Rattle.history.proofs.laws.SpaceMoves as space_call
use Rattle.history.proofs.laws.SpacePaid.{potential_of}

module _ (mem : List ℕ) (sound : Sound mem) (s : ℕ) (inside : s < (numbers_of mem).spaces) where
  abbrev d : Numbers
  d = numbers_of mem

  -- ---- the manager's other calls

  abbrev Calm : Left Reply → Type 0
  Calm out = Quiet (numbers_of mem) s mem out.memory

  -- The id leaves the registry, is recycled, and a statistic counts it.
  delete_calm : (token : ℕ) → Calm (delete_out mem token)
  delete_calm token =
      let k : ℕ = place_in d mem (id_of token) in
      delete_by_cases mem token Calm (λ bad. quiet_refl d s mem) (λ sound outside. quiet_refl d s mem)
      (λ sound there full. quiet_refl d s mem)
      (λ sound there room.
      let left = unregister_step_changes d mem sound k there in
      let gone = unregister_step_kept d mem sound k there in
      let again : recycled_of (unregister_step d k mem) ≤ d.places = rw (left.same_word 12 (omega arith) (λ e. omega arith)) room in
      quiet_trans d s mem _ _ (changed_quiet d s inside _ _ _ _ _ left)
      (quiet_trans d s _ _ _ (changed_quiet d s inside _ _ _ _ _ (recycle_step_changes d _ gone.sound (id_of token) again))
      (changed_quiet d s inside _ _ _ _ _
      (add_step_changes d _ (deleted_kept d mem sound (id_of token) there room).sound.long_enough deleted_word 1 (omega arith)
      (omega arith)))))

  check_calm : (token required t : ℕ) → Calm (check_out mem token required t)
  check_calm token required t =
      let looked : t < d.spaces → Quiet d s mem (lookup_step d t token mem) = λ there. lookup_quiet d s inside mem sound t there token in
      check_by_cases mem token required t Calm (λ bad. quiet_refl d s mem) (λ sound far. quiet_refl d s mem)
      (λ sound there without. looked there)
      (λ sound there granted stale. looked there)
      (λ sound there granted good. looked there)

  -- ---- every call

  abbrev InSpace : List ℕ → List ℕ → Type 0
  InSpace before after = Quiet (numbers_of mem) s before after

  steady : Steady (numbers_of mem) InSpace
  steady = quiet_steady (numbers_of mem) s inside

  accept_pays :
      (call : Accepting) → Pays d s mem (accept call mem).memory (moved_in (accepts call) s mem) (accepted_in (accepts call) s mem)
  unfolding accept moved_in accepted_in
  accept_pays (space_insert t token object rights fits) = space_call.insert_call_pays mem sound s inside t token object rights fits
  accept_pays (space_copy target source) = space_call.copy_call_pays mem sound s inside target source
  accept_pays (space_create t rights object fits) = space_call.create_call_pays mem sound s inside t rights object fits
  accept_pays (create t object valid cap_type rights fits) = create_pays mem sound s inside t object valid cap_type rights fits
  accept_pays (delegate token source target rights fits) = delegate_pays mem s inside token source target rights fits

  change_calm : (call : Changing) → Quiet d s mem (change call mem).memory
  unfolding change
  change_calm (space_lookup t token) = space_call.lookup_calm mem sound s inside t token
  change_calm (space_lookup_entry t token) = space_call.lookup_entry_calm mem sound s inside t token
  change_calm (space_check_rights t token required) = space_call.check_rights_calm mem sound s inside t token required
  change_calm (space_remove t token) = space_call.remove_calm mem sound s inside t token
  change_calm (space_increment_generation t) = space_call.increment_calm mem sound s inside t
  change_calm (space_clear t) = space_call.clear_calm mem sound s inside t
  change_calm (space_revoke_all t) = space_call.revoke_all_calm mem sound s inside t
  change_calm (space_revoke t id) = space_call.revoke_calm mem sound s inside t id
  change_calm alloc_cap_id = space_call.alloc_calm mem sound s inside
  change_calm (delete token) = delete_calm token
  change_calm (check token required t) = check_calm token required t
  change_calm (revoke token time listed) = revocation.revoke_steady mem sound InSpace steady token time listed
  change_calm (revoke_capability token time listed) = revocation.revoke_capability_steady mem sound InSpace steady token time listed
  change_calm (revoke_held t token time listed) = revocation.held_revoke_steady mem sound InSpace steady t token time listed
  change_calm (revoke_batch tokens time listed) = revocation.batch_steady mem sound InSpace steady tokens time listed
  change_calm (notify_process pid id reason time) = revocation.notify_steady mem sound InSpace steady pid id reason time
  change_calm (drain_notifications pid area) = revocation.drain_steady mem sound InSpace steady pid area
  change_calm (cleanup_process_notifications pid) = revocation.cleanup_steady mem sound InSpace steady pid

  pub perform_pays :
      (call : Call) → reopens call mem ≡ false
      → Pays (numbers_of mem) s mem (perform call mem).memory (moved_in call s mem) (accepted_in call s mem)
  unfolding perform moved_in accepted_in
  perform_pays (open_world d' quotas) refused =
      subst (λ now. Quiet d s mem now) (sym (opening_refused d' quotas mem refused)) (quiet_refl d s mem)
  perform_pays (reads call) refused = quiet_refl d s mem
  perform_pays (accepts call) refused = accept_pays call
  perform_pays (changes call) refused = change_calm call

-- ---- histories

pub opened_potential :
    (d : Numbers) (quotas mem : List ℕ) → length_for d ≤ length mem → (s : ℕ) → s < d.spaces → potential_in d s (opened d quotas mem) ≡ 0
unfolding open_space
opened_potential d quotas mem long s inside = ap potential_of (opened_view d quotas mem long (space s) inside) ∙ none_pays

module _ (numbers : Numbers) (s : ℕ) (inside : s < numbers.spaces) where
  pub history_pays :
      (history : List Call) (mem : List ℕ) → Sound mem → numbers_of mem ≡ numbers → reopened history mem ≡ false
      → all_moved history s mem + potential_in numbers s (after history mem) ≤ potential_in numbers s mem + 3 * all_accepted history s mem
  unfolding after all_moved all_accepted
  history_pays [] mem sound are closed = omega arith
  history_pays (call ∷ later) mem sound are closed =
      let (first, rest) = not_reopened call later mem closed in
      let next : List ℕ = (perform call mem).memory in
      let there : s < (numbers_of mem).spaces = subst (λ (d : Numbers). s < d.spaces) (sym are) inside in
      let here : Pays numbers s mem next (moved_in call s mem) (accepted_in call s mem) =
      subst (λ d. Pays d s mem next (moved_in call s mem) (accepted_in call s mem)) are (perform_pays mem sound s there call first) in
      let kept = perform_kept mem sound call first in
      omega (arith, here.paid, history_pays later next (perform_lasts call mem sound).sound (kept.numbers ∙ are) rest)
