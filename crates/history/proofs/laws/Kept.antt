-- Every call keeps a sound memory sound and of its length, so every history does; and until an opening is given 0, its numbers and every
-- word past the regions.
use Rattle.std.proofs.Common.{Bool, true, false, true≢false, List, [], ◌∷◌, ◌≡◌, refl, sym, subst, ◌∙◌, ℕ}
use Rattle.base.specs.Choose.{pick}
use Rattle.steps.proofs.laws.Kept.{Kept, kept_refl, kept_sound}
use Rattle.space_laws.proofs.laws.Sound as space
use Rattle.manager_laws.proofs.laws.Sound as manager
use Rattle.revocation_laws.proofs.laws.Sound as revocation
use Rattle.world.specs.Numbers.{numbers_of}
use Rattle.world.specs.Sound.{Sound}
use Rattle.world.specs.declared.Numbers.{Numbers}
use Rattle.history.specs.Call.{Accepting, Changing, Call, open_world, reads, accepts, changes}
use Rattle.history.specs.Call.{space_insert, space_copy, space_create, create, delegate}
use Rattle.history.specs.Call.{space_lookup, space_lookup_entry, space_check_rights, space_remove, space_increment_generation, space_clear, space_revoke_all, space_revoke, alloc_cap_id, delete, check, revoke, revoke_capability, revoke_held, revoke_batch, notify_process, drain_notifications, cleanup_process_notifications}
use Rattle.history.specs.Perform.{accept, change, perform, after}
use Rattle.history.specs.Promises.{Stays, reopens, reopened}
use Rattle.history.proofs.laws.Opening.{Lasts, lasts_refl, opening_refused, opening_lasts}

module _ (mem : List ℕ) (sound : Sound mem) where
  pub accept_kept : (call : Accepting) → Kept (numbers_of mem) mem (accept call mem).memory
  unfolding accept
  accept_kept (space_insert s token object rights fits) = space.insert_keeps mem sound s token object rights fits
  accept_kept (space_copy target source) = space.copy_keeps mem sound target source
  accept_kept (space_create s rights object fits) = space.create_keeps mem sound s rights object fits
  accept_kept (create s object valid cap_type rights fits) = manager.create_keeps mem sound s object valid cap_type rights fits
  accept_kept (delegate token source target rights fits) = manager.delegate_keeps mem sound token source target rights fits

  pub change_kept : (call : Changing) → Kept (numbers_of mem) mem (change call mem).memory
  unfolding change
  change_kept (space_lookup s token) = space.lookup_keeps mem sound s token
  change_kept (space_lookup_entry s token) = space.lookup_entry_keeps mem sound s token
  change_kept (space_check_rights s token required) = space.check_rights_keeps mem sound s token required
  change_kept (space_remove s token) = space.remove_keeps mem sound s token
  change_kept (space_increment_generation s) = space.increment_keeps mem sound s
  change_kept (space_clear s) = space.clear_keeps mem sound s
  change_kept (space_revoke_all s) = space.revoke_all_keeps mem sound s
  change_kept (space_revoke s id) = space.revoke_keeps mem sound s id
  change_kept alloc_cap_id = space.alloc_keeps mem sound
  change_kept (delete token) = manager.delete_keeps mem sound token
  change_kept (check token required s) = manager.check_keeps mem sound token required s
  change_kept (revoke token time listed) = revocation.revoke_keeps mem sound token time listed
  change_kept (revoke_capability token time listed) = revocation.revoke_capability_keeps mem sound token time listed
  change_kept (revoke_held s token time listed) = revocation.revoke_held_keeps mem sound s token time listed
  change_kept (revoke_batch tokens time listed) = revocation.revoke_batch_keeps mem sound tokens time listed
  change_kept (notify_process pid id reason time) = revocation.notify_keeps mem sound pid id reason time
  change_kept (drain_notifications pid area) = revocation.drain_keeps mem sound pid area
  change_kept (cleanup_process_notifications pid) = revocation.cleanup_keeps mem sound pid

  -- Every call that does not open the memory anew.
  pub perform_kept : (call : Call) → reopens call mem ≡ false → Kept (numbers_of mem) mem (perform call mem).memory
  unfolding perform
  perform_kept (open_world d quotas) refused =
      subst (Kept (numbers_of mem) mem) (sym (opening_refused d quotas mem refused)) (kept_refl (numbers_of mem) mem sound)
  perform_kept (reads call) refused = kept_refl (numbers_of mem) mem sound
  perform_kept (accepts call) refused = accept_kept call
  perform_kept (changes call) refused = change_kept call

-- ---- sound, and of one length

kept_lasts : (mem now : List ℕ) → Kept (numbers_of mem) mem now → Lasts mem now
kept_lasts mem now kept = record { sound = kept_sound mem now kept; same_length = kept.same_length }

pub perform_lasts : (call : Call) (mem : List ℕ) → Sound mem → Lasts mem (perform call mem).memory
unfolding perform
perform_lasts (open_world d quotas) mem sound = opening_lasts d quotas mem sound
perform_lasts (reads call) mem sound = lasts_refl mem sound
perform_lasts (accepts call) mem sound = kept_lasts mem _ (accept_kept mem sound call)
perform_lasts (changes call) mem sound = kept_lasts mem _ (change_kept mem sound call)

pub lasts_after : (history : List Call) (mem : List ℕ) → Sound mem → Lasts mem (after history mem)
unfolding after
lasts_after [] mem sound = lasts_refl mem sound
lasts_after (call ∷ later) mem sound =
    let first = perform_lasts call mem sound in
    let rest = lasts_after later (perform call mem).memory first.sound in
    record { sound = rest.sound; same_length = rest.same_length ∙ first.same_length }

-- ---- what a history without an opening that is given 0 leaves

-- It holds of its first call and of what follows.
pub not_reopened :
    (call : Call) (later : List Call) (mem : List ℕ) → reopened (call ∷ later) mem ≡ false
    → (reopens call mem ≡ false) × (reopened later (perform call mem).memory ≡ false)
unfolding reopened
not_reopened call later mem = go (reopens call mem)
  where
    go : (b : Bool) → pick b true (reopened later (perform call mem).memory) ≡ false
        → (b ≡ false) × (reopened later (perform call mem).memory ≡ false)
    go true e = absurd (true≢false e)
    go false e = (refl, e)

stays_kept : (d : Numbers) (mem mid now : List ℕ) → Stays d mem mid → Kept d mid now → Stays d mem now
stays_kept d mem mid now h g = record {
  numbers = g.numbers ∙ h.numbers;
  same_length = g.same_length ∙ h.same_length;
  past = g.past ∙ h.past;
}

pub stays_after :
    (d : Numbers) (before : List ℕ) (history : List Call) (mem : List ℕ) → Sound mem → Stays d before mem → reopened history mem ≡ false
    → Stays d before (after history mem)
unfolding after
stays_after d before [] mem sound stays closed = stays
stays_after d before (call ∷ later) mem sound stays closed =
    let (first, rest) = not_reopened call later mem closed in
    let next : List ℕ = (perform call mem).memory in
    let kept : Kept d mem next = subst (λ d. Kept d mem next) stays.numbers (perform_kept mem sound call first) in
    stays_after d before later next (perform_lasts call mem sound).sound (stays_kept d before mem next stays kept) rest
