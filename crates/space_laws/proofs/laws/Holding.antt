-- An accepted insert is found, and stays found until it is removed, cleared or copied over: every other call leaves the entry with its
-- token, object and rights, and with its uses but for a lookup of that very token.
use Rattle.std.proofs.Common.{List, ◌≢◌, ◌⊎◌, inl, inr, ⊎_elim, ◌≡◌, refl, sym, ap, subst, ◌∙◌, ℕ, ◌%◌, ◌^◌, ◌<◌, arith, Some}
use Rattle.std.proofs.Math.Decide.{ℕ_discrete}
use Rattle.std.proofs.Math.Logic.{by_cases}
use Rattle.std.proofs.Math.Logic.Iff
use Rattle.answers.specs.Number.{number_of}
use Rattle.answers.specs.Answer.{Answer, Done}
use Rattle.space.specs.Change.{insert_out, removed_token, next_generation}
use Rattle.space.specs.Lookup.{looked_up, counted}
use Rattle.space.specs.Sound.{SpaceOf}
use Rattle.space.proofs.laws.Counted.{used, found_again, others_as_before_lookup}
use Rattle.space.proofs.laws.Held.{has_as, got_exactly, answered_as_before, insert_holds, inserted_is_found, others_as_before_remove}
use Rattle.space.proofs.laws.Insert.{zero_is_done, refused_changes_nothing}
use Rattle.space.proofs.laws.Kept.{fits, insert_keeps, next_keeps}
use Rattle.space.proofs.laws.View.{view_next}
use Rattle.steps.specs.Enter.{on_space}
use Rattle.steps.specs.Steps.{space_of, lookup_step, insert_step, remove_step, take_step, new_entry}
use Rattle.steps.proofs.laws.Kept.{Kept, kept_sound}
use Rattle.steps.proofs.laws.Ready.{is_space}
use Rattle.steps.proofs.laws.SpaceSteps.{lookup_step_kept, next_step_kept, insert_step_kept, remove_step_kept}
use Rattle.steps.proofs.laws.TakeStep.{take_step_kept}
use Rattle.table.specs.declared.CapabilityEntry.{CapabilityEntry}
use Rattle.world.specs.Numbers.{numbers_of}
use Rattle.world.specs.Sound.{Sound}
use Rattle.world.specs.declared.Numbers.{Numbers}
use Rattle.space_calls.specs.Calls.{insert_call_out, remove_out, increment_out, clear_out, revoke_all_out, copy_out, alloc_out, create_out, revoke_made, revoke_out}
use Rattle.space_reads.specs.Calls.{lookup_out, lookup_entry_out, check_rights_out}
use Rattle.steps.specs.Replies.{Left, Reply}
use Rattle.space_reads.specs.Replies.{whole_entry, entry_reply, EntryReply}
use Rattle.space_laws.proofs.laws.Elsewhere.{clear_only, revoke_all_only, copy_only}
use Rattle.steps.proofs.laws.Entered.{world_by_cases, space_by_cases, space_called, done_made}
use Rattle.steps.proofs.laws.OnlyIds.{take_only_ids}
use Rattle.steps.proofs.laws.OnlySpace.{OnlySpace, Step, lookup_in_space, next_in_space, insert_in_space, remove_in_space}
use Rattle.space_laws.proofs.laws.Sound.{clear_keeps, revoke_all_keeps, copy_keeps}
use Rattle.space_laws.proofs.laws.Ways.{own_token, made_by_cases, create_by_cases}

-- Space s of a sound memory has the entry x under the token.
pub record Holding (mem : List ℕ) (s token : ℕ) (x : CapabilityEntry) : Type 0 where
  pub sound : Sound mem
  pub valid : s < (numbers_of mem).spaces
  pub found : (looked_up (space_of (numbers_of mem) s mem) token).got ≡ Some x

-- Then a lookup answers the entry.
pub holding_answers :
    (mem : List ℕ) (s token : ℕ) (x : CapabilityEntry) → Holding mem s token x
    → (lookup_entry_out mem s token).reply ≡ whole_entry x (looked_up (space_of (numbers_of mem) s mem) token).visits
unfolding lookup_entry_out
holding_answers mem s token x h =
    ap (λ (out : Left _). out.reply) (space_called _ mem _ h.sound s h.valid)
    ∙ ap (λ got. entry_reply got (looked_up (space_of (numbers_of mem) s mem) token).visits) h.found

-- ---- an accepted insert

-- The space of a memory that was kept.
holding_after :
    (mem after : List ℕ) (s token : ℕ) (x : CapabilityEntry) → Kept (numbers_of mem) mem after → s < (numbers_of mem).spaces
    → (looked_up (space_of (numbers_of mem) s after) token).got ≡ Some x → Holding after s token x
holding_after mem after s token x kept valid found = record {
  sound = kept_sound mem after kept;
  valid = subst (λ (d : Numbers). s < d.spaces) (sym kept.numbers) valid;
  found = subst (λ (d : Numbers). (looked_up (space_of d s after) token).got ≡ Some x) (sym kept.numbers) found;
}

pub accepted_is_found :
    (mem : List ℕ) (s token object rights : ℕ) → rights < 2 ^ 32 → (insert_call_out mem s token object rights).reply.answer ≡ Done
    → Holding (insert_call_out mem s token object rights).memory s token (new_entry token object rights)
unfolding insert_call_out
accepted_is_found mem s token object rights fits =
    let e : CapabilityEntry = new_entry token object rights in
    done_made mem s _ (λ out. Holding out.memory s token e)
    (λ sound valid done.
    let d : Numbers = numbers_of mem in
    holding_after mem _ s token e (insert_step_kept d mem sound s valid e fits) valid
    (ap (λ sp. (looked_up sp token).got) (insert_in_space d mem sound s valid e fits).here
    ∙ inserted_is_found d.most (space_of d s mem) (is_space d mem sound s valid) e fits done))

-- So a lookup of the token answers the entry with that object and those rights, not used yet.
pub accepted_is_answered :
    (mem : List ℕ) (s token object rights : ℕ) → rights < 2 ^ 32 → (insert_call_out mem s token object rights).reply.answer ≡ Done
    → (visits : ℕ)
    × ((lookup_entry_out (insert_call_out mem s token object rights).memory s token).reply
    ≡ whole_entry (new_entry token object rights) visits)
accepted_is_answered mem s token object rights fits done =
    (_, holding_answers _ s token _ (accepted_is_found mem s token object rights fits done))

-- ---- it stays

module _ (mem : List ℕ) (s token : ℕ) (x : CapabilityEntry) (h : Holding mem s token x) where
  abbrev d : Numbers
  d = numbers_of mem

  abbrev sp : List ℕ
  sp = space_of d s mem

  of_space : SpaceOf d.most sp
  of_space = is_space d mem h.sound s h.valid

  -- A step of any space, where it leaves the entry if it is this one.
  pub stays :
      (s' : ℕ) (after sp' : List ℕ) (y : CapabilityEntry) → Kept d mem after → Step d s' mem after sp'
      → (s ≡ s' → (looked_up sp' token).got ≡ Some y) → (s ≢ s' → x ≡ y) → Holding after s token y
  stays s' after sp' y kept st here there =
      by_cases (ℕ_discrete s s')
      (λ same.
      holding_after mem after s token y kept h.valid
      (ap (λ k. (looked_up (space_of d k after) token).got) same ∙ ap (λ sp. (looked_up sp token).got) st.here ∙ here same))
      (λ apart.
      holding_after mem after s token y kept h.valid
      (ap (λ sp. (looked_up sp token).got) (st.only.others s h.valid apart) ∙ h.found ∙ ap Some (there apart)))

  -- Any call that changes only another space.
  pub stays_elsewhere : (s' : ℕ) (after : List ℕ) → Kept d mem after → OnlySpace d s' mem after → s ≢ s' → Holding after s token x
  stays_elsewhere s' after kept only apart =
      holding_after mem after s token x kept h.valid
      (ap (λ sp. (looked_up sp token).got) (only.others s h.valid apart) ∙ h.found)

  module _ (s' : ℕ) (apart : s ≢ s') where
    pub stays_after_clear : Holding (clear_out mem s').memory s token x
    stays_after_clear = stays_elsewhere s' _ (clear_keeps mem h.sound s') (clear_only mem s') apart

    pub stays_after_revoke_all : Holding (revoke_all_out mem s').memory s token x
    stays_after_revoke_all = stays_elsewhere s' _ (revoke_all_keeps mem h.sound s') (revoke_all_only mem s') apart

    pub stays_after_copy : (source : ℕ) → Holding (copy_out mem s' source).memory s token x
    stays_after_copy source = stays_elsewhere s' _ (copy_keeps mem h.sound s' source) (copy_only mem s' source) apart

  -- ---- call by call

  -- A refusal leaves it, so it is enough that the call does where it is made.
  made_or_not :
      {A : Type 0} (refusing : Answer → A) (s' : ℕ) (call : Numbers → Left A) → (s' < d.spaces → Holding (call d).memory s token x)
      → Holding (on_space (λ a. record { reply = refusing a; memory = mem }) mem s' call).memory s token x
  made_or_not {A} refusing s' call made =
      space_by_cases (λ (out : Left A). Holding out.memory s token x) _ mem call (λ bad. h) s' (λ sound far. h)
      (λ sound valid. made valid)

  -- A step with another token, or in another space: it changes the space by f, which answers this token as before.
  other_kept :
      (s' token' : ℕ) (f : List ℕ → List ℕ) (after : List ℕ) → (s ≢ s') ⊎ (token ≢ token') → Kept d mem after
      → Step d s' mem after (f (space_of d s' mem)) → (token ≢ token' → (looked_up (f sp) token).got ≡ (looked_up sp token).got)
      → Holding after s token x
  other_kept s' token' f after other kept step as_before =
      stays s' _ _ x kept step
      (λ same.
      ap (λ k. (looked_up (f (space_of d k mem)) token).got) (sym same)
      ∙ as_before (⊎_elim (λ apart. absurd (apart same)) (λ apart. apart) other)
      ∙ h.found)
      (λ apart. refl)

  looked : (s' token' : ℕ) → (s ≢ s') ⊎ (token ≢ token') → s' < d.spaces → Holding (lookup_step d s' token' mem) s token x
  looked s' token' other valid =
      other_kept s' token' (λ sp. counted sp token') _ other (lookup_step_kept d mem h.sound s' valid token')
      (lookup_in_space d mem h.sound s' valid token') (others_as_before_lookup d.most sp of_space token' token)

  removed_step : (s' token' : ℕ) → (s ≢ s') ⊎ (token ≢ token') → s' < d.spaces → Holding (remove_step d s' token' mem) s token x
  removed_step s' token' other valid =
      other_kept s' token' (λ sp. removed_token sp token') _ other (remove_step_kept d mem h.sound s' valid token')
      (remove_in_space d mem h.sound s' valid token') (others_as_before_remove d.most sp of_space token' token)

  module _ (s' token' : ℕ) (other : (s ≢ s') ⊎ (token ≢ token')) where
    pub stays_after_lookup : Holding (lookup_out mem s' token').memory s token x
    unfolding lookup_out
    stays_after_lookup = made_or_not _ s' _ (looked s' token' other)

    pub stays_after_lookup_entry : Holding (lookup_entry_out mem s' token').memory s token x
    unfolding lookup_entry_out
    stays_after_lookup_entry = made_or_not _ s' _ (looked s' token' other)

    pub stays_after_check : (required : ℕ) → Holding (check_rights_out mem s' token' required).memory s token x
    unfolding check_rights_out
    stays_after_check required = made_or_not _ s' _ (looked s' token' other)

    pub stays_after_remove : Holding (remove_out mem s' token').memory s token x
    unfolding remove_out
    stays_after_remove = made_or_not _ s' _ (removed_step s' token' other)

  -- A lookup of the token itself counts one more use.
  used_step : Holding (lookup_step d s token mem) s token (used x)
  used_step =
      let valid = h.valid in
      stays s _ _ (used x) (lookup_step_kept d mem h.sound s valid token) (lookup_in_space d mem h.sound s valid token)
      (λ same. found_again d.most sp of_space token x h.found)
      (λ apart. absurd (apart refl))

  pub used_after_lookup : Holding (lookup_out mem s token).memory s token (used x)
  unfolding lookup_out
  used_after_lookup =
      subst (λ (out : Left Reply). Holding out.memory s token (used x)) (sym (space_called _ mem _ h.sound s h.valid)) used_step

  pub used_after_lookup_entry : Holding (lookup_entry_out mem s token).memory s token (used x)
  unfolding lookup_entry_out
  used_after_lookup_entry =
      subst (λ (out : Left EntryReply). Holding out.memory s token (used x))
      (sym (space_called _ mem _ h.sound s h.valid)) used_step

  pub used_after_check : (required : ℕ) → Holding (check_rights_out mem s token required).memory s token (used x)
  unfolding check_rights_out
  used_after_check required =
      subst (λ (out : Left Reply). Holding out.memory s token (used x)) (sym (space_called _ mem _ h.sound s h.valid)) used_step

  -- Any insert: one of the same id is refused.
  still_there : (e : CapabilityEntry) → e.rights.0 < 2 ^ 32 → (looked_up (insert_out sp e).words token).got ≡ Some x
  still_there e rights =
      by_cases (ℕ_discrete (number_of (insert_out sp e).answer) 0)
      (λ zero.
      let (has, is) = (got_exactly d.most sp of_space token x).0 h.found in
      (got_exactly d.most _ (insert_keeps d.most sp of_space e rights) token x).1
      ((insert_holds d.most sp of_space e rights (zero_is_done sp e zero) x).1 (inl has), is))
      (λ some.
      ap (λ sp. (looked_up sp token).got) (refused_changes_nothing sp e (λ done. some (ap number_of done))).0 ∙ h.found)

  inserted_step : (s' : ℕ) (e : CapabilityEntry) → e.rights.0 < 2 ^ 32 → s' < d.spaces → Holding (insert_step d s' e mem) s token x
  inserted_step s' e rights valid =
      stays s' _ _ x (insert_step_kept d mem h.sound s' valid e rights) (insert_in_space d mem h.sound s' valid e rights)
      (λ same. ap (λ k. (looked_up (insert_out (space_of d k mem) e).words token).got) (sym same) ∙ still_there e rights)
      (λ apart. refl)

  pub stays_after_insert :
      (s' token' object rights : ℕ) → rights < 2 ^ 32
      → Holding (insert_call_out mem s' token' object rights).memory s token x
  unfolding insert_call_out
  stays_after_insert s' token' object rights fits =
      made_or_not _ s' _ (inserted_step s' (new_entry token' object rights) fits)

  pub stays_after_increment : (s' : ℕ) → Holding (increment_out mem s').memory s token x
  unfolding increment_out
  stays_after_increment s' =
      made_or_not _ s' _
      (λ valid.
      stays s' _ _ x (next_step_kept d mem h.sound s' valid) (next_in_space d mem h.sound s' valid)
      (λ same. ap (λ k. (looked_up (next_generation (space_of d k mem)) token).got) (sym same) ∙ as_before)
      (λ apart. refl))
    where
      as_before : (looked_up (next_generation sp) token).got ≡ Some x
      as_before =
          answered_as_before d.most sp _ token of_space (next_keeps d.most sp of_space)
          (λ x is. has_as _ _ x (view_next sp (fits d.most sp of_space)) Iff.rfl)
          ∙ h.found

  -- ---- ids

  taken_step : Holding (take_step d mem) s token x
  taken_step =
      holding_after mem _ s token x (take_step_kept d mem h.sound) h.valid
      (ap (λ sp. (looked_up sp token).got) ((take_only_ids d mem h.sound).same_spaces s h.valid) ∙ h.found)

  pub stays_after_alloc : Holding (alloc_out mem).memory s token x
  unfolding alloc_out
  stays_after_alloc = world_by_cases (λ (out : Left Reply). Holding out.memory s token x) _ mem _ (λ bad. h) (λ sound. taken_step)

  -- The space's revoke of another id, or in another space.
  pub stays_after_revoke : (s' id : ℕ) → (s ≢ s') ⊎ (token % 2 ^ 48 ≢ id) → Holding (revoke_out mem s' id).memory s token x
  unfolding revoke_out
  stays_after_revoke s' id other =
      made_or_not _ s' _
      (λ valid.
      made_by_cases (λ m. Holding (revoke_made d s' mem m).memory s token x) (space_of d s' mem) id (λ over. h)
      (λ fits.
      removed_step s' (own_token (space_of d s' mem) id)
      (⊎_elim (λ apart. inl apart) (λ apart. inr (λ same. apart (omega (arith, same, fits)))) other)
      valid))

-- The space's create, of any id.
pub stays_after_create :
    (mem : List ℕ) (s token : ℕ) (x : CapabilityEntry) → Holding mem s token x → (s' rights object : ℕ) → rights < 2 ^ 32
    → Holding (create_out mem s' rights object).memory s token x
stays_after_create mem s token x h s' rights object fits =
    create_by_cases mem s' rights object (λ out. Holding out.memory s token x) (λ bad. h) (λ sound far. h) (λ sound valid none. h)
    (λ sound valid id is.
    let d : Numbers = numbers_of mem in
    let after : List ℕ = take_step d mem in
    let e : CapabilityEntry = new_entry (own_token (space_of d s' after) id) object rights in
    let same : numbers_of after ≡ d = (take_step_kept d mem sound).numbers in
    subst (λ (d : Numbers). Holding (insert_step d s' e after) s token x) same
    (inserted_step after s token x (taken_step mem s token x h) s' e fits (subst (λ (d : Numbers). s' < d.spaces) (sym same) valid)))
