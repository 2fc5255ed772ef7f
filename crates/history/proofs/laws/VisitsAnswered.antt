-- The visits that a call answers are those of its search in the space: from the definitions of the calls, on a sound memory and a space
-- that there is, whatever was found.
use Rattle.std.proofs.Common.{List, ◌≡◌, refl, ap, ◌∙◌, ℕ, ◌^◌, ◌<◌, le-ltb, length, Option, None, Some}
use Rattle.std.proofs.lemmas.Bool.{lt-leb}
use Rattle.answers.specs.Answer.{Answer, BadField}
use Rattle.base.specs.Choose.{when_no}
use Rattle.manager_calls.specs.Calls as manager
use Rattle.revocation_calls.specs.Calls as revocation
use Rattle.revocation_calls.specs.Revoking.{revoking_held}
use Rattle.revocation_laws.proofs.laws.Ways.{revoking_held_by_cases}
use Rattle.space.specs.Lookup.{looked_up, got_entry}
use Rattle.space.specs.declared.LookedUp.{LookedUp}
use Rattle.space_calls.specs.Calls as space
use Rattle.space_reads.specs.Calls as space_reads
use Rattle.space_reads.specs.Replies.{found_reply, held_reply, no_entry, entry_reply, EntryReply}
use Rattle.base.specs.Cases.{either}
use Rattle.steps.proofs.laws.Entered.{space_called}
use Rattle.steps.specs.Enter.{on_space}
use Rattle.steps.specs.Replies.{Left, Reply}
use Rattle.steps.specs.Steps.{space_of, lookup_step}
use Rattle.table.specs.declared.CapabilityEntry.{CapabilityEntry}
use Rattle.token.specs.Token.{id_of}
use Rattle.world.specs.Numbers.{numbers_of}
use Rattle.world.specs.Sound.{Sound}
use Rattle.world.specs.declared.Numbers.{Numbers}
use Rattle.history.specs.Promises.{VisitsOf}
use Rattle.history.specs.Walks.{seeking, in_lookup, in_lookup_entry, in_check_rights, in_get_entry, in_remove, in_space_revoke, in_check, in_revoke_held}

-- ---- whatever was found, the visits are answered

found_visits : (value : CapabilityEntry → ℕ) (got : Option CapabilityEntry) (visits : ℕ) → (found_reply value got visits).count ≡ visits
found_visits value (Some e) visits = refl
found_visits value None visits = refl

held_visits : (required : ℕ) (got : Option CapabilityEntry) (visits : ℕ) → (held_reply required got visits).count ≡ visits
held_visits required (Some e) visits = refl
held_visits required None visits = refl

entry_visits : (got : Option CapabilityEntry) (visits : ℕ) → (entry_reply got visits).visits ≡ visits
entry_visits (Some e) visits = refl
entry_visits None visits = refl

abbrev Visits : ℕ → Left Reply → Type 0
Visits visits out = out.reply.count ≡ visits

revoking_visits :
    (d : Numbers) (token time : ℕ) (listed mem : List ℕ) (got : Option CapabilityEntry) (visits : ℕ)
    → Visits visits (revoking_held d token time listed mem got visits)
revoking_visits d token time listed mem got visits =
    revoking_held_by_cases d token time listed mem (Visits visits) got visits (λ none. refl) (λ e is lacks. refl) (λ e is has. refl)

-- ---- the calls

abbrev counts : Left Reply → ℕ
counts out = out.reply.count

module _ (mem : List ℕ) (sound : Sound mem) (s : ℕ) (valid : s < (numbers_of mem).spaces) where
  abbrev d : Numbers
  d = numbers_of mem

  abbrev found : ℕ → LookedUp
  found token = looked_up (space_of d s mem) token

  abbrev entered : {A : Type 0} (refuse : Answer → A) (call : Numbers → A) → on_space refuse mem s call ≡ call (numbers_of mem)
  entered refuse call = space_called refuse mem call sound s valid

  pub visits_answered : VisitsOf mem s
  unfolding
      space_reads.lookup_out space_reads.lookup_entry_out space_reads.check_rights_out space_reads.get_entry_out space.remove_out
      space.revoke_out
      manager.check_out revocation.revoke_held_out looked_up got_entry
  visits_answered = record {
    of_lookup = λ token. (
      seeking (space_of d s mem) (id_of token),
      (in_lookup s token valid, ap counts (entered _ _) ∙ found_visits (λ e. e.rights.0) (found token).got (found token).visits),
    );
    of_lookup_entry = λ token. (
      seeking (space_of d s mem) (id_of token),
      (
        in_lookup_entry s token valid,
        ap (λ (out : Left EntryReply). out.reply.visits) (entered _ _) ∙ entry_visits (found token).got (found token).visits,
      ),
    );
    of_check_rights = λ token required. (
      seeking (space_of d s mem) (id_of token),
      (in_check_rights s token required valid, ap counts (entered _ _) ∙ held_visits required (found token).got (found token).visits),
    );
    of_get_entry = λ id fits.
        let got : LookedUp = got_entry (space_of d s mem) id in (
          seeking (space_of d s mem) id,
          (
            in_get_entry s id valid,
            ap (λ (out : EntryReply). out.visits)
                (entered _ _ ∙ when_no _ (no_entry BadField 0) (entry_reply got.got got.visits) (lt-leb (2 ^ 48) id fits))
                ∙ entry_visits got.got got.visits,
          ),
        );
    of_remove = λ token. (
      seeking (space_of d s mem) (id_of token),
      (in_remove s token valid, ap counts (entered _ _) ∙ found_visits (λ e. e.object) (found token).got (found token).visits),
    );
    of_space_revoke = λ id t is. (
      seeking (space_of d s mem) (id_of t.0),
      (
        in_space_revoke s id t valid is,
        ap counts (entered _ _ ∙ ap (space.revoke_made d s mem) is) ∙ found_visits (λ e. 0) (found t.0).got (found t.0).visits,
      ),
    );
    of_check = λ token required. (
      seeking (space_of d s mem) (id_of token),
      (
        in_check token required s valid,
        ap counts (entered _ _)
            ∙ either (Visits (found token).visits) _ _ _ refl (either (Visits (found token).visits) _ _ _ refl refl),
      ),
    );
    of_revoke_held = λ token time listed few. (
      seeking (space_of d s mem) (id_of token),
      (
        in_revoke_held s token time listed valid,
        ap counts (entered _ _ ∙ when_no _ _ _ (le-ltb 32 (length listed) few))
            ∙ revoking_visits d token time listed (lookup_step d s token mem) (found token).got (found token).visits,
      ),
    );
  }
