-- Entries come and go, and their holders are counted: the ways through the steps of `space_steps` that do it.
use Rattle.std.proofs.Common.{◌≡◌, ℕ, true, false, eqb, ◌≢◌, List, length, sym, refl, ap, ◌∙◌, ne_eqb, rules, Result, Ok, Err}
use Rattle.std.specs.Prelude.{is_some}
use Rattle.answers.specs.Number.{number_of}
use Rattle.answers.specs.NumberLaws.{refusal_some}
use Rattle.answers.specs.Answer.{Done, Refuses, answer_of}
use Rattle.answers.specs.declared.Refusal.{Refusal}
use Rattle.base.specs.Part.{on_part_same}
use Rattle.space.specs.Change.{moved_of, insert_out, removed_token, cleared}
use Rattle.space.specs.Copy.{copied_space}
use Rattle.space.specs.Ids.{entry_ids}
use Rattle.space.specs.Lookup.{looked_up}
use Rattle.space.specs.declared.LookedUp.{LookedUp}
use Rattle.space.proofs.laws.Insert.{refused_changes_nothing}
use Rattle.table.specs.Slots.{id_of}
use Rattle.table.specs.declared.CapabilityEntry.{CapabilityEntry}
use Rattle.token.specs.Token.{id_of as token_id}
use Rattle.world.specs.Numbers.{registered_of}
use Rattle.world.specs.Regions.{space, start_of, size_of, on_region}
use Rattle.world.specs.declared.Numbers.{Numbers}
use Rattle.steps.specs.Ready.{Fits, Ready}
use Rattle.steps.specs.Replies.{replied}
use Rattle.steps.specs.Steps.{space_of, hold_step, release_step, hold_all_step, release_all_step, insert_step, insert_reply, remove_step, clear_step, copy_step}

-- Memory of the same length fits as well.
pub still_fits : (d : Numbers) (mem after : List ℕ) → Ready d mem → length after ≡ length mem → Fits d after
still_fits d mem after ready same =
    record { in_range = ready.fits.in_range; long_enough = rw same ready.fits.long_enough }

module _ (d : Numbers) (s : ℕ) (mem : List ℕ) where
  module _ (e : CapabilityEntry) (between : List ℕ) (r : Result ℕ Refusal)
      (came : between ≡ on_region d (space s) (λ sp. (insert_out sp e).words) mem)
      (told : answer_of r ≡ (insert_out (space_of d s mem) e).answer)
    where
      module _ (moved : ℕ) (accepts : r ≡ Ok moved) where
        is_done : (insert_out (space_of d s mem) e).answer ≡ Done
        is_done = sym told ∙ ap answer_of accepts

        pub insert_accepted : (id : ℕ) → id ≡ id_of e → (after : List ℕ) → after ≡ hold_step d (registered_of mem) id between
            → after ≡ insert_step d s e mem
        unfolding insert_step
        insert_accepted id is after held = rw (is_done, held, is, came)

        pub accepted_reply : (value : ℕ) → moved_of r ≡ (insert_out (space_of d s mem) e).moved
            → replied Done value moved ≡ insert_reply value (insert_out (space_of d s mem) e)
        accepted_reply value moves = rw (is_done, ← moves, accepts)

      module _ (refusal : Refusal) (refuses : r ≡ Err refusal) where
        is_refusal : (insert_out (space_of d s mem) e).answer ≡ Refuses refusal
        is_refusal = sym told ∙ ap answer_of refuses

        pub insert_refused : between ≡ insert_step d s e mem
        unfolding insert_step
        insert_refused = rw (is_refusal, refusal_some refusal, came)

        pub refused_reply : (value : ℕ) → moved_of r ≡ (insert_out (space_of d s mem) e).moved
            → replied (Refuses refusal) 0 0 ≡ insert_reply value (insert_out (space_of d s mem) e)
        refused_reply value moves = rw (is_refusal, refusal_some refusal, ← moves, refuses)

  -- A space that refuses an entry leaves all as it is.
  pub refused_insert : (e : CapabilityEntry) → number_of (insert_out (space_of d s mem) e).answer ≢ 0 → insert_step d s e mem ≡ mem
  unfolding insert_step
  refused_insert e some =
      rw (ne_eqb (number_of (insert_out (space_of d s mem) e).answer) 0 some)
      (on_part_same (start_of d (space s)) (size_of d (space s)) (λ sp. (insert_out sp e).words) mem
      (refused_changes_nothing (space_of d s mem) e (λ done. some (ap number_of done))).0)

  module _ (token : ℕ) (between : List ℕ) (l : LookedUp) (left : between ≡ on_region d (space s) (λ sp. removed_token sp token) mem)
      (told : l ≡ looked_up (space_of d s mem) token)
    where
      pub removed_as_found : is_some l.got ≡ true → (id : ℕ) → id ≡ token_id token → (after : List ℕ)
          → after ≡ release_step d (registered_of mem) id between → after ≡ remove_step d s token mem
      unfolding remove_step
      removed_as_found found id is after released = rw (← told, found, released, is, left)

      pub remove_absent : is_some l.got ≡ false → between ≡ remove_step d s token mem
      unfolding remove_step
      remove_absent is = rw (← told, is, left)

  pub clear_done : (ids between after : List ℕ) → ids ≡ entry_ids (space_of d s mem) → between ≡ on_region d (space s) cleared mem
      → after ≡ release_all_step d (registered_of mem) ids between → after ≡ clear_step d s mem
  unfolding clear_step
  clear_done ids between after are left released = rw (released, are, left)

pub copy_done :
    (d : Numbers) (target source : ℕ) (mem came left copied held after : List ℕ)
    → came ≡ entry_ids (space_of d source mem) → left ≡ entry_ids (space_of d target mem)
    → copied ≡ on_region d (space target) (copied_space (space_of d source mem)) mem
    → held ≡ hold_all_step d (registered_of mem) came copied → after ≡ release_all_step d (registered_of mem) left held
    → after ≡ copy_step d target source mem
unfolding copy_step
copy_done d target source mem came left copied held after come leave copy hold release = rw (release, hold, come, leave, copy)

pub ruleset removing = (rules, removed_as_found, remove_absent)
