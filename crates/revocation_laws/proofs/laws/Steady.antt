-- What each step keeps, each call keeps. A relation between a memory and a later one that holds of the steps of revocation, and from step
-- to step, holds of every call that revokes and of every call for notifications: of the calls it need not be proved one by one. Sound.antt
-- takes it for soundness, `history` for the ids and for the moves of a space.
use Rattle.std.proofs.Common.{List, [], ◌∷◌, ℕ, ◌+◌, ◌≤◌, ◌<◌, ltb-true, eqb, ltb}
use Rattle.answers.specs.Number.{number_of}
use Rattle.base.specs.Below.{one}
use Rattle.notification_calls.specs.Calls.{notify_out, without, drain_out, cleanup_out}
use Rattle.revocation_calls.specs.Calls.{revoke_out, revoke_capability_out, revoke_held_out, revoke_batch_out}
use Rattle.revocation_calls.specs.Revoking.{revoking_token, revoking_each}
use Rattle.revocation_calls.proofs.laws.Kept.{revoking_token_kept}
use Rattle.revocation_calls.proofs.laws.RevokingWays.{pairs_after, new_pair, pairs_with, revoking_leaves, token_leaves}
use Rattle.revocation_steps.specs.Revocation.{log_step, queue_for, notify_step, free_step}
use Rattle.revocation_steps.proofs.laws.CascadeSteps.{revoke_step}
use Rattle.steps.specs.Replies.{Left, WithArea, Reply}
use Rattle.steps.specs.Steps.{lookup_step, add_step}
use Rattle.base.specs.Cases.{pick_by_cases}
use Rattle.steps.proofs.laws.Entered.{world_by_cases}
use Rattle.steps.proofs.laws.SpaceSteps.{lookup_step_kept}
use Rattle.world.specs.Numbers.{numbers_of, registered_of, epoch_word}
use Rattle.world.specs.Sound.{SoundAt, Sound}
use Rattle.world.specs.declared.Numbers.{Numbers}
use Rattle.revocation_laws.proofs.laws.NoticeWays.{notify_by_cases, drain_by_cases}
use Rattle.revocation_laws.proofs.laws.Ways.{revoke_by_cases, revoke_capability_by_cases, held_by_cases, batch_by_cases}

pub record Steady (d : Numbers) (R : List ℕ → List ℕ → Type 0) : Type 0 where
  -- Nothing is done; one thing after another.
  pub stays : (mem : List ℕ) → SoundAt d mem → R mem mem
  pub follows : (mem mid after : List ℕ) → R mem mid → R mid after → R mem after
  -- The lookup of a held revoke; a cascade; the pair of a token joins the log, and the epoch counts it.
  pub looks : (mem : List ℕ) → SoundAt d mem → (s : ℕ) → s < d.spaces → (token : ℕ) → R mem (lookup_step d s token mem)
  pub cascades :
      (mem : List ℕ) → SoundAt d mem → (r : ℕ) → r < registered_of mem → pairs_after d mem r ≤ d.pairs
      → (time : ℕ) (listed : List ℕ) → R mem (revoke_step d r time listed mem)
  pub joins :
      (mem : List ℕ) → SoundAt d mem → (token : ℕ) → pairs_with d mem token ≤ d.pairs
      → R mem (add_step epoch_word 1 (log_step d (new_pair d mem token) mem))
  -- A notice for a pid; a queue that is no more.
  pub notifies :
      (mem : List ℕ) → SoundAt d mem → (pid id time reason : ℕ) → reason ≤ 3 → R mem (notify_step d pid id time reason mem)
  pub frees : (mem : List ℕ) → SoundAt d mem → (q : ℕ) → q < d.queues → R mem (free_step d q mem)

-- ---- revocations

module _ (d : Numbers) (R : List ℕ → List ℕ → Type 0) (steady : Steady d R) (time : ℕ) (listed : List ℕ) where
  module _ (mem : List ℕ) (sound : SoundAt d mem) (token : ℕ) where
    token_steady : R mem (revoking_token d token time listed mem).memory
    token_steady =
        token_leaves d mem (R mem) (steady.stays mem sound) token time listed
        (λ inside fits. steady.cascades mem sound _ inside fits time listed)
        (steady.joins mem sound token)

  each_steady :
      (tokens : List ℕ) (gave : ℕ) (mem : List ℕ) → SoundAt d mem → R mem (revoking_each d tokens time listed gave mem).memory
  unfolding revoking_each
  each_steady [] gave mem sound = steady.stays mem sound
  each_steady (token ∷ tokens) gave mem sound =
      let left : Left Reply = revoking_token d token time listed mem in
      steady.follows mem left.memory _ (token_steady mem sound token)
      (each_steady tokens (gave + one (eqb (number_of left.reply.answer) 0)) left.memory
      (revoking_token_kept d mem sound token time listed).sound)

-- ---- the calls

module _ (mem : List ℕ) (sound : Sound mem) (R : List ℕ → List ℕ → Type 0) (steady : Steady (numbers_of mem) R) where
  abbrev d : Numbers
  d = numbers_of mem

  abbrev Leaves : Left Reply → Type 0
  Leaves out = R mem out.memory

  as_it_is : R mem mem
  as_it_is = steady.stays mem sound

  pub revoke_steady : (token time : ℕ) (listed : List ℕ) → R mem (revoke_out mem token time listed).memory
  revoke_steady token time listed =
      revoke_by_cases mem time listed Leaves (λ bad. as_it_is) token (λ sound many. as_it_is) (λ sound few outside. as_it_is)
      (λ sound few inside.
      revoking_leaves d mem (R mem) as_it_is _ time listed (λ fits. steady.cascades mem sound _ inside fits time listed))

  pub revoke_capability_steady : (token time : ℕ) (listed : List ℕ) → R mem (revoke_capability_out mem token time listed).memory
  revoke_capability_steady token time listed =
      revoke_capability_by_cases mem time listed Leaves (λ bad. as_it_is) token (λ sound many. as_it_is)
      (λ sound few. token_steady d R steady time listed mem sound token)

  pub held_revoke_steady : (s token time : ℕ) (listed : List ℕ) → R mem (revoke_held_out mem s token time listed).memory
  held_revoke_steady s token time listed =
      let looks : s < d.spaces → R mem (lookup_step d s token mem) = λ there. steady.looks mem sound s there token in
      held_by_cases mem time listed Leaves (λ bad. as_it_is) s token (λ sound far. as_it_is) (λ sound there many. as_it_is)
      (λ sound there few none. looks there) (λ sound there few e is lacks. looks there)
      (λ sound there few e is has.
      steady.follows mem _ _ (looks there)
      (token_steady d R steady time listed _ (lookup_step_kept d mem sound s there token).sound token))

  pub batch_steady : (tokens : List ℕ) (time : ℕ) (listed : List ℕ) → R mem (revoke_batch_out mem tokens time listed).memory
  batch_steady tokens time listed =
      batch_by_cases mem time listed Leaves (λ bad. as_it_is) tokens (λ sound over. as_it_is) (λ sound fits many. as_it_is)
      (λ sound fits few. each_steady d R steady time listed tokens 0 mem sound)

  pub notify_steady : (pid id reason time : ℕ) → R mem (notify_out mem pid id reason time).memory
  notify_steady pid id reason time =
      notify_by_cases mem pid id reason time Leaves (λ bad. as_it_is) (λ sound over. as_it_is) (λ sound fits uncoded. as_it_is)
      (λ sound fits coded full. as_it_is) (λ sound fits coded room. steady.notifies mem sound pid id time reason coded)

  without_steady : (q : ℕ) → R mem (without (numbers_of mem) mem q)
  without_steady q =
      pick_by_cases (R mem) _ _ (ltb q d.queues) (λ l. steady.frees mem sound q (ltb-true q d.queues l)) (λ none. as_it_is)

  pub drain_steady : (pid : ℕ) (area : List ℕ) → R mem (drain_out mem pid area).memory
  drain_steady pid area =
      drain_by_cases mem pid area (λ (out : Left WithArea). R mem out.memory) (λ bad. as_it_is) (λ sound short. as_it_is)
      (λ sound fits. without_steady (queue_for d mem pid))

  pub cleanup_steady : (pid : ℕ) → R mem (cleanup_out mem pid).memory
  unfolding cleanup_out
  cleanup_steady pid = world_by_cases Leaves _ mem _ (λ bad. as_it_is) (λ sound. without_steady (queue_for d mem pid))
