-- Document 01, "Revocation": unregistered, through `revoke_capability`: the token's pair joins the log if absent, epoch plus one, 0.
-- Nothing else changes. A held revoke comes to it by way of a counted lookup.
use Rattle.std.proofs.Common.{true, List, [], ◌∷◌, ◌↔◌, ◌≢◌, ◌⊎◌, inl, inr, ⊎_elim, ◌≡◌, ap, ℕ, ◌+◌, ◌%◌, ◌^◌, ◌≤◌, ◌<◌, arith, length, get_or, take}
use Rattle.answers.specs.Number.{number_of}
use Rattle.answers.specs.Answer.{Done}
use Rattle.base.specs.Distinct.{Differ}
use Rattle.base.specs.Members.{in_one}
use Rattle.revocation.specs.Log.{pair_of, log_has}
use Rattle.revocation.specs.LogLaws.{take_appended, has_joined}
use Rattle.revocation_steps.specs.Revocation.{log_step}
use Rattle.revocation_steps.proofs.laws.LogSteps.{PairsJoined, join_step}
use Rattle.steps.specs.Replies.{Left, Reply}
use Rattle.steps.specs.Steps.{space_of, lookup_step, place_in, add_step}
use Rattle.steps.proofs.laws.Kept.{Kept}
use Rattle.steps.proofs.laws.SpaceSteps.{lookup_step_kept}
use Rattle.token.specs.Token.{id_of, generation_of}
use Rattle.world.specs.Numbers.{numbers_of, epoch_of, registered_of, logged_of, epoch_word}
use Rattle.world.specs.Regions.{registry, log, queue, view}
use Rattle.world.specs.Sound.{log_pairs, SoundAt}
use Rattle.world.specs.Views.{length_view}
use Rattle.world.specs.declared.Numbers.{Numbers}
use Rattle.revocation_calls.specs.Calls.{revoke_capability_out, revoke_held_out}
use Rattle.revocation_calls.specs.Revoking.{logging_token}
use Rattle.revocation_laws.proofs.laws.Given.{revoke_capability_listed, held_listed}
use Rattle.revocation_calls.proofs.laws.Kept.{logging_kept}
use Rattle.revocation_calls.proofs.laws.RevokingWays.{new_pair, pairs_with, logging_by_cases}

pub record OnlyLogged (d : Numbers) (pair : ℕ) (mem after : List ℕ) : Type 0 where
  pub same_registry : view d registry after ≡ view d registry mem
  pub same_spaces : (s : ℕ) → s < d.spaces → space_of d s after ≡ space_of d s mem
  pub same_queue : (q : ℕ) → q < d.queues → view d (queue q) after ≡ view d (queue q) mem
  -- The log begins with what it was; it has that, the pair, and nothing else, each once.
  pub log_before : take (logged_of mem) (view d log after) ≡ take (logged_of mem) (view d log mem)
  pub log_has_pair :
      (p : ℕ)
      → (log_has (logged_of after) (view d log after) p ≡ true) ↔ ((log_has (logged_of mem) (view d log mem) p ≡ true) ⊎ (pair ≡ p))
  pub log_once : Differ (logged_of after) (log_pairs d after)
  -- The epoch counts one, and no other word of the head but the number of logged pairs changes.
  pub epoch : epoch_of after ≡ (epoch_of mem + 1) % 2 ^ 64
  pub others : (j : ℕ) → j < 16 → j ≢ epoch_word → j ≢ 13 → get_or after j 0 ≡ get_or mem j 0

module _ (d : Numbers) (mem : List ℕ) (sound : SoundAt d mem) (token : ℕ) where
  abbrev pair : ℕ
  pair = pair_of (id_of token) (generation_of token)

  abbrev new : List ℕ
  new = new_pair d mem token

  abbrev n : ℕ
  n = logged_of mem

  abbrev lg : List ℕ
  lg = view d log mem

  module _ (fits : pairs_with d mem token ≤ d.pairs) where
    abbrev after : List ℕ
    after = add_step epoch_word 1 (log_step d new mem)

    joined : PairsJoined d new 1 mem after
    joined = join_step d mem sound.long_enough new fits 1

    room : n + length new ≤ length lg
    room = omega (arith, length_view d log mem tt sound.long_enough)

    logged_only : Kept d mem after → OnlyLogged d pair mem after
    logged_only kept = record {
      same_registry = joined.holdings.same_registry;
      same_spaces = joined.holdings.same_space;
      same_queue = joined.same_queue;
      log_before = rw joined.new_log (take_appended n new lg room);
      log_has_pair = λ p.
          let has = has_joined n (pair ∷ []) lg room p in
          rw (joined.logged, joined.new_log) (
            λ h. ⊎_elim inl (λ one. inr ((in_one pair p).0 one)) (has.0 h),
            λ h. has.1 (⊎_elim inl (λ e. inr ((in_one pair p).1 e)) h),
          );
      log_once = kept.sound.pairs_differ;
      epoch = joined.epoch;
      others = joined.others;
    }

  listing_means : (logging_token d token mem).reply.answer ≡ Done → OnlyLogged d pair mem (logging_token d token mem).memory
  listing_means e =
      logging_by_cases d mem
      (λ (out : Left Reply). out.reply.answer ≡ Done → Kept d mem out.memory → OnlyLogged d pair mem out.memory) token
      (λ full e. absurd (omega (arith, ap number_of e)))
      (λ fits e. logged_only fits)
      e (logging_kept d mem sound token)

-- ---- the calls

pub revoke_capability_unregistered :
    (mem : List ℕ) (token time : ℕ) (listed : List ℕ) → registered_of mem ≤ place_in (numbers_of mem) mem (id_of token)
    → (revoke_capability_out mem token time listed).reply.answer ≡ Done
    → OnlyLogged (numbers_of mem) (pair_of (id_of token) (generation_of token)) mem (revoke_capability_out mem token time listed).memory
revoke_capability_unregistered mem token time listed outside =
    revoke_capability_listed mem token time listed (OnlyLogged (numbers_of mem) (pair_of (id_of token) (generation_of token)) mem) outside
    (λ sound. listing_means (numbers_of mem) mem sound token)

-- By a token that a space holds: the same, from the memory with the lookup counted.
pub held_unregistered :
    (mem : List ℕ) (token time : ℕ) (listed : List ℕ) → registered_of mem ≤ place_in (numbers_of mem) mem (id_of token)
    → (s : ℕ) → (revoke_held_out mem s token time listed).reply.answer ≡ Done
    → OnlyLogged (numbers_of mem) (pair_of (id_of token) (generation_of token)) (lookup_step (numbers_of mem) s token mem)
    (revoke_held_out mem s token time listed).memory
held_unregistered mem token time listed outside s =
    let d : Numbers = numbers_of mem in
    let looked : List ℕ = lookup_step d s token mem in
    held_listed mem token time listed (OnlyLogged d (pair_of (id_of token) (generation_of token)) looked) s outside
    (λ sound there. listing_means d looked (lookup_step_kept d mem sound s there token).sound token)
