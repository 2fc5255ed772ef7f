-- No step of revocation gives an id back, so none of its calls does (`Steady`): the next id and the recycled ids are as they were.
use Rattle.std.proofs.Common.{List, ap, ℕ, ◌≤◌, ◌<◌, arith}
use Rattle.manager_laws.proofs.laws.SameIds.{SameIds, lookup_ids}
use Rattle.manager_laws.proofs.laws.Spent.{NoneFreed, none_refl, none_trans, none_same}
use Rattle.registry.specs.Words.{recycled_at}
use Rattle.revocation_calls.proofs.laws.RevokingWays.{pairs_after, new_pair, pairs_with}
use Rattle.revocation_laws.proofs.laws.Steady.{Steady}
use Rattle.revocation_steps.specs.Revocation.{log_step}
use Rattle.revocation_steps.proofs.laws.CascadeSteps.{revoke_step, revoke_step_word}
use Rattle.revocation_steps.proofs.laws.LogSteps.{join_step}
use Rattle.revocation_steps.proofs.laws.QueueSteps.{notify_step_queues, free_step_queues}
use Rattle.revocation_steps.proofs.laws.Revoked.{revoke_step_recycled}
use Rattle.revocation_steps.proofs.laws.SameHoldings.{SameHoldings}
use Rattle.steps.specs.Steps.{add_step}
use Rattle.world.specs.Numbers.{registered_of, epoch_word}
use Rattle.world.specs.Sound.{SoundAt}
use Rattle.world.specs.declared.Numbers.{Numbers}

holdings_ids : (d : Numbers) (mem after : List ℕ) → SameHoldings d mem after → SameIds d mem after
holdings_ids d mem after same = record {
  same_next = same.same_word 5 (omega arith) (omega arith);
  same_count = same.same_word 12 (omega arith) (omega arith);
  same_recycled = λ j. ap (λ ws. recycled_at d.places ws j) same.same_registry;
}

module _ (d : Numbers) (mem : List ℕ) (sound : SoundAt d mem) where
  revoke_step_ids :
      (r : ℕ) → r < registered_of mem → pairs_after d mem r ≤ d.pairs → (time : ℕ) (listed : List ℕ)
      → SameIds d mem (revoke_step d r time listed mem)
  revoke_step_ids r there fits time listed = record {
    same_next = revoke_step_word d mem sound r there fits time listed 5 (omega arith) (omega arith) (omega arith) (omega arith);
    same_count = revoke_step_word d mem sound r there fits time listed 12 (omega arith) (omega arith) (omega arith) (omega arith);
    same_recycled = revoke_step_recycled d mem sound r there fits time listed;
  }

  -- A pair joins the log, and the epoch counts it.
  joined_ids : (token : ℕ) → pairs_with d mem token ≤ d.pairs
      → SameIds d mem (add_step epoch_word 1 (log_step d (new_pair d mem token) mem))
  joined_ids token fits = holdings_ids d mem _ (join_step d mem sound.long_enough (new_pair d mem token) fits 1).holdings

pub ids_steady : (d : Numbers) → Steady d (NoneFreed d)
ids_steady d = record {
  stays = λ mem sound. none_refl d mem;
  follows = none_trans d;
  looks = λ mem sound s there token. none_same d mem _ (lookup_ids d mem sound s there token);
  cascades = λ mem sound r there fits time listed. none_same d mem _ (revoke_step_ids d mem sound r there fits time listed);
  joins = λ mem sound token fits. none_same d mem _ (joined_ids d mem sound token fits);
  notifies = λ mem sound pid id time reason coded.
      none_same d mem _ (holdings_ids d mem _ (notify_step_queues d mem sound pid id time reason coded).holdings);
  frees = λ mem sound q l. none_same d mem _ (holdings_ids d mem _ (free_step_queues d mem sound q l).holdings);
}
