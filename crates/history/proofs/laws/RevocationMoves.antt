-- No step of revocation raises a potential, so none of its calls does (`Steady`): it leaves every space as it was, but for the lookup of a
-- held revoke.
use Rattle.std.proofs.Common.{ℕ, ◌<◌}
use Rattle.revocation_calls.proofs.laws.RevokingWays.{new_pair}
use Rattle.revocation_laws.proofs.laws.Steady.{Steady}
use Rattle.revocation_steps.proofs.laws.CascadeSteps.{revoke_step_space}
use Rattle.revocation_steps.proofs.laws.LogSteps.{join_step}
use Rattle.revocation_steps.proofs.laws.QueueSteps.{notify_step_queues, free_step_queues}
use Rattle.world.specs.declared.Numbers.{Numbers}
use Rattle.history.proofs.laws.Paid.{Quiet, quiet_refl, quiet_same, quiet_trans, lookup_quiet}

module _ (d : Numbers) (s : ℕ) (inside : s < d.spaces) where
  pub quiet_steady : Steady d (λ mem after. Quiet d s mem after)
  quiet_steady = record {
    stays = λ mem sound. quiet_refl d s mem;
    follows = quiet_trans d s;
    looks = lookup_quiet d s inside;
    cascades = λ mem sound r there fits time listed.
        quiet_same d s mem _ (revoke_step_space d mem sound r there fits time listed s inside);
    joins = λ mem sound token fits.
        quiet_same d s mem _ ((join_step d mem sound.long_enough (new_pair d mem token) fits 1).holdings.same_space s inside);
    notifies = λ mem sound pid id time reason coded.
        quiet_same d s mem _ ((notify_step_queues d mem sound pid id time reason coded).holdings.same_space s inside);
    frees = λ mem sound q l. quiet_same d s mem _ ((free_step_queues d mem sound q l).holdings.same_space s inside);
  }
