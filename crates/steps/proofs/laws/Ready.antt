-- A sound memory has what the steps ask of it.
use Rattle.std.proofs.Common.{ℕ, ◌<◌, ◌≤◌, List, arith}
use Rattle.std.proofs.Math.Decide.{dec_lt}
use Rattle.std.proofs.Math.Logic.{by_cases}
use Rattle.space.specs.Sound.{SpaceOf}
use Rattle.space.proofs.laws.Tests.{space_exactly}
use Rattle.world.specs.Layout.{inside}
use Rattle.world.specs.Regions.{head, space, width_of, length_for, start_of, view}
use Rattle.world.specs.Sound.{SoundAt, lengths}
use Rattle.world.specs.Views.{length_view}
use Rattle.world.specs.declared.Numbers.{Numbers}
use Rattle.steps.specs.Ready.{Ready, QueuesReady}

pub head_fits : (d : Numbers) → 16 ≤ length_for d
unfolding start_of
head_fits d = omega (arith, inside d head tt)

-- Each space of a ready memory is sound, of its size.
pub ready_space : (d : Numbers) (mem : List ℕ) → Ready d mem → (s : ℕ) → s < d.spaces → SpaceOf d.most (view d (space s) mem)
unfolding width_of
ready_space d mem ready s l = record {
  sound = (space_exactly d.most (view d (space s) mem)).0 (ready.spaces_tested s l);
  size = length_view d (space s) mem l ready.fits.long_enough;
  range = omega (arith, ready.fits.in_range.most);
}

module _ (d : Numbers) (mem : List ℕ) (sound : SoundAt d mem) where
  pub is_space : (s : ℕ) → s < d.spaces → SpaceOf d.most (view d (space s) mem)
  unfolding width_of
  is_space s l = record {
    sound = sound.spaces s l;
    size = length_view d (space s) mem l sound.long_enough;
    range = omega (arith, sound.in_range.most);
  }

  pub ready_at : Ready d mem
  ready_at = record {
    fits = record { in_range = sound.in_range; long_enough = sound.long_enough };
    head = omega (arith, head_fits d, sound.long_enough);
    registered_fit = sound.registered_fit;
    recycled_fit = sound.recycled_fit;
    spaces_tested = λ s l. (space_exactly d.most (view d (space s) mem)).1 (sound.spaces s l);
  }

  pub queues_ready_at : QueuesReady d mem
  queues_ready_at = record {
    fits = ready_at.fits;
    firsts = λ q l used. (sound.queues q l used).coded_first;
    lengths = λ q l. by_cases (dec_lt 0 (lengths d mem q)) (λ used. (sound.queues q l used).short) (λ free. omega arith);
  }
