-- What is known of a memory that was found sound: its numbers are those of a sound memory, ready for every step.
use Rattle.std.proofs.Common.{◌≡◌, ℕ, ◌≤◌, Bool, true, List, length, sym, ◌∙◌, arith, rules}
use Rattle.world.specs.Numbers.{numbers_of}
use Rattle.world.specs.Regions.{length_for}
use Rattle.world.specs.Sound.{SoundAt, sound_test}
use Rattle.world.specs.SoundLaws.{sound_exactly}
use Rattle.world.specs.declared.Numbers.{Numbers}
use Rattle.steps.specs.Ready.{Ready}
use Rattle.steps.proofs.laws.Ready.{ready_at}

module _ (mem : List ℕ) (sound : Bool) (looked : sound ≡ sound_test mem) (good : sound ≡ true) where
  pub head_there : 16 ≤ length mem
  unfolding length_for
  head_there = omega (arith, ((sound_exactly mem).0 (sym looked ∙ good)).long_enough)

  module _ (d : Numbers) (numbers : d ≡ numbers_of mem) where
    pub found_sound : SoundAt d mem
    found_sound = rw numbers ((sound_exactly mem).0 (sym looked ∙ good))

    pub found_ready : Ready d mem
    found_ready = ready_at d mem found_sound

pub ruleset entering = (rules, head_there, found_sound, found_ready)
