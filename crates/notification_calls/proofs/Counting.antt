-- The turns of the loops that count queues and notices.
use Rattle.std.proofs.Common.{Bool, true, false, List, ◌≡◌, refl, ap, ◌∙◌, ℕ, ◌+◌, ◌*◌, ◌<◌, ◌≤◌, arith, ltb}
use Rattle.base.specs.Below.{sum, one}
use Rattle.base.specs.SumLaws.{sum_goes}
use Rattle.steps.proofs.laws.Ready.{queues_ready_at}
use Rattle.world.specs.Sound.{SoundAt, lengths}
use Rattle.world.specs.declared.Numbers.{Numbers}
use mir.Val.{bool_byte}

byte_is_one : (b : Bool) → bool_byte b ≡ one b
byte_is_one true = refl
byte_is_one false = refl

byte_le : (b : Bool) → bool_byte b ≤ 1
byte_le true = omega arith
byte_le false = omega arith

module _ (d : Numbers) (mem : List ℕ) where
  -- Whether the queue at place q has notices.
  abbrev pub used_at : ℕ → ℕ
  used_at q = one (ltb 0 (lengths d mem q))

  module _ (q long : ℕ) (is : long ≡ lengths d mem q) where
    pub queue_counted :
        (used : ℕ) → (used ≤ q) × (used ≡ sum used_at q)
        → (used + bool_byte (ltb 0 long) ≤ q + 1) × (used + bool_byte (ltb 0 long) ≡ sum used_at (q + 1))
    queue_counted used (few, counted) = (
      omega (arith, byte_le (ltb 0 long)),
      sum_goes used_at q used (bool_byte (ltb 0 long)) counted (byte_is_one (ltb 0 long) ∙ ap (λ n. one (ltb 0 n)) is),
    )

    pub notices_counted :
        (notices : ℕ) → SoundAt d mem → q < d.queues → (notices ≤ 256 * q) × (notices ≡ sum (lengths d mem) q)
        → (notices + long ≤ 256 * (q + 1)) × (notices + long ≡ sum (lengths d mem) (q + 1))
    notices_counted notices sound l (few, counted) = (
      omega (arith, (queues_ready_at d mem sound).lengths q l),
      sum_goes (lengths d mem) q notices long counted is,
    )
