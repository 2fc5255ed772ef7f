-- The sums that the offsets of regions.rt are, in the code's words: they fit a word, and they are the starts of the regions.
use Rattle.std.proofs.Common.{◌≡◌, refl, ℕ, ◌+◌, ◌*◌, ◌^◌, ◌≤◌, ◌<◌, le_of_lt, mul-le-mul_right, arith, rules}
use mir.Syntax.{w64}
use mir.Val.{Fits}
use Rattle.world.specs.Layout.{inside, length-le}
use Rattle.world.specs.Numbers.{InRange}
use Rattle.world.specs.Regions.{space, registry, width_of, length_for, start_of, StartsAt}
use Rattle.world.specs.declared.Numbers.{Numbers}

module _ (d : Numbers) (ok : InRange d) where
  module _ (s w : ℕ) (is : w ≡ width_of d) where
    past_spaces : s ≤ d.spaces → 16 + s * w ≤ length_for d
    unfolding length_for
    past_spaces l = rw is (omega (arith, mul-le-mul_right (width_of d) l))

    pub words_fit : s ≤ d.spaces → Fits w64 (s * w)
    words_fit l = omega (arith, past_spaces l, length-le d ok)

    pub start_fits : s ≤ d.spaces → Fits w64 (16 + s * w)
    start_fits l = omega (arith, past_spaces l, length-le d ok)

    pub space_starts : s < d.spaces → StartsAt d (space s) (16 + s * w)
    unfolding start_of
    space_starts l = rw is (record { is = refl; fits = inside d (space s) l })

    pub registry_starts : s ≡ d.spaces → StartsAt d registry (16 + s * w)
    unfolding start_of
    registry_starts e = rw (is, e) (record { is = refl; fits = inside d registry tt })

-- No place of the memory is past a word.
pub length_fits : (d : Numbers) → InRange d → length_for d < 2 ^ 64
length_fits d ok = omega (arith, length-le d ok)

pub ruleset starts = (rules, le_of_lt, words_fit, start_fits, space_starts, registry_starts)
