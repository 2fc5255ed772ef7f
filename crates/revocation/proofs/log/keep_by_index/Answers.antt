use Rattle.std.proofs.Common.{◌≡◌, sym, ap, ◌∙◌, Bool, true, false, not, List, ℕ, ◌+◌, ◌<◌, ◌≤◌, rules, length, get_or, set, take}
use Rattle.base.specs.Sifted.{Sifting, sift_starts, sift_few, sift_ends, sift_room, sift_passes, sift_keeps}
use Rattle.revocation.specs.Log.{log_has, absent_of}
use Rattle.revocation.proofs.log.keep_by_index.Invariants.{absent}
use Rattle.revocation.proofs.log.keep_by_index.Goals as goal

module _ (lg pairs₀ : List ℕ) (count : ℕ) (pairs : List ℕ) (kept j : ℕ) (sifting : Sifting (absent lg) pairs₀ count pairs kept j) where
  ends : count ≤ j → take kept pairs ≡ absent_of (length lg) lg (take count pairs₀)
  unfolding absent_of
  ends = sift_ends (absent lg) pairs₀ count pairs kept j sifting

  module _ (l : j < count) (has : Bool) (e : has ≡ log_has (length lg) lg (get_or pairs j 0)) where
    passes : has ≡ true → Sifting (absent lg) pairs₀ count pairs kept (j + 1)
    passes yes' = sift_passes (absent lg) pairs₀ count pairs kept j sifting l (ap not (sym e ∙ yes'))

    keeps : has ≡ false → Sifting (absent lg) pairs₀ count (set pairs kept (get_or pairs j 0)) (kept + 1) (j + 1)
    keeps no' = sift_keeps (absent lg) pairs₀ count pairs kept j sifting l (ap not (sym e ∙ no'))

ruleset laws = (rules, sift_starts, sift_few, ends, sift_room, passes, keeps)

pub loop-j-preserved-then-has_indexed : goal.loop-j-preserved-then-has_indexed
loop-j-preserved-then-has_indexed c = search laws

pub loop-j-preserved : goal.loop-j-preserved
loop-j-preserved c = search laws

pub returns-clause-pairs_after : goal.returns-clause-pairs_after
returns-clause-pairs_after c = search laws
