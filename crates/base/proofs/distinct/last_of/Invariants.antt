-- `base::distinct::last_of` meets its contract. The walk's invariant: the last place that holds the word is below `at`, and the place
-- that `at` names is of the word's bucket. The measure is `at`, since a link goes down.
use Rattle.std.proofs.Common.{◌≡◌, List, ℕ, suc, ◌≤◌, length, get_or}
use Rattle.base.specs.Below.{last}
use Rattle.base.specs.Chain.{bucket_of}
use Rattle.base.specs.Place.{holds}
use Rattle.base.proofs.distinct.last_of.Given as goal

-- The walk for the word, of n buckets, among the places below j, is at the place before `at`, or at its end.
pub record Walk (xs : List ℕ) (n j word at : ℕ) : Type 0 where
  pub below : at ≤ j
  pub left : last (holds xs word) at ≡ last (holds xs word) j
  pub own : (k : ℕ) → at ≡ suc k → bucket_of n (get_or xs k 0) ≡ bucket_of n word

abbrev pub invariant-loop-at : goal.invariant-loop-at
invariant-loop-at l = Walk l.xs (length l.heads) l.j l.word l.at

abbrev pub decreases-loop-at : goal.decreases-loop-at
decreases-loop-at l = l.at
