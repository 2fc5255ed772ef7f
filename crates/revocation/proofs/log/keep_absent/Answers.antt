-- `revocation::log::keep_absent` meets its contract: one pair stays where it is; for more, what is lent is the first n pairs of the log,
-- and fresh arrays index nothing.
use Rattle.std.proofs.Common.{◌≡◌, sym, ◌∙◌, Bool, true, false, List, [], ◌∷◌, ℕ, ◌<◌, ◌≤◌, arith, length, get_or, take, take-suc}
use Rattle.revocation.specs.Log.{log_has, absent_of}
use Rattle.revocation.specs.LogLaws.{absent_one, absent_take}
use Rattle.revocation.proofs.log.keep_absent.Goals as goal

module _ (n : ℕ) (lg pairs : List ℕ) (count : ℕ) (one : count ≡ 1) (some : 0 < length pairs) where
  single : take 1 pairs ≡ get_or pairs 0 0 ∷ []
  single = take-suc pairs 0 0 some

  module _ (has : Bool) (e : has ≡ log_has n lg (get_or pairs 0 0)) where
    had : has ≡ true → [] ≡ absent_of n lg (take count pairs)
    had yes' = rw (one, single, absent_one, sym e ∙ yes')

    lacked : has ≡ false → take 1 pairs ≡ absent_of n lg (take count pairs)
    lacked no' = rw (one, single, absent_one, sym e ∙ no')

module _ (n : ℕ) (lg : List ℕ) (fits : n ≤ length lg) where
  whole : (pairs kept : List ℕ) → kept ≡ absent_of (length (take n lg)) (take n lg) pairs → kept ≡ absent_of n lg pairs
  whole pairs kept e = e ∙ absent_take n lg fits pairs

pub returns-then-has_pair-clause-pairs_after : goal.returns-then-has_pair-clause-pairs_after
returns-then-has_pair-clause-pairs_after c = had _ _ _ _ c.if-count-eq1.true (omega arith) _ c.has_pair.ensures c.if-has_pair.true

pub returns-then-count-eq1-clause-pairs_after : goal.returns-then-count-eq1-clause-pairs_after
returns-then-count-eq1-clause-pairs_after c = lacked _ _ _ _ c.if-count-eq1.true (omega arith) _ c.has_pair.ensures c.if-has_pair.false

pub returns-then-n-le512-clause-pairs_after : goal.returns-then-n-le512-clause-pairs_after
returns-then-n-le512-clause-pairs_after c =
    let kept = c.keep_in.ensures in whole _ _ (omega arith) _ _ kept.pairs_after

pub returns-clause-pairs_after : goal.returns-clause-pairs_after
returns-clause-pairs_after c =
    let kept = c.keep_in-2.ensures in whole _ _ (omega arith) _ _ kept.pairs_after
