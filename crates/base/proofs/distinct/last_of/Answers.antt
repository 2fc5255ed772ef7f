use Rattle.std.proofs.Common.{◌≡◌, refl, sym, ap, ◌∙◌, true, List, ◌≢◌, ℕ, suc, ◌-◌, ◌<◌, ◌≤◌, le_refl, arith, rules, eqb-true, eq-eqb, ne_eqb, length, get_or}
use Rattle.base.specs.Below.{last}
use Rattle.base.specs.LastLaws.{last_here, last_past, last_le, last_passes, last_last}
use Rattle.base.specs.Chain.{bucket_of, in_bucket, Chained}
use Rattle.base.specs.Place.{holds, last_of}
use Rattle.base.proofs.distinct.last_of.Invariants.{Walk}
use Rattle.base.proofs.distinct.last_of.Goals as goal

-- What holds the word is of its bucket, so the walk may start from the bucket's last place below m.
from : (xs : List ℕ) (n j word m at : ℕ) → m ≤ j → last (holds xs word) m ≡ last (holds xs word) j
    → at ≡ last (in_bucket xs n (bucket_of n word)) m → Walk xs n j word at
from xs n j word m at l h e =
    let own : (k : ℕ) → holds xs word k ≡ true → in_bucket xs n (bucket_of n word) k ≡ true =
    λ k t. eq-eqb (bucket_of n (get_or xs k 0)) (bucket_of n word) (ap (bucket_of n) (eqb-true (get_or xs k 0) word t)) in
    record {
      below = omega (arith, last_le (in_bucket xs n (bucket_of n word)) m);
      left = rw e (last_last (holds xs word) (in_bucket xs n (bucket_of n word)) own m ∙ h);
      own = λ k u. eqb-true (bucket_of n (get_or xs k 0)) (bucket_of n word)
          (last_passes (in_bucket xs n (bucket_of n word)) m k (sym e ∙ u));
    }

-- ---- the walk's turns, in the code's words
module _ (xs heads prevs : List ℕ) (j word : ℕ) (chained : Chained xs heads prevs j) where
  starts : (b at : ℕ) → b ≡ bucket_of (length heads) word → b < length heads → at ≡ get_or heads b 0 → Walk xs (length heads) j word at
  starts b at e l h = from xs (length heads) j word j at (le_refl j) refl (h ∙ chained.head b l ∙ rw e refl)

  module _ (at : ℕ) (walk : Walk xs (length heads) j word at) where
    ends : at ≤ 0 → 0 ≡ last_of xs word j
    unfolding last last_of
    ends l = let none : at ≡ 0 = omega arith in rw none at walk.left

    module _ (some : 0 < at) where
      this : at ≡ suc (at - 1)
      this = omega arith

      link : get_or prevs (at - 1) 0 ≡ last (in_bucket xs (length heads) (bucket_of (length heads) word)) (at - 1)
      link = chained.link (at - 1) (omega (arith, walk.below)) ∙ rw (walk.own (at - 1) this) refl

      met : get_or xs (at - 1) 0 ≡ word → at ≡ last_of xs word j
      unfolding last_of
      met e = rw this (sym (last_here (holds xs word) (at - 1) (eq-eqb (get_or xs (at - 1) 0) word e))) ∙ walk.left

      goes : (next : ℕ) → get_or xs (at - 1) 0 ≢ word → next ≡ get_or prevs (at - 1) 0 → Walk xs (length heads) j word next
      goes next d e =
          from xs (length heads) j word (at - 1) next (omega (arith, walk.below))
          (sym (last_past (holds xs word) (at - 1) (ne_eqb (get_or xs (at - 1) 0) word d)) ∙ rw (← this) walk.left)
          (e ∙ link)

      falls : (next : ℕ) → next ≡ get_or prevs (at - 1) 0 → next < at
      falls next e = omega (arith, link, last_le (in_bucket xs (length heads) (bucket_of (length heads) word)) (at - 1))

ruleset laws = (rules, starts, ends, met, goes, falls)

pub loop-at-init : goal.loop-at-init
loop-at-init c = search laws

pub returns-then-xs-k : goal.returns-then-xs-k
returns-then-xs-k c = search laws

pub loop-at-smaller : goal.loop-at-smaller
loop-at-smaller c = search laws

pub loop-at-preserved : goal.loop-at-preserved
loop-at-preserved c = search laws

pub returns : goal.returns
returns c = search laws
