use Rattle.std.proofs.Common.{◌≡◌, refl, sym, ◌∙◌, true, false, List, ℕ, ◌+◌, ◌<◌, ◌≤◌, le_antisymm, arith, rules, eq-eqb, ne_eqb, eqb, length, get_or, set, length-set}
use Rattle.base.specs.AllLaws.{all_none, all_more, all_broken}
use Rattle.base.specs.LastLaws.{last_none}
use Rattle.base.specs.Distinct.{is_new, differ_test, all_different}
use Rattle.base.specs.Chain.{bucket_of, Chained, chained_more}
use Rattle.base.specs.Place.{holds, last_of}
use Rattle.base.proofs.distinct.Index.of.Invariants.{words, Done}
use Rattle.base.proofs.distinct.Index.of.Goals as goal

starts : (xs heads prevs : List ℕ) → Chained xs heads prevs 0 → Done xs heads prevs heads prevs 0
starts xs heads prevs chained =
    record { chained = chained; same_heads = refl; same_prevs = refl; new = all_none (is_new (words xs)) }

module _ (xs heads₀ prevs₀ heads prevs : List ℕ) (j : ℕ) (done : Done xs heads₀ prevs₀ heads prevs j) where
  module _ (at : ℕ) (e : at ≡ last_of xs (get_or xs j 0) j) (l : j < length xs) where
    fresh : is_new (words xs) j ≡ eqb at 0
    unfolding is_new last_of
    fresh = rw e (last_none (holds xs (get_or xs j 0)) j)

    goes : (b : ℕ) → b ≡ bucket_of (length heads) (get_or xs j 0) → b < length heads → at ≤ 0
        → Done xs heads₀ prevs₀ (set heads b (j + 1)) (set prevs j (get_or heads b 0)) (j + 1)
    goes b h u none = record {
      chained = chained_more xs heads prevs j b done.chained l h u;
      same_heads = simp length-set done.same_heads;
      same_prevs = simp length-set done.same_prevs;
      new = all_more j (is_new (words xs)) done.new (fresh ∙ eq-eqb at 0 (omega arith));
    }

    fails : 0 < at → false ≡ all_different xs
    unfolding differ_test
    fails some = all_broken j (length xs) (is_new (words xs)) l (fresh ∙ ne_eqb at 0 (λ q. omega arith))

  module _ (inside : j ≤ length xs) (u : length xs ≤ j) where
    end : j ≡ length xs
    end = le_antisymm inside u

    ends : true ≡ all_different xs
    unfolding differ_test
    ends = sym (rw end at done.new)

    whole : Chained xs heads prevs (length xs)
    whole = rw end at done.chained

ruleset laws = (rules, starts, goes, fails, ends, whole)

pub loop-j-init : goal.loop-j-init
loop-j-init c = search laws

pub returns-then-last_of-gt0-clause-value : goal.returns-then-last_of-gt0-clause-value
returns-then-last_of-gt0-clause-value c = search laws

pub loop-j-preserved : goal.loop-j-preserved
loop-j-preserved c = search laws

pub returns-clause-value : goal.returns-clause-value
returns-clause-value c = search laws
