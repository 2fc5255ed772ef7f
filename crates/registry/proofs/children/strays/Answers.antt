use Rattle.std.proofs.Common.{◌≡◌, ℕ, suc, ◌+◌, ◌<◌, List, [], ◌∷◌, length, refl, ap, ◌∙◌, arith, rules}
use Rattle.base.specs.Below.{sum}
use Rattle.base.specs.SumLaws.{sum_ext, sum_split}
use Rattle.registry.specs.Children.{strays}
use Rattle.registry.proofs.Counting.{counting, counting_ends}
use Rattle.registry.proofs.children.strays.Invariants.{stray}
use Rattle.registry.proofs.children.strays.Goals as goal

strays_sum : (n : ℕ) (rg ids : List ℕ) → sum (stray n rg ids) (length ids) ≡ strays n rg ids
unfolding strays sum
strays_sum n rg [] = refl
strays_sum n rg (id ∷ ids) =
    let later : (j : ℕ) → j < length ids → stray n rg (id ∷ ids) (1 + j) ≡ stray n rg ids j =
    λ j l. let next : 1 + j ≡ suc j = omega arith in ap (stray n rg (id ∷ ids)) next in
    let whole : 1 + length ids ≡ suc (length ids) = omega arith in
    omega (
      arith,
      strays_sum n rg ids,
      sum_split (stray n rg (id ∷ ids)) 1 (length ids),
      sum_ext (λ j. stray n rg (id ∷ ids) (1 + j)) (stray n rg ids) (length ids) later,
      ap (sum (stray n rg (id ∷ ids))) whole,
    )

ruleset laws = (rules, counting)

pub loop-id-init : goal.loop-id-init
loop-id-init c = search laws

pub loop-id-preserved : goal.loop-id-preserved
loop-id-preserved c = search laws

pub returns : goal.returns
returns c = counting_ends _ _ _ _ c.loop-id.invariant c.loop-id-test.false ∙ strays_sum _ _ _
