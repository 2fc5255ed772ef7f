use Rattle.std.proofs.Common.{◌≡◌, refl, sym, ◌∙◌, Bool, true, false, List, ℕ, ◌+◌, ◌<◌, ◌≤◌, add-one, arith, rules, ap, ltb, not, eqb, length, get_or, take, get_or-take}
use Rattle.base.specs.Below.{all}
use Rattle.base.specs.AllLaws.{all_none, all_more, all_done, all_broken, all_ext}
use Rattle.base.specs.Choose.{both}
use Rattle.registry.specs.Words.{id_at, recycled_at}
use Rattle.registry.specs.Sound.{unregistered_id}
use Rattle.registry_look.specs.Look.{recycled_id_test}
use Rattle.registry_look.proofs.recycled_sound.Invariants.{Done}
use Rattle.registry_look.proofs.recycled_sound.Goals as goal

starts : (places n m next : ℕ) (rg : List ℕ) → Done places n m next rg 0 0
starts places n m next rg = record { inside = omega arith; last_is = refl; passed = all_none (recycled_id_test places n next rg) }

-- The ids that are indexed are the registry's.
module _ (ids rg : List ℕ) (these : ids ≡ take (length ids) rg) where
  id_is : (k : ℕ) → k < length ids → id_at ids k ≡ id_at rg k
  id_is k l = ap (λ xs. get_or xs k 0) these ∙ get_or-take (length ids) rg k 0 l

  of_these : (id : ℕ) → unregistered_id (length ids) (id_at ids) id ≡ unregistered_id (length ids) (id_at rg) id
  of_these id =
      all_ext (length ids) (λ k. not (eqb id (id_at ids k))) (λ k. not (eqb id (id_at rg k))) (λ k l. rw (id_is k l))

module _
    (places m next : ℕ) (ids rg : List ℕ) (these : ids ≡ take (length ids) rg) (last j : ℕ)
    (done : Done places (length ids) m next rg last j)
  where
    abbrev n : ℕ
    n = length ids

    ends : m ≤ j → true ≡ all m (recycled_id_test places n next rg)
    ends u = all_done j m (recycled_id_test places n next rg) done.passed done.inside u

    module _ (l : j < m) (r : Bool)
        (e : r ≡ both (ltb last (recycled_at places rg j))
        (both (ltb (recycled_at places rg j) next) (unregistered_id n (id_at ids) (recycled_at places rg j)))) where
      tested : recycled_id_test places n next rg j ≡ r
      unfolding recycled_id_test
      tested = sym (e ∙ rw (done.last_is, of_these ids rg these (recycled_at places rg j)))

      breaks : r ≡ false → false ≡ all m (recycled_id_test places n next rg)
      breaks no' = all_broken j m (recycled_id_test places n next rg) l (tested ∙ no')

      goes : (v : ℕ) → v ≡ recycled_at places rg j → r ≡ true → Done places n m next rg v (j + 1)
      goes v this yes' = record {
        inside = omega arith;
        last_is = rw (add-one, this);
        passed = all_more j (recycled_id_test places n next rg) done.passed (tested ∙ yes');
      }

ruleset laws = (rules, starts, ends, breaks, goes)

pub loop-j-init : goal.loop-j-init
loop-j-init c = search laws

pub returns-then-not-recycled_id_sound : goal.returns-then-not-recycled_id_sound
returns-then-not-recycled_id_sound c = search laws

pub loop-j-preserved : goal.loop-j-preserved
loop-j-preserved c = search laws
