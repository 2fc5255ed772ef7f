-- Opening: 21 first (a number out of range, a quota over M, a wrong count of quotas), then 26 for a short length only. An opening
-- writes the head, the first eight words of each space and the length of each queue; every other word stays as it was.
use Rattle.std.specs.Prelude.{Bool, List, [], ◌∷◌, ◌++◌, ◌≡◌, ℕ, ◌≤◌, ◌<◌, eqb, leb, get_or, drop, set, true, not, length}
use Rattle.std.proofs.Common.{arith, leb-true, le-leb, eqb-true, eq-eqb}
use Rattle.answers.specs.Answer.{Answer, Done, BadField, BadWorld}
use Rattle.base.specs.AllLaws.{all_at, all_make}
use Rattle.base.specs.Below.{all}
use Rattle.base.specs.Choose.{both, both_left, both_right, both_make, when}
use Rattle.world.specs.Numbers.{InRange, in_range_test, in_range, in_range_passes}
use Rattle.world.specs.Regions.{head, space, queue, length_for, on_region, on_each}
use Rattle.world.specs.declared.Numbers.{Numbers}

-- An answer and the memory that the call leaves.
pub record OpenOut : Type 0 where
  pub answer : Answer
  pub memory : List ℕ

-- next is 1; epoch, statistics and counts are 0.
unfoldable pub open_head : Numbers → List ℕ
open_head d =
    d.spaces ∷ d.most ∷ d.places ∷ d.pairs ∷ d.queues ∷ 1 ∷ 0 ∷ 0 ∷ 0 ∷ 0 ∷ 0 ∷ 0 ∷ 0 ∷ 0 ∷ 0 ∷ 0 ∷ []

-- A space with its quota and nothing in it.
unfoldable pub open_space : ℕ → List ℕ → List ℕ
open_space quota sp = (quota ∷ 0 ∷ 0 ∷ 0 ∷ 0 ∷ 0 ∷ 0 ∷ 0 ∷ []) ++ drop 8 sp

-- Every space opened.
abbrev pub open_spaces : Numbers → List ℕ → ℕ → List ℕ → List ℕ
open_spaces d quotas n mem = on_each d space (λ s. open_space (get_or quotas s 0)) n mem

-- Every queue free.
abbrev pub open_queues : Numbers → ℕ → List ℕ → List ℕ
open_queues d n mem = on_each d queue (λ q qu. set qu 2 0) n mem

unfoldable pub opened : Numbers → List ℕ → List ℕ → List ℕ
opened d quotas mem =
    open_queues d d.queues (open_spaces d quotas d.spaces (on_region d head (λ hd. open_head d) mem))

-- The record of an opening is good: numbers in range, one quota a space, each at most M.
pub record Good (d : Numbers) (quotas : List ℕ) : Type 0 where
  pub in_range : InRange d
  pub one_each : length quotas ≡ d.spaces
  pub quota : (s : ℕ) → s < d.spaces → get_or quotas s 0 ≤ d.most

unfoldable pub record_test : Numbers → List ℕ → Bool
record_test d quotas =
    both (in_range_test d) (both (eqb (length quotas) d.spaces) (all (length quotas) (λ s. leb (get_or quotas s 0) d.most)))

unfoldable pub opening : Numbers → List ℕ → List ℕ → OpenOut
opening d quotas mem =
    when (not (record_test d quotas)) (record { answer = BadField; memory = mem })
    (when (not (leb (length_for d) (length mem))) (record { answer = BadWorld; memory = mem })
    (record { answer = Done; memory = opened d quotas mem }))

-- ---- the test of a record holds exactly of a good one

module _ (d : Numbers) (quotas : List ℕ) where
  abbrev counted : Bool
  counted = eqb (length quotas) d.spaces

  abbrev fit : ℕ → Bool
  fit s = leb (get_or quotas s 0) d.most

  pub good : record_test d quotas ≡ true → Good d quotas
  unfolding record_test
  good h =
      let rest : both counted (all (length quotas) fit) ≡ true = both_right (in_range_test d) _ h in
      let each : length quotas ≡ d.spaces = eqb-true _ _ (both_left counted _ rest) in
      record {
        in_range = in_range d (both_left (in_range_test d) _ h);
        one_each = each;
        quota = λ s l. leb-true (get_or quotas s 0) d.most (all_at (length quotas) fit (both_right counted _ rest) s (omega arith));
      }

  pub good_test : Good d quotas → record_test d quotas ≡ true
  unfolding record_test
  good_test ok =
      both_make (in_range_test d) _ (in_range_passes d ok.in_range)
      (both_make counted _ (eq-eqb (length quotas) d.spaces ok.one_each)
      (all_make (length quotas) fit (λ s l. le-leb (get_or quotas s 0) d.most (ok.quota s (omega (arith, ok.one_each))))))
