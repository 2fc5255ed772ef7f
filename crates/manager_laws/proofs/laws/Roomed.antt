-- The memory in which a delegation counts the parent's children: after the collection where there were 1,024, else as it is. 10 is given
-- exactly if 1,024 remain in it; else an id is taken there.
use Rattle.std.proofs.Common.{not, List, ◌≡◌, refl, ap, ℕ, ◌≤◌, ◌<◌, arith, lt-ltb, le-ltb, ltb}
use Rattle.std.proofs.Math.Decide.{dec_lt}
use Rattle.std.proofs.Math.Logic.{by_cases}
use Rattle.answers.specs.Answer.{QuotaExceeded}
use Rattle.base.specs.Choose.{pick, when_yes, when_no}
use Rattle.steps.specs.Replies.{refuse}
use Rattle.steps.specs.Steps.{place_in, collect_step, children_of}
use Rattle.steps.proofs.laws.Kept.{Kept, kept_refl}
use Rattle.steps.proofs.laws.RegistrySteps.{collect_step_kept}
use Rattle.token.specs.Token.{id_of}
use Rattle.world.specs.Sound.{SoundAt}
use Rattle.world.specs.declared.Numbers.{Numbers}
use Rattle.delegation_calls.specs.Delegation.{with_id, with_room}
use Rattle.manager_laws.proofs.laws.StepsKept.{parent_registered, collected_place}

abbrev pub parent_in : Numbers → ℕ → List ℕ → ℕ
parent_in d token mem = place_in d mem (id_of token)

unfoldable pub roomed : Numbers → ℕ → List ℕ → List ℕ
roomed d token mem =
    let p = parent_in d token mem in
    pick (ltb (children_of d mem p) 1024) mem (collect_step d p mem)

module _ (d : Numbers) (token : ℕ) (mem : List ℕ) where
  abbrev p : ℕ
  p = parent_in d token mem

  -- What holds of either memory.
  pub roomed_by_cases :
      (P : List ℕ → Type 0) → (children_of d mem (parent_in d token mem) < 1024 → P mem)
      → (1024 ≤ children_of d mem (parent_in d token mem) → P (collect_step d (parent_in d token mem) mem)) → P (roomed d token mem)
  unfolding roomed
  roomed_by_cases P few many =
      by_cases (dec_lt (children_of d mem p) 1024)
      (λ l. rw (lt-ltb (children_of d mem p) 1024 l) (few l))
      (λ n. rw (le-ltb (children_of d mem p) 1024 (omega arith)) (many (omega arith)))

  pub roomed_kept : SoundAt d mem → Kept d mem (roomed d token mem)
  roomed_kept sound =
      roomed_by_cases (Kept d mem) (λ few. kept_refl d mem sound)
      (λ many. collect_step_kept d mem sound p (parent_registered d mem sound p (omega arith)))

  -- The parent keeps its place.
  pub roomed_place : SoundAt d mem → parent_in d token (roomed d token mem) ≡ parent_in d token mem
  roomed_place sound =
      roomed_by_cases (λ r. parent_in d token r ≡ p) (λ few. refl)
      (λ many. collected_place d mem sound p (parent_registered d mem sound p (omega arith)) (id_of token) refl)

  module _ (target rights : ℕ) where
    -- 10 exactly if 1,024 remain.
    pub crowded_goes :
        1024 ≤ children_of d (roomed d token mem) (parent_in d token mem)
        → with_room d target token rights mem ≡ refuse (roomed d token mem) QuotaExceeded
    unfolding with_room
    crowded_goes =
        roomed_by_cases
        (λ r. 1024 ≤ children_of d r p → with_room d target token rights mem ≡ refuse r QuotaExceeded)
        (λ few still. absurd (omega arith))
        (λ many still.
        rw (le-ltb (children_of d mem p) 1024 many) (when_yes _ _ _ (ap not (le-ltb (children_of d (collect_step d p mem) p) 1024 still))))

    pub roomed_goes :
        children_of d (roomed d token mem) (parent_in d token mem) < 1024
        → with_room d target token rights mem ≡ with_id d target token rights (roomed d token mem)
    unfolding with_room
    roomed_goes =
        roomed_by_cases
        (λ r. children_of d r p < 1024 → with_room d target token rights mem ≡ with_id d target token rights r)
        (λ few still. rw (lt-ltb (children_of d mem p) 1024 few))
        (λ many few.
        rw (le-ltb (children_of d mem p) 1024 many) (when_no _ _ _ (ap not (lt-ltb (children_of d (collect_step d p mem) p) 1024 few))))
