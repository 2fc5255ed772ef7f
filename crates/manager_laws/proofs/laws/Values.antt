-- The manager's calls that only read: a refusal's value is 0, and a refused list of children leaves the lent area as it was. Unchanged.antt
-- says it of the others.
use Rattle.std.proofs.Common.{List, ◌≢◌, ◌≡◌, refl, ℕ}
use Rattle.answers.specs.Answer.{Done}
use Rattle.steps.specs.Replies.{WithArea, refusal}
use Rattle.base.specs.Cases.{either}
use Rattle.steps.proofs.laws.Cases.{NoValue}
use Rattle.steps.proofs.laws.Entered.{world_by_cases, space_by_cases}
use Rattle.steps.proofs.laws.Listed.{into_by_cases}
use Rattle.manager_calls.specs.Calls.{is_valid_out, no_stats, stats_out, children_out, no_tree, tree_stats_out, census_out, StatsReply, TreeReply}

module _ (mem : List ℕ) where
  pub is_valid_value : (token : ℕ) → (is_valid_out mem token).answer ≢ Done → (is_valid_out mem token).value ≡ 0
  unfolding is_valid_out
  is_valid_value token = world_by_cases NoValue refusal mem _ (λ bad not_0. refl) (λ sound not_0. absurd (not_0 refl))

  pub census_value : (s : ℕ) → (census_out mem s).answer ≢ Done → (census_out mem s).value ≡ 0
  unfolding census_out
  census_value s =
      space_by_cases NoValue refusal mem _ (λ bad not_0. refl) s (λ sound far not_0. refl) (λ sound there not_0. absurd (not_0 refl))

  -- The statistics are zeros.
  pub stats_value : (stats_out mem).answer ≢ Done → stats_out mem ≡ no_stats (stats_out mem).answer
  unfolding stats_out
  stats_value =
      world_by_cases (λ (r : StatsReply). r.answer ≢ Done → r ≡ no_stats r.answer) no_stats mem _ (λ bad not_0. refl)
      (λ sound not_0. absurd (not_0 refl))

  pub tree_stats_value : (tree_stats_out mem).answer ≢ Done → tree_stats_out mem ≡ no_tree (tree_stats_out mem).answer
  unfolding tree_stats_out
  tree_stats_value =
      world_by_cases (λ (r : TreeReply). r.answer ≢ Done → r ≡ no_tree r.answer) no_tree mem _ (λ bad not_0. refl)
      (λ sound not_0. absurd (not_0 refl))

  pub children_unchanged :
      (id : ℕ) (area : List ℕ) → (children_out mem id area).reply.answer ≢ Done
      → ((children_out mem id area).area ≡ area) × ((children_out mem id area).reply.value ≡ 0)
  unfolding children_out
  children_unchanged id area =
      world_by_cases Same _ mem _ (λ bad not_0. (refl, refl))
      (λ sound.
      either Same _ _ _ (λ not_0. (refl, refl))
      (into_by_cases _ area Same (λ short not_0. (refl, refl)) (λ long not_0. absurd (not_0 refl))))
    where
      Same : WithArea → Type 0
      Same l = l.reply.answer ≢ Done → (l.area ≡ area) × (l.reply.value ≡ 0)
