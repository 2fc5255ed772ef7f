-- The calls of revocation that only read and list nothing: a refusal's value is 0. Unchanged.antt says it of the others.
use Rattle.std.proofs.Common.{List, ◌≢◌, ◌≡◌, refl, ℕ}
use Rattle.answers.specs.Answer.{Done}
use Rattle.steps.specs.Replies.{refusal}
use Rattle.steps.proofs.laws.Cases.{NoValue}
use Rattle.steps.proofs.laws.Entered.{world_by_cases}
use Rattle.notification_calls.specs.Calls.{notification_count_out, no_queues, notification_stats_out, QueuesReply}
use Rattle.revocation_reads.specs.Calls.{is_revoked_out, epoch_out}

module _ (mem : List ℕ) where
  pub is_revoked_value : (token : ℕ) → (is_revoked_out mem token).answer ≢ Done → (is_revoked_out mem token).value ≡ 0
  unfolding is_revoked_out
  is_revoked_value token = world_by_cases NoValue refusal mem _ (λ bad not_0. refl) (λ sound not_0. absurd (not_0 refl))

  pub epoch_value : (epoch_out mem).answer ≢ Done → (epoch_out mem).value ≡ 0
  unfolding epoch_out
  epoch_value = world_by_cases NoValue refusal mem _ (λ bad not_0. refl) (λ sound not_0. absurd (not_0 refl))

  pub notification_count_value :
      (pid : ℕ) → (notification_count_out mem pid).answer ≢ Done → (notification_count_out mem pid).value ≡ 0
  unfolding notification_count_out
  notification_count_value pid = world_by_cases NoValue refusal mem _ (λ bad not_0. refl) (λ sound not_0. absurd (not_0 refl))

  -- No queues and no notices.
  pub notification_stats_value :
      (notification_stats_out mem).answer ≢ Done → notification_stats_out mem ≡ no_queues (notification_stats_out mem).answer
  unfolding notification_stats_out
  notification_stats_value =
      world_by_cases (λ (r : QueuesReply). r.answer ≢ Done → r ≡ no_queues r.answer) no_queues mem _ (λ bad not_0. refl)
      (λ sound not_0. absurd (not_0 refl))
