-- What the calls that only read answer on a sound memory: whether the log has the pair of a token, the epoch, how many notices a pid has,
-- how many pids have some, and how many notices there are in all.
use Rattle.std.proofs.Common.{Bool, true, false, true≢false, List, ◌↔◌, ◌≡◌, refl, sym, ap, ◌∙◌, ℕ, zero, suc, ◌*◌, ◌<◌, arith, ltb, length}
use Rattle.base.specs.Exactly.{one_exactly}
use Rattle.base.specs.Below.{sum, one}
use Rattle.base.specs.Distinct.{Among}
use Rattle.revocation.specs.Log.{pair_of, log_has}
use Rattle.revocation.specs.LogLaws.{has_exactly, lacks_exactly}
use Rattle.revocation.specs.NoticesLaws.{length_notices}
use Rattle.revocation.specs.Queue.{notices}
use Rattle.revocation_steps.specs.Revocation.{queue_for}
use Rattle.revocation_steps.proofs.laws.NoticeSteps.{queue_holds, queue_is}
use Rattle.revocation_steps.proofs.laws.SameQueues.{notices_of}
use Rattle.steps.specs.Replies.{done, refusal, Reply}
use Rattle.steps.proofs.laws.Entered.{world_called}
use Rattle.token.specs.Token.{id_of, generation_of}
use Rattle.world.specs.Numbers.{numbers_of, epoch_of, logged_of}
use Rattle.world.specs.Regions.{log, queue, view}
use Rattle.world.specs.Sound.{log_pairs, pids, lengths, Sound}
use Rattle.world.specs.declared.Numbers.{Numbers}
use Rattle.notification_calls.specs.Calls.{notification_count_out, no_queues, notification_stats_out, QueuesReply}
use Rattle.revocation_reads.specs.Calls.{is_revoked_out, epoch_out}
use Rattle.revocation_laws.proofs.laws.Queues.{listed_count}

-- ---- the log

-- The pair of the token, its id and its generation, is logged.
abbrev pub Logged : List ℕ → ℕ → Type 0
Logged mem token = Among (logged_of mem) (log_pairs (numbers_of mem) mem) (pair_of (id_of token) (generation_of token))

zero_exactly : (b : Bool) → (one b ≡ 0) ↔ (b ≡ false)
zero_exactly true = (λ e. absurd (omega (arith, e)), λ e. absurd (true≢false e))
zero_exactly false = (λ e. refl, λ e. refl)

module _ (mem : List ℕ) (sound : Sound mem) where
  abbrev d : Numbers
  d = numbers_of mem

  module _ (token : ℕ) where
    abbrev pair : ℕ
    pair = pair_of (id_of token) (generation_of token)

    abbrev has : Bool
    has = log_has (logged_of mem) (view d log mem) pair

    is_revoked_is : (is_revoked_out mem token).value ≡ one has
    unfolding is_revoked_out
    is_revoked_is = ap (λ (r : Reply). r.value) (world_called refusal mem _ sound)

    -- 1 where it is, 0 where it is not.
    pub is_revoked_exactly : ((is_revoked_out mem token).value ≡ 1) ↔ Logged mem token
    is_revoked_exactly =
        let exactly = has_exactly (logged_of mem) (view d log mem) pair in (
          λ e. exactly.0 ((one_exactly has).0 (sym is_revoked_is ∙ e)),
          λ logged. is_revoked_is ∙ (one_exactly has).1 (exactly.1 logged),
        )

    pub is_revoked_else : ((is_revoked_out mem token).value ≡ 0) ↔ (¬ Logged mem token)
    is_revoked_else =
        let exactly = lacks_exactly (logged_of mem) (view d log mem) pair in (
          λ e. exactly.0 ((zero_exactly has).0 (sym is_revoked_is ∙ e)),
          λ none. is_revoked_is ∙ (zero_exactly has).1 (exactly.1 none),
        )

  pub epoch_is : epoch_out mem ≡ done (epoch_of mem)
  unfolding epoch_out
  epoch_is = world_called refusal mem _ sound

  -- ---- the queues

  -- A notice is three words; a pid without a queue has none.
  pub notification_count_is : (pid : ℕ) → 3 * (notification_count_out mem pid).value ≡ length (notices_of (numbers_of mem) mem pid)
  unfolding notification_count_out
  notification_count_is pid = ap (λ (r : Reply). 3 * r.value) (world_called refusal mem _ sound) ∙ listed_count mem pid

-- The places with notices are counted: each is the queue of its pid, and every pid that has a queue has it at such a place. And so are
-- the notices of all places.
pub record Statistics (mem : List ℕ) (r : QueuesReply) : Type 0 where
  pub counted : r.processes ≡ sum (λ q. one (ltb 0 (lengths (numbers_of mem) mem q))) (numbers_of mem).queues
  pub each :
      (q : ℕ) → q < (numbers_of mem).queues → 0 < lengths (numbers_of mem) mem q
      → queue_for (numbers_of mem) mem (pids (numbers_of mem) mem q) ≡ q
  pub every :
      (pid : ℕ) → queue_for (numbers_of mem) mem pid < (numbers_of mem).queues
      → 0 < lengths (numbers_of mem) mem (queue_for (numbers_of mem) mem pid)
  pub in_all :
      3 * r.notifications ≡ sum (λ q. length (notices (view (numbers_of mem) (queue q) mem))) (numbers_of mem).queues

sum_threefold : (f g : ℕ → ℕ) (n : ℕ) → ((k : ℕ) → 3 * f k ≡ g k) → 3 * sum f n ≡ sum g n
unfolding sum
sum_threefold f g zero e = refl
sum_threefold f g (suc n) e = omega (arith, sum_threefold f g n e, e n)

pub notification_stats_are : (mem : List ℕ) → Sound mem → Statistics mem (notification_stats_out mem)
unfolding notification_stats_out
notification_stats_are mem sound =
    let d : Numbers = numbers_of mem in
    let called = world_called no_queues mem _ sound in
    record {
      counted = ap (λ (r : QueuesReply). r.processes) called;
      each = λ q l some. queue_is d mem sound (pids d mem q) q l some refl;
      every = λ pid l. (queue_holds d mem pid l).0;
      in_all =
          ap (λ (r : QueuesReply). 3 * r.notifications) called
          ∙ sum_threefold (lengths d mem) (λ q. length (notices (view d (queue q) mem))) d.queues
          (λ q. sym (length_notices (view d (queue q) mem)));
    }
