-- 26 is answered exactly on memory that is not sound, 20 exactly on a sound one for a space number of S or more; and 0 exactly on a sound
-- one by the calls with no refusal of their own. RevokeTold.antt, HeldTold.antt and ListsTold.antt say of each other answer when it is
-- given.
use Rattle.std.proofs.Common.{List, ◌↔◌, ◌≡◌, refl, ℕ, arith, ltb, length}
use Rattle.answers.specs.Answer.{Answer, Done, InvalidCapability, InsufficientRights, NotFound, BadField, PidTableFull, BadWorld}
use Rattle.base.specs.Choose.{when}
use Rattle.steps.specs.Replies.{Left, WithArea, refuse, into_area, Reply}
use Rattle.steps.specs.Steps.{place_in}
use Rattle.base.specs.Cases.{either}
use Rattle.steps.proofs.laws.Cases.{answer_of}
use Rattle.steps.proofs.laws.Listed.{into_by_cases}
use Rattle.steps.proofs.laws.Told.{Told, Inner, told_26, told_20, told_own, world_told, world_told_0, inner, inner_0}
use Rattle.token.specs.Token.{id_of}
use Rattle.world.specs.Numbers.{numbers_of}
use Rattle.world.specs.Sound.{Sound}
use Rattle.world.specs.declared.Numbers.{Numbers}
use Rattle.notification_calls.specs.Calls.{notify_out, peek_out, drain_out, notification_count_out, cleanup_out, notification_stats_out, QueuesReply}
use Rattle.revocation_calls.specs.Calls.{revoke_out, revoke_capability_out, revoke_held_out, revoke_batch_out}
use Rattle.revocation_reads.specs.Calls.{is_revoked_out, epoch_out, descendants, descendants_out}
use Rattle.revocation_laws.proofs.laws.Ways.{Own, own_not, revoking_own, revoking_token_own, each_done, held_by_cases}
use Rattle.revocation_laws.proofs.laws.NoticeWays.{drain_peeks}

-- ---- no answer of a call's own is either

abbrev Fine : Left Reply → Type 0
Fine out = Inner out.reply.answer

abbrev FineList : WithArea → Type 0
FineList l = Inner l.reply.answer

inner_own : (a : Answer) → Own a → Inner a
inner_own a own = record {
  not_26 = own_not a own 26 (λ e. omega arith) (λ e. omega arith) (λ e. omega arith);
  not_20 = own_not a own 20 (λ e. omega arith) (λ e. omega arith) (λ e. omega arith);
}

inner_listed : (xs area : List ℕ) → Inner (into_area xs area).reply.answer
inner_listed xs area = into_by_cases xs area FineList (λ short. inner BadField refl refl) (λ fits. inner_0)

-- ---- call by call

module _ (mem : List ℕ) where
  abbrev d : Numbers
  d = numbers_of mem

  module _ (time : ℕ) (listed : List ℕ) where
    -- 21 for too long a process list.
    fine_list : (out : Left Reply) → Fine out → Fine (when (ltb 32 (length listed)) (refuse mem BadField) out)
    fine_list out fine = either Fine _ _ _ (inner BadField refl refl) fine

    pub revoke_entered : (token : ℕ) → ((revoke_out mem token time listed).reply.answer ≡ BadWorld) ↔ (¬ Sound mem)
    unfolding revoke_out
    revoke_entered token =
        world_told answer_of _ mem _ (λ a. refl)
        (fine_list _
        (either Fine _ _ _ (inner InvalidCapability refl refl)
        (inner_own _ (revoking_own d mem (place_in d mem (id_of token)) time listed))))

    pub revoke_capability_entered :
        (token : ℕ) → ((revoke_capability_out mem token time listed).reply.answer ≡ BadWorld) ↔ (¬ Sound mem)
    unfolding revoke_capability_out
    revoke_capability_entered token =
        world_told answer_of _ mem _ (λ a. refl) (fine_list _ (inner_own _ (revoking_token_own d mem token time listed)))

    pub held_entered : (s token : ℕ) → Told mem s (revoke_held_out mem s token time listed).reply.answer
    held_entered s token =
        held_by_cases mem time listed (λ out. Told mem s (answer_of out)) (told_26 mem s) s token (told_20 mem s)
        (λ sound there many. told_own mem s sound there BadField (inner BadField refl refl))
        (λ sound there few none. told_own mem s sound there NotFound (inner NotFound refl refl))
        (λ sound there few e is lacks. told_own mem s sound there InsufficientRights (inner InsufficientRights refl refl))
        (λ sound there few e is has. told_own mem s sound there _ (inner_own _ (revoking_token_own d _ token time listed)))

    pub batch_entered : (tokens : List ℕ) → ((revoke_batch_out mem tokens time listed).reply.answer ≡ BadWorld) ↔ (¬ Sound mem)
    unfolding revoke_batch_out
    batch_entered tokens =
        world_told answer_of _ mem _ (λ a. refl)
        (either Fine _ _ _ (inner BadField refl refl) (fine_list _ (rw (each_done d tokens time listed 0 mem) inner_0)))

  pub is_revoked_entered : (token : ℕ) → ((is_revoked_out mem token).answer ≡ BadWorld) ↔ (¬ Sound mem)
  unfolding is_revoked_out
  is_revoked_entered token = world_told (λ (r : Reply). r.answer) _ mem _ (λ a. refl) inner_0

  pub epoch_entered : ((epoch_out mem).answer ≡ BadWorld) ↔ (¬ Sound mem)
  unfolding epoch_out
  epoch_entered = world_told (λ (r : Reply). r.answer) _ mem _ (λ a. refl) inner_0

  pub descendants_entered : (id : ℕ) (area : List ℕ) → ((descendants_out mem id area).reply.answer ≡ BadWorld) ↔ (¬ Sound mem)
  unfolding descendants_out
  descendants_entered id area =
      world_told (λ (l : WithArea). l.reply.answer) _ mem _ (λ a. refl)
      (either FineList _ _ _ (inner BadField refl refl) (inner_listed (descendants d mem (place_in d mem id)) area))

  pub notify_entered : (pid id reason time : ℕ) → ((notify_out mem pid id reason time).reply.answer ≡ BadWorld) ↔ (¬ Sound mem)
  unfolding notify_out
  notify_entered pid id reason time =
      world_told answer_of _ mem _ (λ a. refl)
      (either Fine _ _ _ (inner BadField refl refl)
      (either Fine _ _ _ (inner BadField refl refl) (either Fine _ _ _ (inner PidTableFull refl refl) inner_0)))

  pub peek_entered : (pid : ℕ) (area : List ℕ) → ((peek_out mem pid area).reply.answer ≡ BadWorld) ↔ (¬ Sound mem)
  unfolding peek_out
  peek_entered pid area =
      world_told (λ (l : WithArea). l.reply.answer) _ mem _ (λ a. refl) (either FineList _ _ _ (inner BadField refl refl) inner_0)

  pub drain_entered : (pid : ℕ) (area : List ℕ) → ((drain_out mem pid area).reply.reply.answer ≡ BadWorld) ↔ (¬ Sound mem)
  drain_entered pid area = rw (drain_peeks mem pid area) (peek_entered pid area)

  pub notification_count_entered : (pid : ℕ) → ((notification_count_out mem pid).answer ≡ BadWorld) ↔ (¬ Sound mem)
  unfolding notification_count_out
  notification_count_entered pid = world_told (λ (r : Reply). r.answer) _ mem _ (λ a. refl) inner_0

  pub cleanup_entered : (pid : ℕ) → ((cleanup_out mem pid).reply.answer ≡ BadWorld) ↔ (¬ Sound mem)
  unfolding cleanup_out
  cleanup_entered pid = world_told answer_of _ mem _ (λ a. refl) inner_0

  pub notification_stats_entered : ((notification_stats_out mem).answer ≡ BadWorld) ↔ (¬ Sound mem)
  unfolding notification_stats_out
  notification_stats_entered = world_told (λ (r : QueuesReply). r.answer) _ mem _ (λ a. refl) inner_0

-- ---- 0 of the calls with no refusal of their own

module _ (mem : List ℕ) where
  pub is_revoked_told_0 : (token : ℕ) → ((is_revoked_out mem token).answer ≡ Done) ↔ Sound mem
  unfolding is_revoked_out
  is_revoked_told_0 token = world_told_0 (λ (r : Reply). r.answer) _ mem _ (λ a. refl) refl

  pub epoch_told_0 : ((epoch_out mem).answer ≡ Done) ↔ Sound mem
  unfolding epoch_out
  epoch_told_0 = world_told_0 (λ (r : Reply). r.answer) _ mem _ (λ a. refl) refl

  pub notification_count_told_0 : (pid : ℕ) → ((notification_count_out mem pid).answer ≡ Done) ↔ Sound mem
  unfolding notification_count_out
  notification_count_told_0 pid = world_told_0 (λ (r : Reply). r.answer) _ mem _ (λ a. refl) refl

  pub cleanup_told_0 : (pid : ℕ) → ((cleanup_out mem pid).reply.answer ≡ Done) ↔ Sound mem
  unfolding cleanup_out
  cleanup_told_0 pid = world_told_0 answer_of _ mem _ (λ a. refl) refl

  pub notification_stats_told_0 : ((notification_stats_out mem).answer ≡ Done) ↔ Sound mem
  unfolding notification_stats_out
  notification_stats_told_0 = world_told_0 (λ (r : QueuesReply). r.answer) _ mem _ (λ a. refl) refl
