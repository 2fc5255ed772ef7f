-- What the notices of a pid are after each call: a notice joins them; each id that a revocation newly revokes but the first joins those of
-- every listed pid, in turn and as often as it is listed; of all the last 256 stay. Drain and cleanup leave none. Those of any other pid
-- are as they were.
use Rattle.std.proofs.Common.{Bool, true, false, List, [], ◌∷◌, ◌++◌, ◌≢◌, ◌≡◌, refl, sym, ap, ◌∙◌, ℕ, ◌*◌, ◌≤◌, ◌<◌, arith, ltb-true, ltb-false, ltb, length, drop, drop_of_length-le}
use Rattle.answers.specs.Number.{number_of}
use Rattle.answers.specs.Answer.{Done}
use Rattle.base.specs.Choose.{pick}
use Rattle.base.specs.Written.{written}
use Rattle.registry.specs.ChildrenLaws.{ids_at-length}
use Rattle.revocation.specs.NoticesLaws.{last_words, length_notices}
use Rattle.revocation.specs.Queue.{notices}
use Rattle.revocation_steps.specs.Revocation.{queue_for, cascade, cascade_ids}
use Rattle.revocation_steps.proofs.laws.Cascade.{cascade_none}
use Rattle.revocation_steps.proofs.laws.CascadeNotices.{revoke_step_notices}
use Rattle.revocation_steps.proofs.laws.NoticeSteps.{notices_none, notify_joins, freed_others, freed_none}
use Rattle.revocation_steps.proofs.laws.NoticesSent.{sent_to, all_stay}
use Rattle.revocation_steps.proofs.laws.SameQueues.{notices_of, same_notices}
use Rattle.steps.specs.Replies.{Left, WithArea, refuse, Reply}
use Rattle.steps.specs.Steps.{lookup_step, place_in}
use Rattle.base.specs.Cases.{pick_by_cases}
use Rattle.steps.proofs.laws.Entered.{world_by_cases}
use Rattle.steps.proofs.laws.SpaceSteps.{lookup_step_kept}
use Rattle.token.specs.Token.{id_of}
use Rattle.world.specs.Numbers.{numbers_of, registered_of}
use Rattle.world.specs.Regions.{registry, queue, view}
use Rattle.world.specs.Sound.{lengths, SoundAt, Sound}
use Rattle.world.specs.declared.Numbers.{Numbers}
use Rattle.notification_calls.specs.Calls.{notify_out, count_for, peek_out, without, drain_out, cleanup_out}
use Rattle.revocation_calls.specs.Calls.{revoke_out, revoke_capability_out, revoke_held_out}
use Rattle.cascade.specs.Cascade.{revoking}
use Rattle.revocation_laws.proofs.laws.Counted.{same_registered, same_registry, same_queues}
use Rattle.revocation_laws.proofs.laws.Given.{revoking_given, revoke_given, revoke_capability_given, held_given, held_done}
use Rattle.revocation_laws.proofs.laws.NoticeWays.{notify_by_cases, peek_by_cases, drain_by_cases, drain_peeks}
use Rattle.revocation_laws.proofs.laws.Unregistered.{revoke_capability_unregistered, held_unregistered}

-- ---- a notice for a pid

-- The pid has these notices then, and every other those that it had.
pub record OnlyFor (mem : List ℕ) (pid : ℕ) (words after : List ℕ) : Type 0 where
  pub here : notices_of (numbers_of mem) after pid ≡ words
  pub others : (x : ℕ) → x ≢ pid → notices_of (numbers_of mem) after x ≡ notices_of (numbers_of mem) mem x

pub notify_notices :
    (mem : List ℕ) (pid id reason time : ℕ) → (notify_out mem pid id reason time).reply.answer ≡ Done
    → OnlyFor mem pid (last_words 768 (notices_of (numbers_of mem) mem pid ++ (id ∷ time ∷ reason ∷ [])))
    (notify_out mem pid id reason time).memory
notify_notices mem pid id reason time =
    notify_by_cases mem pid id reason time Joins (λ bad e. absurd (omega (arith, ap number_of e)))
    (λ sound over e. absurd (omega (arith, ap number_of e))) (λ sound fits over e. absurd (omega (arith, ap number_of e)))
    (λ sound fits coded full e. absurd (omega (arith, ap number_of e)))
    (λ sound fits coded place e.
    let joined = notify_joins (numbers_of mem) mem sound pid id time reason coded place in
    record { here = joined.here; others = joined.others })
  where
    Joins : Left Reply → Type 0
    Joins out =
        out.reply.answer ≡ Done
        → OnlyFor mem pid (last_words 768 (notices_of (numbers_of mem) mem pid ++ (id ∷ time ∷ reason ∷ []))) out.memory

-- ---- a revocation

-- What a pid then has: its notices, and behind them those of the ids that a cascade from place r revokes, but for the first.
abbrev pub notices_after : Numbers → List ℕ → ℕ → ℕ → List ℕ → ℕ → List ℕ
notices_after d mem r time listed pid =
    last_words 768 (notices_of d mem pid ++ sent_to pid listed (drop 1 (cascade_ids d mem r)) time)

module _ (d : Numbers) (mem : List ℕ) (sound : SoundAt d mem) (r : ℕ) (inside : r < registered_of mem) (time : ℕ) (listed : List ℕ) where
  pub revoking_notices :
      (pid : ℕ) → (revoking d r time listed mem).reply.answer ≡ Done
      → notices_of d (revoking d r time listed mem).memory pid ≡ notices_after d mem r time listed pid
  unfolding sent_to
  revoking_notices pid =
      revoking_given d mem r time listed (λ after. notices_of d after pid ≡ notices_after d mem r time listed pid)
      (λ gone.
      let none : length (cascade_ids d mem r) ≤ 1 =
      omega (arith, ids_at-length (view d registry mem) (cascade d mem r), cascade_none d mem sound r inside gone) in
      rw (drop_of_length-le (cascade_ids d mem r) none) (sym (all_stay d mem sound pid)))
      (λ un fits room. revoke_step_notices d mem sound r inside fits time listed room pid)

module _ (mem : List ℕ) (token time : ℕ) (listed : List ℕ) (pid : ℕ) where
  abbrev d : Numbers
  d = numbers_of mem

  abbrev place : ℕ
  place = place_in d mem (id_of token)

  pub revoke_notices :
      (revoke_out mem token time listed).reply.answer ≡ Done
      → notices_of (numbers_of mem) (revoke_out mem token time listed).memory pid ≡ notices_after (numbers_of mem) mem place time listed pid
  revoke_notices =
      revoke_given mem token time listed (λ after. notices_of d after pid ≡ notices_after d mem place time listed pid)
      (λ sound inside. revoking_notices d mem sound place inside time listed pid)

  pub revoke_capability_notices :
      place_in (numbers_of mem) mem (id_of token) < registered_of mem → (revoke_capability_out mem token time listed).reply.answer ≡ Done
      → notices_of (numbers_of mem) (revoke_capability_out mem token time listed).memory pid
      ≡ notices_after (numbers_of mem) mem place time listed pid
  revoke_capability_notices =
      revoke_capability_given mem token time listed (λ after. notices_of d after pid ≡ notices_after d mem place time listed pid)
      (λ sound inside. revoking_notices d mem sound place inside time listed pid)

  -- By a token that a space holds: the lookup leaves the registry and the queues.
  pub held_notices :
      place_in (numbers_of mem) mem (id_of token) < registered_of mem → (s : ℕ)
      → (revoke_held_out mem s token time listed).reply.answer ≡ Done
      → notices_of (numbers_of mem) (revoke_held_out mem s token time listed).memory pid
      ≡ notices_after (numbers_of mem) mem place time listed pid
  held_notices inside s =
      held_given mem token time listed (λ after. notices_of d after pid ≡ notices_after d mem place time listed pid) s inside
      (λ sound there inside e.
      let looked : List ℕ = lookup_step d s token mem in
      let count = same_registered d mem sound s there token in
      let words = same_registry d mem sound s there token in
      let notices = same_notices d mem looked (same_queues d mem sound s there token) pid in
      let same : notices_after d looked place time listed pid ≡ notices_after d mem place time listed pid =
      rw (notices, count, words) refl in
      revoking_notices d looked (lookup_step_kept d mem sound s there token).sound place inside time listed pid e ∙ same)

  pub unregistered_notices :
      registered_of mem ≤ place_in (numbers_of mem) mem (id_of token) → (revoke_capability_out mem token time listed).reply.answer ≡ Done
      → notices_of (numbers_of mem) (revoke_capability_out mem token time listed).memory pid ≡ notices_of (numbers_of mem) mem pid
  unregistered_notices outside e =
      same_notices d mem _ (revoke_capability_unregistered mem token time listed outside e).same_queue pid

  pub held_unregistered_notices :
      registered_of mem ≤ place_in (numbers_of mem) mem (id_of token) → (s : ℕ)
      → (revoke_held_out mem s token time listed).reply.answer ≡ Done
      → notices_of (numbers_of mem) (revoke_held_out mem s token time listed).memory pid ≡ notices_of (numbers_of mem) mem pid
  held_unregistered_notices outside s e =
      let (sound, there) = held_done mem token time listed s e in
      same_notices d (lookup_step d s token mem) _ (held_unregistered mem token time listed outside s e).same_queue pid
      ∙ same_notices d mem _ (same_queues d mem sound s there token) pid

-- ---- drain, cleanup and peek

without_notices :
    (mem : List ℕ) → Sound mem → (pid : ℕ) → OnlyFor mem pid [] (without (numbers_of mem) mem (queue_for (numbers_of mem) mem pid))
without_notices mem sound pid =
    let d : Numbers = numbers_of mem in
    let q : ℕ = queue_for d mem pid in
    pick_by_cases (OnlyFor mem pid []) _ _ (ltb q d.queues)
    (λ e. let l = ltb-true q d.queues e in record { here = freed_none d mem sound pid l; others = freed_others d mem sound pid l })
    (λ e. record { here = notices_none d mem pid (ltb-false q d.queues e); others = λ x apart. refl })

-- The notices of the pid in front of the area, whose other places are as they were; the value is how many.
pub record Listing (mem : List ℕ) (pid : ℕ) (area : List ℕ) (l : WithArea) : Type 0 where
  pub words : l.area ≡ written (notices_of (numbers_of mem) mem pid) area
  pub count : 3 * l.reply.value ≡ length (notices_of (numbers_of mem) mem pid)

pub listed_count :
    (mem : List ℕ) (pid : ℕ)
    → 3 * count_for (numbers_of mem) mem (queue_for (numbers_of mem) mem pid) ≡ length (notices_of (numbers_of mem) mem pid)
listed_count mem pid = go (ltb q (numbers_of mem).queues)
  where
    q : ℕ
    q = queue_for (numbers_of mem) mem pid

    go : (b : Bool) → 3 * pick b (lengths (numbers_of mem) mem q) 0 ≡ length (pick b (notices (view (numbers_of mem) (queue q) mem)) [])
    go true = sym (length_notices (view (numbers_of mem) (queue q) mem))
    go false = refl

module _ (mem : List ℕ) (pid : ℕ) where
  pub peek_lists : (area : List ℕ) → (peek_out mem pid area).reply.answer ≡ Done → Listing mem pid area (peek_out mem pid area)
  peek_lists area =
      peek_by_cases mem pid area (λ (l : WithArea). l.reply.answer ≡ Done → Listing mem pid area l)
      (λ bad e. absurd (omega (arith, ap number_of e))) (λ sound short e. absurd (omega (arith, ap number_of e)))
      (λ sound fits e. record { words = refl; count = listed_count mem pid })

  pub drain_lists :
      (area : List ℕ) → (drain_out mem pid area).reply.reply.answer ≡ Done → Listing mem pid area (drain_out mem pid area).reply
  drain_lists area = rw (drain_peeks mem pid area) (peek_lists area)

  pub drain_notices :
      (area : List ℕ) → (drain_out mem pid area).reply.reply.answer ≡ Done → OnlyFor mem pid [] (drain_out mem pid area).memory
  drain_notices area =
      drain_by_cases mem pid area (λ (out : Left WithArea). out.reply.reply.answer ≡ Done → OnlyFor mem pid [] out.memory)
      (λ bad e. absurd (omega (arith, ap number_of e))) (λ sound short e. absurd (omega (arith, ap number_of e)))
      (λ sound fits e. without_notices mem sound pid)

  pub cleanup_notices : (cleanup_out mem pid).reply.answer ≡ Done → OnlyFor mem pid [] (cleanup_out mem pid).memory
  unfolding cleanup_out
  cleanup_notices =
      world_by_cases (λ (out : Left Reply). out.reply.answer ≡ Done → OnlyFor mem pid [] out.memory) (refuse mem) mem _
      (λ bad e. absurd (omega (arith, ap number_of e))) (λ sound e. without_notices mem sound pid)
