-- What a cascade leaves of the notices of each pid: each id that it revokes but the first joins them, in turn, as often as the pid is
-- listed, and of all the last 256 stay.
use Rattle.std.proofs.Common.{List, ◌++◌, ◌≡◌, sym, ap, ◌∙◌, ℕ, ◌+◌, ◌≤◌, ◌<◌, arith, lt-ltb, length, drop, drop_of_length-le}
use Rattle.std.proofs.Math.Decide.{dec_lt}
use Rattle.std.proofs.Math.Logic.{by_cases}
use Rattle.registry.specs.ChildrenLaws.{ids_at-length}
use Rattle.revocation.specs.NoticesLaws.{last_words}
use Rattle.world.specs.Numbers.{registered_of, logged_of}
use Rattle.world.specs.Regions.{registry, view}
use Rattle.world.specs.Sound.{SoundAt}
use Rattle.world.specs.declared.Numbers.{Numbers}
use Rattle.revocation_steps.specs.Revocation.{notify_all, free_queues, cascade, cascade_ids, cascade_pairs}
use Rattle.revocation_steps.proofs.laws.CascadeSteps.{revoke_step, cascade_queues, unnotified, unnotified_kept, unnotified_queue}
use Rattle.revocation_steps.proofs.laws.NoticesSent.{Room, sent_to, all_stay, all_sent}
use Rattle.revocation_steps.proofs.laws.SameQueues.{notices_of, same_free_queues, same_new_queues, same_notices}

module _ (d : Numbers) (mem : List ℕ) (sound : SoundAt d mem) (r : ℕ) (inside : r < registered_of mem)
    (fits : logged_of mem + length (cascade_pairs d mem r) ≤ d.pairs) (time : ℕ) (listed : List ℕ)
  where
    abbrev before : List ℕ
    before = unnotified d r mem

    abbrev sent : List ℕ
    sent = drop 1 (cascade_ids d mem r)

    same_before : (pid : ℕ) → notices_of d before pid ≡ notices_of d mem pid
    same_before = same_notices d mem before (unnotified_queue d mem sound r inside fits time listed)

    -- It revokes some descendant, and there is room for its notices;
    room_made :
        Room d mem listed → (pid : ℕ)
        → notices_of d (revoke_step d r time listed mem) pid ≡ last_words 768 (notices_of d mem pid ++ sent_to pid listed sent time)
    unfolding revoke_step
    room_made room pid =
        let stays = unnotified_queue d mem sound r inside fits time listed in
        let room' : Room d before listed = rw (same_new_queues d mem before stays listed, same_free_queues d mem before stays) room in
        (all_sent d listed time sent before (unnotified_kept d mem sound r inside fits time listed).sound room').got pid
        ∙ ap (λ ws. last_words 768 (ws ++ sent_to pid listed sent time)) (same_before pid)

    -- or it revokes none.
    none_sent :
        length (cascade d mem r) ≤ 1 → (pid : ℕ)
        → notices_of d (revoke_step d r time listed mem) pid ≡ last_words 768 (notices_of d mem pid ++ sent_to pid listed sent time)
    unfolding revoke_step notify_all sent_to
    none_sent alone pid =
        let few : length (cascade_ids d mem r) ≤ 1 = omega (arith, ids_at-length (view d registry mem) (cascade d mem r)) in
        rw (drop_of_length-le (cascade_ids d mem r) few) (same_before pid ∙ sym (all_stay d mem sound pid))

    pub revoke_step_notices :
        cascade_queues d mem r listed ≤ free_queues d mem → (pid : ℕ)
        → notices_of d (revoke_step d r time listed mem) pid
        ≡ last_words 768 (notices_of d mem pid ++ sent_to pid listed (drop 1 (cascade_ids d mem r)) time)
    revoke_step_notices room =
        by_cases (dec_lt 1 (length (cascade d mem r)))
        (λ many. room_made (rw (lt-ltb 1 (length (cascade d mem r)) many) at room))
        (λ alone. none_sent (omega arith))
