-- Each step leaves the memory ready for the next; the last is lent the ids from the second on.
use Rattle.std.proofs.Common.{List, ◌≡◌, ℕ, ◌+◌, ◌-◌, ◌%◌, ◌^◌, ◌≤◌, arith, length, get_or, take, drop, length-drop, take_all}
use Rattle.registry.specs.Descent.{marked}
use Rattle.registry.specs.PlaceLists.{AllBelow}
use Rattle.revocation_steps.specs.Revocation.{log_step, notify_all}
use Rattle.steps.specs.Steps.{add_step}
use Rattle.revocation_steps.proofs.laws.QueuesReadyKept.{queues_ready_marked, queues_ready_added, queues_ready_logged, mark_stays}
use Rattle.steps.specs.Ready.{Ready, QueuesReady}
use Rattle.steps.proofs.laws.ReadyKept.{Stays, Leaves, add_leaves}
use Rattle.world.specs.Numbers.{logged_of, epoch_word, revoked_word}
use Rattle.world.specs.Regions.{registry, on_region}
use Rattle.world.specs.declared.Numbers.{Numbers}
use Rattle.cascade.proofs.revoke_places.Goals as goal

module _ (d : Numbers) (mem order : List ℕ)
    (with_marked : List ℕ) (is_marked : with_marked ≡ on_region d registry (marked d.places order) mem)
    (with_counted : List ℕ) (is_counted : with_counted ≡ add_step revoked_word (length order) with_marked)
  where
    module _ (ready : Ready d mem) (inside : AllBelow d.places order) where
      stays : Stays d mem with_marked
      stays = rw is_marked (mark_stays d mem ready order inside)

      leaves : Leaves d revoked_word ((get_or with_marked revoked_word 0 + length order) % 2 ^ 64) with_marked with_counted
      leaves = rw is_counted (add_leaves d with_marked stays.ready revoked_word (length order) (omega arith) (omega arith))

      -- There is still room for as many pairs.
      can_log : (count : ℕ) → logged_of mem + count ≤ d.pairs → Ready d with_counted × (logged_of with_counted + count ≤ d.pairs)
      can_log count fits =
          (leaves.ready, omega (arith, leaves.others 13 (omega arith) (λ e. omega arith), stays.head 13 (omega arith)))

    module _ (pairs with_logged : List ℕ) (is_logged : with_logged ≡ log_step d pairs with_counted)
        (with_epoch : List ℕ) (is_epoch : with_epoch ≡ add_step epoch_word (length order) with_logged)
      where
        can_notify :
            Ready d mem → QueuesReady d mem → AllBelow d.places order → logged_of mem + length pairs ≤ d.pairs → QueuesReady d with_epoch
        can_notify ready queues inside fits =
            let of_marked : QueuesReady d with_marked = rw is_marked (queues_ready_marked d mem queues order inside) in
            let of_counted : QueuesReady d with_counted =
            rw is_counted (queues_ready_added d with_marked of_marked revoked_word (length order) (omega arith) (omega arith)) in
            let of_logged : QueuesReady d with_logged =
            rw is_logged (queues_ready_logged d with_counted of_counted pairs (can_log ready inside (length pairs) fits).1) in
            rw is_epoch (queues_ready_added d with_logged of_logged epoch_word (length order) (omega arith) (omega arith))

        all_done :
            (listed ids : List ℕ) (time : ℕ) (after : List ℕ)
            → after ≡ notify_all d listed (take (length ids - 1) (drop 1 ids)) time with_epoch
            → after
            ≡ notify_all d listed (drop 1 ids) time
            (add_step epoch_word (length order)
            (log_step d pairs (add_step revoked_word (length order) (on_region d registry (marked d.places order) mem))))
        all_done listed ids time after is =
            let whole : take (length ids - 1) (drop 1 ids) ≡ drop 1 ids =
            take_all (length ids - 1) (drop 1 ids) (omega (arith, length-drop 1 ids)) in
            rw (← is_marked, ← is_counted, ← is_logged, ← is_epoch, ← whole) is

pub append_pairs-requires : goal.append_pairs-requires
append_pairs-requires c =
    let (ready, queues, inside) = c.requires.ready in
    let (fits, some) = c.requires.pairs_bound in
    can_log _ _ _ _ c.mark.ensures _ c.add.ensures ready inside _ fits

pub notify_all-requires : goal.notify_all-requires
notify_all-requires c =
    let (ready, queues, inside) = c.requires.ready in
    let (fits, some) = c.requires.pairs_bound in
    can_notify _ _ _ _ c.mark.ensures _ c.add.ensures _ _ c.append_pairs.ensures _ c.add-2.ensures ready queues
    inside fits
