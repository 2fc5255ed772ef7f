-- The area is too short for the notices of the pid's queue, or long enough.
use Rattle.std.proofs.Common.{◌≡◌, sym, ◌∙◌, ◌*◌, ◌≤◌, arith, length, Ok}
use Rattle.std.proofs.lemmas.Grind.{common_steps}
use Rattle.std.proofs.lemmas.Result.{err_from_is_err_and}
use Rattle.steps.specs.Enter.{entered_world}
use Rattle.notification_calls.proofs.Noticing.{peek_short, peek_fits}
use Rattle.notification_calls.proofs.notices.peek_notifications.Goals as goal

pub returns-in_err : goal.returns-in_err
returns-in_err c =
    let (refused, is, unvisited) = err_from_is_err_and c.from_residual-in_err.result c.from_residual-in_err.ensures.1 in
    let good : entered_world c.args.mem.now ≡ Ok c.in_ok-d.d = sym c.enter_world.ensures.value ∙ c.in_ok-d.was in
    let short = peek_short _ _ c.args.area.now _ good _ _ c.queue_for-q.ensures.0 c.count_for-count.ensures c.if-area-count.true in
    rw (is, unvisited) (grind (arith, common_steps, short))

pub returns : goal.returns
returns c =
    let good : entered_world c.args.mem.now ≡ Ok c.in_ok-d.d = sym c.enter_world.ensures.value ∙ c.in_ok-d.was in
    let room : 3 * c.count_for-count.result ≤ length c.args.area.now = grind (arith, common_steps) in
    let fits = peek_fits _ _ c.args.area.now _ good _ _ c.queue_for-q.ensures.0 c.count_for-count.ensures room in
    grind (arith, common_steps, fits)
