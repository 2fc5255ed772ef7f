-- The queue that is found, or else the free place, is lent.
use Rattle.std.proofs.Common.{◌∙◌}
use Rattle.revocation.specs.Queue.{pushed, begun}
use Rattle.steps.proofs.Lending.{lent, queue_long, lent_back}
use Rattle.revocation_steps.proofs.Notifying.{queue_used, notify_pushes, notify_begins, notify_stays}
use Rattle.revocation_steps.proofs.queues.notify.Goals as goal

pub push-requires : goal.push-requires
push-requires c =
    let at = c.queue.ensures in
    let l = c.if-q-d.true in
    let found = c.queue_for-q.ensures.0 in
    let ready = c.requires in (
      queue_long _ _ _ _ _ at ready.fits l,
      rw (lent _ _ _ _ _ at) (ready.firsts _ l (queue_used _ _ _ _ found l)),
      rw (lent _ _ _ _ _ at) (ready.lengths _ l),
    )

pub returns-then-q-d : goal.returns-then-q-d
returns-then-q-d c =
    let begin = c.args in
    lent_back _ _ _ _ _ c.queue.ensures (pushed begin.id begin.time begin.reason) _ c.push.ensures
    ∙ notify_pushes _ _ _ _ _ _ _ c.queue_for-q.ensures.0
    c.if-q-d.true

pub returns-then-free-d : goal.returns-then-free-d
returns-then-free-d c =
    let begin = c.args in
    lent_back _ _ _ _ _ c.queue-then-free-d.ensures (begun begin.pid begin.id begin.time begin.reason) _
    c.begin.ensures
    ∙ notify_begins _ _ _ _ _ _ _ c.queue_for-q.ensures.0 c.if-q-d.false _ c.free_queue-free.ensures.0
    c.if-free-d.true

pub returns-else-free-d : goal.returns-else-free-d
returns-else-free-d c =
    notify_stays _ _ _ _ _ _ _ c.queue_for-q.ensures.0 c.if-q-d.false _ c.free_queue-free.ensures.0
    c.if-free-d.false
