-- What specs/Promises.antt states of every history, proved.
use Rattle.std.proofs.Common.{subst, sym, ◌∙◌, ◌≤◌, arith}
use Rattle.steps.proofs.laws.Determined.{one_answer}
use Rattle.world.specs.SoundLaws.{sound_exactly}
use Rattle.history.specs.Perform.{perform}
use Rattle.history.specs.Promises.{NeverBadWorld, AlwaysSound, LengthNeverChanged, PastNeverChanged, ShortWalks, VisitsAnswered, FewMoves, OneResult}
use Rattle.history.proofs.laws.Answers.{never_26}
use Rattle.history.proofs.laws.Kept.{lasts_after, stays_after}
use Rattle.history.proofs.laws.Moves.{opened_potential, history_pays}
use Rattle.history.proofs.laws.Opening.{opening_opens}
use Rattle.history.proofs.laws.Paid.{potential_in}
use Rattle.history.proofs.laws.ShortWalks.{walk_is_short}
use Rattle.history.proofs.laws.VisitsAnswered as visits

pub never_bad_world : NeverBadWorld
never_bad_world d quotas mem done history call closed =
    never_26 _ (lasts_after history _ (opening_opens d quotas mem done).sound).sound call closed

pub always_sound : AlwaysSound
always_sound d quotas mem done history = (sound_exactly _).1 (lasts_after history _ (opening_opens d quotas mem done).sound).sound

pub length_never_changed : LengthNeverChanged
length_never_changed d quotas mem done history =
    let begun = opening_opens d quotas mem done in
    (lasts_after history _ begun.sound).same_length ∙ begun.stays.same_length

pub past_never_changed : PastNeverChanged
past_never_changed d quotas mem done history closed =
    let begun = opening_opens d quotas mem done in
    stays_after d mem history _ begun.sound begun.stays closed

pub short_walks : ShortWalks
short_walks d quotas mem done history = walk_is_short _ _ (lasts_after history _ (opening_opens d quotas mem done).sound).sound

pub visits_answered : VisitsAnswered
visits_answered d quotas mem done history = visits.visits_answered _ (lasts_after history _ (opening_opens d quotas mem done).sound).sound

pub few_moves : FewMoves
few_moves d quotas mem done history closed s inside =
    let begun = opening_opens d quotas mem done in
    omega (
      arith,
      history_pays d s inside history _ begun.sound begun.stays.numbers closed,
      subst (λ now. potential_in d s now ≤ 0) (sym begun.written) (omega (arith, opened_potential d quotas mem begun.long s inside)),
    )

pub one_result : OneResult
one_result call mem = one_answer (perform call mem)
