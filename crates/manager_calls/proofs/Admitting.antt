-- What a registered id needs until its entry is in a space: room to recycle it, which steps on the registry and on a space keep; and the
-- two ways of an admission.
use Rattle.std.proofs.Common.{List, ◌≡◌, sym, ap, ◌∙◌, ℕ, ◌-◌, ◌<◌, ◌≤◌, arith, Result, Ok, Err}
use Rattle.answers.specs.Answer.{Done, Refuses, OutOfMemory}
use Rattle.answers.specs.NumberLaws.{refusal_some}
use Rattle.space.specs.Change.{InsertOut, insert_out}
use Rattle.steps.proofs.laws.ReadyKept.{Stays, Leaves, register_leaves}
use Rattle.steps.specs.Ready.{Ready}
use Rattle.steps.specs.Replies.{Left, Reply, told, refuse}
use Rattle.steps.specs.Steps.{space_of, new_entry, insert_step, insert_reply, register_step, unregister_step, recycle_step, add_step}
use Rattle.steps.specs.declared.replies.Done.{Done as DoneReply}
use Rattle.steps.specs.declared.replies.Refused.{Refused}
use Rattle.world.specs.Numbers.{registered_of, recycled_of}
use Rattle.world.specs.declared.Numbers.{Numbers}
use Rattle.manager_calls.specs.Admit.{admitted}

-- ---- room to recycle

module _ (d : Numbers) (mem after : List ℕ) (room : recycled_of mem ≤ d.places) where
  -- The count of registered ids alone is new, v,
  pub room_left : (v : ℕ) → Leaves d 11 v mem after → Ready d after × (recycled_of after ≤ d.places)
  room_left v leaves = (leaves.ready, omega (arith, leaves.others 12 (omega arith) (λ e. omega arith)))

  -- or no count is.
  pub room_stays : 0 < registered_of mem → Stays d mem after → Ready d after × (0 < registered_of after) × (recycled_of after ≤ d.places)
  room_stays some stays = (stays.ready, omega (arith, stays.head 11 (omega arith)), omega (arith, stays.head 12 (omega arith)))

-- An id that was registered can be admitted: it is there to be taken back.
pub room_registered :
    (d : Numbers) (mem : List ℕ) (id object link : ℕ) → Ready d mem → registered_of mem < d.places → recycled_of mem ≤ d.places
    → let after = register_step d id object link mem in Ready d after × (0 < registered_of after) × (recycled_of after ≤ d.places)
room_registered d mem id object link ready free room =
    let leaves = register_leaves d mem ready id object link free in
    let (still, enough) = room_left d mem (register_step d id object link mem) room _ leaves in
    (still, omega (arith, leaves.word), enough)

-- ---- an admission, by the outcome of the insert

module _ (d : Numbers) (s id token object rights i : ℕ) (mem mid : List ℕ)
    (inserted : mid ≡ insert_step d s (new_entry token object rights) mem)
    (r : Result DoneReply Refused) (replies : told r ≡ insert_reply token (insert_out (space_of d s mem) (new_entry token object rights)))
  where
    abbrev out : InsertOut
    out = insert_out (space_of d s mem) (new_entry token object rights)

    is_answer : (told r).answer ≡ out.answer
    is_answer = ap (λ (reply : Reply). reply.answer) replies

    is_count : (told r).count ≡ out.moved
    is_count = ap (λ (reply : Reply). reply.count) replies

    pub admits :
        (done : DoneReply) → r ≡ Ok done → (after : List ℕ) → after ≡ add_step i 1 mid
        → record { reply = told (Ok done); memory = after } ≡ admitted d s id token object rights i mem
    unfolding admitted
    admits done accepted after counted =
        let is_done : out.answer ≡ Done = sym is_answer ∙ ap (λ r. (told r).answer) accepted in
        let same : told (Ok done) ≡ told r = ap told (sym accepted) in
        rw (same, replies, is_done, counted, inserted)

    pub takes_back :
        (refused : Refused) → r ≡ Err refused → (left : Left Reply)
        → left ≡ refuse (recycle_step d id (unregister_step d (registered_of mid - 1) mid)) OutOfMemory
        → left ≡ admitted d s id token object rights i mem
    unfolding admitted
    takes_back refused refuses left is =
        let is_refusal : out.answer ≡ Refuses refused.refusal = sym is_answer ∙ ap (λ r. (told r).answer) refuses in
        rw (is_refusal, refusal_some refused.refusal, is, inserted)
