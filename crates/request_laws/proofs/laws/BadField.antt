-- When a record is answered 21, on a sound memory of 4 spaces: where it is refused for a field, and for a space revoke of an id over
-- 2^48-1. No other call of a record has a field out of its range, nor a drain too short an area.
use Rattle.std.specs.Prelude.{⊤}
use Rattle.std.proofs.Common.{List, ◌↔◌, ◌≢◌, ◌⊎◌, inl, inr, ⊎_elim, ◌≡◌, refl, subst, sym, ap, ◌∙◌, ℕ, ◌^◌, ◌≤◌, ◌<◌, arith, eqb-true, ltb-true, eqb, ltb, length, Option, None, Some, Result, Ok, Err}
use Rattle.answers.specs.Answer.{answer_of}
use Rattle.answers.specs.declared.Refusal.{Refusal}
use Rattle.answers.specs.declared.Refusal.TheVariants as refusal
use Rattle.std.proofs.Math.Decide.{dec_lt}
use Rattle.std.proofs.Math.ListN.{length-replicate}
use Rattle.std.proofs.Math.Logic.{by_cases}
use mathlib.Core.List.{replicate}
use borrow.Author.Tests.{eqb-false}
use Rattle.answers.specs.Number.{number_of}
use Rattle.answers.specs.Answer.{Answer, Done, InsufficientRights, CapabilityRevoked, AlreadyExists, NotFound, SpaceQuota, SpaceIds, BadSpace, BadField, RecycleFull, BadWorld}
use Rattle.delegation_calls.specs.Delegation.{delegate_out}
use Rattle.manager_laws.proofs.laws.CreateTold.{create_told_21}
use Rattle.manager_laws.proofs.laws.Delegated as delegate
use Rattle.manager_laws.proofs.laws.Ways.{delete_by_cases, check_by_cases}
use Rattle.manager_calls.specs.Calls as manager
use Rattle.notification_calls.proofs.Noticing.{words_for_count, few_for}
use Rattle.revocation_laws.proofs.laws.HeldTold.{held_told_21}
use Rattle.revocation_laws.proofs.laws.ListsTold.{drain_told_21}
use Rattle.revocation_laws.proofs.laws.RevokeTold.{revoke_capability_told_21}
use Rattle.revocation_laws.proofs.laws.Told.{held_entered}
use Rattle.revocation_calls.specs.Calls as revocation
use Rattle.revocation_steps.specs.Revocation.{queue_for}
use Rattle.space.proofs.laws.Insert.{insert_by_cases}
use Rattle.space.specs.Change.{InsertOut, insert_out}
use Rattle.space.specs.Lookup.{looked_up}
use Rattle.space_calls.specs.Calls as space
use Rattle.space_reads.specs.Calls as space_reads
use Rattle.space_reads.specs.Replies.{found_reply}
use Rattle.space_laws.proofs.laws.Told.{revoke_told_21}
use Rattle.space_laws.proofs.laws.Ways.{create_by_cases}
use Rattle.base.specs.Cases.{when_by_cases, either}
use Rattle.steps.proofs.laws.Entered.{space_by_cases}
use Rattle.steps.specs.Enter.{on_space}
use Rattle.steps.specs.Replies.{Left, refuse, Reply}
use Rattle.steps.specs.Steps.{space_of, new_entry}
use Rattle.table.specs.declared.CapabilityEntry.{CapabilityEntry}
use Rattle.world.specs.Numbers.{numbers_of}
use Rattle.world.specs.Sound.{Sound}
use Rattle.world.specs.declared.Numbers.{Numbers}
use Rattle.request.specs.Reading.{reads, verdict_of}
use Rattle.request.specs.ReadingLaws.{good_exactly}
use Rattle.request.specs.declared.Request.{Request}
use Rattle.request_run.specs.Run.{pids, drained, called_1_to_5, called_6_to_10, called_11_to_15, called, judged, answered}

other : (a : Answer) → number_of a ≢ 21 → a ≢ BadField
other a differs e = differs (ap number_of e)

not_found : (value : CapabilityEntry → ℕ) (got : Option CapabilityEntry) (visits : ℕ) → (found_reply value got visits).answer ≢ BadField
not_found value (Some e) visits = other Done (λ e. omega arith)
not_found value None visits = other NotFound (λ e. omega arith)

not_inserted : (sp : List ℕ) (e : CapabilityEntry) → (insert_out sp e).answer ≢ BadField
not_inserted sp e =
    insert_by_cases sp e (λ (o : InsertOut). o.answer ≢ BadField) (λ over. other SpaceQuota (λ e. omega arith))
    (λ i under there. other AlreadyExists (λ e. omega arith)) (λ a. other Done (λ e. omega arith))

two_pids : length pids ≡ 2
two_pids = refl

module _ (mem : List ℕ) (sound : Sound mem) where
  abbrev d : Numbers
  d = numbers_of mem

  abbrev Never : Left Reply → Type 0
  Never out = out.reply.answer ≢ BadField

  -- ---- call by call

  on_space_keeps : (s : ℕ) (call : Numbers → Left Reply) → Never (call d) → Never (on_space (refuse mem) mem s call)
  on_space_keeps s call own =
      space_by_cases Never (refuse mem) mem call (λ bad. other BadWorld (λ e. omega arith)) s
      (λ sound far. other BadSpace (λ e. omega arith)) (λ sound there. own)

  delegates : (token source target rights : ℕ) → Never (delegate_out mem token source target rights)
  delegates token source target rights =
      let w = delegate.way mem token source target rights in
      subst Never (sym (delegate.goes mem token source target rights w)) (go w)
    where
      go : (w : delegate.Way mem token source target rights) → Never (delegate.out_of mem token source target rights w)
      go (delegate.bad_world bad) = other _ (λ e. omega arith)
      go (delegate.bad_source sound far) = other _ (λ e. omega arith)
      go (delegate.bad_target sound there far) = other _ (λ e. omega arith)
      go (delegate.absent entered none) = other _ (λ e. omega arith)
      go (delegate.ungranted entered e found none) = other _ (λ e. omega arith)
      go (delegate.reused g is) = other _ (λ e. omega arith)
      go (delegate.crowded g none many) = other _ (λ e. omega arith)
      go (delegate.exhausted a is) = other _ (λ e. omega arith)
      go (delegate.orphaned t outside) = other _ (λ e. omega arith)
      go (delegate.stale t inside is) = other _ (λ e. omega arith)
      go (delegate.full g over) = other _ (λ e. omega arith)
      go (delegate.refused g room none) = other _ (λ e. omega arith)
      go (delegate.accepted g room takes) = other _ (λ e. omega arith)

  looks_up : (s token : ℕ) → Never (space_reads.lookup_out mem s token)
  unfolding space_reads.lookup_out
  looks_up s token =
      let l = looked_up (space_of d s mem) token in
      on_space_keeps s _ (not_found (λ e. e.rights.0) l.got l.visits)

  checks : (token required s : ℕ) → Never (manager.check_out mem token required s)
  checks token required s =
      check_by_cases mem token required s Never (λ bad. other BadWorld (λ e. omega arith)) (λ sound far. other BadSpace (λ e. omega arith))
      (λ sound there without. other InsufficientRights (λ e. omega arith))
      (λ sound there with' stale. other CapabilityRevoked (λ e. omega arith)) (λ sound there with' good. other Done (λ e. omega arith))

  removes : (s token : ℕ) → Never (space.remove_out mem s token)
  unfolding space.remove_out
  removes s token =
      let l = looked_up (space_of d s mem) token in
      on_space_keeps s _ (not_found (λ e. e.object) l.got l.visits)

  deletes : (token : ℕ) → Never (manager.delete_out mem token)
  deletes token =
      delete_by_cases mem token Never (λ bad. other BadWorld (λ e. omega arith)) (λ sound outside. other NotFound (λ e. omega arith))
      (λ sound inside full. other RecycleFull (λ e. omega arith)) (λ sound inside room. other Done (λ e. omega arith))

  revokes_held : (s token time : ℕ) → Never (revocation.revoke_held_out mem s token time pids)
  revokes_held s token time =
      by_cases (dec_lt s d.spaces)
      (λ there e. omega (arith, two_pids, (held_told_21 mem sound s there token time pids).0 e))
      (λ far e. omega (arith, ap number_of (sym e ∙ (held_entered mem time pids s token).bad_space.1 (sound, omega arith))))

  clears : (s : ℕ) → Never (space.clear_out mem s)
  unfolding space.clear_out
  clears s = on_space_keeps s _ (other Done (λ e. omega arith))

  copies : (target source : ℕ) → Never (space.copy_out mem target source)
  unfolding space.copy_out
  copies target source = on_space_keeps target _ (either Never _ _ _ (other BadSpace (λ e. omega arith)) (other Done (λ e. omega arith)))

  revokes_all : (s : ℕ) → Never (space.revoke_all_out mem s)
  unfolding space.revoke_all_out
  revokes_all s = on_space_keeps s _ (other Done (λ e. omega arith))

  inserts : (s token object rights : ℕ) → Never (space.insert_call_out mem s token object rights)
  unfolding space.insert_call_out
  inserts s token object rights = on_space_keeps s _ (not_inserted (space_of d s mem) (new_entry token object rights))

  creates : (s rights object : ℕ) → Never (space.create_out mem s rights object)
  creates s rights object =
      create_by_cases mem s rights object Never (λ bad. other BadWorld (λ e. omega arith)) (λ sound far. other BadSpace (λ e. omega arith))
      (λ sound there none. other SpaceIds (λ e. omega arith)) (λ sound there id is. not_inserted _ _)

  drains : (pid : ℕ) → Never (drained pid mem)
  unfolding drained
  drains pid e =
      let q : ℕ = queue_for d mem pid in
      let area : List ℕ = replicate 768 0 in
      omega (
        arith,
        (drain_told_21 mem sound pid area).0 e,
        length-replicate {A = ℕ} 768 0,
        words_for_count d mem q,
        few_for d mem q sound,
      )

  revokes_token : (token time : ℕ) → Never (revocation.revoke_capability_out mem token time pids)
  revokes_token token time e = omega (arith, two_pids, (revoke_capability_told_21 mem sound token time pids).0 e)

  -- A space revoke is the one call of a record that reads an id.
  revokes_exactly : (s id : ℕ) → s < d.spaces → ((space.revoke_out mem s id).reply.answer ≡ BadField) ↔ (2 ^ 48 ≤ id)
  revokes_exactly s id there =
      let (told, tells) = revoke_told_21 mem s id in (λ e. (told e).1.1, λ over. tells (sound, (there, over)))

  -- ---- a record

  module _ (r : Request) (coded : r.cap_type ≤ 15) where
    abbrev Over : Type 0
    Over = (r.op ≡ 13) × (2 ^ 48 ≤ r.a)

    abbrev Exactly : Left Reply → Type 0
    Exactly out = (out.reply.answer ≡ BadField) ↔ Over

    never : (answer : Answer) → answer ≢ BadField → r.op ≢ 13 → (answer ≡ BadField) ↔ Over
    never answer no_21 not_13 = (λ e. absurd (no_21 e), λ (is_13, over). absurd (not_13 is_13))

    never_1_to_5 : Never (called_1_to_5 r mem)
    unfolding called_1_to_5
    never_1_to_5 =
        either Never _ _ _
        (λ e. omega (arith, ((create_told_21 mem r.space r.a (eqb r.valid 1) r.cap_type r.rights).0 e).1.1))
        (either Never _ _ _ (delegates r.a r.space r.second r.rights)
        (either Never _ _ _ (looks_up r.space r.a)
        (either Never _ _ _ (checks r.a r.rights r.space) (removes r.space r.a))))

    never_6_to_10 : Never (called_6_to_10 r mem)
    unfolding called_6_to_10
    never_6_to_10 =
        either Never _ _ _ (deletes r.a)
        (either Never _ _ _ (revokes_held r.space r.a r.b)
        (either Never _ _ _ (clears r.space) (either Never _ _ _ (copies r.space r.second) (revokes_all r.space))))

    module _ (near : r.op ≡ 13 → r.space < d.spaces) where
      exactly_11_to_15 : Exactly (called_11_to_15 r mem)
      unfolding called_11_to_15
      exactly_11_to_15 =
          when_by_cases Exactly _ _ (eqb r.op 11)
          (λ e. never _ (inserts r.space r.a r.b r.rights) (λ is_13. omega (arith, eqb-true r.op 11 e)))
          (λ _. when_by_cases Exactly _ _ (eqb r.op 12)
          (λ e. never _ (creates r.space r.rights r.a) (λ is_13. omega (arith, eqb-true r.op 12 e)))
          (λ _. when_by_cases Exactly _ _ (eqb r.op 13)
          (λ e.
          let is_13 : r.op ≡ 13 = eqb-true r.op 13 e in
          let exactly = revokes_exactly r.space r.a (near is_13) in
          (λ told. (is_13, exactly.0 told), λ (is_13, over). exactly.1 over))
          (λ other. when_by_cases Exactly _ _ (eqb r.op 14) (λ _. never _ (drains r.a) (eqb-false r.op 13 other))
          (λ _. never _ (revokes_token r.a r.b) (eqb-false r.op 13 other)))))

      called_21 : Exactly (called r mem)
      unfolding called
      called_21 =
          when_by_cases Exactly _ _ (ltb r.op 6) (λ e. never _ never_1_to_5 (λ is_13. omega (arith, ltb-true r.op 6 e)))
          (λ _. when_by_cases Exactly _ _ (ltb r.op 11) (λ e. never _ never_6_to_10 (λ is_13. omega (arith, ltb-true r.op 11 e)))
          (λ _. exactly_11_to_15))

    pub served_21 :
        (numbers_of mem).spaces ≡ 4
        → ((answered r mem).reply.answer ≡ BadField)
        ↔ ((verdict_of r 4 ≡ Err refusal.BadField) ⊎ ((verdict_of r 4 ≡ Ok tt) × ((r.op ≡ 13) × (2 ^ 48 ≤ r.a))))
    unfolding answered
    served_21 four = go (verdict_of r 4) refl
      where
        goodness : Result ⊤ Refusal → ℕ
        goodness (Ok made) = 1
        goodness (Err a) = 0

        go : (v : Result ⊤ Refusal) → verdict_of r 4 ≡ v
            → ((judged v r mem).reply.answer ≡ BadField) ↔ ((v ≡ Err refusal.BadField) ⊎ ((v ≡ Ok tt) × Over))
        go (Err a) is = (
          λ e. inl (cc e),
          ⊎_elim (λ e. ap answer_of e) (λ (e, over). absurd (omega (arith, ap goodness e))),
        )
        go (Ok tt) is =
            let near = ((good_exactly r 4).0 is).2 in
            let there : r.op ≡ 13 → r.space < d.spaces =
            λ is_13. omega (arith, four, near 0 (omega arith) (ap (λ op. reads op 0) is_13)) in (
              λ e. inr (refl, (called_21 there).0 e),
              ⊎_elim (λ e. absurd (omega (arith, ap goodness e))) (λ (e, over). (called_21 there).1 over),
            )
