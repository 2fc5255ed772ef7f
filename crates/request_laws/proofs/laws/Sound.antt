-- A record's call keeps a sound memory sound and is not given 26; so a run on an opened memory is sound throughout and prints no 26.
use Rattle.std.specs.Prelude.{⊤}
use Rattle.std.proofs.Common.{Bool, List, ◌↔◌, ◌≢◌, ◌≡◌, refl, subst, sym, ap, ◌∙◌, ℕ, zero, suc, ◌*◌, ◌^◌, ◌≤◌, ◌<◌, arith, eqb, length, Result}
use Rattle.answers.specs.declared.Refusal.{Refusal}
use Rattle.answers.specs.Number.{number_of}
use Rattle.answers.specs.Answer.{Answer, BadSpace, BadField, BadWorld}
use Rattle.manager_laws.proofs.laws.CreateTold.{create_entered}
use Rattle.manager_laws.proofs.laws.DelegateTold.{delegate_told_26}
use Rattle.manager_laws.proofs.laws.Refused.{check_entered, delete_entered}
use Rattle.manager_laws.proofs.laws.Sound as manager
use Rattle.revocation_laws.proofs.laws.Sound as revocation
use Rattle.revocation_laws.proofs.laws.Told.{held_entered, drain_entered, revoke_capability_entered}
use Rattle.space_laws.proofs.laws.Refused as told
use Rattle.space_laws.proofs.laws.Sound as space
use Rattle.base.specs.Cases.{either}
use Rattle.steps.proofs.laws.Kept.{Kept, kept_refl, kept_trans}
use Rattle.steps.proofs.laws.Told.{Told}
use Rattle.steps.specs.Replies.{Left, refuse, Reply}
use Rattle.world.specs.Numbers.{numbers_of}
use Rattle.world.specs.Open.{opened}
use Rattle.world.specs.Opened.{opened_numbers}
use Rattle.world.specs.OpenedSound.{opened_sound}
use Rattle.world.specs.Regions.{length_for}
use Rattle.world.specs.Sound.{SoundAt, Sound}
use Rattle.request.specs.Reading.{verdict_of}
use Rattle.request.specs.Record.{request_of}
use Rattle.request.specs.declared.Request.{Request}
use Rattle.request_run.proofs.laws.Room.{numbers_good}
use Rattle.request_run.specs.ByRecord.{memory_after, reply_after}
use Rattle.request_run.specs.Run.{numbers, quotas, pids, drained, called_1_to_5, called_6_to_10, called_11_to_15, called, judged, answered}
use Rattle.request_run.specs.RunLaws.{request_small}

-- A call that keeps the memory sound, with its numbers, its length and the words past the world, and is not given 26.
pub record Fine (mem : List ℕ) (out : Left Reply) : Type 0 where
  pub kept : Kept (numbers_of mem) mem out.memory
  pub not_26 : out.reply.answer ≢ BadWorld

-- ---- one record

module _ (mem : List ℕ) (sound : Sound mem) where
  -- By what the calls' laws say of 26, without a space and with one.
  sure : (out : Left Reply) → Kept (numbers_of mem) mem out.memory → (out.reply.answer ≡ BadWorld) ↔ (¬ Sound mem) → Fine mem out
  sure out kept exactly = record { kept = kept; not_26 = λ e. exactly.0 e sound }

  fine : (s : ℕ) (out : Left Reply) → Kept (numbers_of mem) mem out.memory → Told mem s out.reply.answer → Fine mem out
  fine s out kept told = sure out kept told.bad_world

  refused : (a : Answer) → number_of a ≢ 26 → Fine mem (refuse mem a)
  refused a other = record { kept = kept_refl (numbers_of mem) mem sound; not_26 = λ e. other (ap number_of e) }

  module _ (r : Request) (fits : r.rights < 2 ^ 32) where
    fine_1_to_5 : Fine mem (called_1_to_5 r mem)
    unfolding called_1_to_5
    fine_1_to_5 =
        let s : ℕ = r.space in
        let a : ℕ = r.a in
        let rights : ℕ = r.rights in
        let valid : Bool = eqb r.valid 1 in
        either (Fine mem) _ _ _
        (fine s _ (manager.create_keeps mem sound s a valid r.cap_type rights fits)
        (create_entered mem s a valid r.cap_type rights))
        (either (Fine mem) _ _ _
        (sure _ (manager.delegate_keeps mem sound a s r.second rights fits) (delegate_told_26 mem a s r.second rights))
        (either (Fine mem) _ _ _ (fine s _ (space.lookup_keeps mem sound s a) (told.lookup_entered mem s a))
        (either (Fine mem) _ _ _ (fine s _ (manager.check_keeps mem sound a rights s) (check_entered mem a rights s))
        (fine s _ (space.remove_keeps mem sound s a) (told.remove_entered mem s a)))))

    fine_6_to_10 : Fine mem (called_6_to_10 r mem)
    unfolding called_6_to_10
    fine_6_to_10 =
        let s : ℕ = r.space in
        either (Fine mem) _ _ _ (sure _ (manager.delete_keeps mem sound r.a) (delete_entered mem r.a))
        (either (Fine mem) _ _ _
        (fine s _ (revocation.revoke_held_keeps mem sound s r.a r.b pids) (held_entered mem r.b pids s r.a))
        (either (Fine mem) _ _ _ (fine s _ (space.clear_keeps mem sound s) (told.clear_entered mem s))
        (either (Fine mem) _ _ _ (sure _ (space.copy_keeps mem sound s r.second) (told.copy_entered mem s r.second).0)
        (fine s _ (space.revoke_all_keeps mem sound s) (told.revoke_all_entered mem s)))))

    fine_drained : Fine mem (drained r.a mem)
    unfolding drained
    fine_drained = sure _ (revocation.drain_keeps mem sound r.a _) (drain_entered mem r.a _)

    fine_11_to_15 : Fine mem (called_11_to_15 r mem)
    unfolding called_11_to_15
    fine_11_to_15 =
        let s : ℕ = r.space in
        let a : ℕ = r.a in
        let rights : ℕ = r.rights in
        either (Fine mem) _ _ _ (fine s _ (space.insert_keeps mem sound s a r.b rights fits) (told.insert_entered mem s a r.b rights))
        (either (Fine mem) _ _ _ (fine s _ (space.create_keeps mem sound s rights a fits) (told.create_entered mem s rights a))
        (either (Fine mem) _ _ _ (fine s _ (space.revoke_keeps mem sound s a) (told.revoke_entered mem s a))
        (either (Fine mem) _ _ _ fine_drained
        (sure _ (revocation.revoke_capability_keeps mem sound a r.b pids) (revoke_capability_entered mem r.b pids a)))))

    pub called_sound : Fine mem (called r mem)
    unfolding called
    called_sound = either (Fine mem) _ _ _ fine_1_to_5 (either (Fine mem) _ _ _ fine_6_to_10 fine_11_to_15)

    -- Refused or called, the memory stays sound and the answer is not 26.
    pub served_sound : Fine mem (answered r mem)
    unfolding answered verdict_of
    served_sound =
        either Judged _ _ _ bad_field
        (either Judged _ _ _ bad_field
        (either Judged _ _ _ (refused BadSpace (λ e. omega arith)) (either Judged _ _ _ bad_field called_sound)))
      where
        Judged : Result ⊤ Refusal → Type 0
        Judged v = Fine mem (judged v r mem)

        bad_field : Fine mem (refuse mem BadField)
        bad_field = refused BadField (λ e. omega arith)

-- ---- a run

module _ (bytes mem : List ℕ) (long : length_for numbers ≤ length mem) where
  abbrev world : List ℕ
  world = opened numbers quotas mem

  abbrev record_at : ℕ → Request
  record_at k = request_of bytes (24 * k)

  is_named : numbers_of world ≡ numbers
  is_named = opened_numbers numbers quotas mem long

  sound_kept : (now : List ℕ) → Kept numbers world now → Sound now
  sound_kept now kept = subst (λ d. SoundAt d now) (sym (kept.numbers ∙ is_named)) kept.sound

  at_record :
      (k : ℕ) → Kept numbers world (memory_after bytes world k)
      → Fine (memory_after bytes world k) (answered (record_at k) (memory_after bytes world k))
  at_record k kept =
      served_sound (memory_after bytes world k) (sound_kept _ kept) (record_at k) (request_small bytes (24 * k) (record_at k) refl).1

  -- After each record the world has its numbers, 4 spaces among them, its length and its words past what it needs, and is sound.
  pub run_stays : (k : ℕ) → Kept numbers world (memory_after bytes world k)
  unfolding memory_after
  run_stays zero =
      kept_refl numbers world (subst (λ d. SoundAt d world) is_named (opened_sound numbers quotas mem long numbers_good))
  run_stays (suc k) =
      let before = run_stays k in
      let now : List ℕ = memory_after bytes world k in
      let next : List ℕ = (answered (record_at k) now).memory in
      kept_trans numbers world now next before (subst (λ d. Kept d now next) (before.numbers ∙ is_named) (at_record k before).kept)

  pub run_stays_sound : (k : ℕ) → Sound (memory_after bytes world k)
  run_stays_sound k = sound_kept _ (run_stays k)

  -- No record is answered 26.
  pub run_never_26 : (k : ℕ) → (reply_after bytes world k).answer ≢ BadWorld
  run_never_26 k = (at_record k (run_stays k)).not_26
