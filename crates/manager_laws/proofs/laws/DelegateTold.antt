-- When each answer of delegate is given: 26 exactly on memory that is not sound, 20 exactly on a sound one where either space number is S
-- or more, and 1, 6, 10, 9, 3, 22, 4 and 0 exactly in their stated cases. And what each refusal leaves: its value is 0 and it changes
-- nothing, except: a lookup stays counted; a collection stays done; 4 leaves the parent a list; an id that was taken is recycled.
use Rattle.std.proofs.Common.{Bool, true, false, List, ◌↔◌, ◌≢◌, ◌⊎◌, inl, inr, ⊎_elim, ◌≡◌, refl, sym, ap, subst, ◌∙◌, ℕ, suc, ◌≤◌, ◌<◌, arith, eqb, Option, None, Some}
use Rattle.std.proofs.Math.Decide.{dec_lt}
use Rattle.std.proofs.Math.Logic.{by_cases}
use Rattle.answers.specs.Number.{number_of}
use Rattle.answers.specs.Answer.{Answer, Done, InvalidCapability, CapabilityRevoked, OutOfMemory, PermissionDenied, IdExhausted, QuotaExceeded, BadSpace, RegistryFull, BadWorld}
use Rattle.space.proofs.laws.Insert.{Accepts}
use Rattle.steps.specs.Replies.{Left, Reply}
use Rattle.steps.specs.Steps.{space_of, lookup_step, taken_id, objects, children_of}
use Rattle.base.specs.Cases.{stated}
use Rattle.steps.proofs.laws.Cases.{answer_of}
use Rattle.steps.proofs.laws.Taking.{none_taken}
use Rattle.token.specs.Rights.{GRANT, holds}
use Rattle.table.specs.declared.CapabilityEntry.{CapabilityEntry}
use Rattle.manager_laws.proofs.laws.Roomed.{parent_in}
use Rattle.world.specs.Numbers.{numbers_of, registered_of}
use Rattle.world.specs.Sound.{Sound}
use Rattle.world.specs.declared.Numbers.{Numbers}
use Rattle.delegation_calls.specs.Delegation.{delegate_out}
use Rattle.manager_calls.specs.Tokens.{current}
use Rattle.manager_laws.proofs.laws.Delegated as delegate
use Rattle.manager_laws.proofs.laws.Recording.{with_list, recording}
use Rattle.manager_laws.proofs.laws.Undone.{Undone, registering_undone}

module _ (mem : List ℕ) (token source target rights : ℕ) where
  abbrev d : Numbers
  d = numbers_of mem

  abbrev out : Left Reply
  out = delegate_out mem token source target rights

  -- How far the call comes.
  abbrev Entered : Type 0
  Entered = delegate.Entered mem token source target rights

  abbrev Granted : Type 0
  Granted = delegate.Granted mem token source target rights

  abbrev Asked : Type 0
  Asked = delegate.Asked mem token source target rights

  abbrev Took : Type 0
  Took = delegate.Took mem token source target rights

  abbrev Good : Type 0
  Good = delegate.Good mem token source target rights

  -- What the source holds under the token.
  abbrev got : Option CapabilityEntry
  got = delegate.got mem token source target rights

  -- The target holds a child already.
  abbrev held : Granted → Bool
  held g = (delegate.offer mem token source target rights g).held

  -- How many children remain, after the collection where there was one.
  abbrev remain : Granted → ℕ
  remain g =
      children_of (numbers_of mem) (delegate.base mem token source target rights g)
      (parent_in (numbers_of mem) token (delegate.offer mem token source target rights g).memory)

  -- The memory that an id is taken from.
  abbrev base : Granted → List ℕ
  base g = delegate.base mem token source target rights g

  abbrev from : Took → List ℕ
  from t = delegate.from mem token source target rights t

  abbrev parent : Took → ℕ
  parent t = delegate.parent mem token source target rights t

  abbrev Room : Good → Type 0
  Room g = registered_of (from g.took) < (numbers_of mem).places

  -- The target takes the child's entry.
  abbrev Takes : Good → Type 0
  Takes g = Accepts (space_of (numbers_of mem) target (from g.took)) (delegate.child_entry mem token source target rights g.took)

  -- The stated cases by answer number.
  abbrev Case : ℕ → Type 0
  Case n =
      stated (eqb n 26) (¬ Sound mem)
      (stated (eqb n 20) (Sound mem × (((numbers_of mem).spaces ≤ source) ⊎ ((numbers_of mem).spaces ≤ target)))
      (stated (eqb n 1) ((Entered × (got ≡ None)) ⊎ ((t : Took) × (registered_of (from t) ≤ parent t)))
      (stated (eqb n 6) (Entered × ((e : CapabilityEntry) × ((got ≡ Some e) × (holds e.rights.0 GRANT ≡ false))))
      (stated (eqb n 10) ((g : Granted) × ((held g ≡ false) × (1024 ≤ remain g)))
      (stated (eqb n 9) ((a : Asked) × (taken_id (numbers_of mem) (base a.granted) ≡ None))
      (stated (eqb n 3)
      ((t : Took) × ((parent t < registered_of (from t)) × (current (numbers_of mem) (from t) token (parent t) ≡ false)))
      (stated (eqb n 22) ((g : Good) × ((numbers_of mem).places ≤ registered_of (from g.took)))
      (stated (eqb n 4) ((g : Good) × (Room g × (¬ Takes g)))
      (((g : Granted) × (held g ≡ true)) ⊎ ((g : Good) × (Room g × Takes g)))))))))))

  abbrev Way : Type 0
  Way = delegate.Way mem token source target rights

  abbrev out_of : Way → Left Reply
  out_of w = delegate.out_of mem token source target rights w

  answers : (w : Way) → answer_of out ≡ answer_of (out_of w)
  answers w = ap answer_of (delegate.goes mem token source target rights w)

  in_case : (a : Answer) → answer_of out ≡ a → Case (number_of a)
  in_case a e = subst (λ a. Case (number_of a)) (sym (answers way) ∙ e) (go way)
    where
      way : Way
      way = delegate.way mem token source target rights

      go : (w : Way) → Case (number_of (answer_of (out_of w)))
      go (delegate.bad_world bad) = bad
      go (delegate.bad_source sound far) = (sound, inl far)
      go (delegate.bad_target sound there far) = (sound, inr far)
      go (delegate.absent entered none) = inl (entered, none)
      go (delegate.ungranted entered e found none) = (entered, (e, (found, none)))
      go (delegate.reused g is) = inl (g, is)
      go (delegate.crowded g none many) = (g, (none, many))
      go (delegate.exhausted a is) = (a, is)
      go (delegate.orphaned t outside) = inr (t, outside)
      go (delegate.stale t inside is) = (t, (inside, is))
      go (delegate.full g over) = (g, over)
      go (delegate.refused g room none) = (g, (room, none))
      go (delegate.accepted g room takes) = inr (g, (room, takes))

  pub delegate_told_26 : ((delegate_out mem token source target rights).reply.answer ≡ BadWorld) ↔ (¬ Sound mem)
  delegate_told_26 = (in_case BadWorld, λ bad. answers (delegate.bad_world bad))

  pub delegate_told_20 :
      ((delegate_out mem token source target rights).reply.answer ≡ BadSpace)
      ↔ (Sound mem × (((numbers_of mem).spaces ≤ source) ⊎ ((numbers_of mem).spaces ≤ target)))
  delegate_told_20 = (in_case BadSpace, λ (sound, far). ⊎_elim (λ far. answers (delegate.bad_source sound far)) (second sound) far)
    where
      second : Sound mem → (numbers_of mem).spaces ≤ target → answer_of out ≡ BadSpace
      second sound far =
          by_cases (dec_lt source d.spaces)
          (λ there. answers (delegate.bad_target sound there far))
          (λ none. answers (delegate.bad_source sound (omega arith)))

  pub delegate_told_1 :
      ((delegate_out mem token source target rights).reply.answer ≡ InvalidCapability)
      ↔ ((Entered × (got ≡ None)) ⊎ ((t : Took) × (registered_of (from t) ≤ parent t)))
  delegate_told_1 = (
    in_case InvalidCapability,
    ⊎_elim (λ (entered, none). answers (delegate.absent entered none)) (λ (t, outside). answers (delegate.orphaned t outside)),
  )

  pub delegate_told_6 :
      ((delegate_out mem token source target rights).reply.answer ≡ PermissionDenied)
      ↔ (Entered × ((e : CapabilityEntry) × ((got ≡ Some e) × (holds e.rights.0 GRANT ≡ false))))
  delegate_told_6 = (in_case PermissionDenied, λ (entered, (e, (found, none))). answers (delegate.ungranted entered e found none))

  pub delegate_told_10 :
      ((delegate_out mem token source target rights).reply.answer ≡ QuotaExceeded)
      ↔ ((g : Granted) × ((held g ≡ false) × (1024 ≤ remain g)))
  delegate_told_10 = (in_case QuotaExceeded, λ (g, (none, many)). answers (delegate.crowded g none many))

  pub delegate_told_9 :
      ((delegate_out mem token source target rights).reply.answer ≡ IdExhausted)
      ↔ ((a : Asked) × (taken_id (numbers_of mem) (base a.granted) ≡ None))
  delegate_told_9 = (in_case IdExhausted, λ (a, is). answers (delegate.exhausted a is))

  pub delegate_told_3 :
      ((delegate_out mem token source target rights).reply.answer ≡ CapabilityRevoked)
      ↔ ((t : Took) × ((parent t < registered_of (from t)) × (current (numbers_of mem) (from t) token (parent t) ≡ false)))
  delegate_told_3 = (in_case CapabilityRevoked, λ (t, (inside, is)). answers (delegate.stale t inside is))

  pub delegate_told_22 :
      ((delegate_out mem token source target rights).reply.answer ≡ RegistryFull)
      ↔ ((g : Good) × ((numbers_of mem).places ≤ registered_of (from g.took)))
  delegate_told_22 = (in_case RegistryFull, λ (g, over). answers (delegate.full g over))

  pub delegate_told_4 :
      ((delegate_out mem token source target rights).reply.answer ≡ OutOfMemory) ↔ ((g : Good) × (Room g × (¬ Takes g)))
  delegate_told_4 = (in_case OutOfMemory, λ (g, (room, none)). answers (delegate.refused g room none))

  pub delegate_told_0 :
      ((delegate_out mem token source target rights).reply.answer ≡ Done)
      ↔ (((g : Granted) × (held g ≡ true)) ⊎ ((g : Good) × (Room g × Takes g)))
  delegate_told_0 = (
    in_case Done,
    ⊎_elim (λ (g, is). answers (delegate.reused g is)) (λ (g, (room, takes)). answers (delegate.accepted g room takes)),
  )

  -- ---- what a refusal leaves

  pub delegate_value :
      (delegate_out mem token source target rights).reply.answer ≢ Done → (delegate_out mem token source target rights).reply.value ≡ 0
  delegate_value =
      delegate.delegate_by_ways mem token source target rights (λ (out : Left Reply). answer_of out ≢ Done → out.reply.value ≡ 0)
      (λ after a some not_0. refl) (λ g held not_0. absurd (not_0 refl)) (λ g room a not_0. absurd (not_0 refl))

  -- The memory that a way leaves, and that of an answer by the way that its case names.
  leaves : (w : Way) → (delegate_out mem token source target rights).memory ≡ (out_of w).memory
  leaves w = ap (λ (out : Left Reply). out.memory) (delegate.goes mem token source target rights w)

  pub delegate_26_unchanged :
      (delegate_out mem token source target rights).reply.answer ≡ BadWorld → (delegate_out mem token source target rights).memory ≡ mem
  delegate_26_unchanged e = leaves (delegate.bad_world (in_case BadWorld e))

  pub delegate_20_unchanged :
      (delegate_out mem token source target rights).reply.answer ≡ BadSpace → (delegate_out mem token source target rights).memory ≡ mem
  delegate_20_unchanged e =
      let (sound, far) = in_case BadSpace e in
      by_cases (dec_lt source d.spaces)
      (λ there. leaves (delegate.bad_target sound there (⊎_elim (λ f. absurd (omega arith)) (λ f. f) far)))
      (λ none. leaves (delegate.bad_source sound (omega arith)))

  -- 1 where the source does not hold the token, and 6: the lookup is counted.
  pub delegate_absent :
      Entered → got ≡ None → (delegate_out mem token source target rights).memory ≡ lookup_step (numbers_of mem) source token mem
  delegate_absent entered none = leaves (delegate.absent entered none)

  pub delegate_6 :
      (delegate_out mem token source target rights).reply.answer ≡ PermissionDenied
      → (delegate_out mem token source target rights).memory ≡ lookup_step (numbers_of mem) source token mem
  delegate_6 e = let (entered, (entry, (found, none))) = in_case PermissionDenied e in leaves (delegate.ungranted entered entry found none)

  -- 10 and 9: the lookups are counted, and the collection done where there was one.
  pub delegate_10 :
      (delegate_out mem token source target rights).reply.answer ≡ QuotaExceeded
      → (g : Granted) × ((delegate_out mem token source target rights).memory ≡ base g)
  delegate_10 e = let (g, (none, many)) = in_case QuotaExceeded e in (g, leaves (delegate.crowded g none many))

  pub delegate_9 :
      (delegate_out mem token source target rights).reply.answer ≡ IdExhausted
      → (a : Asked) × ((delegate_out mem token source target rights).memory ≡ base a.granted)
  delegate_9 e =
      let (a, is) = in_case IdExhausted e in
      (a, leaves (delegate.exhausted a is) ∙ none_taken d (base a.granted) is)

  -- 1 where the parent is not registered, 3 and 22: besides, the id is recycled.
  abbrev back : Took → List ℕ
  back t = delegate.back mem token source target rights t

  pub delegate_orphaned :
      (t : Took) → registered_of (from t) ≤ parent t → (delegate_out mem token source target rights).memory ≡ back t
  delegate_orphaned t outside = leaves (delegate.orphaned t outside)

  pub delegate_3 :
      (delegate_out mem token source target rights).reply.answer ≡ CapabilityRevoked
      → (t : Took) × ((delegate_out mem token source target rights).memory ≡ back t)
  delegate_3 e = let (t, (inside, is)) = in_case CapabilityRevoked e in (t, leaves (delegate.stale t inside is))

  pub delegate_22 :
      (delegate_out mem token source target rights).reply.answer ≡ RegistryFull
      → (g : Good) × ((delegate_out mem token source target rights).memory ≡ back g.took)
  delegate_22 e = let (g, over) = in_case RegistryFull e in (g, leaves (delegate.full g over))

  -- 4: the id is recycled, and nothing else differs from the memory in which the parent has a list.
  pub delegate_undone :
      (g : Good) (room : Room g) (none : ¬ Takes g)
      → Undone (numbers_of mem) (with_list mem token source target rights g) g.took.id
      (delegate.out_of mem token source target rights (delegate.refused g room none)).memory
  delegate_undone g room none =
      let t : Took = g.took in
      registering_undone d _ t.id (objects d (from t) (parent t)) (suc (parent t)) (recording mem token source target rights g room)

  pub delegate_4 :
      (delegate_out mem token source target rights).reply.answer ≡ OutOfMemory
      → (g : Good)
      × Undone (numbers_of mem) (with_list mem token source target rights g) g.took.id
      (delegate_out mem token source target rights).memory
  delegate_4 e =
      let (g, (room, none)) = in_case OutOfMemory e in (
        g,
        subst (Undone d (with_list mem token source target rights g) g.took.id) (sym (leaves (delegate.refused g room none)))
            (delegate_undone g room none),
      )
