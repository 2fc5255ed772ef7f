-- When each answer of create is given: 26 exactly on memory that is not sound, 20 exactly on a sound one for a space number of S or more,
-- and 21, 5, 9, 22, 4 and 0 exactly in their stated cases.
use Rattle.std.proofs.Common.{Bool, false, List, ◌↔◌, ◌≡◌, sym, ap, subst, ◌∙◌, ℕ, ◌≤◌, ◌<◌, eqb, None}
use Rattle.answers.specs.Number.{number_of}
use Rattle.answers.specs.Answer.{Answer, Done, OutOfMemory, InvalidObject, IdExhausted, BadSpace, BadField, RegistryFull, BadWorld}
use Rattle.space.proofs.laws.Insert.{Accepts}
use Rattle.steps.specs.Replies.{Left, Reply}
use Rattle.steps.specs.Steps.{space_of, taken_id}
use Rattle.base.specs.Cases.{stated}
use Rattle.steps.proofs.laws.Cases.{answer_of}
use Rattle.steps.proofs.laws.Told.{Told}
use Rattle.world.specs.Numbers.{numbers_of, registered_of}
use Rattle.world.specs.Sound.{Sound}
use Rattle.manager_calls.specs.Calls.{create_out}
use Rattle.manager_laws.proofs.laws.Created as create

module _ (mem : List ℕ) (s object : ℕ) (valid : Bool) (cap_type rights : ℕ) where
  abbrev answer : Answer
  answer = (create_out mem s object valid cap_type rights).reply.answer

  abbrev Asked : Type 0
  Asked = create.Asked mem s object valid cap_type rights

  abbrev Took : Type 0
  Took = create.Took mem s object valid cap_type rights

  -- The space takes the new entry.
  abbrev Takes : Took → Type 0
  Takes t = Accepts (space_of (numbers_of mem) s mem) (create.entry_for mem s object valid cap_type rights t)

  -- The stated cases by answer number.
  abbrev Case : ℕ → Type 0
  Case n =
      stated (eqb n 26) (¬ Sound mem)
      (stated (eqb n 20) (Sound mem × ((numbers_of mem).spaces ≤ s))
      (stated (eqb n 21) (Sound mem × ((s < (numbers_of mem).spaces) × (15 < cap_type)))
      (stated (eqb n 5) (Sound mem × ((s < (numbers_of mem).spaces) × ((cap_type ≤ 15) × (valid ≡ false))))
      (stated (eqb n 9) (Asked × (taken_id (numbers_of mem) mem ≡ None))
      (stated (eqb n 22) (Took × ((numbers_of mem).places ≤ registered_of mem))
      (stated (eqb n 4) ((t : Took) × ((registered_of mem < (numbers_of mem).places) × (¬ Takes t)))
      ((t : Took) × ((registered_of mem < (numbers_of mem).places) × Takes t))))))))

  abbrev Way : Type 0
  Way = create.Way mem s object valid cap_type rights

  abbrev out_of : Way → Left Reply
  out_of w = create.out_of mem s object valid cap_type rights w

  answers : (w : Way) → answer ≡ answer_of (out_of w)
  answers w = ap answer_of (create.goes mem s object valid cap_type rights w)

  in_case : (a : Answer) → answer ≡ a → Case (number_of a)
  in_case a e = subst (λ a. Case (number_of a)) (sym (answers way) ∙ e) (go way)
    where
      way : Way
      way = create.way mem s object valid cap_type rights

      go : (w : Way) → Case (number_of (answer_of (out_of w)))
      go (create.bad_world bad) = bad
      go (create.bad_space sound far) = (sound, far)
      go (create.bad_type sound there over) = (sound, (there, over))
      go (create.bad_object sound there fits off) = (sound, (there, (fits, off)))
      go (create.exhausted a is) = (a, is)
      go (create.full t over) = (t, over)
      go (create.refused t room none) = (t, (room, none))
      go (create.accepted t room takes) = (t, (room, takes))

  pub create_entered : Told mem s (create_out mem s object valid cap_type rights).reply.answer
  create_entered = record {
    bad_world = (in_case BadWorld, λ bad. answers (create.bad_world bad));
    bad_space = (in_case BadSpace, λ (sound, far). answers (create.bad_space sound far));
  }

  pub create_told_21 :
      ((create_out mem s object valid cap_type rights).reply.answer ≡ BadField)
      ↔ (Sound mem × ((s < (numbers_of mem).spaces) × (15 < cap_type)))
  create_told_21 = (in_case BadField, λ (sound, (there, over)). answers (create.bad_type sound there over))

  pub create_told_5 :
      ((create_out mem s object valid cap_type rights).reply.answer ≡ InvalidObject)
      ↔ (Sound mem × ((s < (numbers_of mem).spaces) × ((cap_type ≤ 15) × (valid ≡ false))))
  create_told_5 =
      (in_case InvalidObject, λ (sound, (there, (fits, off))). answers (create.bad_object sound there fits off))

  pub create_told_9 :
      ((create_out mem s object valid cap_type rights).reply.answer ≡ IdExhausted)
      ↔ (Asked × (taken_id (numbers_of mem) mem ≡ None))
  create_told_9 = (in_case IdExhausted, λ (a, is). answers (create.exhausted a is))

  pub create_told_22 :
      ((create_out mem s object valid cap_type rights).reply.answer ≡ RegistryFull)
      ↔ (Took × ((numbers_of mem).places ≤ registered_of mem))
  create_told_22 = (in_case RegistryFull, λ (t, over). answers (create.full t over))

  pub create_told_4 :
      ((create_out mem s object valid cap_type rights).reply.answer ≡ OutOfMemory)
      ↔ ((t : Took) × ((registered_of mem < (numbers_of mem).places) × (¬ Takes t)))
  create_told_4 = (in_case OutOfMemory, λ (t, (room, none)). answers (create.refused t room none))

  pub create_told_0 :
      ((create_out mem s object valid cap_type rights).reply.answer ≡ Done)
      ↔ ((t : Took) × ((registered_of mem < (numbers_of mem).places) × Takes t))
  create_told_0 = (in_case Done, λ (t, (room, takes)). answers (create.accepted t room takes))
