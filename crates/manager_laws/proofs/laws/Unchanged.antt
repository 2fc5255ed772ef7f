-- What refusals of create, delete and check leave. A refusal's value is 0 and it changes nothing, except: a lookup stays counted; an id
-- that create took goes to the recycled ones. DelegateTold.antt says it of delegate.
use Rattle.std.proofs.Common.{Bool, List, ◌≢◌, ◌≡◌, refl, sym, ap, subst, ◌∙◌, ℕ, ◌≤◌, ◌<◌, arith, get_or}
use Rattle.answers.specs.Answer.{Done, OutOfMemory, RegistryFull}
use Rattle.space.proofs.laws.Insert.{Accepts}
use Rattle.steps.specs.Replies.{Left, Reply}
use Rattle.steps.specs.Steps.{space_of, lookup_step, take_step, recycle_step}
use Rattle.steps.proofs.laws.Taking.{none_taken}
use Rattle.steps.proofs.laws.OnlyIds.{take_only_ids}
use Rattle.world.specs.Numbers.{numbers_of, registered_of}
use Rattle.world.specs.Sound.{Sound}
use Rattle.world.specs.declared.Numbers.{Numbers}
use Rattle.manager_calls.specs.Calls.{create_out, delete_out, check_out}
use Rattle.manager_laws.proofs.laws.Created as create
use Rattle.manager_laws.proofs.laws.CreateTold.{create_told_22, create_told_4}
use Rattle.manager_laws.proofs.laws.SameRegistered.{SameRegistered, registered_trans, take_same}
use Rattle.manager_laws.proofs.laws.Ways.{delete_by_cases, check_by_cases}
use Rattle.manager_laws.proofs.laws.Undone.{Undone, registering_undone}

-- ---- create

module _ (mem : List ℕ) (s object : ℕ) (valid : Bool) (cap_type rights : ℕ) where
  abbrev d : Numbers
  d = numbers_of mem

  abbrev Way : Type 0
  Way = create.Way mem s object valid cap_type rights

  abbrev Took : Type 0
  Took = create.Took mem s object valid cap_type rights

  pub create_value :
      (create_out mem s object valid cap_type rights).reply.answer ≢ Done → (create_out mem s object valid cap_type rights).reply.value ≡ 0
  create_value =
      create.create_by_ways mem s object valid cap_type rights
      (λ (out : Left Reply). out.reply.answer ≢ Done → out.reply.value ≡ 0)
      (λ after a some not_0. refl) (λ t room a not_0. absurd (not_0 refl))

  -- 26, 20, 21, 5, 9.
  pub create_unchanged :
      (create_out mem s object valid cap_type rights).reply.answer ≢ Done
      → (create_out mem s object valid cap_type rights).reply.answer ≢ RegistryFull
      → (create_out mem s object valid cap_type rights).reply.answer ≢ OutOfMemory
      → (create_out mem s object valid cap_type rights).memory ≡ mem
  create_unchanged = subst Unchanged (sym (create.goes mem s object valid cap_type rights way)) (go way)
    where
      Unchanged : Left Reply → Type 0
      Unchanged out = out.reply.answer ≢ Done → out.reply.answer ≢ RegistryFull → out.reply.answer ≢ OutOfMemory → out.memory ≡ mem

      way : Way
      way = create.way mem s object valid cap_type rights

      go : (w : Way) → Unchanged (create.out_of mem s object valid cap_type rights w)
      go (create.bad_world bad) = λ not_0 not_22 not_4. refl
      go (create.bad_space sound far) = λ not_0 not_22 not_4. refl
      go (create.bad_type sound there over) = λ not_0 not_22 not_4. refl
      go (create.bad_object sound there fits off) = λ not_0 not_22 not_4. refl
      go (create.exhausted a is) = λ not_0 not_22 not_4. none_taken d mem is
      go (create.full t over) = λ not_0 not_22 not_4. absurd (not_22 refl)
      go (create.refused t room none) = λ not_0 not_22 not_4. absurd (not_4 refl)
      go (create.accepted t room a) = λ not_0 not_22 not_4. absurd (not_0 refl)

  -- 22: the id is recycled.
  pub create_22 :
      (create_out mem s object valid cap_type rights).reply.answer ≡ RegistryFull
      → (t : Took)
      × ((create_out mem s object valid cap_type rights).memory ≡ recycle_step (numbers_of mem) t.id (take_step (numbers_of mem) mem))
  create_22 e =
      let (t, over) = (create_told_22 mem s object valid cap_type rights).0 e in
      (t, ap (λ (out : Left Reply). out.memory) (create.goes mem s object valid cap_type rights (create.full t over)))

  -- 4: the id is recycled, and nothing else differs from the memory after taking it,
  pub create_undone :
      (t : Took) (room : registered_of mem < (numbers_of mem).places)
      (none : ¬ Accepts (space_of (numbers_of mem) s mem) (create.entry_for mem s object valid cap_type rights t))
      → Undone (numbers_of mem) (take_step (numbers_of mem) mem) t.id
      (create.out_of mem s object valid cap_type rights (create.refused t room none)).memory
  create_undone t room none =
      registering_undone d _ t.id object 0 (create.recording mem s object valid cap_type rights t room)

  pub create_4 :
      (create_out mem s object valid cap_type rights).reply.answer ≡ OutOfMemory
      → (t : Took) × Undone (numbers_of mem) (take_step (numbers_of mem) mem) t.id (create_out mem s object valid cap_type rights).memory
  create_4 e =
      let (t, (room, none)) = (create_told_4 mem s object valid cap_type rights).0 e in (
        t,
        subst (λ (out : Left Reply). Undone d (take_step d mem) t.id out.memory)
            (sym (create.goes mem s object valid cap_type rights (create.refused t room none))) (create_undone t room none),
      )

  -- so registered ids, spaces and statistics are as before the call.
  module _ (told : (create_out mem s object valid cap_type rights).reply.answer ≡ OutOfMemory) where
    pub create_4_registered : SameRegistered (numbers_of mem) mem (create_out mem s object valid cap_type rights).memory
    create_4_registered =
        let (t, undone) = create_4 told in
        registered_trans d mem _ _ (take_same d mem t.asked.sound) undone.registered

    pub create_4_spaces :
        (k : ℕ) → k < (numbers_of mem).spaces
        → space_of (numbers_of mem) k (create_out mem s object valid cap_type rights).memory ≡ space_of (numbers_of mem) k mem
    create_4_spaces k l =
        let (t, undone) = create_4 told in
        undone.spaces k l ∙ (take_only_ids d mem t.asked.sound).same_spaces k l

    pub create_4_statistics :
        (i : ℕ) → 7 ≤ i → i < 11 → get_or (create_out mem s object valid cap_type rights).memory i 0 ≡ get_or mem i 0
    create_4_statistics i low high =
        let (t, undone) = create_4 told in
        undone.head i (omega arith) (omega arith)
        ∙ (take_only_ids d mem t.asked.sound).same_head i (omega arith) (omega arith) (omega arith)

-- ---- delete and check

-- They give no value, whatever they answer.
pub delete_value : (mem : List ℕ) (token : ℕ) → (delete_out mem token).reply.value ≡ 0
delete_value mem token =
    delete_by_cases mem token (λ (out : Left Reply). out.reply.value ≡ 0) (λ bad. refl) (λ sound outside. refl)
    (λ sound inside full. refl)
    (λ sound inside room. refl)

pub check_value : (mem : List ℕ) (token required s : ℕ) → (check_out mem token required s).reply.value ≡ 0
check_value mem token required s =
    check_by_cases mem token required s (λ (out : Left Reply). out.reply.value ≡ 0) (λ bad. refl) (λ sound far. refl)
    (λ sound there without. refl) (λ sound there granted stale. refl) (λ sound there granted good. refl)

-- 26, 8, 23.
pub delete_unchanged :
    (mem : List ℕ) (token : ℕ) → (delete_out mem token).reply.answer ≢ Done → (delete_out mem token).memory ≡ mem
delete_unchanged mem token =
    delete_by_cases mem token (λ (out : Left Reply). out.reply.answer ≢ Done → out.memory ≡ mem)
    (λ bad not_0. refl) (λ sound outside not_0. refl) (λ sound inside full not_0. refl) (λ sound inside room not_0. absurd (not_0 refl))

-- Whatever a check answers, it counted its lookup and did nothing else; but for 26 and 20, which leave all as it is.
pub check_counts :
    (mem : List ℕ) (token required s : ℕ) → Sound mem → s < (numbers_of mem).spaces
    → (check_out mem token required s).memory ≡ lookup_step (numbers_of mem) s token mem
check_counts mem token required s sound there =
    check_by_cases mem token required s (λ (out : Left Reply). out.memory ≡ lookup_step (numbers_of mem) s token mem)
    (λ bad. absurd (bad sound)) (λ sound far. absurd (omega arith)) (λ sound there without. refl) (λ sound there granted stale. refl)
    (λ sound there granted good. refl)

pub check_unentered :
    (mem : List ℕ) (token required s : ℕ) → (Sound mem → s < (numbers_of mem).spaces → ⊥) → (check_out mem token required s).memory ≡ mem
check_unentered mem token required s unentered =
    check_by_cases mem token required s (λ (out : Left Reply). out.memory ≡ mem) (λ bad. refl) (λ sound far. refl)
    (λ sound there without. absurd (unentered sound there))
    (λ sound there granted stale. absurd (unentered sound there))
    (λ sound there granted good. absurd (unentered sound there))
