-- The manager's create pays for the moves in space s, whatever it answers.
use Rattle.std.proofs.Common.{Bool, List, sym, subst, ℕ, ◌^◌, ◌≤◌, ◌<◌, arith, eqb}
use Rattle.answers.specs.Number.{number_of}
use Rattle.base.specs.Below.{one}
use Rattle.manager_calls.specs.Calls.{create_out}
use Rattle.manager_laws.proofs.laws.Admitted.{accepted_done}
use Rattle.manager_laws.proofs.laws.Created as create
use Rattle.manager_laws.proofs.laws.StepsKept.{registered_kept}
use Rattle.manager_laws.proofs.laws.Unchanged.{create_undone}
use Rattle.space.specs.Change.{insert_out}
use Rattle.space.proofs.laws.Insert.{Accepts}
use Rattle.steps.specs.Replies.{Left, Reply}
use Rattle.steps.specs.Steps.{space_of, insert_step, recycle_step, add_step}
use Rattle.steps.proofs.laws.Ready.{ready_at}
use Rattle.steps.proofs.laws.ReadyKept.{take_room}
use Rattle.steps.proofs.laws.RegistrySteps.{register_step_changes, recycle_step_changes, add_step_changes}
use Rattle.steps.proofs.laws.SpaceSteps.{insert_step_kept}
use Rattle.steps.proofs.laws.TakeStep.{take_step_kept}
use Rattle.table.specs.declared.CapabilityEntry.{CapabilityEntry}
use Rattle.world.specs.Numbers.{numbers_of, created_word, registered_of}
use Rattle.world.specs.Sound.{SoundAt, Sound}
use Rattle.world.specs.declared.Numbers.{Numbers}
use Rattle.history.specs.Counts.{given0}
use Rattle.history.proofs.laws.Paid.{Pays, Quiet, within, quiet_refl, quiet_same, quiet_first, quiet_last, quiet_trans, quiet_pays, changed_quiet, take_quiet, insert_pays}

-- The entry of the id registered last, where the space takes it and a statistic counts it.
pub admission_pays :
    (d : Numbers) (s : ℕ) → s < d.spaces → (mem : List ℕ) → SoundAt d mem → (t : ℕ) → t < d.spaces → (e : CapabilityEntry)
    → e.rights.0 < 2 ^ 32 → Accepts (space_of d t mem) e → (i : ℕ) → 7 ≤ i → i < 11
    → Pays d s mem (add_step i 1 (insert_step d t e mem)) (within s t (insert_out (space_of d t mem) e).moved) (within s t 1)
admission_pays d s inside mem sound t there e fits takes i low high =
    let sp : List ℕ = space_of d t mem in
    let came = insert_step_kept d mem sound t there e fits in
    quiet_last d s mem _ _ _ _
    (subst (λ a. Pays d s mem (insert_step d t e mem) (within s t (insert_out sp e).moved) (within s t (one (eqb (number_of a) 0))))
    (accepted_done sp e takes) (insert_pays d s inside mem sound t there e fits))
    (changed_quiet d s inside _ _ _ _ _ (add_step_changes d _ came.sound.long_enough i 1 (omega arith) high))

module _ (mem : List ℕ) (sound : Sound mem) (s : ℕ) (inside : s < (numbers_of mem).spaces)
    (t object : ℕ) (valid : Bool) (cap_type rights : ℕ) (fits : rights < 2 ^ 32)
  where
    abbrev d : Numbers
    d = numbers_of mem

    abbrev taken : List ℕ
    taken = create.taken mem t object valid cap_type rights

    took : Quiet (numbers_of mem) s mem taken
    took = take_quiet d s inside mem sound

    taken_sound : SoundAt (numbers_of mem) taken
    taken_sound = (take_step_kept d mem sound).sound

    abbrev Paid : Left Reply → Type 0
    Paid out = Pays (numbers_of mem) s mem out.memory (within s t out.reply.count) (within s t (given0 out))

    -- The id is given back,
    back : (k : create.Took mem t object valid cap_type rights) → Quiet (numbers_of mem) s mem (recycle_step (numbers_of mem) k.id taken)
    back k =
        quiet_trans d s mem taken _ took
        (changed_quiet d s inside _ _ _ _ _
        (recycle_step_changes d taken taken_sound k.id (take_room d mem (ready_at d mem sound) k.id k.is)))

    module _ (k : create.Took mem t object valid cap_type rights) (room : registered_of mem < (numbers_of mem).places) where
      -- its entry refused,
      undone :
          (none : ¬ Accepts (space_of (numbers_of mem) t mem) (create.entry_for mem t object valid cap_type rights k))
          → Quiet (numbers_of mem) s mem (create.out_of mem t object valid cap_type rights (create.refused k room none)).memory
      undone none =
          quiet_trans d s mem taken _ took
          (quiet_same d s taken _ ((create_undone mem t object valid cap_type rights k room none).spaces s inside))

      -- or accepted.
      accepted :
          (takes : Accepts (space_of (numbers_of mem) t mem) (create.entry_for mem t object valid cap_type rights k))
          → Paid (create.out_of mem t object valid cap_type rights (create.accepted k room takes))
      accepted takes =
          let recording = create.recording mem t object valid cap_type rights k room in
          let recorded : List ℕ = create.recorded mem t object valid cap_type rights k in
          quiet_first d s mem recorded _ _ _
          (quiet_trans d s mem taken recorded took
          (changed_quiet d s inside _ _ _ _ _ (register_step_changes d taken taken_sound k.id object 0 recording.room)))
          (admission_pays d s inside recorded (registered_kept d taken k.id object 0 recording).sound t k.asked.there
          (create.entry_for mem t object valid cap_type rights k) fits
          (rw (create.recorded_space mem t object valid cap_type rights k room) takes) created_word (omega arith) (omega arith))

    pub create_pays : Paid (create_out mem t object valid cap_type rights)
    create_pays = subst Paid (sym (create.goes mem t object valid cap_type rights way)) (go way)
      where
        way : create.Way mem t object valid cap_type rights
        way = create.way mem t object valid cap_type rights

        unpaid : (accepted : ℕ) → Pays (numbers_of mem) s mem mem (within s t 0) accepted
        unpaid accepted = quiet_pays d s mem mem t accepted (quiet_refl d s mem)

        go : (w : create.Way mem t object valid cap_type rights) → Paid (create.out_of mem t object valid cap_type rights w)
        go (create.bad_world bad) = unpaid _
        go (create.bad_space sound far) = unpaid _
        go (create.bad_type sound there over) = unpaid _
        go (create.bad_object sound there fits off) = unpaid _
        go (create.exhausted a is) = quiet_pays d s mem taken t _ took
        go (create.full k over) = quiet_pays d s mem _ t _ (back k)
        go (create.refused k room none) = quiet_pays d s mem _ t _ (undone k room none)
        go (create.accepted k room takes) = accepted k room takes
