-- Delegate pays for the moves in space s, whatever it answers. A new child, whose entry the target accepted, is told by the statistic of
-- delegations: it counts in 64 bits, so it differs then, and every step before leaves it as it was.
use Rattle.std.proofs.Common.{not, List, ◌≢◌, ◌≡◌, refl, sym, subst, ◌∙◌, ℕ, suc, ◌^◌, ◌<◌, arith, ne_eqb, eqb}
use lib.Bits.{and_le_r}
use Rattle.base.specs.Below.{one}
use Rattle.delegation_calls.proofs.Offering.{offered_by_lookups}
use Rattle.delegation_calls.specs.Delegation.{delegate_out}
use Rattle.manager_laws.proofs.laws.Delegated as delegate
use Rattle.manager_laws.proofs.laws.DelegateTold.{delegate_undone}
use Rattle.manager_laws.proofs.laws.Recording.{with_list, recording}
use Rattle.manager_laws.proofs.laws.Roomed.{parent_in, roomed, roomed_by_cases}
use Rattle.manager_laws.proofs.laws.StepsKept.{parent_registered, registered_kept}
use Rattle.space.proofs.laws.Insert.{Accepts}
use Rattle.steps.specs.Replies.{Left, Reply}
use Rattle.steps.specs.Steps.{space_of, lookup_step, insert_step, take_step, objects, add_step}
use Rattle.steps.proofs.laws.OnlyIds.{take_only_ids}
use Rattle.steps.proofs.laws.OnlySpace.{lookup_in_space, insert_in_space}
use Rattle.steps.proofs.laws.Ready.{ready_at}
use Rattle.steps.proofs.laws.ReadyKept.{take_room}
use Rattle.steps.proofs.laws.RegistryChanged.{RegistryChanged}
use Rattle.steps.proofs.laws.RegistrySteps.{register_step_changes, list_step_changes, list_step_kept, recycle_step_changes, collect_step_changes, collect_step_kept, add_step_changes}
use Rattle.steps.proofs.laws.SpaceSteps.{lookup_step_kept, insert_step_kept}
use Rattle.steps.proofs.laws.TakeStep.{take_step_kept}
use Rattle.table.specs.declared.CapabilityEntry.{CapabilityEntry}
use Rattle.token.specs.Token.{type_of}
use Rattle.world.specs.Numbers.{numbers_of, delegated_word, registered_of}
use Rattle.world.specs.Sound.{SoundAt}
use Rattle.world.specs.declared.Numbers.{Numbers}
use Rattle.history.specs.Counts.{delegations_of}
use Rattle.history.proofs.laws.CreateMoves.{admission_pays}
use Rattle.history.proofs.laws.Paid.{Pays, Quiet, within, quiet_refl, quiet_same, quiet_first, quiet_trans, quiet_pays, changed_quiet, take_quiet, lookup_quiet}

-- ---- what every step of a delegation but the last keeps

record Along (d : Numbers) (s : ℕ) (mem after : List ℕ) : Type 0 where
  sound : SoundAt d after
  quiet : Quiet d s mem after
  delegated : delegations_of after ≡ delegations_of mem

module _ (d : Numbers) (s : ℕ) (inside : s < d.spaces) where
  along_trans : (mem mid after : List ℕ) → Along d s mem mid → Along d s mid after → Along d s mem after
  along_trans mem mid after h g = record {
    sound = g.sound;
    quiet = quiet_trans d s mem mid after h.quiet g.quiet;
    delegated = g.delegated ∙ h.delegated;
  }

  along_changed :
      (mem rg : List ℕ) (i v : ℕ) (after : List ℕ) → RegistryChanged d rg i v mem after → delegated_word ≢ i → SoundAt d after
      → Along d s mem after
  along_changed mem rg i v after changed other sound = record {
    sound = sound;
    quiet = changed_quiet d s inside mem rg i v after changed;
    delegated = changed.same_word delegated_word (omega arith) other;
  }

  module _ (mem : List ℕ) (sound : SoundAt d mem) where
    along_refl : Along d s mem mem
    along_refl = record { sound = sound; quiet = quiet_refl d s mem; delegated = refl }

    along_lookup : (t : ℕ) → t < d.spaces → (token : ℕ) → Along d s mem (lookup_step d t token mem)
    along_lookup t there token = record {
      sound = (lookup_step_kept d mem sound t there token).sound;
      quiet = lookup_quiet d s inside mem sound t there token;
      delegated = (lookup_in_space d mem sound t there token).only.same_head delegated_word (omega arith);
    }

    along_roomed : (token : ℕ) → Along d s mem (roomed d token mem)
    along_roomed token =
        let p : ℕ = parent_in d token mem in
        roomed_by_cases d token mem (Along d s mem) (λ few. along_refl)
        (λ many.
        let there = parent_registered d mem sound p (omega arith) in
        along_changed mem _ _ _ _ (collect_step_changes d mem sound p there) (λ e. omega arith)
        (collect_step_kept d mem sound p there).sound)

    along_take : Along d s mem (take_step d mem)
    along_take = record {
      sound = (take_step_kept d mem sound).sound;
      quiet = take_quiet d s inside mem sound;
      delegated = (take_only_ids d mem sound).same_head delegated_word (omega arith) (λ e. omega arith) (λ e. omega arith);
    }

-- ---- the call

module _ (mem : List ℕ) (s : ℕ) (inside : s < (numbers_of mem).spaces) (token source target rights : ℕ) (fits : rights < 2 ^ 32) where
  abbrev d : Numbers
  d = numbers_of mem

  abbrev From : List ℕ → Type 0
  From after = Along (numbers_of mem) s mem after

  looked : delegate.Entered mem token source target rights → From (delegate.looked mem token source target rights)
  looked entered = along_lookup d s inside mem entered.sound source entered.from token

  module _ (g : delegate.Granted mem token source target rights) where
    offered : From (delegate.offer mem token source target rights g).memory
    offered =
        let start : List ℕ = delegate.looked mem token source target rights in
        offered_by_lookups d target (parent_in d token start) (type_of token) (delegate.shared mem token source target rights g) From
        (λ mid key h. along_trans d s inside mem mid _ h (along_lookup d s inside mid h.sound target g.entered.to key))
        0 (registered_of start) start (looked g.entered)

    base : From (delegate.base mem token source target rights g)
    base = along_trans d s inside mem _ _ offered (along_roomed d s inside _ offered.sound token)

    taken : From (take_step (numbers_of mem) (delegate.base mem token source target rights g))
    taken = along_trans d s inside mem _ _ base (along_take d s inside _ base.sound)

  back : (t : delegate.Took mem token source target rights) → Quiet (numbers_of mem) s mem (delegate.back mem token source target rights t)
  back t =
      let came = taken t.asked.granted in
      let room = take_room d _ (ready_at d _ (base t.asked.granted).sound) t.id t.is in
      quiet_trans d s mem _ _ came.quiet (changed_quiet d s inside _ _ _ _ _ (recycle_step_changes d _ came.sound t.id room))

  -- ---- a good parent

  module _ (g : delegate.Good mem token source target rights)
      (room : registered_of (delegate.from mem token source target rights g.took) < (numbers_of mem).places)
    where
      abbrev t : delegate.Took mem token source target rights
      t = g.took

      abbrev parent : ℕ
      parent = delegate.parent mem token source target rights t

      abbrev recorded : List ℕ
      recorded = delegate.recorded mem token source target rights t

      abbrev child : CapabilityEntry
      child = delegate.child_entry mem token source target rights t

      listed_along : From (with_list mem token source target rights g)
      listed_along =
          let came = taken t.asked.granted in
          let below : parent < d.places = omega (arith, g.inside) in
          along_trans d s inside mem _ _ came
          (along_changed d s inside _ _ _ _ _ (list_step_changes d _ came.sound parent below) (λ e. omega arith)
          (list_step_kept d _ came.sound parent below).sound)

      recorded_along : From recorded
      recorded_along =
          let r = recording mem token source target rights g room in
          let object : ℕ = objects d (delegate.from mem token source target rights t) parent in
          along_trans d s inside mem _ _ listed_along
          (along_changed d s inside _ _ _ _ _ (register_step_changes d _ r.sound t.id object (suc parent) r.room) (λ e. omega arith)
          (registered_kept d _ t.id object (suc parent) r).sound)

      undone :
          (none : ¬ Accepts (space_of (numbers_of mem) target (delegate.from mem token source target rights t)) child)
          → Quiet (numbers_of mem) s mem (delegate.out_of mem token source target rights (delegate.refused g room none)).memory
      undone none =
          quiet_trans d s mem _ _ listed_along.quiet
          (quiet_same d s _ _ ((delegate_undone mem token source target rights g room none).spaces s inside))

      small : child.rights.0 < 2 ^ 32
      small = omega (arith, and_le_r t.asked.granted.entry.rights.0 rights)

      -- The statistic counts.
      counted : delegations_of (add_step delegated_word 1 (insert_step d target child recorded)) ≢ delegations_of mem
      counted e =
          let there = t.asked.granted.entered.to in
          let came = insert_step_kept d recorded recorded_along.sound target there child small in
          let head : delegations_of (insert_step d target child recorded) ≡ delegations_of mem =
          (insert_in_space d recorded recorded_along.sound target there child small).only.same_head delegated_word (omega arith)
          ∙ recorded_along.delegated in
          let added =
          add_step_changes d (insert_step d target child recorded) came.sound.long_enough delegated_word 1 (omega arith) (omega arith) in
          omega (arith, e, head, added.new_word)

  -- ---- every way

  abbrev Paid : Left Reply → Type 0
  Paid out =
      Pays (numbers_of mem) s mem out.memory (within s target out.reply.count)
      (within s target (one (not (eqb (delegations_of out.memory) (delegations_of mem)))))

  accepted :
      (g : delegate.Good mem token source target rights)
      (room : registered_of (delegate.from mem token source target rights g.took) < (numbers_of mem).places)
      (takes : Accepts (space_of (numbers_of mem) target (delegate.from mem token source target rights g.took))
      (delegate.child_entry mem token source target rights g.took))
      → Paid (delegate.out_of mem token source target rights (delegate.accepted g room takes))
  accepted g room takes =
      let came = recorded_along g room in
      rw (ne_eqb _ _ (counted g room))
      (quiet_first d s mem _ _ _ _ came.quiet
      (admission_pays d s inside _ came.sound target g.took.asked.granted.entered.to
      (delegate.child_entry mem token source target rights g.took) (small g room)
      (rw (delegate.recorded_space mem token source target rights g.took g.inside g.good room) takes) delegated_word (omega arith)
      (omega arith)))

  pub delegate_pays : Paid (delegate_out mem token source target rights)
  delegate_pays = subst Paid (sym (delegate.goes mem token source target rights way)) (go way)
    where
      way : delegate.Way mem token source target rights
      way = delegate.way mem token source target rights

      unpaid : (after : List ℕ) (accepted : ℕ) → Quiet d s mem after → Pays d s mem after (within s target 0) accepted
      unpaid after accepted quiet = quiet_pays d s mem after target accepted quiet

      go : (w : delegate.Way mem token source target rights) → Paid (delegate.out_of mem token source target rights w)
      go (delegate.bad_world bad) = unpaid mem _ (quiet_refl d s mem)
      go (delegate.bad_source sound far) = unpaid mem _ (quiet_refl d s mem)
      go (delegate.bad_target sound there far) = unpaid mem _ (quiet_refl d s mem)
      go (delegate.absent entered none) = unpaid _ _ (looked entered).quiet
      go (delegate.ungranted entered e found none) = unpaid _ _ (looked entered).quiet
      go (delegate.reused g held) = unpaid _ _ (offered g).quiet
      go (delegate.crowded g none many) = unpaid _ _ (base g).quiet
      go (delegate.exhausted a is) = unpaid _ _ (taken a.granted).quiet
      go (delegate.orphaned t outside) = unpaid _ _ (back t)
      go (delegate.stale t inside is) = unpaid _ _ (back t)
      go (delegate.full g over) = unpaid _ _ (back g.took)
      go (delegate.refused g room none) = unpaid _ _ (undone g room none)
      go (delegate.accepted g room takes) = accepted g room takes
