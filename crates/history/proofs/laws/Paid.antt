-- What a change of the memory pays for the moves in space s: what it moved, with the potential of the table then, is at most the potential
-- before and 3 for each entry accepted. Here the steps of the calls, each with what it moves in its own space.
use Rattle.std.proofs.Common.{Bool, true, false, List, ◌≡◌, refl, sym, ap, ℕ, ◌+◌, ◌*◌, ◌^◌, ◌≤◌, ◌<◌, arith, eq-eqb, ne_eqb, eqb}
use Rattle.std.proofs.Math.Decide.{ℕ_discrete}
use Rattle.std.proofs.Math.Logic.{by_cases}
use Rattle.answers.specs.Number.{number_of}
use Rattle.base.specs.Below.{one}
use Rattle.base.specs.Choose.{pick}
use Rattle.space.specs.Change.{insert_out}
use Rattle.space.specs.Sound.{SpaceOf}
use Rattle.steps.specs.Steps.{space_of, lookup_step, next_step, insert_step, remove_step, clear_step, copy_step, copied_of, take_step}
use Rattle.steps.proofs.laws.OnlyIds.{take_only_ids}
use Rattle.steps.proofs.laws.OnlySpace.{Step, lookup_in_space, next_in_space, insert_in_space, remove_in_space, clear_in_space, copy_in_space}
use Rattle.steps.proofs.laws.Ready.{is_space}
use Rattle.steps.proofs.laws.RegistryChanged.{RegistryChanged}
use Rattle.table.specs.declared.CapabilityEntry.{CapabilityEntry}
use Rattle.world.specs.Sound.{SoundAt}
use Rattle.world.specs.declared.Numbers.{Numbers}
use Rattle.history.proofs.laws.SpacePaid.{potential_of, lookup_paid, next_paid, clear_paid, remove_paid, insert_paid, copy_paid}

abbrev pub potential_in : Numbers → ℕ → List ℕ → ℕ
potential_in d s mem = potential_of (space_of d s mem)

pub record Pays (d : Numbers) (s : ℕ) (mem after : List ℕ) (moved accepted : ℕ) : Type 0 where
  pub paid : moved + potential_in d s after ≤ potential_in d s mem + 3 * accepted

-- Nothing is moved and nothing paid.
abbrev pub Quiet : Numbers → ℕ → List ℕ → List ℕ → Type 0
Quiet d s mem after = Pays d s mem after 0 0

-- Of what space t moved or accepted, the part of space s.
abbrev pub within : ℕ → ℕ → ℕ → ℕ
within s t n = pick (eqb t s) n 0

nothing : (s t : ℕ) → within s t 0 ≡ 0
nothing s t = go (eqb t s)
  where
    go : (b : Bool) → ◌≡◌ {A = ℕ} (pick b 0 0) 0
    go true = refl
    go false = refl

module _ (d : Numbers) (s : ℕ) where
  pub quiet_refl : (mem : List ℕ) → Quiet d s mem mem
  quiet_refl mem = record { paid = omega arith }

  pub quiet_same : (mem after : List ℕ) → space_of d s after ≡ space_of d s mem → Quiet d s mem after
  quiet_same mem after same = record { paid = omega (arith, ap potential_of same) }

  -- One after the other.
  pub quiet_first :
      (mem mid after : List ℕ) (moved accepted : ℕ) → Quiet d s mem mid → Pays d s mid after moved accepted
      → Pays d s mem after moved accepted
  quiet_first mem mid after moved accepted h g = record { paid = omega (arith, h.paid, g.paid) }

  pub quiet_last :
      (mem mid after : List ℕ) (moved accepted : ℕ) → Pays d s mem mid moved accepted → Quiet d s mid after
      → Pays d s mem after moved accepted
  quiet_last mem mid after moved accepted h g = record { paid = omega (arith, h.paid, g.paid) }

  pub quiet_trans : (mem mid after : List ℕ) → Quiet d s mem mid → Quiet d s mid after → Quiet d s mem after
  quiet_trans mem mid after = quiet_first mem mid after 0 0

  -- Where nothing was moved, whatever is paid is enough.
  pub quiet_pays : (mem after : List ℕ) (t accepted : ℕ) → Quiet d s mem after → Pays d s mem after (within s t 0) accepted
  quiet_pays mem after t accepted h = record { paid = omega (arith, h.paid, nothing s t) }

-- ---- the steps

module _ (d : Numbers) (s : ℕ) (inside : s < d.spaces) (mem : List ℕ) where
  -- The registry and a word of the head,
  pub changed_quiet : (rg : List ℕ) (i v : ℕ) (after : List ℕ) → RegistryChanged d rg i v mem after → Quiet d s mem after
  changed_quiet rg i v after changed = quiet_same d s mem after (changed.same_space s inside)

  -- or space t, with holders.
  step_pays :
      (t : ℕ) (after sp : List ℕ) (moved accepted : ℕ) → Step d t mem after sp
      → moved + potential_of sp ≤ potential_in d t mem + 3 * accepted → Pays d s mem after (within s t moved) (within s t accepted)
  step_pays t after sp moved accepted st pays =
      by_cases (ℕ_discrete t s)
      (λ here. rw (eq-eqb t s here) (record { paid = omega (arith, ap potential_of st.here, same here after, same here mem) }))
      (λ other.
      rw (ne_eqb t s other)
      (record { paid = omega (arith, ap potential_of (st.only.others s inside (λ e. other (sym e)))) }))
    where
      same : t ≡ s → (ws : List ℕ) → potential_in d t ws ≡ potential_in d s ws
      same here ws = ap (λ k. potential_in d k ws) here

  step_quiet : (t : ℕ) (after sp : List ℕ) → Step d t mem after sp → potential_of sp ≤ potential_in d t mem → Quiet d s mem after
  step_quiet t after sp st less =
      record { paid = omega (arith, (step_pays t after sp 0 0 st (omega arith)).paid, nothing s t) }

  module _ (sound : SoundAt d mem) where
    pub take_quiet : Quiet d s mem (take_step d mem)
    take_quiet = quiet_same d s mem (take_step d mem) ((take_only_ids d mem sound).same_spaces s inside)

    module _ (t : ℕ) (there : t < d.spaces) where
      abbrev sp : List ℕ
      sp = space_of d t mem

      of_space : SpaceOf d.most sp
      of_space = is_space d mem sound t there

      pub lookup_quiet : (token : ℕ) → Quiet d s mem (lookup_step d t token mem)
      lookup_quiet token = step_quiet t _ _ (lookup_in_space d mem sound t there token)
          (omega (arith, lookup_paid d.most sp of_space token))

      pub next_quiet : Quiet d s mem (next_step d t mem)
      next_quiet = step_quiet t _ _ (next_in_space d mem sound t there) (omega (arith, next_paid d.most sp of_space))

      pub remove_quiet : (token : ℕ) → Quiet d s mem (remove_step d t token mem)
      remove_quiet token = step_quiet t _ _ (remove_in_space d mem sound t there token) (remove_paid d.most sp of_space token)

      pub clear_quiet : Quiet d s mem (clear_step d t mem)
      clear_quiet = step_quiet t _ _ (clear_in_space d mem sound t there) (omega (arith, clear_paid d.most sp of_space))

      pub insert_pays :
          (e : CapabilityEntry) → e.rights.0 < 2 ^ 32
          → Pays d s mem (insert_step d t e mem) (within s t (insert_out (space_of d t mem) e).moved)
          (within s t (one (eqb (number_of (insert_out (space_of d t mem) e).answer) 0)))
      insert_pays e rights = step_pays t _ _ _ _ (insert_in_space d mem sound t there e rights) (insert_paid d.most sp of_space e)

      pub copy_pays :
          (source : ℕ) → source < d.spaces
          → Pays d s mem (copy_step d t source mem) (within s t (copied_of d t source mem).moved)
          (within s t (copied_of d t source mem).accepted)
      unfolding copied_of
      copy_pays source from =
          step_pays t _ _ _ _ (copy_in_space d mem sound t there source from)
          (omega (arith, copy_paid d.most (space_of d source mem) sp (is_space d mem sound source from) of_space))
