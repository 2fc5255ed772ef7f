-- `check_rights` in a user's words: its value is 1 exactly where the space holds the token with all the rights required, and else 0.
use Rattle.std.proofs.Common.{Bool, true, false, List, ◌↔◌, ◌≡◌, refl, ℕ, ◌<◌, arith, Option, None, Some}
use Rattle.base.specs.Below.{one}
use Rattle.base.specs.Exactly.{one_exactly}
use Rattle.space.specs.Lookup.{looked_up}
use Rattle.steps.specs.Replies.{Left, Reply}
use Rattle.steps.specs.Steps.{space_of}
use Rattle.steps.proofs.laws.Entered.{space_by_cases}
use Rattle.table.specs.declared.CapabilityEntry.{CapabilityEntry}
use Rattle.token.specs.Rights.{holds}
use Rattle.world.specs.Numbers.{numbers_of}
use Rattle.space_reads.specs.Calls.{check_rights_out}
use Rattle.space_reads.specs.Replies.{held_reply}
use Rattle.space_laws.proofs.laws.Holding.{Holding}

-- An entry found, with the rights.
abbrev Granted : ℕ → Option CapabilityEntry → Type 0
Granted required got = (x : CapabilityEntry) × ((got ≡ Some x) × (holds x.rights.0 required ≡ true))

held_exactly : (required : ℕ) (got : Option CapabilityEntry) (visits : ℕ)
    → ((held_reply required got visits).value ≡ 1) ↔ Granted required got
held_exactly required (Some e) visits = (
  λ is. (e, (refl, (one_exactly (holds e.rights.0 required)).0 is)),
  λ (x, (same, h)). let is : e ≡ x = cc in (one_exactly (holds e.rights.0 required)).1 (rw is h),
)
held_exactly required None visits = (
  λ is. absurd (omega arith),
  λ (x, (same, h)). let z : ◌≡◌ {A = ℕ} 0 1 = cc in absurd (omega arith),
)

held_or_not : (required : ℕ) (got : Option CapabilityEntry) (visits : ℕ) → (held_reply required got visits).value < 2
held_or_not required (Some e) visits = below (holds e.rights.0 required)
  where
    below : (b : Bool) → one b < 2
    below true = omega arith
    below false = omega arith
held_or_not required None visits = omega arith

module _ (mem : List ℕ) (s token required : ℕ) where
  abbrev got : Option CapabilityEntry
  got = (looked_up (space_of (numbers_of mem) s mem) token).got

  abbrev Held : Type 0
  Held = (x : CapabilityEntry) × (Holding mem s token x × (holds x.rights.0 required ≡ true))

  pub check_rights_exactly :
      ((check_rights_out mem s token required).reply.value ≡ 1)
      ↔ ((x : CapabilityEntry) × (Holding mem s token x × (holds x.rights.0 required ≡ true)))
  unfolding check_rights_out
  check_rights_exactly =
      space_by_cases (λ (out : Left Reply). (out.reply.value ≡ 1) ↔ Held) _ mem _
      (λ bad. (λ e. absurd (omega arith), λ (x, (h, r)). absurd (bad h.sound))) s
      (λ sound far. (λ e. absurd (omega arith), λ (x, (h, r)). absurd (omega (arith, h.valid))))
      (λ sound valid.
      let exactly = held_exactly required got (looked_up (space_of (numbers_of mem) s mem) token).visits in (
        λ e. let (x, (found, r)) = exactly.0 e in (x, (record { sound = sound; valid = valid; found = found }, r)),
        λ (x, (h, r)). exactly.1 (x, (h.found, r)),
      ))

  -- It is 1 or 0.
  pub check_rights_1_or_0 : (check_rights_out mem s token required).reply.value < 2
  unfolding check_rights_out
  check_rights_1_or_0 =
      space_by_cases (λ (out : Left Reply). out.reply.value < 2) _ mem _ (λ bad. omega arith) s (λ sound far. omega arith)
      (λ sound valid. held_or_not required got (looked_up (space_of (numbers_of mem) s mem) token).visits)
