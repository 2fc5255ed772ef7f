-- When each answer of a held revoke and of a batch is given, on a sound memory: 21 exactly for too long a list; then 8 exactly where the
-- space has not the token and 2 exactly where it has it without REVOKE, else as `revoke_capability` answers; and a batch gives 0.
use Rattle.std.proofs.Common.{true, false, true≢false, List, ◌↔◌, ◌≢◌, ◌⊎◌, inl, inr, ⊎_elim, ◌≡◌, refl, sym, ap, ◌∙◌, ℕ, ◌≤◌, ◌<◌, arith, length, Option, None, Some}
use Rattle.answers.specs.Number.{number_of}
use Rattle.answers.specs.Answer.{Answer, Done, InsufficientRights, NotFound, BadField, LogFull, PidTableFull}
use Rattle.space.specs.Lookup.{looked_up}
use Rattle.steps.specs.Steps.{space_of, lookup_step}
use Rattle.steps.specs.Replies.{Reply}
use Rattle.steps.proofs.laws.Cases.{Exactly, given, not_given}
use Rattle.table.specs.declared.CapabilityEntry.{CapabilityEntry}
use Rattle.token.specs.Rights.{REVOKE, holds}
use Rattle.world.specs.Numbers.{numbers_of}
use Rattle.world.specs.Sound.{Sound}
use Rattle.world.specs.declared.Numbers.{Numbers}
use Rattle.revocation_calls.specs.Calls.{revoke_capability_out, revoke_held_out, revoke_batch_out}
use Rattle.revocation_calls.specs.Revoking.{revoking_token}
use Rattle.revocation_laws.proofs.laws.Counted.{counted_answers}
use Rattle.revocation_laws.proofs.laws.RevokeTold.{not_own}
use Rattle.revocation_laws.proofs.laws.Ways.{Own, own_not, revoking_token_own, each_done, held_by_cases, batch_by_cases, revoke_capability_called, held_with_revoke}

-- ---- a held revoke

module _ (mem : List ℕ) (sound : Sound mem) (s : ℕ) (there : s < (numbers_of mem).spaces) (token time : ℕ) (listed : List ℕ) where
  abbrev d : Numbers
  d = numbers_of mem

  -- What the space holds under the token.
  abbrev got : Option CapabilityEntry
  got = (looked_up (space_of d s mem) token).got

  -- An entry without REVOKE, or with it.
  abbrev pub Without : Type 0
  Without = (e : CapabilityEntry) × ((got ≡ Some e) × (holds e.rights.0 REVOKE ≡ false))

  abbrev pub With : Type 0
  With = (e : CapabilityEntry) × ((got ≡ Some e) × (holds e.rights.0 REVOKE ≡ true))

  abbrev after : List ℕ
  after = lookup_step d s token mem

  abbrev by_token : Answer
  by_token = (revoking_token d token time listed after).reply.answer

  module _ (a : Answer) (A : Type 0) (many : 32 < length listed → (BadField ≡ a) ↔ A)
      (absent : length listed ≤ 32 → got ≡ None → (NotFound ≡ a) ↔ A)
      (without : length listed ≤ 32 → Without → (InsufficientRights ≡ a) ↔ A) (with' : length listed ≤ 32 → With → (by_token ≡ a) ↔ A)
    where
      by_holding : ((revoke_held_out mem s token time listed).reply.answer ≡ a) ↔ A
      by_holding =
          held_by_cases mem time listed (Exactly a A) (λ bad. absurd (bad sound)) s token (λ sound far. absurd (omega arith))
          (λ sound there. many) (λ sound there few none. absent few none)
          (λ sound there few e is lacks. without few (e, (is, lacks))) (λ sound there few e is has. with' few (e, (is, has)))

  -- With REVOKE it is given none of 21, 8 and 2.
  not_by_token : (a : Answer) {A : Type 0} → 0 < number_of a → number_of a < 24 → ¬ A → (by_token ≡ a) ↔ A
  not_by_token a = not_own _ a (revoking_token_own d after token time listed)

  pub held_told_21 : ((revoke_held_out mem s token time listed).reply.answer ≡ BadField) ↔ (32 < length listed)
  held_told_21 =
      by_holding BadField (32 < length listed) (λ many. given refl many)
      (λ few none. not_given NotFound BadField (λ e. omega arith) (λ many. omega arith))
      (λ few without. not_given InsufficientRights BadField (λ e. omega arith) (λ many. omega arith))
      (λ few with'. not_by_token BadField (omega arith) (omega arith) (λ many. omega arith))

  -- An entry is not nothing, and has its rights.
  held_once : (g : Option CapabilityEntry) (e : CapabilityEntry) → g ≡ Some e → g ≡ None → ⊥
  held_once g e is none = let z : ◌≡◌ {A = ℕ} 0 1 = cc in omega arith

  one_entry : (g : Option CapabilityEntry) (e e' : CapabilityEntry) → g ≡ Some e → g ≡ Some e' → e ≡ e'
  one_entry g e e' is is' = cc

  not_both : Without → With → ⊥
  not_both (e, (is, lacks)) (e', (is', has)) =
      let same : e' ≡ e = one_entry got e' e is' is in
      true≢false (sym has ∙ ap (λ (x : CapabilityEntry). holds x.rights.0 REVOKE) same ∙ lacks)

  module _ (few : length listed ≤ 32) where
    pub held_told_8 :
        ((revoke_held_out mem s token time listed).reply.answer ≡ NotFound)
        ↔ ((looked_up (space_of (numbers_of mem) s mem) token).got ≡ None)
    held_told_8 =
        by_holding NotFound (got ≡ None) (λ many. absurd (omega arith)) (λ few none. given refl none)
        (λ few (e, (is, lacks)). not_given InsufficientRights NotFound (λ e. omega arith) (held_once got e is))
        (λ few (e, (is, has)). not_by_token NotFound (omega arith) (omega arith) (held_once got e is))

    pub held_told_2 : ((revoke_held_out mem s token time listed).reply.answer ≡ InsufficientRights) ↔ Without
    held_told_2 =
        by_holding InsufficientRights Without (λ many. absurd (omega arith))
        (λ few none. not_given NotFound InsufficientRights (λ e. omega arith) (λ (e, (is, lacks)). held_once got e is none))
        (λ few without. given refl without)
        (λ few with'. not_by_token InsufficientRights (omega arith) (omega arith) (λ without. not_both without with'))

    -- Held with REVOKE, it answers as it would by the token alone.
    counted : by_token ≡ (revoke_capability_out mem token time listed).reply.answer
    counted =
        rw (revoke_capability_called mem sound time listed few token)
        (ap (λ (r : Reply). r.answer) (counted_answers d mem sound s there token token time listed))

    pub held_answers :
        (e : CapabilityEntry) → (looked_up (space_of (numbers_of mem) s mem) token).got ≡ Some e → holds e.rights.0 REVOKE ≡ true
        → (revoke_held_out mem s token time listed).reply.answer ≡ (revoke_capability_out mem token time listed).reply.answer
    held_answers e is with' = rw (held_with_revoke mem sound time listed few s token there e is with') counted

    -- So 0, 24 and 25 are given exactly where it is held with REVOKE and they would be given by the token alone.
    held_told_own :
        (a : Answer) → Own a
        → ((revoke_held_out mem s token time listed).reply.answer ≡ a)
        ↔ (With × ((revoke_capability_out mem token time listed).reply.answer ≡ a))
    held_told_own a own =
        by_holding a _ (λ many. absurd (omega arith))
        (λ few none. not_given NotFound a (other 8 (λ z. omega arith) (λ z. omega arith) (λ z. omega arith))
        (λ ((e, (is, has)), gives). held_once got e is none))
        (λ few without. not_given InsufficientRights a (other 2 (λ z. omega arith) (λ z. omega arith) (λ z. omega arith))
        (λ (with', gives). not_both without with'))
        (λ few with'. (λ gives. (with', sym counted ∙ gives), λ (held, gives). counted ∙ gives))
      where
        other : (k : ℕ) → k ≢ 0 → k ≢ 24 → k ≢ 25 → k ≢ number_of a
        other k not_0 not_24 not_25 e = own_not a own k not_0 not_24 not_25 (sym e)

    pub held_told_24 :
        ((revoke_held_out mem s token time listed).reply.answer ≡ LogFull)
        ↔ (With × ((revoke_capability_out mem token time listed).reply.answer ≡ LogFull))
    held_told_24 = held_told_own LogFull (inr (inl refl))

    pub held_told_25 :
        ((revoke_held_out mem s token time listed).reply.answer ≡ PidTableFull)
        ↔ (With × ((revoke_capability_out mem token time listed).reply.answer ≡ PidTableFull))
    held_told_25 = held_told_own PidTableFull (inr (inr refl))

    pub held_told_0 :
        ((revoke_held_out mem s token time listed).reply.answer ≡ Done)
        ↔ (With × ((revoke_capability_out mem token time listed).reply.answer ≡ Done))
    held_told_0 = held_told_own Done (inl refl)

-- ---- a batch

module _ (mem : List ℕ) (sound : Sound mem) (tokens : List ℕ) (time : ℕ) (listed : List ℕ) where
  pub batch_told_21 :
      ((revoke_batch_out mem tokens time listed).reply.answer ≡ BadField) ↔ ((65535 < length tokens) ⊎ (32 < length listed))
  batch_told_21 =
      batch_by_cases mem time listed (Exactly BadField ((65535 < length tokens) ⊎ (32 < length listed))) (λ bad. absurd (bad sound)) tokens
      (λ sound many. given refl (inl many)) (λ sound fits many. given refl (inr many))
      (λ sound fits few.
      rw (each_done (numbers_of mem) tokens time listed 0 mem)
      (not_given Done BadField (λ e. omega arith) (⊎_elim (λ many. omega arith) (λ many. omega arith))))

  pub batch_told_0 :
      ((revoke_batch_out mem tokens time listed).reply.answer ≡ Done) ↔ ((length tokens ≤ 65535) × (length listed ≤ 32))
  batch_told_0 =
      batch_by_cases mem time listed (Exactly Done ((length tokens ≤ 65535) × (length listed ≤ 32))) (λ bad. absurd (bad sound)) tokens
      (λ sound many. not_given BadField Done (λ e. omega arith) (λ (fits, few). omega arith))
      (λ sound fits many. not_given BadField Done (λ e. omega arith) (λ (fits, few). omega arith))
      (λ sound fits few. given (each_done (numbers_of mem) tokens time listed 0 mem) (fits, few))
