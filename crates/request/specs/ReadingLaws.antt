-- When a record's call is made and when it is refused, in words of its fields.
use Rattle.std.specs.Prelude.{◌≡◌, refl, ◌↔◌, ◌≢◌, Bool, true, false, not, ℕ, ◌<◌, ◌≤◌, eqb, ltb, ⊤, Result, Ok, Err}
use Rattle.std.proofs.Common.{sym, true≢false, arith, ltb-false, le-ltb, ne_eqb}
use Rattle.std.proofs.lemmas.Bool.{eqb-false, not-false}
use Rattle.std.proofs.Math.Logic.Iff
use Rattle.answers.specs.declared.Refusal.{Refusal}
use Rattle.answers.specs.declared.Refusal.TheVariants.{BadSpace, BadField}
use Rattle.base.specs.Choose.{pick, when}
use Rattle.base.specs.Exactly.{leb_exactly, eqb_exactly, both_exactly, asked_exactly, all_exactly}
use Rattle.request.specs.declared.Request.{Request}
use Rattle.request.specs.Reading.{field_at, reads, zero_unread, too_far, verdict_of}

-- The order of the refusals, by the outcomes of its tests.
abbrev order : Bool → Bool → Bool → Bool → Result ⊤ Refusal
order none past far clear =
    when none (Err BadField)
    (when past (Err BadField) (when far (Err BadSpace) (when (not clear) (Err BadField) (Ok tt))))

order_good : (a b c d : Bool) → (order a b c d ≡ Ok tt) ↔ ((a ≡ false) × (b ≡ false) × (c ≡ false) × (d ≡ true))
unfolding when
order_good true b c d = (λ e. (cc, cc, cc, cc), λ h. cc)
order_good false true c d = (λ e. (cc, cc, cc, cc), λ h. cc)
order_good false false true d = (λ e. (cc, cc, cc, cc), λ h. cc)
order_good false false false true = (λ e. (cc, cc, cc, cc), λ h. cc)
order_good false false false false = (λ e. (cc, cc, cc, cc), λ h. cc)

order_space : (a b c d : Bool) → (order a b c d ≡ Err BadSpace) ↔ ((a ≡ false) × (b ≡ false) × (c ≡ true))
unfolding when
order_space true b c d = (λ e. (cc, cc, cc), λ h. cc)
order_space false true c d = (λ e. (cc, cc, cc), λ h. cc)
order_space false false true d = (λ e. (cc, cc, cc), λ h. cc)
order_space false false false true = (λ e. (cc, cc, cc), λ h. cc)
order_space false false false false = (λ e. (cc, cc, cc), λ h. cc)

order_field : (a b c d : Bool) → (order a b c d ≡ Err BadField) ↔ (a ≡ false → b ≡ false → (c ≡ false) × (d ≡ false))
unfolding when
order_field true b c d = (λ e u v. (cc, cc), λ h. refl)
order_field false true c d = (λ e u v. (cc, cc), λ h. refl)
order_field false false true d = (λ e u v. (cc, cc), λ h. cc (h refl refl).0)
order_field false false false true = (λ e u v. (cc, cc), λ h. cc (h refl refl).1)
order_field false false false false = (λ e u v. (refl, refl), λ h. refl)

-- A test that is asked only where b fails.
spared_exactly : (b c : Bool) → (pick b true c ≡ true) ↔ (b ≡ false → c ≡ true)
spared_exactly true c = (λ _ e. cc, λ _. refl)
spared_exactly false c = (λ h _. h, λ f. f refl)

-- One value of a test says that a rule holds, the other that it does not.
opposite : {P : Type 0} (b v : Bool) → (b ≡ v) ↔ P → (b ≡ not v) ↔ (¬ P)
opposite true true h = (λ e p. true≢false e, λ f. absurd (f (h.0 refl)))
opposite true false h = (λ e p. true≢false (h.1 p), λ f. refl)
opposite false true h = (λ e p. true≢false (sym (h.1 p)), λ f. refl)
opposite false false h = (λ e p. true≢false (sym e), λ f. absurd (f (h.0 refl)))

fails_exactly : (b : Bool) → (not b ≡ false) ↔ (b ≡ true)
fails_exactly b = (not-false b, λ e. rw e)

none_exactly : (n : ℕ) → (eqb n 0 ≡ false) ↔ (1 ≤ n)
none_exactly n = (λ h. let some : n ≢ 0 = eqb-false n 0 h in omega arith, λ l. ne_eqb n 0 (λ e. omega arith))

past_exactly : (a b : ℕ) → (ltb a b ≡ false) ↔ (b ≤ a)
past_exactly a b = (ltb-false a b, le-ltb a b)

module _ (r : Request) where
  -- Each field that the op does not read is zero, and so are the last bits.
  abbrev pub Clear : Type 0
  Clear = ((i : ℕ) → i < 7 → reads r.op i ≡ false → field_at r i ≡ 0) × (r.zero ≡ 0)

  pub clear_exactly : (zero_unread r ≡ true) ↔ Clear
  unfolding zero_unread
  clear_exactly = simp (both_exactly, all_exactly, spared_exactly, eqb_exactly) Iff.rfl

  stray_exactly : (zero_unread r ≡ false) ↔ (¬ Clear)
  stray_exactly = opposite (zero_unread r) true clear_exactly

  module _ (spaces : ℕ) where
    -- Each space number that the op reads is below S.
    abbrev pub Near : Type 0
    Near = (i : ℕ) → i < 2 → reads r.op i ≡ true → field_at r i < spaces

    pub near_exactly : (too_far r spaces ≡ false) ↔ Near
    unfolding too_far
    near_exactly = simp (fails_exactly, all_exactly, asked_exactly, leb_exactly) Iff.rfl

    far_exactly : (too_far r spaces ≡ true) ↔ (¬ Near)
    far_exactly = opposite (too_far r spaces) false near_exactly

    -- The call is made exactly for an op that is listed, with its space numbers below S and nothing in the fields that it does not read;
    pub good_exactly : (verdict_of r spaces ≡ Ok tt) ↔ ((1 ≤ r.op) × (r.op ≤ 15) × Near × Clear)
    unfolding verdict_of
    good_exactly = simp (order_good, none_exactly, past_exactly, near_exactly, clear_exactly) Iff.rfl

    -- 20 is given exactly for an op that is listed, where a space number is S or more;
    pub space_exactly : (verdict_of r spaces ≡ Err BadSpace) ↔ ((1 ≤ r.op) × (r.op ≤ 15) × ¬ Near)
    unfolding verdict_of
    space_exactly = simp (order_space, none_exactly, past_exactly, far_exactly) Iff.rfl

    -- and 21 exactly where the op is not listed, or else its space numbers are below S and a field that it does not read is not zero.
    pub field_exactly : (verdict_of r spaces ≡ Err BadField) ↔ (1 ≤ r.op → r.op ≤ 15 → Near × ¬ Clear)
    unfolding verdict_of
    field_exactly = simp (order_field, none_exactly, past_exactly, near_exactly, stray_exactly) Iff.rfl
