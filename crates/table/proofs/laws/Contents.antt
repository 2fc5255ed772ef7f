-- What a table holds: the entries of its live slots. Placing adds exactly the entry placed, marking takes exactly the entry of the slot
-- that is marked, and all others keep every field.
use Rattle.std.proofs.Common.{◌≡◌, refl, sym, ap, ◌∙◌, ◌↔◌, ◌≢◌, ◌⊎◌, inl, inr, ⊎_elim, true, false, true≢false, List, ℕ, suc, ◌*◌, ◌^◌, ◌<◌, ◌≤◌, arith, length}
use Rattle.std.proofs.Math.Decide.{ℕ_discrete}
use Rattle.std.proofs.Math.Logic.{by_cases}
use Rattle.base.specs.Below.{one}
use Rattle.base.specs.SumLaws.{sum_positive}
use Rattle.table.specs.Slots.{is_live, id_at, id_of, entry_at, put_entry, put_mark}
use Rattle.table.specs.declared.CapabilityEntry.{CapabilityEntry}
use Rattle.table.proofs.laws.Slots.{SameSlot, same_live, same_entry, entry_others, entry_live, entry_read, mark_others, mark_not_live}
use Rattle.table.proofs.laws.Visits.{live_in}
use Rattle.table.proofs.laws.Structure.{Structure, Lacks}

-- A live slot below `slots` has an entry that f takes to x.
pub record HoldsAs (f : CapabilityEntry → CapabilityEntry) (ws : List ℕ) (slots : ℕ) (x : CapabilityEntry) : Type 0 where
  pub slot : ℕ
  pub below : slot < slots
  pub live : is_live ws slot ≡ true
  pub same : f (entry_at ws slot) ≡ x

-- A live slot below `slots` has the entry x.
abbrev pub Holds : List ℕ → ℕ → CapabilityEntry → Type 0
Holds ws slots x = HoldsAs (λ e. e) ws slots x

pub entry_id_of : (ws : List ℕ) (i : ℕ) → id_of (entry_at ws i) ≡ id_at ws i
unfolding entry_at
entry_id_of ws i = refl

pub entry_rights : (ws : List ℕ) (i : ℕ) → (entry_at ws i).rights.0 < 2 ^ 32
unfolding entry_at
entry_rights ws i = omega arith

pub held_id : (ws : List ℕ) (slots : ℕ) (x : CapabilityEntry) (h : Holds ws slots x) → id_at ws h.slot ≡ id_of x
held_id ws slots x h = sym (entry_id_of ws h.slot) ∙ ap (λ e. id_of e) h.same

-- No live slot has the id exactly when no entry that is held has it.
pub lacks_iff : (ws : List ℕ) (slots id : ℕ) → Lacks ws slots id ↔ ((x : CapabilityEntry) → Holds ws slots x → id_of x ≢ id)
lacks_iff ws slots id = (
  λ lacks x h e. lacks h.slot h.below h.live (held_id ws slots x h ∙ e),
  λ none i l live e. none (entry_at ws i) (record { slot = i; below = l; live = live; same = refl }) (entry_id_of ws i ∙ e),
)

-- ---- slot by slot

module _ (f : CapabilityEntry → CapabilityEntry) (ws : List ℕ) where
  -- What is held is counted.
  pub held_counted : (slots : ℕ) (x : CapabilityEntry) → HoldsAs f ws slots x → 0 < live_in ws slots
  held_counted slots x h = omega (arith, sum_positive (λ i. one (is_live ws i)) slots h.slot h.below, ap one h.live)

  holds_more : (i : ℕ) (x : CapabilityEntry) → HoldsAs f ws i x → HoldsAs f ws (suc i) x
  holds_more i x h = record { slot = h.slot; below = omega (arith, h.below); live = h.live; same = h.same }

  holds_less : (i : ℕ) (x : CapabilityEntry) (h : HoldsAs f ws (suc i) x) → h.slot ≢ i → HoldsAs f ws i x
  holds_less i x h d = record { slot = h.slot; below = omega (arith, h.below); live = h.live; same = h.same }

  -- Where P says that x is held below slot i, and Q adds the entry of slot i, which is live, Q says it of the slots up to i.
  pub holds_taken :
      {P Q : Type 0} (i : ℕ) (x : CapabilityEntry) → is_live ws i ≡ true → P ↔ HoldsAs f ws i x → Q ↔ (P ⊎ (x ≡ f (entry_at ws i)))
      → Q ↔ HoldsAs f ws (suc i) x
  holds_taken i x live same adds = (
    λ q. ⊎_elim (λ p. holds_more i x (same.0 p)) (λ e. record { slot = i; below = omega arith; live = live; same = sym e }) (adds.0 q),
    λ h.
        adds.1
        (by_cases (ℕ_discrete h.slot i)
        (λ e. inr (sym h.same ∙ ap (λ j. f (entry_at ws j)) e))
        (λ d. inl (same.1 (holds_less i x h d)))),
  )

  -- A slot that is not live adds nothing.
  pub holds_passed :
      {P : Type 0} (i : ℕ) (x : CapabilityEntry) → is_live ws i ≡ false → P ↔ HoldsAs f ws i x → P ↔ HoldsAs f ws (suc i) x
  holds_passed i x free same = (
    λ p. holds_more i x (same.0 p),
    λ h. same.1 (holds_less i x h (λ e. true≢false (sym h.live ∙ ap (is_live ws) e ∙ free))),
  )

-- Below a live slot no entry has its id, also where f changes what is no part of the id.
pub earlier_id_differs :
    (f : CapabilityEntry → CapabilityEntry) (ws : List ℕ) (slots live removed i : ℕ) (x : CapabilityEntry)
    → ((e : CapabilityEntry) → id_of (f e) ≡ id_of e) → Structure ws slots live removed → i < slots → is_live ws i ≡ true
    → HoldsAs f ws i x → id_of x ≢ id_of (entry_at ws i)
unfolding entry_at
earlier_id_differs f ws slots live removed i x keeps st l lives h e =
    let id : id_at ws h.slot ≡ id_at ws i = sym (keeps (entry_at ws h.slot)) ∙ ap (λ e. id_of e) h.same ∙ e in
    let at_i : h.slot ≡ i = st.differ h.slot i (omega (arith, h.below)) l h.live lives id in
    omega (arith, h.below)

-- ---- one slot changes

same_sym : (ws vs : List ℕ) (j : ℕ) → SameSlot ws vs j → SameSlot vs ws j
same_sym ws vs j s = record { token = sym s.token; object = sym s.object; uses = sym s.uses; tag = sym s.tag }

-- What a slot holds whose words stay, it holds still.
still_holds : (ws vs : List ℕ) (slots : ℕ) (x : CapabilityEntry) (h : Holds ws slots x) → SameSlot ws vs h.slot → Holds vs slots x
still_holds ws vs slots x h same =
    record {
      slot = h.slot;
      below = h.below;
      live = same_live ws vs h.slot same ∙ h.live;
      same = same_entry ws vs h.slot same ∙ h.same;
    }

pub placing_holds :
    (ws : List ℕ) (slots i : ℕ) (e : CapabilityEntry) → i < slots → is_live ws i ≡ false → 4 * slots ≤ length ws → e.rights.0 < 2 ^ 32
    → (x : CapabilityEntry) → Holds (put_entry ws i e) slots x ↔ (Holds ws slots x ⊎ (x ≡ e))
placing_holds ws slots i e l free long rights x = (
  λ h.
      by_cases (ℕ_discrete h.slot i)
      (λ at_i. inr (sym h.same ∙ ap (entry_at vs) at_i ∙ read))
      (λ d. inl (still_holds vs ws slots x h (same_sym ws vs h.slot (entry_others ws i h.slot e d)))),
  ⊎_elim
      (λ h.
      still_holds ws vs slots x h (entry_others ws i h.slot e (λ at_i. true≢false (sym h.live ∙ ap (is_live ws) at_i ∙ free))))
      (λ new. record { slot = i; below = l; live = entry_live ws i e (omega arith) rights; same = read ∙ sym new }),
)
  where
    vs : List ℕ
    vs = put_entry ws i e

    read : entry_at vs i ≡ e
    read = entry_read ws i e (omega arith) rights

pub marking_holds :
    (ws : List ℕ) (slots live removed i : ℕ) → Structure ws slots live removed → i < slots → is_live ws i ≡ true → 4 * slots ≤ length ws
    → (x : CapabilityEntry) → Holds (put_mark ws i) slots x ↔ (Holds ws slots x × (x ≢ entry_at ws i))
unfolding entry_at still_holds
marking_holds ws slots live removed i st l lives long x = (
  λ h.
      let d : h.slot ≢ i = λ at_i. true≢false (sym h.live ∙ ap (is_live vs) at_i ∙ mark_not_live ws i (omega arith)) in
      let old = still_holds vs ws slots x h (same_sym ws vs h.slot (mark_others ws i h.slot d)) in
      let other : x ≢ entry_at ws i = λ e.
      d (st.differ old.slot i old.below l old.live lives (held_id ws slots x old ∙ ap (λ e. id_of e) e)) in
      (old, other),
  λ h. still_holds ws vs slots x h.0 (mark_others ws i h.0.slot (λ at_i. h.1 (sym h.0.same ∙ ap (entry_at ws) at_i))),
)
  where
    vs : List ℕ
    vs = put_mark ws i
