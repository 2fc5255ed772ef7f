-- The entry of the id registered last goes into the space if the space accepts it; if not, the id leaves the registry again. A space
-- accepts an entry under its quota, of an id that is not there yet (`Accepts`).
use Rattle.std.proofs.Common.{List, ◌≢◌, ◌⊎◌, inl, inr, ◌≡◌, refl, ap, ℕ, ◌-◌, arith, eq-eqb, ne_eqb, None, Some}
use Rattle.answers.specs.Number.{number_of}
use Rattle.answers.specs.Answer.{Done, OutOfMemory}
use Rattle.space.specs.Change.{InsertOut, insert_out}
use Rattle.space.specs.Lookup.{search_id}
use Rattle.space.proofs.laws.Insert.{Accepts, insert_by_cases}
use Rattle.steps.specs.Replies.{replied, refuse}
use Rattle.steps.specs.Steps.{space_of, new_entry, insert_step, unregister_step, recycle_step, add_step}
use Rattle.steps.proofs.ChangingEntries.{refused_insert}
use Rattle.table.specs.Slots.{id_of}
use Rattle.table.specs.declared.CapabilityEntry.{CapabilityEntry}
use Rattle.world.specs.Numbers.{registered_of}
use Rattle.world.specs.declared.Numbers.{Numbers}
use Rattle.manager_calls.specs.Admit.{admitted}

-- ---- whether the space takes the entry

module _ (sp : List ℕ) (e : CapabilityEntry) where
  found_not_absent : (i : ℕ) → (search_id sp (id_of e)).found ≡ Some i → (search_id sp (id_of e)).found ≡ None → ⊥
  found_not_absent i there absent = let z : ◌≡◌ {A = ℕ} 0 1 = cc in omega arith

  pub accepts_or_not : Accepts sp e ⊎ (¬ Accepts sp e)
  accepts_or_not =
      insert_by_cases sp e (λ o. Accepts sp e ⊎ (¬ Accepts sp e))
      (λ over. inr (λ a. omega (arith, a.under)))
      (λ i under there. inr (λ a. found_not_absent i there a.absent))
      (λ a. inl a)

  pub accepted_done : Accepts sp e → (insert_out sp e).answer ≡ Done
  accepted_done a =
      insert_by_cases sp e (λ (o : InsertOut). o.answer ≡ Done)
      (λ over. absurd (omega (arith, a.under)))
      (λ i under there. absurd (found_not_absent i there a.absent))
      (λ a. refl)

  pub refused_number : ¬ Accepts sp e → number_of (insert_out sp e).answer ≢ 0
  refused_number none =
      insert_by_cases sp e (λ (o : InsertOut). number_of o.answer ≢ 0) (λ over z. omega arith) (λ i under there z. omega arith)
      (λ a. absurd (none a))

-- ---- what follows

module _ (d : Numbers) (s id token object rights i : ℕ) (mem : List ℕ) where
  abbrev e : CapabilityEntry
  e = new_entry token object rights

  abbrev sp : List ℕ
  sp = space_of d s mem

  abbrev after : List ℕ
  after = insert_step d s e mem

  pub admitted_taken :
      Accepts (space_of d s mem) (new_entry token object rights)
      → admitted d s id token object rights i mem
      ≡ record { reply = replied Done token (insert_out sp e).moved; memory = add_step i 1 after }
  unfolding admitted
  admitted_taken a = rw (eq-eqb (number_of (insert_out sp e).answer) 0 (ap number_of (accepted_done sp e a)))

  pub admitted_undone :
      ¬ Accepts (space_of d s mem) (new_entry token object rights)
      → admitted d s id token object rights i mem ≡ refuse (recycle_step d id (unregister_step d (registered_of mem - 1) mem)) OutOfMemory
  unfolding admitted
  admitted_undone none =
      let some = refused_number sp e none in
      rw (ne_eqb (number_of (insert_out sp e).answer) 0 some, refused_insert d s mem e some)
