-- What each change of a space pays for its moves: an accepted entry pays 3, a copy 3 for each of its entries, and these cover the moves and
-- what the table's potential rises by; no other change raises it.
use Rattle.std.proofs.Common.{List, ◌≡◌, refl, ap, ℕ, ◌+◌, ◌*◌, ◌≤◌, arith, eqb, length, Option, None, Some}
use Rattle.answers.specs.Number.{number_of}
use Rattle.base.specs.Below.{one}
use Rattle.space.specs.Change.{InsertOut, insert_out, removed_found, removed_token, cleared, next_generation}
use Rattle.space.specs.Copy.{copied_table, copied_space}
use Rattle.space.specs.Ids.{ids_of-length, entry_ids}
use Rattle.space.specs.Lookup.{exactly, counted_at, counted}
use Rattle.space.specs.Sound.{SpaceOf}
use Rattle.space.specs.Words.{table_of, slot_words}
use Rattle.space.proofs.laws.Insert.{insert_by_cases}
use Rattle.space.proofs.laws.Kept.{fits, long}
use Rattle.space.proofs.laws.Lookup.{exactly_at}
use Rattle.space.proofs.laws.View.{View, view_hit, view_miss, view_inserted, view_removed, view_cleared, view_next, view_copied}
use Rattle.table.specs.Insert.{live_entries}
use Rattle.table.specs.declared.CapabilityEntry.{CapabilityEntry}
use Rattle.table.proofs.laws.Copy.{copy_pays}
use Rattle.table.proofs.laws.Exact.{search_at}
use Rattle.table.proofs.laws.LiveEntries.{live_count}
use Rattle.table.proofs.laws.Potential.{potential, none_pays, insert_pays, remove_pays}

-- The potential of a space's table, which its view shows.
abbrev pub potential_of : List ℕ → ℕ
potential_of sp = potential (table_of sp)

abbrev shown : View → ℕ
shown v = potential v.counts

module _ (most : ℕ) (sp : List ℕ) (s : SpaceOf most sp) where
  pub lookup_paid : (token : ℕ) → potential_of (counted sp token) ≡ potential_of sp
  unfolding counted
  lookup_paid token = go (exactly sp token)
    where
      go : (f : Option ℕ) → potential_of (counted_at sp f) ≡ potential_of sp
      go (Some i) = ap shown (view_hit sp (fits most sp s) i)
      go None = ap shown (view_miss sp (fits most sp s))

  pub next_paid : potential_of (next_generation sp) ≡ potential_of sp
  next_paid = ap shown (view_next sp (fits most sp s))

  pub clear_paid : potential_of (cleared sp) ≡ 0
  clear_paid = rw (ap shown (view_cleared sp (fits most sp s))) none_pays

  pub remove_paid : (token : ℕ) → potential_of (removed_token sp token) ≤ potential_of sp
  unfolding removed_token
  remove_paid token = go (exactly sp token) refl
    where
      go : (f : Option ℕ) → exactly sp token ≡ f → potential_of (removed_found sp f) ≤ potential_of sp
      go (Some i) e =
          let (l, live, same) = search_at _ _ _ i (exactly_at sp token i e).0 in
          omega (arith, ap shown (view_removed sp (fits most sp s) i), remove_pays (slot_words sp) (table_of sp) i live)
      go None e = omega arith

  pub insert_paid :
      (e : CapabilityEntry)
      → (insert_out sp e).moved + potential_of (insert_out sp e).words
      ≤ potential_of sp + 3 * one (eqb (number_of (insert_out sp e).answer) 0)
  insert_paid e =
      insert_by_cases sp e
      (λ (o : InsertOut). o.moved + potential_of o.words ≤ potential_of sp + 3 * one (eqb (number_of o.answer) 0))
      (λ over. omega arith) (λ i under there. omega arith)
      (λ a.
      omega (
        arith,
        ap shown (view_inserted sp (fits most sp s) e),
        insert_pays most (slot_words sp) (table_of sp) e s.sound.table,
      ))

-- ---- a copy, of any sound space, also the target itself

pub copy_paid :
    (most : ℕ) (source target : List ℕ) → SpaceOf most source → SpaceOf most target
    → (copied_table source target).moved + potential_of (copied_space source target) ≤ 3 * length (entry_ids source)
unfolding copied_table entry_ids
copy_paid most source target s t =
    let ws : List ℕ = slot_words source in
    omega (
      arith,
      ap shown (view_copied source target (fits most target t)),
      copy_pays most ws (table_of source) (slot_words target) s.sound.table (long most target t),
      ids_of-length (live_entries ws 0 (table_of source).slots),
      live_count most ws (table_of source) s.sound.table,
    )
