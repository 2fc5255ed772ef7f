-- What a search of a sound space says of the entries that the space holds: a token, an id or an n-th entry is found exactly where there
-- is one.
use Rattle.std.proofs.Common.{List, [], ◌∷◌, ◌≡◌, refl, ◌∙◌, ℕ, zero, suc, ◌<◌, ◌≤◌, arith, length, Option, None, Some}
use Rattle.std.proofs.Math.Decide.{dec_lt}
use Rattle.std.proofs.Math.Logic.{by_cases}
use Rattle.space.specs.Lookup.{search_id, looked_up, got_entry}
use Rattle.space.specs.Sound.{SpaceOf}
use Rattle.space.specs.Words.{table_of, slot_words}
use Rattle.space.proofs.laws.Held.{token_of, Has, got_exactly, nothing_exactly}
use Rattle.space.proofs.laws.View.{view}
use Rattle.table.specs.Copy.{nth_of}
use Rattle.table.specs.Insert.{live_entries}
use Rattle.table.specs.Slots.{id_of, entry_at}
use Rattle.table.specs.Walk.{got_at}
use Rattle.table.specs.declared.CapabilityEntry.{CapabilityEntry}
use Rattle.table.proofs.laws.Contents.{entry_id_of, lacks_iff}
use Rattle.table.proofs.laws.Exact.{search_at, absent_exactly_when_none}
use Rattle.table.proofs.laws.LiveEntries.{live_count}
use Rattle.table.proofs.laws.Nth.{past_the_last}

-- The space holds an entry of exactly the token, or one of the id.
abbrev pub HasToken : List ℕ → ℕ → Type 0
HasToken sp token = (x : CapabilityEntry) × (Has (view sp) x × (token_of x ≡ token))

abbrev pub HasId : List ℕ → ℕ → Type 0
HasId sp id = (x : CapabilityEntry) × (Has (view sp) x × (id_of x ≡ id))

-- An n-th entry that is none is past the last.
past_length : (es : List CapabilityEntry) (n : ℕ) → nth_of es n ≡ None → length es ≤ n
unfolding nth_of
past_length [] n e = omega arith
past_length (x ∷ es) zero e = let z : ◌≡◌ {A = ℕ} 0 1 = cc in absurd (omega arith)
past_length (x ∷ es) (suc n) e = omega (arith, past_length es n e)

module _ (most : ℕ) (sp : List ℕ) (is : SpaceOf most sp) where
  pub token_by_cases :
      (token : ℕ) (P : Option CapabilityEntry → Type 0) → (HasToken sp token → (x : CapabilityEntry) → P (Some x))
      → (¬ HasToken sp token → P None)
      → P (looked_up sp token).got
  token_by_cases token P there absent = go (looked_up sp token).got refl
    where
      go : (g : Option CapabilityEntry) → (looked_up sp token).got ≡ g → P g
      go (Some x) e = there (x, (got_exactly most sp is token x).0 e) x
      go None e = absent (λ (x, (h, same)). (nothing_exactly most sp is token).0 e x h same)

  module _ (id : ℕ) where
    abbrev ws : List ℕ
    ws = slot_words sp

    pub at_has : (i : ℕ) → (search_id sp id).found ≡ Some i → HasId sp id
    at_has i e =
        let (below, live, same) = search_at ws (table_of sp).slots id i e in
        (entry_at ws i, (record { slot = i; below = below; live = live; same = refl }, entry_id_of ws i ∙ same))

    pub absent_lacks : (search_id sp id).found ≡ None → ¬ HasId sp id
    absent_lacks e (x, (h, same)) =
        let lacks = (absent_exactly_when_none most ws (table_of sp) is.sound.table id).0 e in
        (lacks_iff ws (table_of sp).slots id).0 lacks x h same

    pub id_by_cases :
        (P : Option CapabilityEntry → Type 0) → (HasId sp id → (x : CapabilityEntry) → P (Some x)) → (¬ HasId sp id → P None)
        → P (got_entry sp id).got
    unfolding got_entry
    id_by_cases P there absent = go (search_id sp id).found refl
      where
        go : (f : Option ℕ) → (search_id sp id).found ≡ f → P (got_at ws f)
        go (Some i) e = there (at_has i e) (entry_at ws i)
        go None e = absent (absent_lacks e)

  pub nth_by_cases :
      (n : ℕ) (P : Option CapabilityEntry → Type 0) → (n < (table_of sp).full → (x : CapabilityEntry) → P (Some x))
      → ((table_of sp).full ≤ n → P None) → P (nth_of (live_entries (slot_words sp) 0 (table_of sp).slots) n)
  nth_by_cases n P there past = go (nth_of entries n) refl
    where
      entries : List CapabilityEntry
      entries = live_entries (slot_words sp) 0 (table_of sp).slots

      go : (x : Option CapabilityEntry) → nth_of entries n ≡ x → P x
      go (Some x) e =
          there
          (by_cases (dec_lt n (table_of sp).full) (λ l. l)
          (λ over.
          let none = past_the_last most (slot_words sp) (table_of sp) is.sound.table n (omega arith) in
          let z : ◌≡◌ {A = ℕ} 0 1 = cc in
          absurd (omega arith)))
          x
      go None e =
          past (omega (arith, past_length entries n e, live_count most (slot_words sp) (table_of sp) is.sound.table))
