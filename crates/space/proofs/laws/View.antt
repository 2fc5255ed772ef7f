-- A space as its users see it, and what each change leaves of that. What a law does not name anew is as it was: so no call ever changes
-- a quota, only lookups count, and only the table's own calls change the table.
use Rattle.std.proofs.Common.{◌≡◌, ℕ, suc, ◌+◌, ◌*◌, ◌%◌, ◌^◌, ◌≤◌, List, [], ◌∷◌, length, get_or, set, refl, ap, ◌∙◌, add_assoc, arith, length-set, get_or-drop, None, Some}
use Rattle.table.specs.Insert.{Table, none}
use Rattle.table.specs.declared.CapabilityEntry.{CapabilityEntry}
use Rattle.table.specs.declared.CapTable.{CapTable}
use Rattle.space.specs.Words.{quota_of, generation_of, hits_of, misses_of, table_of, slot_words, with_counts, with_table}
use Rattle.space.specs.Lookup.{up, counted_at}
use Rattle.space.specs.Change.{inserted_table, inserted, removed_table, removed, cleared, next_generation}
use Rattle.space.specs.Copy.{copied_table, copied_space}

pub record View : Type 0 where
  pub quota : ℕ
  pub generation : ℕ
  pub hits : ℕ
  pub misses : ℕ
  pub counts : CapTable
  pub words : List ℕ

abbrev pub view : List ℕ → View
view sp =
    record {
      quota = quota_of sp;
      generation = generation_of sp;
      hits = hits_of sp;
      misses = misses_of sp;
      counts = table_of sp;
      words = slot_words sp;
    }

-- A view with one part anew.
abbrev pub with_generation : ℕ → View → View
with_generation g v =
    record { quota = v.quota; generation = g; hits = v.hits; misses = v.misses; counts = v.counts; words = v.words }

abbrev pub with_hits : ℕ → View → View
with_hits n v = record { quota = v.quota; generation = v.generation; hits = n; misses = v.misses; counts = v.counts; words = v.words }

abbrev pub with_misses : ℕ → View → View
with_misses n v =
    record { quota = v.quota; generation = v.generation; hits = v.hits; misses = n; counts = v.counts; words = v.words }

abbrev pub with_slots : CapTable → List ℕ → View → View
with_slots t ws v =
    record { quota = v.quota; generation = v.generation; hits = v.hits; misses = v.misses; counts = t; words = ws }

-- The slots' words with one more use of the entry of slot i.
abbrev pub used_at : List ℕ → ℕ → List ℕ
used_at ws i = set ws (4 * i + 2) (up (get_or ws (4 * i + 2) 0))

-- What holds of all lists of eight words and more holds of a space.
by_eight :
    (P : List ℕ → Type 0) → ((a b c d e f g h : ℕ) (ws : List ℕ) → P (a ∷ b ∷ c ∷ d ∷ e ∷ f ∷ g ∷ h ∷ ws)) → (sp : List ℕ) → 8 ≤ length sp
    → P sp
by_eight P p (a ∷ b ∷ c ∷ d ∷ e ∷ f ∷ g ∷ h ∷ ws) l = p a b c d e f g h ws
by_eight P p (a ∷ b ∷ c ∷ d ∷ e ∷ f ∷ g ∷ []) l = absurd (omega arith)
by_eight P p (a ∷ b ∷ c ∷ d ∷ e ∷ f ∷ []) l = absurd (omega arith)
by_eight P p (a ∷ b ∷ c ∷ d ∷ e ∷ []) l = absurd (omega arith)
by_eight P p (a ∷ b ∷ c ∷ d ∷ []) l = absurd (omega arith)
by_eight P p (a ∷ b ∷ c ∷ []) l = absurd (omega arith)
by_eight P p (a ∷ b ∷ []) l = absurd (omega arith)
by_eight P p (a ∷ []) l = absurd (omega arith)
by_eight P p [] l = absurd (omega arith)

module _ (sp : List ℕ) (fits : 8 ≤ length sp) where
  -- ---- the writes

  pub view_table : (t : Table) → view (with_table sp t) ≡ with_slots t.counts t.words (view sp)
  unfolding with_table with_counts
  view_table t = by_eight (λ sp. view (with_table sp t) ≡ with_slots t.counts t.words (view sp)) (λ a b c d e f g h ws. refl) sp fits

  pub length_table : (t : Table) → length (with_table sp t) ≡ 8 + length t.words
  unfolding with_table with_counts
  length_table t = by_eight (λ sp. length (with_table sp t) ≡ 8 + length t.words) (λ a b c d e f g h ws. omega arith) sp fits

  view_counts : (t : CapTable) → view (with_counts sp t) ≡ with_slots t (slot_words sp) (view sp)
  unfolding with_counts
  view_counts t = by_eight (λ sp. view (with_counts sp t) ≡ with_slots t (slot_words sp) (view sp)) (λ a b c d e f g h ws. refl) sp fits

  view_word1 : (g : ℕ) → view (set sp 1 g) ≡ with_generation g (view sp)
  view_word1 n = by_eight (λ sp. view (set sp 1 n) ≡ with_generation n (view sp)) (λ a b c d e f g h ws. refl) sp fits

  view_word2 : (n : ℕ) → view (set sp 2 n) ≡ with_hits n (view sp)
  view_word2 n = by_eight (λ sp. view (set sp 2 n) ≡ with_hits n (view sp)) (λ a b c d e f g h ws. refl) sp fits

  view_word3 : (n : ℕ) → view (set sp 3 n) ≡ with_misses n (view sp)
  view_word3 n = by_eight (λ sp. view (set sp 3 n) ≡ with_misses n (view sp)) (λ a b c d e f g h ws. refl) sp fits

  view_slot_word : (w v : ℕ) → view (set sp (8 + w) v) ≡ with_slots (table_of sp) (set (slot_words sp) w v) (view sp)
  view_slot_word w v =
      let place : 8 + w ≡ suc (suc (suc (suc (suc (suc (suc (suc w))))))) = omega arith in
      by_eight (λ sp. view (set sp (8 + w) v) ≡ with_slots (table_of sp) (set (slot_words sp) w v) (view sp))
      (λ a b c d e f g h ws. rw place) sp fits

module _ (sp : List ℕ) (fits : 8 ≤ length sp) where
  -- ---- the calls

  pub view_hit : (i : ℕ) → view (counted_at sp (Some i))
      ≡ with_slots (table_of sp) (used_at (slot_words sp) i) (with_hits (up (hits_of sp)) (view sp))
  view_hit i =
      rw (add_assoc 8 (4 * i) 2, ← get_or-drop 8 sp (4 * i + 2) 0)
      (view_slot_word (set sp 2 (up (hits_of sp))) (rw length-set fits) (4 * i + 2) _
      ∙ ap (λ (v : View). with_slots v.counts (set v.words (4 * i + 2) (up (get_or (slot_words sp) (4 * i + 2) 0))) v)
      (view_word2 sp fits (up (hits_of sp))))

  pub view_miss : view (counted_at sp None) ≡ with_misses (up (misses_of sp)) (view sp)
  view_miss = view_word3 sp fits (up (misses_of sp))

  pub view_inserted :
      (e : CapabilityEntry) → view (inserted sp e) ≡ with_slots (inserted_table sp e).counts (inserted_table sp e).words (view sp)
  unfolding inserted
  view_inserted e = view_table sp fits (inserted_table sp e)

  pub view_removed : (i : ℕ) → view (removed sp i) ≡ with_slots (removed_table sp i).counts (removed_table sp i).words (view sp)
  unfolding removed
  view_removed i = view_table sp fits (removed_table sp i)

  pub view_cleared : view (cleared sp) ≡ with_slots none (slot_words sp) (view sp)
  unfolding cleared
  view_cleared = view_counts sp fits none

  pub view_next : view (next_generation sp) ≡ with_generation ((generation_of sp + 1) % 2 ^ 8) (view sp)
  unfolding next_generation
  view_next = view_word1 sp fits ((generation_of sp + 1) % 2 ^ 8)

pub view_copied :
    (source target : List ℕ) → 8 ≤ length target
    → view (copied_space source target)
    ≡ with_generation (generation_of source)
    (with_slots (copied_table source target).counts (copied_table source target).words (view target))
unfolding copied_space
view_copied source target fits =
    let t : Table = copied_table source target in
    view_word1 (with_table target t) (omega (arith, length_table target fits t)) (generation_of source)
    ∙ ap (with_generation (generation_of source)) (view_table target fits t)
