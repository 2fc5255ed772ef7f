-- A lookup counts, and does nothing else: a hit goes to the hits and to the uses of the token's entry, a miss to the misses. Every search
-- ends where it did, and every token is answered as before, but for the uses of the one that was found.
use Rattle.std.proofs.Common.{◌≡◌, ℕ, ◌+◌, ◌*◌, ◌%◌, ◌^◌, ◌<◌, Bool, true, false, eqb, ◌≢◌, ◌↔◌, List, length, get_or, sym, refl, ap, ◌∙◌, arith, get_or-set_other, get_or-set_same, eq-eqb, ne_eqb, Option, None, Some}
use Rattle.std.proofs.Math.Decide.{ℕ_discrete}
use Rattle.std.proofs.Math.Logic.{by_cases}
use Rattle.base.specs.Choose.{pick}
use Rattle.table.specs.Slots.{is_live, entry_at}
use Rattle.table.specs.declared.CapabilityEntry.{CapabilityEntry}
use Rattle.table.proofs.laws.Contents.{HoldsAs, Holds}
use Rattle.table.proofs.laws.Exact.{search_at}
use Rattle.space.specs.Words.{hits_of, misses_of, table_of, slot_words}
use Rattle.space.specs.Sound.{SpaceOf}
use Rattle.space.specs.Lookup.{up, exactly, looked_up, counted_at, counted}
use Rattle.space.proofs.laws.Held.{token_of, Has, has_as, slot_token, held_exactly, got_exactly, got_as, answered_as}
use Rattle.space.proofs.laws.Kept.{fits, held, lookup_keeps}
use Rattle.space.proofs.laws.Lookup.{exactly_at}
use Rattle.space.proofs.laws.Uses.{uses_token, uses_object, uses_tag}
use Rattle.space.proofs.laws.View.{view, with_hits, with_misses, with_slots, used_at, view_hit, view_miss}

abbrev with_uses : CapabilityEntry → ℕ → CapabilityEntry
with_uses e n = record { capability = e.capability; object = e.object; rights = e.rights; uses = n }

-- An entry with one more use.
abbrev pub used : CapabilityEntry → CapabilityEntry
used e = with_uses e (up e.uses)

-- The entry of the token with one more use, any other as it is.
abbrev pub used_by : ℕ → CapabilityEntry → CapabilityEntry
used_by token e = pick (eqb (token_of e) token) (used e) e

same_token : (b : Bool) (e : CapabilityEntry) → token_of (pick b (used e) e) ≡ token_of e
same_token true e = refl
same_token false e = refl

-- ---- one slot's use counted

module _ (ws : List ℕ) (i : ℕ) where
  -- The entry of slot j is as it was but for its uses.
  used_entry : (j n : ℕ) → get_or (used_at ws i) (4 * j + 2) 0 ≡ n → entry_at (used_at ws i) j ≡ with_uses (entry_at ws j) n
  unfolding entry_at
  used_entry j n is =
      let v = up (get_or ws (4 * i + 2) 0) in
      λ k. record {
        capability = record { 0 = uses_token ws i v j k };
        object = uses_object ws i v j k;
        rights = record { 0 = uses_tag ws i v j k % 2 ^ 32 };
        uses = is k;
      }

  used_here : 4 * i + 2 < length ws → entry_at (used_at ws i) i ≡ used (entry_at ws i)
  unfolding entry_at
  used_here l = used_entry i _ (get_or-set_same ws (4 * i + 2) _ 0 l)

  used_elsewhere : (j : ℕ) → j ≢ i → entry_at (used_at ws i) j ≡ entry_at ws j
  unfolding entry_at
  used_elsewhere j d = used_entry j _ (get_or-set_other ws (4 * i + 2) (4 * j + 2) _ 0 (omega arith))

  used_live : (j : ℕ) → is_live (used_at ws i) j ≡ is_live ws j
  used_live j = simp (uses_tag ws i (up (get_or ws (4 * i + 2) 0)))

-- Where each live slot's entry is f of what it was.
holds_mapped :
    (f : CapabilityEntry → CapabilityEntry) (ws vs : List ℕ) (slots : ℕ) (x : CapabilityEntry) → ((j : ℕ) → is_live vs j ≡ is_live ws j)
    → ((j : ℕ) → j < slots → is_live ws j ≡ true → entry_at vs j ≡ f (entry_at ws j)) → Holds vs slots x ↔ HoldsAs f ws slots x
holds_mapped f ws vs slots x live same = (
  λ h.
      let was = sym (live h.slot) ∙ h.live in
      record { slot = h.slot; below = h.below; live = was; same = sym (same h.slot h.below was) ∙ h.same },
  λ h.
      record { slot = h.slot; below = h.below; live = live h.slot ∙ h.live; same = same h.slot h.below h.live ∙ h.same },
)

-- ---- a lookup

module _ (most : ℕ) (sp : List ℕ) (s : SpaceOf most sp) (token : ℕ) where
  pub hit_counts :
      (i : ℕ) → exactly sp token ≡ Some i
      → view (counted sp token) ≡ with_slots (table_of sp) (used_at (slot_words sp) i) (with_hits (up (hits_of sp)) (view sp))
  unfolding counted
  hit_counts i e = ap (λ f. view (counted_at sp f)) e ∙ view_hit sp (fits most sp s) i

  pub miss_counts : exactly sp token ≡ None → view (counted sp token) ≡ with_misses (up (misses_of sp)) (view sp)
  unfolding counted
  miss_counts e = ap (λ f. view (counted_at sp f)) e ∙ view_miss sp (fits most sp s)

  -- An entry of another token keeps its uses.
  other_kept : (x : CapabilityEntry) → token_of x ≢ token → x ≡ used_by token x
  other_kept x d = rw (ne_eqb (token_of x) token d)

  -- It holds what it held, with one more use of the token's entry.
  pub lookup_holds : (x : CapabilityEntry) → Has (view (counted sp token)) x ↔ HoldsAs (used_by token) (slot_words sp) (table_of sp).slots x
  lookup_holds x = go (exactly sp token) refl
    where
      ws : List ℕ
      ws = slot_words sp

      -- Only where exactly the token is found is an entry of the token.
      lies :
          (f : Option ℕ) → exactly sp token ≡ f → (j : ℕ) → j < (table_of sp).slots → is_live ws j ≡ true → token_of (entry_at ws j) ≡ token
          → f ≡ Some j
      lies f e j l live same =
          sym e ∙ held_exactly most sp s token (entry_at ws j) (record { slot = j; below = l; live = live; same = refl }) same

      go : (f : Option ℕ) → exactly sp token ≡ f → Has (view (counted sp token)) x ↔ HoldsAs (used_by token) ws (table_of sp).slots x
      go (Some i) e =
          let (found, word) = exactly_at sp token i e in
          let (below, live, id) = search_at ws (table_of sp).slots (token % 2 ^ 48) i found in
          let here : token_of (entry_at ws i) ≡ token = slot_token sp i ∙ word in
          has_as _ _ x (hit_counts i e)
          (holds_mapped (used_by token) ws (used_at ws i) (table_of sp).slots x (used_live ws i)
          (λ j l lives.
          by_cases (ℕ_discrete j i)
          (λ at_i. rw at_i (used_here ws i (omega (arith, held most sp s)) ∙ rw (eq-eqb _ token here)))
          (λ d. used_elsewhere ws i j d ∙ other_kept (entry_at ws j) (λ same. d (cc (lies (Some i) e j l lives same))))))
      go None e =
          has_as _ _ x (miss_counts e)
          (holds_mapped (used_by token) ws ws (table_of sp).slots x (λ j. refl)
          (λ j l lives.
          other_kept (entry_at ws j)
          (λ same.
          let none = lies None e j l lives same in
          let z : ◌≡◌ {A = ℕ} 0 1 = cc in
          omega arith)))

  -- So it answers what it answered, with one more use of the token's entry.
  pub counted_answers : (other : ℕ) → (looked_up (counted sp token) other).got ≡ got_as (used_by token) (looked_up sp other).got
  counted_answers other =
      answered_as most sp _ other s (lookup_keeps most sp s token) (used_by token) (λ x. same_token (eqb (token_of x) token) x)
      (λ x is. lookup_holds x)

  pub found_again : (x : CapabilityEntry) → (looked_up sp token).got ≡ Some x → (looked_up (counted sp token) token).got ≡ Some (used x)
  found_again x got =
      let (h, is) = (got_exactly most sp s token x).0 got in
      counted_answers token ∙ ap (got_as (used_by token)) got ∙ rw (eq-eqb (token_of x) token is)

  pub others_as_before_lookup : (other : ℕ) → other ≢ token → (looked_up (counted sp token) other).got ≡ (looked_up sp other).got
  others_as_before_lookup other d = counted_answers other ∙ go (looked_up sp other).got refl
    where
      go : (g : Option CapabilityEntry) → (looked_up sp other).got ≡ g → got_as (used_by token) g ≡ g
      go (Some x) e =
          let (h, is) = (got_exactly most sp s other x).0 e in
          ap Some (sym (other_kept x (λ same. d (sym is ∙ same))))
      go None e = refl
