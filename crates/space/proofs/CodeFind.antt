-- What the functions that find an entry answer, by where their search ended.
use Rattle.std.proofs.Common.{◌≡◌, ℕ, ◌+◌, ◌*◌, ◌≤◌, List, length, get_or, set, sym, refl, ap, ◌∙◌, arith, length-set, get_or-set_other, rules, Option, None, Some}
use Rattle.std.proofs.Math.Seq.{set-get_or, set_comm}
use Rattle.table.specs.Slots.{entry_at}
use Rattle.table.specs.declared.CapabilityEntry.{CapabilityEntry}
use Rattle.table.specs.declared.Search.{Search}
use Rattle.table.proofs.laws.Exact.{search_at}
use Rattle.token.specs.Token.{id_of}
use Rattle.space.specs.Words.{hits_of, misses_of, table_of, slot_words, InRange, SlotOf}
use Rattle.space.specs.Lookup.{up, is_found, search_id, wholly, exactly, exact_search, SearchOf, entry_of, looked_up, got_entry, with_use, counted_at, counted}
use Rattle.space.specs.Counters.{one_counted, counters_of, with_counters, counted_search}
use Rattle.space.specs.declared.LookedUp.{LookedUp}
use Rattle.space.specs.declared.counters.CountedSearch.{CountedSearch}
use Rattle.space.specs.declared.counters.Counters.{Counters}
use Rattle.space.proofs.laws.Lookup.{exactly_at}

-- ---- where a search ended

module _ (sp : List ℕ) (s : Search) where
  pub slot_of : (i : ℕ) → SearchOf sp s → s.found ≡ Some i → SlotOf sp i
  slot_of i searched at_i = searched.slot i at_i

  pub answers_nothing : s.found ≡ None → record { got = None; visits = s.visits } ≡ entry_of sp s
  answers_nothing absent = cc

  pub answers_entry : (i : ℕ) (e : CapabilityEntry) → s.found ≡ Some i → e ≡ entry_at (slot_words sp) i
      → record { got = Some e; visits = s.visits } ≡ entry_of sp s
  answers_entry i e at_i here = cc

-- ---- by the id

module _ (sp : List ℕ) (id : ℕ) (s : Search) (is : s ≡ search_id sp id) where
  pub id_search : InRange sp → SearchOf sp s
  id_search range = record {
    range = range;
    slot = λ i at_i. record {
      range = range;
      below = (search_at (slot_words sp) (table_of sp).slots id i (sym (ap (λ (s : Search). s.found) is) ∙ at_i)).0;
    };
  }

  pub id_answer : (r : LookedUp) → r ≡ entry_of sp s → r ≡ got_entry sp id
  unfolding got_entry
  id_answer r e = e ∙ ap (entry_of sp) is

-- ---- by the whole token: the id's search, then the token compared

module _ (sp : List ℕ) (token id : ℕ) (s : Search) (own : id ≡ id_of token) (is : s ≡ search_id sp id) where
  pub id_absent : s.found ≡ None → s ≡ exact_search sp token
  unfolding exactly
  id_absent absent =
      let none : s.found ≡ exactly sp token = cc in
      let visits : s.visits ≡ (search_id sp (id_of token)).visits = cc in
      λ k. record { found = none k; visits = visits k }

  pub id_found : (i : ℕ) (f : Option ℕ) → s.found ≡ Some i → f ≡ wholly sp token (Some i)
      → record { found = f; visits = s.visits } ≡ exact_search sp token
  unfolding exactly
  id_found i f at_i whole = cc

module _ (sp : List ℕ) (token : ℕ) (s : Search) (is : s ≡ exact_search sp token) where
  pub exact_search_meets : InRange sp → SearchOf sp s
  exact_search_meets range = record {
    range = range;
    slot = λ i at_i. (id_search sp _ _ refl range).slot i (exactly_at sp token i (sym (ap (λ (s : Search). s.found) is) ∙ at_i)).0;
  }

  pub exact_answer : (r : LookedUp) → r ≡ entry_of sp s → r ≡ looked_up sp token
  unfolding looked_up
  exact_answer r e = e ∙ ap (entry_of sp) is

-- ---- by the whole token, counted in the record that was lent

module _ (sp : List ℕ) (token : ℕ) (c : Counters) (r : CountedSearch) (was : c ≡ counters_of sp) (is : r ≡ counted_search sp token c) where
  exact : r.search ≡ exact_search sp token
  exact = ap (λ (r : CountedSearch). r.search) is

  pub lent_search : (s : Search) → s ≡ r.search → InRange sp → SearchOf sp s
  lent_search s e = exact_search_meets sp token s (e ∙ exact)

  pub lent_slot : (i : ℕ) → InRange sp → r.search.found ≡ Some i → SlotOf sp i
  lent_slot i range = (lent_search _ refl range).slot i

  pub lent_answer : (answer : LookedUp) → answer ≡ entry_of sp r.search → answer ≡ looked_up sp token
  lent_answer = exact_answer sp token r.search exact

  ended : (f : Option ℕ) → r.search.found ≡ f → exactly sp token ≡ f
  ended f e = sym (ap (λ (r : CountedSearch). r.search.found) is) ∙ e

  lent_counters : (f : Option ℕ) → r.search.found ≡ f → r.counters ≡ one_counted (counters_of sp) (is_found f)
  lent_counters f e =
      ap (λ (r : CountedSearch). r.counters) is
      ∙ ap (λ (c : Counters). one_counted c (is_found (exactly sp token))) was
      ∙ ap (λ (f : Option ℕ). one_counted (counters_of sp) (is_found f)) (ended f e)

  pub counts_miss : (after : List ℕ) → r.search.found ≡ None → after ≡ with_counters sp r.counters → after ≡ counted sp token
  unfolding counted with_counters
  counts_miss after e here =
      here
      ∙ ap (with_counters sp) (lent_counters None e)
      ∙ ap (λ (l : List ℕ). set l 3 (up (misses_of sp))) (set-get_or sp 2 0)
      ∙ sym (ap (counted_at sp) (ended None e))

  pub counts_hit :
      (i : ℕ) (used after : List ℕ) → r.search.found ≡ Some i → used ≡ with_use sp i → after ≡ with_counters used r.counters
      → after ≡ counted sp token
  unfolding counted with_counters
  counts_hit i used after e one_use here =
      let h = up (hits_of sp) in
      let at = 8 + 4 * i + 2 in
      let u = up (get_or sp at 0) in
      here
      ∙ ap (λ (l : List ℕ). with_counters l r.counters) one_use
      ∙ ap (with_counters (with_use sp i)) (lent_counters (Some i) e)
      ∙ ap (λ (l : List ℕ). set l 3 (misses_of sp)) (set_comm sp at 2 u h (λ e. omega arith))
      ∙ set_comm (set sp 2 h) at 3 u (misses_of sp) (λ e. omega arith)
      ∙ ap (λ (m : ℕ). set (set (set sp 2 h) 3 m) at u) (sym (get_or-set_other sp 2 3 h 0 (λ e. omega arith)))
      ∙ ap (λ (l : List ℕ). set l at u) (set-get_or (set sp 2 h) 3 0)
      ∙ sym (ap (counted_at sp) (ended (Some i) e))

-- After the use is counted the two words are still there.
pub counters_fit : (sp used : List ℕ) (i : ℕ) → InRange sp → used ≡ with_use sp i → 8 ≤ length used
counters_fit sp used i range one_use = rw (one_use, length-set) (omega (arith, range.held))

pub ruleset find_laws =
    (slot_of, answers_nothing, answers_entry, id_search, id_answer, id_absent, id_found, exact_search_meets, exact_answer, rules)

pub ruleset lookup_laws = (lent_search, lent_slot, lent_answer, counts_miss, counts_hit, counters_fit, rules)
