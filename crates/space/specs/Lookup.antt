-- Document 01: lookup matches the whole token and counts hits, misses and uses in 64 bits, wrapping.
use Rattle.std.specs.Prelude.{◌≡◌, ℕ, ◌+◌, ◌*◌, ◌%◌, ◌^◌, Bool, List, is_some, ◌==◌, slice_index, slice_set, Option, None, Some}
use Rattle.base.specs.Choose.{pick}
use Rattle.table.specs.Walk.{search, got_at}
use Rattle.table.specs.declared.Search.{Search}
use Rattle.token.specs.Token.{id_of}
use Rattle.space.specs.Words.{hits_of, misses_of, table_of, slot_words, InRange, SlotOf}
use Rattle.space.specs.declared.LookedUp.{LookedUp}

-- A 64-bit counter goes up by one and wraps.
abbrev pub up : ℕ → ℕ
up n = (n + 1) % 2 ^ 64

abbrev pub is_found : Option ℕ → Bool
is_found f = is_some f

-- The search for an id.
abbrev pub search_id : List ℕ → ℕ → Search
search_id sp id = search (slot_words sp) (table_of sp).slots id

-- Where the token's id is found.
abbrev pub search_for : List ℕ → ℕ → Search
search_for sp token = search_id sp (id_of token)

-- A slot that was found counts only if it holds the whole token.
abbrev pub wholly : List ℕ → ℕ → Option ℕ → Option ℕ
wholly sp token (Some i) = pick (slice_index sp (8 + 4 * i) == token) (Some i) None
wholly sp token None = None

-- The slot that holds exactly the token.
unfoldable pub exactly : List ℕ → ℕ → Option ℕ
exactly sp token = wholly sp token (search_for sp token).found

-- The same with the visits of the search.
abbrev pub exact_search : List ℕ → ℕ → Search
exact_search sp token = record { found = exactly sp token; visits = (search_for sp token).visits }

-- A search of the space: the slot where it ended is one of the table's.
pub record SearchOf (sp : List ℕ) (s : Search) : Type 0 where
  pub range : InRange sp
  pub slot : (i : ℕ) → s.found ≡ Some i → SlotOf sp i

-- What a search answers: the entry of the slot where it ended, and its visits.
abbrev pub entry_of : List ℕ → Search → LookedUp
entry_of sp s = record { got = got_at (slot_words sp) s.found; visits = s.visits }

-- The entry of exactly the token.
unfoldable pub looked_up : List ℕ → ℕ → LookedUp
looked_up sp token = entry_of sp (exact_search sp token)

-- The entry of the id, whatever its generation.
unfoldable pub got_entry : List ℕ → ℕ → LookedUp
got_entry sp id = entry_of sp (search_id sp id)

-- One use more of the entry of slot i.
abbrev pub with_use : List ℕ → ℕ → List ℕ
with_use sp i = slice_set sp (8 + 4 * i + 2) (up (slice_index sp (8 + 4 * i + 2)))

-- The lookup counted: a hit with its entry's use, or a miss.
abbrev pub counted_at : List ℕ → Option ℕ → List ℕ
counted_at sp (Some i) = slice_set (slice_set sp 2 (up (hits_of sp))) (8 + 4 * i + 2) (up (slice_index sp (8 + 4 * i + 2)))
counted_at sp None = slice_set sp 3 (up (misses_of sp))

unfoldable pub counted : List ℕ → ℕ → List ℕ
counted sp token = counted_at sp (exactly sp token)
