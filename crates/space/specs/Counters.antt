-- Document 01: the hit and miss counters of a space are one record, changed where it stands: lent to the lookup that counts.
use Rattle.std.specs.Prelude.{ℕ, Bool, true, false, List, slice_set}
use Rattle.table.specs.declared.Search.{Search}
use Rattle.space.specs.Words.{hits_of, misses_of}
use Rattle.space.specs.Lookup.{up, is_found, exactly, exact_search}
use Rattle.space.specs.declared.counters.CountedSearch.{CountedSearch}
use Rattle.space.specs.declared.counters.Counters.{Counters}

-- One hit more, or one miss more.
abbrev pub one_counted : Counters → Bool → Counters
one_counted c true = record { hits = up c.hits; misses = c.misses }
one_counted c false = record { hits = c.hits; misses = up c.misses }

-- The record of a space's two words, and the space with another in their place.
abbrev pub counters_of : List ℕ → Counters
counters_of sp = record { hits = hits_of sp; misses = misses_of sp }

unfoldable pub with_counters : List ℕ → Counters → List ℕ
with_counters sp c = slice_set (slice_set sp 2 c.hits) 3 c.misses

-- The search for exactly the token, and the counters after it.
abbrev pub search_and : Search → Counters → CountedSearch
search_and s c = record { search = s; counters = c }

abbrev pub counted_search : List ℕ → ℕ → Counters → CountedSearch
counted_search sp token c = search_and (exact_search sp token) (one_counted c (is_found (exactly sp token)))
