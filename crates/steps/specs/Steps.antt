-- What each step leaves of the memory, and what it answers where that is not the structure's own answer.
use Rattle.std.specs.Prelude.{◌≡◌, ℕ, suc, ◌+◌, ◌-◌, ◌%◌, ◌^◌, List, length, set, ◌==◌, nat_lt, slice_index, slice_set, Option, None, Some, is_some}
use Rattle.answers.specs.Number.{number_of}
use Rattle.base.specs.Choose.{pick}
use Rattle.registry.specs.Holders.{place_of, held, released, held_all, released_all}
use Rattle.registry.specs.Ids.{first_taken, recycled_with}
use Rattle.registry.specs.Registering.{registered, list_given, unregistered, collected}
use Rattle.registry.specs.Words.{object_at, children}
use Rattle.space.specs.Change.{InsertOut, insert_out, removed_token, cleared, next_generation}
use Rattle.space.specs.Copy.{copied_table, copied_space}
use Rattle.space.specs.Ids.{entry_ids}
use Rattle.space.specs.Lookup.{looked_up, counted}
use Rattle.space.specs.Words.{quota_of, generation_of, hits_of, misses_of, table_of}
use Rattle.table.specs.Slots.{id_of}
use Rattle.table.specs.declared.CapabilityEntry.{CapabilityEntry}
use Rattle.token.specs.Token.{id_of as token_id}
use Rattle.world.specs.Numbers.{next_word, registered_word, recycled_word, next_of, registered_of, recycled_of}
use Rattle.world.specs.Regions.{space, registry, view, on_region}
use Rattle.world.specs.Sound.{links, recycled}
use Rattle.world.specs.declared.Numbers.{Numbers}
use Rattle.steps.specs.Replies.{replied, Reply}
use Rattle.steps.specs.declared.Copied.{Copied}
use Rattle.steps.specs.declared.Facts.{Facts}

-- ---- one space

abbrev pub space_of : Numbers → ℕ → List ℕ → List ℕ
space_of d s mem = view d (space s) mem

unfoldable pub facts_of : List ℕ → Facts
facts_of sp =
    record {
      quota = quota_of sp;
      generation = generation_of sp;
      hits = hits_of sp;
      misses = misses_of sp;
      slots = (table_of sp).slots;
      used = (table_of sp).full;
    }

-- A lookup, counted.
unfoldable pub lookup_step : Numbers → ℕ → ℕ → List ℕ → List ℕ
lookup_step d s token mem = on_region d (space s) (λ sp. counted sp token) mem

-- The space generation goes up by one.
unfoldable pub next_step : Numbers → ℕ → List ℕ → List ℕ
next_step d s mem = on_region d (space s) next_generation mem

-- ---- holders

unfoldable pub hold_step : Numbers → ℕ → ℕ → List ℕ → List ℕ
hold_step d n id mem = on_region d registry (held d.places n id) mem

unfoldable pub release_step : Numbers → ℕ → ℕ → List ℕ → List ℕ
release_step d n id mem = on_region d registry (released d.places n id) mem

unfoldable pub hold_all_step : Numbers → ℕ → List ℕ → List ℕ → List ℕ
hold_all_step d n ids mem = on_region d registry (held_all d.places n ids) mem

unfoldable pub release_all_step : Numbers → ℕ → List ℕ → List ℕ → List ℕ
release_all_step d n ids mem = on_region d registry (released_all d.places n ids) mem

-- A new entry has not been used.
abbrev pub new_entry : ℕ → ℕ → ℕ → CapabilityEntry
new_entry token object rights =
    record { capability = record { 0 = token }; object = object; rights = record { 0 = rights }; uses = 0 }

-- ---- entries, with their holders: plus one per accepted entry of a registered id, minus one per entry leaving

unfoldable pub insert_step : Numbers → ℕ → CapabilityEntry → List ℕ → List ℕ
insert_step d s e mem =
    let after = on_region d (space s) (λ sp. (insert_out sp e).words) mem in
    pick (number_of (insert_out (space_of d s mem) e).answer == 0) (hold_step d (registered_of mem) (id_of e) after) after

-- An insert's answer and its moves; the value is for an accepted entry alone.
abbrev pub insert_reply : ℕ → InsertOut → Reply
insert_reply value o = replied o.answer (pick (number_of o.answer == 0) value 0) o.moved

unfoldable pub remove_step : Numbers → ℕ → ℕ → List ℕ → List ℕ
remove_step d s token mem =
    let after = on_region d (space s) (λ sp. removed_token sp token) mem in
    pick (is_some (looked_up (space_of d s mem) token).got) (release_step d (registered_of mem) (token_id token) after) after

unfoldable pub clear_step : Numbers → ℕ → List ℕ → List ℕ
clear_step d s mem = release_all_step d (registered_of mem) (entry_ids (space_of d s mem)) (on_region d (space s) cleared mem)

-- A copy adds for all its entries before the old ones leave.
unfoldable pub copy_step : Numbers → ℕ → ℕ → List ℕ → List ℕ
copy_step d target source mem =
    let n = registered_of mem in
    release_all_step d n (entry_ids (space_of d target mem))
    (hold_all_step d n (entry_ids (space_of d source mem)) (on_region d (space target) (copied_space (space_of d source mem)) mem))

unfoldable pub copied_of : Numbers → ℕ → ℕ → List ℕ → Copied
copied_of d target source mem =
    let t = copied_table (space_of d source mem) (space_of d target mem) in
    record { moved = t.moved; accepted = length (entry_ids (space_of d source mem)) }

-- ---- ids: smallest recycled first, else next; none where next is 2^48

unfoldable pub taken_id : Numbers → List ℕ → Option ℕ
taken_id d mem =
    pick (nat_lt 0 (recycled_of mem)) (Some (recycled d mem 0)) (pick (nat_lt (next_of mem) (2 ^ 48)) (Some (next_of mem)) None)

unfoldable pub take_step : Numbers → List ℕ → List ℕ
take_step d mem =
    pick (nat_lt 0 (recycled_of mem))
    (slice_set (on_region d registry (first_taken d.places (recycled_of mem)) mem) recycled_word (recycled_of mem - 1))
    (pick (nat_lt (next_of mem) (2 ^ 48)) (slice_set mem next_word (next_of mem + 1)) mem)

-- ---- the registry: n ids are registered, m recycled

-- The place of an id, or n where it is not registered.
abbrev pub place_in : Numbers → List ℕ → ℕ → ℕ
place_in d mem id = place_of (registered_of mem) (view d registry mem) id

abbrev pub objects : Numbers → List ℕ → ℕ → ℕ
objects d mem = object_at d.places (view d registry mem)

-- A new id behind the others; its link is its parent's place plus one, or 0.
unfoldable pub register_step : Numbers → ℕ → ℕ → ℕ → List ℕ → List ℕ
register_step d id object link mem =
    let n = registered_of mem in
    slice_set (on_region d registry (registered d.places n id object link) mem) registered_word (n + 1)

-- Place p has a list of children from now on.
unfoldable pub list_step : Numbers → ℕ → List ℕ → List ℕ
list_step d p mem = on_region d registry (list_given d.places p) mem

-- Place k leaves, with its list and its place in every list.
unfoldable pub unregister_step : Numbers → ℕ → List ℕ → List ℕ
unregister_step d k mem =
    let n = registered_of mem in
    slice_set (on_region d registry (unregistered d.places n k) mem) registered_word (n - 1)

-- An id joins the recycled ones.
unfoldable pub recycle_step : Numbers → ℕ → List ℕ → List ℕ
recycle_step d id mem =
    let m = recycled_of mem in
    slice_set (on_region d registry (recycled_with d.places m id) mem) recycled_word (m + 1)

-- The children of place p with no children and no holders leave list and registry.
unfoldable pub collect_step : Numbers → ℕ → List ℕ → List ℕ
collect_step d p mem =
    let n = registered_of mem in
    set (on_region d registry (λ rg. (collected d.places p n rg).words) mem) registered_word
    (collected d.places p n (view d registry mem)).left

-- Of a registered id x: its parent is the id y.
abbrev pub ChildOf : Numbers → List ℕ → ℕ → ℕ → Type 0
ChildOf d mem x y = links d mem (place_in d mem x) ≡ suc (place_in d mem y)

-- How many children place p has.
abbrev pub children_of : Numbers → List ℕ → ℕ → ℕ
children_of d mem p = children (links d mem) (registered_of mem) p

-- ---- the epoch and the statistics: word i of the head counts k more, in 64 bits, wrapping

unfoldable pub add_step : ℕ → ℕ → List ℕ → List ℕ
add_step i k mem = slice_set mem i ((slice_index mem i + k) % 2 ^ 64)
