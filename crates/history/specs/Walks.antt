-- Every walk over a table's slots that a call makes, for an id or for a free place: the live and removed entries that stand in the table
-- when it begins, and the slots that it visits. A walk is named with the moment of the call at which it begins.
use Rattle.std.specs.Prelude.{Bool, true, false, List, [], ◌∷◌, ◌≡◌, ℕ, suc, ◌+◌, ◌^◌, ◌≤◌, ◌<◌, None, Some}
use Rattle.base.specs.Below.{sum, one}
use Rattle.delegation_calls.specs.Delegation.{held_with, open_child, offered}
use Rattle.manager_calls.specs.Tokens.{token_of, current}
use Rattle.space.specs.Lookup.{looked_up, search_id}
use Rattle.space.specs.Words.{generation_of, quota_of, table_of, slot_words}
use Rattle.steps.specs.Steps.{space_of, lookup_step, taken_id, take_step, place_in, objects, register_step, list_step, collect_step, children_of}
use Rattle.table.specs.Copy.{insert_all}
use Rattle.table.specs.Insert.{Table, live_entries, rebuilt, crowded, room_for, made_room, none}
use Rattle.table.specs.Slots.{is_live, is_removed, id_at, id_of}
use Rattle.table.specs.Walk.{search, steps_to_free}
use Rattle.table.specs.declared.CapTable.{CapTable}
use Rattle.table.specs.declared.CapabilityEntry.{CapabilityEntry}
use Rattle.token.specs.Rights.{common}
use Rattle.token.specs.Token.{made, type_of, id_of as token_id}
use Rattle.token.specs.declared.capability.CapabilityToken.{CapabilityToken}
use Rattle.std.specs.Prelude.{Ok}
use Rattle.world.specs.Numbers.{numbers_of, registered_of}
use Rattle.world.specs.Sound.{ids}
use Rattle.world.specs.declared.Numbers.{Numbers}
use Rattle.history.specs.Call.{Reading, Accepting, Changing, Call, reads, accepts, changes, space_get_entry, space_lookup, space_lookup_entry, space_check_rights, space_remove, space_revoke, check, revoke_held, space_insert, space_copy, space_create, create, delegate}

-- A walk: the live and removed entries in its table when it begins, and the slots that it visits.
pub record Walk : Type 0 where
  pub live : ℕ
  pub removed : ℕ
  pub visits : ℕ

-- ---- on one table

-- A walk among so many slots, whose live and removed ones are counted.
abbrev pub walk_among : List ℕ → ℕ → ℕ → Walk
walk_among ws slots visits = record {
  live = sum (λ i. one (is_live ws i)) slots;
  removed = sum (λ i. one (is_removed ws i)) slots;
  visits = visits;
}

-- The search for an id.
abbrev pub searching : List ℕ → ℕ → ℕ → Walk
searching ws slots id = walk_among ws slots (search ws slots id).visits

-- The walk for a free place.
abbrev pub placing : List ℕ → ℕ → ℕ → Walk
placing ws slots id = walk_among ws slots (steps_to_free ws slots id + 1)

-- An insert. Where the table is crowded, each live entry is placed among the new slots, which then hold the entries of the slots below
-- its own; then the new entry is placed.
pub data Inserts (ws : List ℕ) (t : CapTable) (id : ℕ) : Walk → Type 0 where
  moving :
      (i : ℕ) → crowded t ≡ true → i < t.slots → is_live ws i ≡ true
      → Inserts ws t id (placing (rebuilt ws i (room_for t.full)) (room_for t.full) (id_at ws i))
  entering : Inserts ws t id (placing (made_room ws t).words (made_room ws t).counts.slots id)

-- A copy: each entry in turn goes into the table that those before it made.
pub data Copies : List CapabilityEntry → Table → Walk → Type 0 where
  this_entry :
      (e : CapabilityEntry) (es : List CapabilityEntry) (t : Table) (w : Walk) → Inserts t.words t.counts (id_of e) w
      → Copies (e ∷ es) t w
  later_entry :
      (e : CapabilityEntry) (es : List CapabilityEntry) (t : Table) (w : Walk) → Copies es (insert_all (e ∷ []) t) w → Copies (e ∷ es) t w

-- ---- on the words of one space

-- The search for an id.
abbrev pub seeking : List ℕ → ℕ → Walk
seeking sp id = searching (slot_words sp) (table_of sp).slots id

-- The look over a space: the search for the id of each live entry.
pub data LooksOver (sp : List ℕ) : Walk → Type 0 where
  looking : (i : ℕ) → i < (table_of sp).slots → is_live (slot_words sp) i ≡ true → LooksOver sp (seeking sp (id_at (slot_words sp) i))

-- An insert: the search for its id, and, where there is room by the quota and the id is absent, the placings.
pub data InsertsInto (sp : List ℕ) (id : ℕ) : Walk → Type 0 where
  testing : InsertsInto sp id (seeking sp id)
  storing :
      (w : Walk) → (table_of sp).full < quota_of sp → (search_id sp id).found ≡ None → Inserts (slot_words sp) (table_of sp) id w
      → InsertsInto sp id w

-- ---- of a delegation, in the memory of a world whose numbers are d

-- Its lookups in the target, child after child, as `offered_from` makes them.
pub data Offers (d : Numbers) (target p cap_type rights : ℕ) : ℕ → ℕ → List ℕ → Walk → Type 0 where
  this_child :
      (k m : ℕ) (mem : List ℕ) → open_child d mem p k ≡ true
      → Offers d target p cap_type rights k (suc m) mem
      (seeking (space_of d target mem) (token_id (token_of (ids d mem k) cap_type rights)))
  after_a_miss :
      (k m : ℕ) (mem : List ℕ) (w : Walk) → open_child d mem p k ≡ true
      → held_with rights (looked_up (space_of d target mem) (token_of (ids d mem k) cap_type rights)).got ≡ false
      → Offers d target p cap_type rights (k + 1) m (lookup_step d target (token_of (ids d mem k) cap_type rights) mem) w
      → Offers d target p cap_type rights k (suc m) mem w
  past_others :
      (k m : ℕ) (mem : List ℕ) (w : Walk) → open_child d mem p k ≡ false → Offers d target p cap_type rights (k + 1) m mem w
      → Offers d target p cap_type rights k (suc m) mem w

-- The memory with room in the list of place p: as it is, or after a collection.
pub data WithRoom (d : Numbers) (p : ℕ) (mem : List ℕ) : List ℕ → Type 0 where
  few_children : children_of d mem p < 1024 → WithRoom d p mem mem
  collected : 1024 ≤ children_of d mem p → children_of d (collect_step d p mem) p < 1024 → WithRoom d p mem (collect_step d p mem)

-- A new child's insert, once its id was taken, where place p is a good parent and the registry has room.
pub record Derives (d : Numbers) (target token rights id p : ℕ) (mem : List ℕ) (w : Walk) : Type 0 where
  pub registered : p < registered_of mem
  pub good : current d mem token p ≡ true
  pub room : registered_of mem < d.places
  pub walk :
      InsertsInto (space_of d target (register_step d id (objects d mem p) (suc p) (list_step d p mem)))
      (token_id (token_of id (type_of token) rights)) w

-- The same from the memory that the lookups leave: room is made in the parent's list, an id is taken.
pub record MakesChild (d : Numbers) (target token rights : ℕ) (mem : List ℕ) (w : Walk) : Type 0 where
  pub roomy : List ℕ
  pub has_room : WithRoom d (place_in d mem (token_id token)) mem roomy
  pub id : ℕ
  pub taken : taken_id d roomy ≡ Some id
  pub walk : Derives d target token rights id (place_in d (take_step d roomy) (token_id token)) (take_step d roomy) w

-- The walks of a delegation after its lookup in the source; that lookup found the token and is counted in mem; rights are the derived
-- ones.
pub data Delegates (d : Numbers) (target token rights : ℕ) (mem : List ℕ) : Walk → Type 0 where
  offering_child :
      (w : Walk) → Offers d target (place_in d mem (token_id token)) (type_of token) rights 0 (registered_of mem) mem w
      → Delegates d target token rights mem w
  making :
      (w : Walk) → MakesChild d target token rights (offered d target token rights mem).memory w → Delegates d target token rights mem w

-- ---- every walk of a call: those of the look, then its own. Some that a refused call does not come to are among them, as those of an
-- insert at its quota; none that a call makes is left out

-- The look with which every call but an opening begins.
pub data Looks (d : Numbers) (mem : List ℕ) : Walk → Type 0 where
  looking_over : (s : ℕ) (w : Walk) → s < d.spaces → LooksOver (space_of d s mem) w → Looks d mem w

pub data WalksOf (d : Numbers) (mem : List ℕ) : Call → Walk → Type 0 where
  before_reading : (call : Reading) (w : Walk) → Looks d mem w → WalksOf d mem (reads call) w
  before_accepting : (call : Accepting) (w : Walk) → Looks d mem w → WalksOf d mem (accepts call) w
  before_changing : (call : Changing) (w : Walk) → Looks d mem w → WalksOf d mem (changes call) w
  in_get_entry : (s id : ℕ) → s < d.spaces → WalksOf d mem (reads (space_get_entry s id)) (seeking (space_of d s mem) id)
  in_lookup : (s token : ℕ) → s < d.spaces → WalksOf d mem (changes (space_lookup s token)) (seeking (space_of d s mem) (token_id token))
  in_lookup_entry :
      (s token : ℕ) → s < d.spaces → WalksOf d mem (changes (space_lookup_entry s token)) (seeking (space_of d s mem) (token_id token))
  in_check_rights :
      (s token required : ℕ) → s < d.spaces
      → WalksOf d mem (changes (space_check_rights s token required)) (seeking (space_of d s mem) (token_id token))
  in_remove : (s token : ℕ) → s < d.spaces → WalksOf d mem (changes (space_remove s token)) (seeking (space_of d s mem) (token_id token))
  in_space_revoke :
      (s id : ℕ) (t : CapabilityToken) → s < d.spaces → made id (generation_of (space_of d s mem)) 0 0 ≡ Ok t
      → WalksOf d mem (changes (space_revoke s id)) (seeking (space_of d s mem) (token_id t.0))
  in_check :
      (token required s : ℕ) → s < d.spaces
      → WalksOf d mem (changes (check token required s)) (seeking (space_of d s mem) (token_id token))
  in_revoke_held :
      (s token time : ℕ) (listed : List ℕ) → s < d.spaces
      → WalksOf d mem (changes (revoke_held s token time listed)) (seeking (space_of d s mem) (token_id token))
  in_insert :
      (s token object rights : ℕ) (fits : rights < 2 ^ 32) (w : Walk) → s < d.spaces → InsertsInto (space_of d s mem) (token_id token) w
      → WalksOf d mem (accepts (space_insert s token object rights fits)) w
  in_copy :
      (target source : ℕ) (w : Walk) → target < d.spaces → source < d.spaces
      → Copies (live_entries (slot_words (space_of d source mem)) 0 (table_of (space_of d source mem)).slots)
      (record { words = slot_words (space_of d target mem); counts = none; moved = 0 }) w
      → WalksOf d mem (accepts (space_copy target source)) w
  in_space_create :
      (s rights object id : ℕ) (fits : rights < 2 ^ 32) (t : CapabilityToken) (w : Walk) → s < d.spaces → taken_id d mem ≡ Some id
      → made id (generation_of (space_of d s (take_step d mem))) 0 0 ≡ Ok t
      → InsertsInto (space_of d s (take_step d mem)) (token_id t.0) w
      → WalksOf d mem (accepts (space_create s rights object fits)) w
  in_create :
      (s object : ℕ) (valid : Bool) (cap_type rights id : ℕ) (fits : rights < 2 ^ 32) (w : Walk) → s < d.spaces
      → taken_id d mem ≡ Some id → registered_of (take_step d mem) < d.places
      → InsertsInto (space_of d s (register_step d id object 0 (take_step d mem))) (token_id (token_of id cap_type rights)) w
      → WalksOf d mem (accepts (create s object valid cap_type rights fits)) w
  in_delegate_source :
      (token source target rights : ℕ) (fits : rights < 2 ^ 32) → source < d.spaces → target < d.spaces
      → WalksOf d mem (accepts (delegate token source target rights fits)) (seeking (space_of d source mem) (token_id token))
  in_delegate :
      (token source target rights : ℕ) (fits : rights < 2 ^ 32) (e : CapabilityEntry) (w : Walk) → source < d.spaces → target < d.spaces
      → (looked_up (space_of d source mem) token).got ≡ Some e
      → Delegates d target token (common e.rights.0 rights) (lookup_step d source token mem) w
      → WalksOf d mem (accepts (delegate token source target rights fits)) w

abbrev pub Walks : List ℕ → Call → Walk → Type 0
Walks mem = WalksOf (numbers_of mem) mem
