-- The words of a slot. Slot i stands in words 4i to 4i + 3: token, object, uses, tag. The tag is kind * 2^32 + rights, and the
-- kind alone says what the slot is: 0 empty, 1 removed, 2 full. An id of 0 and a token of 0 are ordinary entries.
use Rattle.std.specs.Prelude.{Bool, List, ℕ, ◌+◌, ◌*◌, ◌/◌, ◌%◌, ◌^◌, eqb, get_or, set}
use Rattle.base.specs.Choose.{pick}
use Rattle.token.specs.Token.{id_of as token_id}
use Rattle.table.specs.declared.CapabilityEntry.{CapabilityEntry}
use Rattle.table.specs.declared.Kind.{Kind}
use Rattle.table.specs.declared.Kind.TheVariants as kind
use Rattle.table.specs.declared.Slot.{Slot}
use Rattle.table.specs.declared.Slot.TheVariants.{Empty, Tombstone, Full}

abbrev pub kind_at : List ℕ → ℕ → ℕ
kind_at ws i = get_or ws (4 * i + 3) 0 / 2 ^ 32

abbrev pub is_empty : List ℕ → ℕ → Bool
is_empty ws i = eqb (kind_at ws i) 0

abbrev pub is_removed : List ℕ → ℕ → Bool
is_removed ws i = eqb (kind_at ws i) 1

abbrev pub is_live : List ℕ → ℕ → Bool
is_live ws i = eqb (kind_at ws i) 2

-- The number of a kind, and whether a number is that.
abbrev pub number_of : Kind → ℕ
number_of kind.Empty = 0
number_of kind.Removed = 1
number_of kind.Full = 2

abbrev pub is_kind : Kind → ℕ → Bool
is_kind k n = eqb n (number_of k)

-- The id is the token's.
abbrev pub id_at : List ℕ → ℕ → ℕ
id_at ws i = token_id (get_or ws (4 * i) 0)

abbrev pub id_of : CapabilityEntry → ℕ
id_of e = token_id e.capability.0

-- The entry that the words of slot i hold.
unfoldable pub entry_at : List ℕ → ℕ → CapabilityEntry
entry_at ws i =
    record {
      capability = record { 0 = get_or ws (4 * i) 0 };
      object = get_or ws (4 * i + 1) 0;
      rights = record { 0 = get_or ws (4 * i + 3) 0 % 2 ^ 32 };
      uses = get_or ws (4 * i + 2) 0;
    }

-- The words with slot i full of the entry.
unfoldable pub put_entry : List ℕ → ℕ → CapabilityEntry → List ℕ
put_entry ws i e =
    set (set (set (set ws (4 * i) e.capability.0) (4 * i + 1) e.object) (4 * i + 2) e.uses)
    (4 * i + 3)
    (2 * 2 ^ 32 + e.rights.0)

-- The words with a removed mark in slot i.
unfoldable pub put_mark : List ℕ → ℕ → List ℕ
put_mark ws i = set ws (4 * i + 3) (2 ^ 32)

-- What slot i is, with its entry. A walk goes on past any slot that is neither live nor empty.
unfoldable pub slot_at : List ℕ → ℕ → Slot
slot_at ws i = pick (is_live ws i) (Full (entry_at ws i)) (pick (is_empty ws i) Empty Tombstone)
