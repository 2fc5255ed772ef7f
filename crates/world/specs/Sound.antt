-- Document 01, "Sound memory": a rule a field, in its order and words. Rules that the layout cannot break are in docs/LAYOUT.md.
use Rattle.std.specs.Prelude.{Bool, not, List, ℕ, ◌+◌, ◌^◌, ◌≤◌, ◌<◌, leb, eqb, length, take}
use Rattle.base.specs.Below.{all, sum, one}
use Rattle.base.specs.Choose.{both}
use Rattle.base.specs.Distinct.{Differ}
use Rattle.table.specs.Slots.{is_live, id_at}
use Rattle.space.specs.Words.{table_of, slot_words}
use Rattle.space.specs.Sound.{SoundSpace, space_test}
use Rattle.registry.specs.Words as reg
use Rattle.registry.specs.Sound.{Held, held_test, Issued, Ascend, Unregistered, Linked, ParentHasList, Short, Cascaded, registry_test}
use Rattle.revocation.specs.Words.{pair_at, pid_of, length_of}
use Rattle.revocation.specs.Sound.{Pairs, log_test, SoundQueue, queue_test, PidsDiffer, pids_differ_test}
use Rattle.world.specs.Numbers.{numbers_of, next_of, registered_of, recycled_of, logged_of, InRange, in_range_test}
use Rattle.world.specs.Regions.{space, registry, log, queue, length_for, view}
use Rattle.world.specs.declared.Numbers.{Numbers}

-- What the rules read of a memory cut by the numbers d.
abbrev pub ids : Numbers → List ℕ → ℕ → ℕ
ids d mem = reg.id_at (view d registry mem)

-- The registered ids, as a list.
abbrev pub registered_ids : Numbers → List ℕ → List ℕ
registered_ids d mem = take (registered_of mem) (view d registry mem)

abbrev pub states : Numbers → List ℕ → ℕ → ℕ
states d mem = reg.state_at d.places (view d registry mem)

abbrev pub links : Numbers → List ℕ → ℕ → ℕ
links d mem = reg.link_at d.places (view d registry mem)

abbrev pub recycled : Numbers → List ℕ → ℕ → ℕ
recycled d mem = reg.recycled_at d.places (view d registry mem)

abbrev pub log_pairs : Numbers → List ℕ → ℕ → ℕ
log_pairs d mem = pair_at (view d log mem)

abbrev pub pids : Numbers → List ℕ → ℕ → ℕ
pids d mem q = pid_of (view d (queue q) mem)

abbrev pub lengths : Numbers → List ℕ → ℕ → ℕ
lengths d mem q = length_of (view d (queue q) mem)

-- Slot i holds an entry of the id.
abbrev pub entry_of : List ℕ → ℕ → ℕ → Bool
entry_of ws id i = both (is_live ws i) (eqb (id_at ws i) id)

-- The space has an entry of the id.
unfoldable pub has_entry : List ℕ → ℕ → Bool
has_entry sp id = not (all (table_of sp).slots (λ i. not (entry_of (slot_words sp) id i)))

-- How many spaces have an entry of the id.
unfoldable pub spaces_with : Numbers → List ℕ → ℕ → ℕ
spaces_with d mem id = sum (λ s. one (has_entry (view d (space s) mem) id)) d.spaces

pub record SoundAt (d : Numbers) (mem : List ℕ) : Type 0 where
  -- Opening numbers lie in range, and the memory is not too short for them.
  pub in_range : InRange d
  pub long_enough : length_for d ≤ length mem
  -- Coded fields hold listed values: no more is registered or logged than there are places.
  pub registered_fit : registered_of mem ≤ d.places
  pub logged_fit : logged_of mem ≤ d.pairs
  -- Each space: its coded fields, its table, its quota.
  pub spaces : (s : ℕ) → s < d.spaces → SoundSpace d.most (view d (space s) mem)
  -- An id's holders are at most the spaces with an entry of that id.
  pub held : Held (registered_of mem) (ids d mem) (states d mem) (spaces_with d mem)
  -- Registered ids differ and lie in 1..next-1; next is 1..2^48.
  pub ids_differ : Differ (registered_of mem) (ids d mem)
  pub ids_issued : Issued (registered_of mem) (ids d mem) (next_of mem)
  pub next_low : 1 ≤ next_of mem
  pub next_high : next_of mem ≤ 2 ^ 48
  -- Recycled ids ascend, are not registered, lie in 1..next-1, at most R+1.
  pub recycled_ascend : Ascend (recycled_of mem) (recycled d mem)
  pub recycled_unregistered : Unregistered (recycled_of mem) (recycled d mem) (registered_of mem) (ids d mem)
  pub recycled_issued : Issued (recycled_of mem) (recycled d mem) (next_of mem)
  pub recycled_fit : recycled_of mem ≤ d.places + 1
  -- Each derivation parent and child is registered, a child stands once in one list, lists hold at most 1,024, parent links end, a
  -- revoked parent's children are revoked.
  pub linked : Linked (registered_of mem) (links d mem)
  pub parent_has_list : ParentHasList (registered_of mem) (links d mem) (states d mem)
  pub short : Short (registered_of mem) (links d mem)
  pub cascaded : Cascaded (registered_of mem) (links d mem) (states d mem)
  -- Log pairs differ, and are coded.
  pub pairs_coded : Pairs (logged_of mem) (log_pairs d mem)
  pub pairs_differ : Differ (logged_of mem) (log_pairs d mem)
  -- Queues are non-empty, at most 256 long, with different pids; a place of length 0 is no queue.
  pub queues : (q : ℕ) → q < d.queues → 0 < lengths d mem q → SoundQueue (view d (queue q) mem)
  pub pids_differ : PidsDiffer d.queues (pids d mem) (lengths d mem)

abbrev pub Sound : List ℕ → Type 0
Sound mem = SoundAt (numbers_of mem) mem

-- The tests of the rules, in the order of the look: of the head's words, by which all else is read; of the ids, by which the entries of
-- the spaces are counted; of the spaces and the holders; of the log and the queues.
unfoldable pub counts_test : Numbers → List ℕ → Bool
counts_test d mem =
    both (leb (registered_of mem) d.places)
    (both (leb (logged_of mem) d.pairs)
    (both (leb 1 (next_of mem)) (both (leb (next_of mem) (2 ^ 48)) (leb (recycled_of mem) (d.places + 1)))))

unfoldable pub head_test : Numbers → List ℕ → Bool
head_test d mem =
    both (in_range_test d) (both (leb (length_for d) (length mem)) (counts_test d mem))

unfoldable pub ids_test : Numbers → List ℕ → Bool
ids_test d mem = registry_test d.places (registered_of mem) (recycled_of mem) (next_of mem) (view d registry mem)

unfoldable pub spaces_test : Numbers → List ℕ → Bool
spaces_test d mem = all d.spaces (λ s. space_test d.most (view d (space s) mem))

unfoldable pub holders_test : Numbers → List ℕ → Bool
holders_test d mem = held_test (registered_of mem) (ids d mem) (states d mem) (spaces_with d mem)

abbrev pub holdings_test : Numbers → List ℕ → Bool
holdings_test d mem = both (ids_test d mem) (both (spaces_test d mem) (holders_test d mem))

unfoldable pub logged_test : Numbers → List ℕ → Bool
logged_test d mem = log_test (logged_of mem) (view d log mem)

unfoldable pub queues_test : Numbers → List ℕ → Bool
queues_test d mem =
    both (all d.queues (λ q. queue_test (view d (queue q) mem))) (pids_differ_test d.queues (pids d mem) (lengths d mem))

unfoldable pub sound_test : List ℕ → Bool
sound_test mem =
    let d = numbers_of mem in
    both (head_test d mem) (both (holdings_test d mem) (both (logged_test d mem) (queues_test d mem)))
