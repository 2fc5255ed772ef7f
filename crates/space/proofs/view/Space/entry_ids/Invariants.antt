-- `space::view::Space::entry_ids` meets its contract. The invariant: the ids put so far, with those of the entries from slot i on, are the
-- answer.
use Rattle.std.proofs.Common.{◌≡◌, ℕ, ◌-◌, ◌≤◌, List, ◌++◌, length, take, drop}
use Rattle.table.specs.Insert.{live_entries}
use Rattle.space.specs.Ids.{ids_of}
use Rattle.space.specs.Words.{table_of}
use Rattle.space.proofs.view.Space.entry_ids.Given as goal

-- The words that the slots are read from.
abbrev pub lent : List ℕ → List ℕ
lent sp = take (length sp - 8) (drop 8 sp)

-- The ids put so far, and those still to come.
unfoldable pub known : List ℕ → ℕ → List ℕ → ℕ → ℕ → List ℕ
known ids count ws slots i = take count ids ++ ids_of (live_entries ws i (slots - i))

abbrev pub invariant-loop-i : goal.invariant-loop-i
invariant-loop-i l =
    (l.count ≤ l.i) × (length l.ids ≡ length l.initial.ids)
    × (known l.ids l.count (lent l.self.words.now) (table_of l.self.words.now).slots l.i
    ≡ ids_of (live_entries (lent l.self.words.now) 0 (table_of l.self.words.now).slots))
