-- `table::insert::rebuild` meets its contract: a table of 0 slots has no entry to keep; else the scratch, zero at the start, lists the
-- live entries after gathering, and those are placed in the emptied slots.
use Rattle.std.proofs.Common.{◌≡◌, ◌∙◌, List, ℕ, ◌*◌, ◌≤◌, arith, rules, length}
use Rattle.table.specs.Insert.{live_entries, scratch_entries, gathered, emptied, place_all, rebuilt}
use Rattle.table.proofs.laws.Scratch.{gathered_live, gathered_count}
use Rattle.table.proofs.insert.rebuild.Goals as goal

placed : (ws kept zeros bare after : List ℕ) (slots n count : ℕ)
    → record { kept = kept; count = count } ≡ gathered ws 0 slots (record { kept = zeros; count = 0 }) → 4 * slots ≤ length zeros
    → bare ≡ emptied ws n → after ≡ place_all (scratch_entries kept 0 count) bare n → after ≡ rebuilt ws slots n
unfolding rebuilt
placed ws kept zeros bare after slots n count filled fits e p = p ∙ rw (gathered_live ws kept zeros slots count fits filled, e)

bare : (ws after : List ℕ) (slots n : ℕ) → slots ≡ 0 → after ≡ emptied ws n → after ≡ rebuilt ws slots n
unfolding rebuilt live_entries place_all
bare ws after slots n none e = rw none e

nothing : (ws : List ℕ) (slots : ℕ) → slots ≡ 0 → 0 ≡ length (live_entries ws 0 slots)
unfolding live_entries
nothing ws slots none = rw none

pub returns-then-slots-eq0-clause-value : goal.returns-then-slots-eq0-clause-value
returns-then-slots-eq0-clause-value c = search (bare, nothing, rules)

pub returns-then-slots-eq0-clause-words_after : goal.returns-then-slots-eq0-clause-words_after
returns-then-slots-eq0-clause-words_after c = search (bare, rules)

pub returns-clause-value : goal.returns-clause-value
returns-clause-value c =
    let gathering = c.gather-count.ensures in (gathered_count _ _ _ _ _ (omega arith) gathering.result_after, gathering.upper_bound)

pub returns-clause-words_after : goal.returns-clause-words_after
returns-clause-words_after c =
    let gathering = c.gather-count.ensures in
    placed _ _ _ _ _ _ _ _ gathering.result_after (omega arith) c.empty_slots-2.ensures c.place_all.ensures
