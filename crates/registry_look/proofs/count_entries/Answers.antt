use Rattle.std.proofs.Common.{◌≡◌, refl, ap, ◌∙◌, List, ℕ, ◌+◌, ◌<◌, ◌≤◌, le_antisymm, add-one, arith, rules, length, get_or}
use Rattle.base.specs.Compacted.{fold}
use Rattle.registry.specs.Counts.{AtMost, count_entry, count_entries, few_entries, length_entries}
use Rattle.registry_look.proofs.count_entries.Invariants.{Done}
use Rattle.registry_look.proofs.count_entries.Goals as goal

starts : (ids entries counts : List ℕ) → Done ids entries counts counts 0
unfolding count_entries fold
starts ids entries counts = record { inside = omega arith; counted = refl }

module _ (ids entries counts₀ counts : List ℕ) (j : ℕ) (done : Done ids entries counts₀ counts j) where
  same : length counts ≡ length counts₀
  same = rw done.counted (length_entries ids entries j counts₀)

  room : length ids ≤ length counts₀ → length ids ≤ length counts
  room l = omega (arith, same)

  few : AtMost 65023 counts₀ → j < length entries → length entries ≤ 512 → AtMost 65534 counts
  few most l u =
      rw done.counted
      (record { most = λ k. omega (arith, (few_entries 65023 ids entries j counts₀ most).most k) })

  goes : (after : List ℕ) → j < length entries → after ≡ count_entry ids (get_or entries j 0) counts
      → Done ids entries counts₀ after (j + 1)
  unfolding count_entries fold
  goes after l e = record { inside = omega arith; counted = e ∙ rw (add-one, done.counted) }

  ends : length entries ≤ j → counts ≡ count_entries ids entries (length entries) counts₀
  ends u = done.counted ∙ ap (λ n. count_entries ids entries n counts₀) (le_antisymm done.inside u)

ruleset laws = (rules, starts, same, room, few, goes, ends)

pub loop-id-init : goal.loop-id-init
loop-id-init c = search laws

pub count_entry-requires-clause-at_most : goal.count_entry-requires-clause-at_most
count_entry-requires-clause-at_most c = search laws

pub loop-id-preserved : goal.loop-id-preserved
loop-id-preserved c = search laws
