use Rattle.std.proofs.Common.{◌≡◌, refl, ◌∙◌, ⊎_elim, Bool, List, ◌≢◌, ℕ, ◌+◌, ◌≤◌, ◌<◌, le_antisymm, arith, rules, eq-eqb, ne_eqb, eqb, set}
use Rattle.base.specs.Choose.{both}
use Rattle.base.specs.Below.{sum, one}
use Rattle.base.specs.Compacted.{all_passing, compact_starts, compact_goes}
use Rattle.base.specs.SumLaws.{sum_goes}
use Rattle.table.specs.Slots.{is_live, is_removed}
use Rattle.table.specs.Sound.{coded_at, coded_test, agree_test, live_slots}
use Rattle.table.specs.declared.CapTable.{CapTable}
use Rattle.table_look.proofs.kinds_sound.Invariants.{Done}
use Rattle.table_look.proofs.kinds_sound.Goals.{then-coded-t, else-coded-t}
use Rattle.table_look.proofs.kinds_sound.Goals as goal

starts : (ws : List ℕ) (slots : ℕ) (xs : List ℕ) → Done ws slots xs xs 0 0 0 0
unfolding sum
starts ws slots xs = record {
  live = compact_starts (λ i. i) (is_live ws) slots xs;
  few_removed = omega arith;
  few_coded = omega arith;
  removed_is = refl;
  coded_is = refl;
}

module _ (ws : List ℕ) (slots : ℕ) (xs₀ xs : List ℕ) (n removed coded i : ℕ) (done : Done ws slots xs₀ xs n removed coded i) where
  goes :
      (l r k : ℕ) → i < slots → (l ≡ one (is_live ws i)) × (l ≤ 1) → (r ≡ one (is_removed ws i)) × (r ≤ 1)
      → (k ≡ one (coded_at ws i)) × (k ≤ 1)
      → Done ws slots xs₀ (set xs n i) (n + l) (removed + r) (coded + k) (i + 1)
  goes l r k u (live, live_one) (mark, mark_one) (listed_kind, listed_one) = record {
    live = compact_goes (λ i. i) (is_live ws) slots xs₀ xs n i done.live i l u refl live live_one;
    few_removed = omega (arith, done.few_removed);
    few_coded = omega (arith, done.few_coded);
    removed_is = sum_goes (λ i. one (is_removed ws i)) i removed r done.removed_is mark;
    coded_is = sum_goes (λ i. one (coded_at ws i)) i coded k done.coded_is listed_kind;
  }

  whole : slots ≤ i → Done ws slots xs₀ xs n removed coded slots
  whole past = rw (le_antisymm done.live.inside past) at done

  written : slots ≤ i → xs ≡ live_slots ws slots xs₀
  unfolding live_slots
  written past = (whole past).live.written

module _ (ws : List ℕ) (t : CapTable) (xs₀ xs : List ℕ) (n removed coded i : ℕ) (done : Done ws t.slots xs₀ xs n removed coded i)
    (past : t.slots ≤ i)
  where
    all_done : Done ws t.slots xs₀ xs n removed coded t.slots
    all_done = whole ws t.slots xs₀ xs n removed coded i done past

    abbrev passes : Bool
    passes = both (coded_test ws t.slots) (agree_test ws t)

    coded_tested : coded_test ws t.slots ≡ eqb coded t.slots
    coded_tested = all_passing (coded_at ws) t.slots ∙ rw (← all_done.coded_is)

    unlisted : (v : Bool) → v ≡ eqb coded t.slots → coded ≢ t.slots → v ≡ passes
    unlisted v e d = rw (e, coded_tested, ne_eqb coded t.slots d)

    module _ (all_coded : coded ≡ t.slots) where
      miscounted : (v : Bool) → v ≡ eqb n t.full → n ≢ t.full → v ≡ passes
      miscounted v e d = rw (e, coded_tested, eq-eqb coded t.slots all_coded, ← all_done.live.passed, ne_eqb n t.full d)

      counted : n ≡ t.full → eqb removed t.tombstones ≡ passes
      counted e =
          rw (coded_tested, eq-eqb coded t.slots all_coded, ← all_done.live.passed, eq-eqb n t.full e, ← all_done.removed_is)

ruleset laws = (rules, starts, goes, written, unlisted, miscounted, counted)

pub loop-i-init : goal.loop-i-init
loop-i-init c = search laws

pub loop-i-preserved : goal.loop-i-preserved
loop-i-preserved c = search laws

pub returns-then-n-t-clause-live_after : goal.returns-then-n-t-clause-live_after
returns-then-n-t-clause-live_after c = search laws

pub returns-then-n-t-clause-value : goal.returns-then-n-t-clause-value
returns-then-n-t-clause-value c = search laws

pub returns-else-n-t-clause-live_after : goal.returns-else-n-t-clause-live_after
returns-else-n-t-clause-live_after c = search laws

pub returns-else-n-t-clause-value : goal.returns-else-n-t-clause-value
returns-else-n-t-clause-value c =
    elim c.if-coded-t.branch [
      | then-coded-t w ↦ ⊎_elim (λ (all, other). search (laws, all, other)) (λ other. absurd (other w.if-coded-t.true)) c.if-n-t.either
      | else-coded-t w ↦ search laws
    ]
