-- `table_look::slots_sound` meets its contract: the listed slots are the live ones, so that their searches are those of `found_test`.
use Rattle.std.proofs.Common.{◌≡◌, refl, sym, ap, ◌∙◌, Bool, true, false, List, ℕ, ◌≤◌, ◌<◌, arith, eqb-true, lt-ltb, eqb, ltb, length, get_or, take, replicate, length-take-le, get_or-take}
use Rattle.std.proofs.Math.ListN.{length-replicate}
use Rattle.base.specs.Below.{all}
use Rattle.base.specs.AllLaws.{all_make, all_ext}
use Rattle.base.specs.Choose.{pick, both, both_left, both_right}
use Rattle.base.specs.Compacted.{passing, length_compacted, compacted_all}
use Rattle.base.specs.SumLaws.{sum_one_le}
use Rattle.table.specs.Slots.{is_live, is_removed}
use Rattle.table.specs.Sound.{ends_here, coded_test, agree_test, found_test, live_slots}
use Rattle.table.specs.declared.CapTable.{CapTable}
use Rattle.table_look.proofs.slots_sound.Goals as goal

abbrev zeros : List ℕ
zeros = replicate 512 0

abbrev kinds : List ℕ → CapTable → Bool
kinds ws t = both (coded_test ws t.slots) (agree_test ws t)

abbrev passes : List ℕ → CapTable → Bool
passes ws t = both (coded_test ws t.slots) (both (agree_test ws t) (found_test ws t.slots))

-- What is known where the kinds are sound: xs are the numbers of the live slots, and there are n of them.
module _ (ws : List ℕ) (t : CapTable) (few : t.slots ≤ 512) (r : Bool) (e : r ≡ kinds ws t) (good : r ≡ true) (xs : List ℕ)
    (written : xs ≡ live_slots ws t.slots zeros)
  where
    counts : agree_test ws t ≡ true
    counts = both_right (coded_test ws t.slots) (agree_test ws t) (sym e ∙ good)

    coded : coded_test ws t.slots ≡ true
    coded = both_left (coded_test ws t.slots) (agree_test ws t) (sym e ∙ good)

    live_is : passing (is_live ws) t.slots ≡ t.full
    live_is =
        eqb-true _ _
        (both_left (eqb (passing (is_live ws) t.slots) t.full) (eqb (passing (is_removed ws) t.slots) t.tombstones) counts)

    fits : t.full ≤ length xs
    unfolding live_slots
    fits =
        rw (written, length_compacted, length-replicate) (omega (arith, live_is, sum_one_le (is_live ws) t.slots))

    taken : length (take t.full xs) ≡ t.full
    taken = length-take-le t.full xs fits

    -- What the listed slots pass, each live slot passes.
    each : (q : ℕ → Bool) → all (length (take t.full xs)) (λ j. q (get_or (take t.full xs) j 0))
        ≡ all t.slots (λ i. pick (is_live ws i) (q i) true)
    unfolding live_slots
    each q =
        ap (λ m. all m (λ j. q (get_or (take t.full xs) j 0))) taken
        ∙ all_ext t.full (λ j. q (get_or (take t.full xs) j 0)) (λ j. q (get_or xs j 0)) (λ j l. ap q (get_or-take t.full xs j 0 l))
        ∙ rw (written, ← live_is) (compacted_all q (λ i. i) (is_live ws) t.slots zeros (rw length-replicate few))

    below : all (length (take t.full xs)) (λ j. ltb (get_or (take t.full xs) j 0) t.slots) ≡ true
    below = each (λ i. ltb i t.slots) ∙ all_make t.slots (λ i. pick (is_live ws i) (ltb i t.slots) true)
        (λ i l. go (is_live ws i) i l)
      where
        go : (live : Bool) (i : ℕ) → i < t.slots → pick live (ltb i t.slots) true ≡ true
        go true i l = lt-ltb i t.slots l
        go false i l = refl

    decides : (b : Bool) → b ≡ all (length (take t.full xs)) (λ j. ends_here ws t.slots (get_or (take t.full xs) j 0))
        → b ≡ passes ws t
    decides b h = rw (coded, counts) (h ∙ each (ends_here ws t.slots))

pub slice_bounds-live-end : goal.slice_bounds-live-end
slice_bounds-live-end c =
    let called = c.kinds_sound.ensures in fits _ _ (omega arith) _ called.value c.if-kinds_sound.true _ called.live_after

pub slice_bounds-all_found-end : goal.slice_bounds-all_found-end
slice_bounds-all_found-end c =
    let called = c.kinds_sound.ensures in sym
    (taken _ _ (omega arith) _ called.value c.if-kinds_sound.true _ called.live_after)

pub all_found-requires : goal.all_found-requires
all_found-requires c =
    let called = c.kinds_sound.ensures in below _ _ (omega arith) _ called.value c.if-kinds_sound.true _ called.live_after

pub returns-then-kinds_sound : goal.returns-then-kinds_sound
returns-then-kinds_sound c =
    let called = c.kinds_sound.ensures in
    decides _ _ (omega arith) _ called.value c.if-kinds_sound.true _ called.live_after _ c.all_found.ensures
