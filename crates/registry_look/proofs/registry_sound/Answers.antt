-- `registry_look::registry_sound` meets its contract: the passes and the index test the rules, and the last pass writes nothing.
use Rattle.std.proofs.Common.{ap, ◌≡◌, refl, ◌∙◌, Bool, true, false, not, List, ℕ, ◌≤◌, arith, length, take, length-take-le, is_some}
use Rattle.std.proofs.lemmas.Bool.{not-true, not-false}
use Rattle.base.specs.Below.{all}
use Rattle.base.specs.Choose.{both, both_goes, both_stops}
use Rattle.base.specs.Distinct.{differ_test, all_different, differ_take}
use Rattle.registry.specs.Words.{id_at}
use Rattle.registry.specs.Sound.{registry_test}
use Rattle.registry_look.specs.Look.{places_test, recycled_id_test, registry_passed}
use Rattle.registry_look.proofs.registry_sound.Goals as goal

-- The exits: p is whether the places keep their rules, d whether the ids differ.
module _ (places n m next : ℕ) (rg : List ℕ) (p : Bool) (tested : p ≡ places_test places n next rg) where
  abbrev ids : Bool
  ids = both (differ_test n (id_at rg)) (all m (recycled_id_test places n next rg))

  broken : not p ≡ true → false ≡ registry_test places n m next rg
  broken t = rw registry_passed (both_stops (places_test places n next rg) ids p tested (not-true p t))

  module _ (t : not p ≡ false) (fits : n ≤ length rg) (d : Bool) (e : d ≡ all_different (take n rg)) where
    kept : (r : Bool) → r ≡ ids → r ≡ registry_test places n m next rg
    kept r h = rw registry_passed (both_goes (places_test places n next rg) ids p r tested (not-false p t) h)

    differ : d ≡ differ_test n (id_at rg)
    differ = e ∙ differ_take n rg fits

    -- The rules of the recycled ids, as they were tested by the index.
    goes : (r : Bool) (words : List ℕ) → d ≡ true → words ≡ take n rg → r ≡ all m (recycled_id_test places (length words) next rg)
        → r ≡ registry_test places n m next rg
    goes r words yes' these h =
        let count : length words ≡ n = ap length these ∙ length-take-le n rg fits in
        kept r
        (both_goes (differ_test n (id_at rg)) (all m (recycled_id_test places n next rg)) d r differ yes'
        (h ∙ ap (λ n. all m (recycled_id_test places n next rg)) count))

    stops : d ≡ false → false ≡ registry_test places n m next rg
    stops no' = kept false (both_stops (differ_test n (id_at rg)) (all m (recycled_id_test places n next rg)) d differ no')

pub returns-then-not-places_sound-clause-value : goal.returns-then-not-places_sound-clause-value
returns-then-not-places_sound-clause-value c = broken _ _ _ _ _ _ c.places_sound.ensures (ap not c.if-not-places_sound.true)

pub returns-in_err-ids-clause-value : goal.returns-in_err-ids-clause-value
returns-in_err-ids-clause-value c =
    ap is_some c.from_residual.ensures
    ∙ stops _ _ _ _ _ _ c.places_sound.ensures (ap not c.if-not-places_sound.false) (omega arith) _ c.in_err-ids.ensures.value refl

pub returns-then-recycled_sound-clause-value : goal.returns-then-recycled_sound-clause-value
returns-then-recycled_sound-clause-value c =
    let index = c.in_ok-ids.ensures in
    goes _ _ _ _ _ _ c.places_sound.ensures (ap not c.if-not-places_sound.false) (omega arith) _ index.value _ _ refl index.indexed
    c.if-recycled_sound.ensures

pub returns-else-recycled_sound-clause-value : goal.returns-else-recycled_sound-clause-value
returns-else-recycled_sound-clause-value c =
    let index = c.in_ok-ids.ensures in
    goes _ _ _ _ _ _ c.places_sound.ensures (ap not c.if-not-places_sound.false) (omega arith) _ index.value _ _ refl index.indexed
    c.if-recycled_sound.ensures
