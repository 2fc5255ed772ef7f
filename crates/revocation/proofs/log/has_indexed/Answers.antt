-- `revocation::log::has_indexed` meets its contract: the log has what the index knows at a place, and nothing that it knows nowhere.
use Rattle.std.proofs.Common.{◌≡◌, sym, ap, ◌∙◌, true, false, not, true≢false, List, ℕ, ◌<◌, eq-eqb, length, get_or, Option, Some, None, is_some, refl}
use Rattle.std.proofs.lemmas.Bool.{not-true}
use Rattle.base.specs.Below.{all}
use Rattle.base.specs.AllLaws.{all_at}
use Rattle.base.specs.Place.{holds, place_of, place_holds, is_nowhere, nowhere_test}
use Rattle.revocation.specs.Log.{log_has}
use Rattle.revocation.specs.LogLaws.{has_exactly, lacks_exactly}
use Rattle.revocation.proofs.log.has_indexed.Goals as goal

module _ (lg : List ℕ) (pair : ℕ) (p : Option ℕ) (found : p ≡ place_of lg pair) where
  present : (k : ℕ) → p ≡ Some k → true ≡ log_has (length lg) lg pair
  present k told = sym ((has_exactly (length lg) lg pair).1 (k, place_holds lg pair k (sym found ∙ told)))

  absent : p ≡ None → false ≡ log_has (length lg) lg pair
  absent told =
      let unlike : all (length lg) (λ k. not (holds lg pair k)) ≡ true = sym (nowhere_test lg pair) ∙ ap is_nowhere (sym found ∙ told) in
      let each : (k : ℕ) → k < length lg → holds lg pair k ≡ true → ⊥ =
      λ k l h. true≢false (sym h ∙ not-true (holds lg pair k) (all_at (length lg) (λ k. not (holds lg pair k)) unlike k l)) in
      sym ((lacks_exactly (length lg) lg pair).1 (λ (k, (l, e)). each k l (eq-eqb (get_or lg k 0) pair e)))

  known : is_some p ≡ log_has (length lg) lg pair
  known = go p refl
    where
      go : (q : Option ℕ) → p ≡ q → is_some q ≡ log_has (length lg) lg pair
      go (Some k) told = present k told
      go None told = absent told

pub returns : goal.returns
returns c = c.is_some.ensures ∙ known _ _ _ c.place_of.ensures
