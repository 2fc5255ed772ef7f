-- `registry_look::unregistered` meets its contract: what the index knows nowhere is none of the ids.
use Rattle.std.proofs.Common.{◌≡◌, refl, ◌∙◌, Bool, true, false, not, List, ℕ, eqb, length, get_or, Option, Some, None, is_some}
use Rattle.base.specs.AllLaws.{all_ext}
use Rattle.base.specs.Exactly.{eqb_swap}
use Rattle.base.specs.Place.{holds, place_of, is_nowhere, nowhere_test}
use Rattle.registry.specs.Words.{id_at}
use Rattle.registry.specs.Sound.{unregistered_id}
use Rattle.registry_look.proofs.unregistered.Goals as goal

module _ (ids : List ℕ) (id : ℕ) (p : Option ℕ) (found : p ≡ place_of ids id) where
  nowhere : is_nowhere p ≡ unregistered_id (length ids) (id_at ids) id
  nowhere =
      rw found
      (nowhere_test ids id
      ∙ all_ext (length ids) (λ k. not (holds ids id k)) (λ k. not (eqb id (id_at ids k))) (λ k l. rw (eqb_swap (get_or ids k 0) id)))

  none : (r : Bool) → is_some p ≡ not r → r ≡ is_nowhere p
  none = go p
    where
      go : (q : Option ℕ) (r : Bool) → is_some q ≡ not r → r ≡ is_nowhere q
      go (Some k) true e = cc
      go (Some k) false e = refl
      go None true e = refl
      go None false e = cc

pub returns : goal.returns
returns c = none _ _ _ c.place_of.ensures _ c.is_none.ensures ∙ nowhere _ _ _ c.place_of.ensures
