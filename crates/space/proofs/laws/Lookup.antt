-- What a search by the whole token finds.
use Rattle.std.proofs.Common.{◌≡◌, ℕ, ◌+◌, ◌*◌, Bool, true, false, eqb, List, get_or, refl, ap, eqb-true, Option, None, Some}
use Rattle.base.specs.Choose.{pick}
use Rattle.space.specs.Lookup.{search_for, wholly, exactly}

-- It found slot i, so the search of the id ended there and the slot holds the token.
module _ (sp : List ℕ) (token i : ℕ) where
  picked : (b : Bool) (j : ℕ) → pick b (Some j) None ≡ Some i → (b ≡ true) × (j ≡ i)
  picked true j e = (refl, cc)
  picked false j e = (cc, cc)

  wholly_at : (f : Option ℕ) → wholly sp token f ≡ Some i → (f ≡ Some i) × (get_or sp (8 + 4 * i) 0 ≡ token)
  wholly_at (Some j) e =
      let (same, here) = picked (eqb (get_or sp (8 + 4 * j) 0) token) j e in
      (ap Some here, rw here at (eqb-true (get_or sp (8 + 4 * j) 0) token same))
  wholly_at None e = (cc, cc)

  pub exactly_at : exactly sp token ≡ Some i → ((search_for sp token).found ≡ Some i) × (get_or sp (8 + 4 * i) 0 ≡ token)
  unfolding exactly
  exactly_at e = wholly_at (search_for sp token).found e
