-- `registry::ids::recycle` meets its contract: room is made where the id joins, and it is written there.
use Rattle.std.proofs.Common.{◌≡◌, ℕ, ◌+◌, ◌*◌, List, set}
use Rattle.base.specs.Shift.{shifted_up}
use Rattle.registry.specs.Ids.{join_place, recycled_with}
use Rattle.registry.proofs.ids.recycle.Goals as goal

joins :
    (places m id place : ℕ) (rg opened : List ℕ) → place ≡ join_place places m id rg
    → opened ≡ shifted_up (4 * places + place) (4 * places + m) rg → set opened (4 * places + place) id ≡ recycled_with places m id rg
unfolding recycled_with
joins places m id place rg opened here moved = rw (moved, here)

pub returns : goal.returns
returns c = joins _ _ _ _ _ _ c.join_place.ensures.0 c.shift_up.ensures
