-- Ids given back and taken again. Document 01: smallest recycled first. m ids are recycled; they ascend, so the smallest is the first.
use Rattle.std.specs.Prelude.{ℕ, ◌+◌, ◌*◌, List, nat_lt, slice_set}
use Rattle.base.specs.Below.{first}
use Rattle.base.specs.Shift.{shifted_down, shifted_up}
use Rattle.registry.specs.Words.{recycled_at}

-- The recycled ids without the first.
unfoldable pub first_taken : ℕ → ℕ → List ℕ → List ℕ
first_taken places m rg = shifted_down (4 * places) (4 * places + m) rg

-- Where one more joins the recycled ids: before the first that is larger.
abbrev pub join_place : ℕ → ℕ → ℕ → List ℕ → ℕ
join_place places m id rg = first (λ j. nat_lt id (recycled_at places rg j)) m

-- The recycled ids with it.
unfoldable pub recycled_with : ℕ → ℕ → ℕ → List ℕ → List ℕ
recycled_with places m id rg =
    let at = 4 * places + join_place places m id rg in
    slice_set (shifted_up at (4 * places + m) rg) at id
