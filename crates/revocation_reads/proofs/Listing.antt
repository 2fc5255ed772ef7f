-- An id with no place has no descendants: nothing is listed.
use Rattle.std.proofs.Common.{[], List, ◌≡◌, ℕ, ◌≤◌, arith, le-ltb, length}
use Rattle.base.specs.Choose.{when_no}
use Rattle.base.specs.Written.{written}
use Rattle.steps.specs.Replies.{done, into_area}
use Rattle.world.specs.Numbers.{registered_of}
use Rattle.world.specs.declared.Numbers.{Numbers}
use Rattle.revocation_reads.specs.Calls.{descendants}

none_listed : (area : List ℕ) → into_area [] area ≡ record { reply = done 0; area = area }
unfolding into_area written
none_listed area = when_no _ _ _ (le-ltb (length area) 0 (omega arith))

pub none_under :
    (d : Numbers) (mem : List ℕ) (r : ℕ) (area : List ℕ) → registered_of mem ≤ r
    → into_area (descendants d mem r) area ≡ record { reply = done 0; area = area }
none_under d mem r area past = rw (le-ltb r (registered_of mem) past) (none_listed area)
