-- Document 01's row P8, about ids: creates on a small world whose next id is the last.
use Rattle.std.specs.Prelude.{Bool, true, List, [], ◌∷◌, ℕ, ◌-◌, ◌^◌, set, replicate}
use Rattle.answers.specs.Number.{number_of}
use Rattle.base.specs.Choose.{both}
use Rattle.manager_calls.specs.Calls.{create_out}
use Rattle.steps.specs.Replies.{Left, Reply}
use Rattle.world.specs.Open.{opening}
use Rattle.world.specs.Regions.{length_for}
use Rattle.world.specs.declared.Numbers.{Numbers}
use Rattle.rows.specs.Claims.{same}

-- One space of quota 8, and places for two ids.
numbers : Numbers
numbers = record { spaces = 1; most = 8; places = 2; pairs = 1; queues = 1 }

-- Opened, and all ids but the last issued.
late : List ℕ
late = set (opening numbers (8 ∷ []) (replicate (length_for numbers) 0)).memory 5 (2 ^ 48 - 1)

-- In space 0: object 77, valid, type 2, rights 31.
create : List ℕ → Left Reply
create mem = create_out mem 0 77 true 2 31

-- The number of the answer, and the value.
said : Left Reply → List ℕ
said out = number_of out.reply.answer ∷ out.reply.value ∷ []

-- P8 next 2^48-1 issued, then 9. The token has the id, generation 0, type 2 and the flags of rights 31, 15.
unfoldable pub p8 : Bool
unfolding same said create late numbers
p8 =
    let first = create late in
    both (same (said first) (0 ∷ 0xf200_ffff_ffff_ffff ∷ [])) (same (said (create first.memory)) (9 ∷ 0 ∷ []))
