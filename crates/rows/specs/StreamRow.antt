-- Document 01's row P9, about the request stream program: what a run over the five records of its example prints.
use Rattle.std.specs.Prelude.{Bool, List, [], ◌∷◌, ◌++◌, ℕ, ◌*◌, eqb, take, replicate}
use Rattle.answers.specs.Number.{number_of}
use Rattle.base.specs.Choose.{both}
use Rattle.request.specs.Made.{record_of}
use Rattle.request.specs.declared.Request.{Request}
use Rattle.request_run.specs.Run.{numbers, run_out}
use Rattle.steps.specs.Replies.{Left, WithArea}
use Rattle.world.specs.Regions.{length_for}
use Rattle.rows.specs.Claims.{same}

-- Create in space 0 (valid, type 2, rights 31, object 77);
create : Request
create = record { op = 1; space = 0; second = 0; valid = 1; cap_type = 2; rights = 31; zero = 0; a = 77; b = 0 }

-- delegate it to space 1 with rights 1;
delegate : Request
delegate =
    record { op = 2; space = 0; second = 1; valid = 0; cap_type = 0; rights = 1; zero = 0; a = 0xf200_0000_0000_0001; b = 0 }

-- held revoke of the first at time 5;
revoke : Request
revoke =
    record { op = 7; space = 0; second = 0; valid = 0; cap_type = 0; rights = 0; zero = 0; a = 0xf200_0000_0000_0001; b = 5 }

-- check the second in space 1 for rights 1;
check : Request
check =
    record { op = 4; space = 1; second = 0; valid = 0; cap_type = 0; rights = 1; zero = 0; a = 0x1200_0000_0000_0002; b = 0 }

-- drain pid 1.
drain : Request
drain = record { op = 14; space = 0; second = 0; valid = 0; cap_type = 0; rights = 0; zero = 0; a = 1; b = 0 }

bytes : List ℕ
unfolding create delegate revoke check drain
bytes = record_of create ++ (record_of delegate ++ (record_of revoke ++ (record_of check ++ record_of drain)))

-- The five lines in ASCII.
lines : List ℕ
lines =
    -- 1 1 0 f200000000000001
    49 ∷ 32 ∷ 49 ∷ 32 ∷ 48 ∷ 32 ∷ 102 ∷ 50 ∷ 48 ∷ 48 ∷ 48 ∷ 48 ∷ 48 ∷ 48 ∷ 48 ∷ 48 ∷ 48 ∷ 48 ∷ 48 ∷ 48 ∷ 48 ∷ 49 ∷ 10
    -- 2 2 0 1200000000000002
    ∷ 50 ∷ 32 ∷ 50 ∷ 32 ∷ 48 ∷ 32 ∷ 49 ∷ 50 ∷ 48 ∷ 48 ∷ 48 ∷ 48 ∷ 48 ∷ 48 ∷ 48 ∷ 48 ∷ 48 ∷ 48 ∷ 48 ∷ 48 ∷ 48 ∷ 50 ∷ 10
    -- 3 7 0 0000000000000000
    ∷ 51 ∷ 32 ∷ 55 ∷ 32 ∷ 48 ∷ 32 ∷ 48 ∷ 48 ∷ 48 ∷ 48 ∷ 48 ∷ 48 ∷ 48 ∷ 48 ∷ 48 ∷ 48 ∷ 48 ∷ 48 ∷ 48 ∷ 48 ∷ 48 ∷ 48 ∷ 10
    -- 4 4 3 0000000000000000
    ∷ 52 ∷ 32 ∷ 52 ∷ 32 ∷ 51 ∷ 32 ∷ 48 ∷ 48 ∷ 48 ∷ 48 ∷ 48 ∷ 48 ∷ 48 ∷ 48 ∷ 48 ∷ 48 ∷ 48 ∷ 48 ∷ 48 ∷ 48 ∷ 48 ∷ 48 ∷ 10
    -- 5 14 0 0000000000000001
    ∷ 53 ∷ 32 ∷ 49 ∷ 52 ∷ 32 ∷ 48 ∷ 32 ∷ 48 ∷ 48 ∷ 48 ∷ 48 ∷ 48 ∷ 48 ∷ 48 ∷ 48 ∷ 48 ∷ 48 ∷ 48 ∷ 48 ∷ 48 ∷ 48 ∷ 48 ∷ 49 ∷ 10
    ∷ []

-- The run opens a memory of the length that its world needs, and writes to an area that has room for five lines.
run : Left WithArea
unfolding bytes
run = run_out bytes (replicate (length_for numbers) 0) (replicate (28 * 5) 0)

-- P9 the five lines above.
unfoldable pub p9 : Bool
unfolding same lines run
p9 = both (eqb (number_of run.reply.reply.answer) 0) (same (take run.reply.reply.value run.reply.area) lines)
