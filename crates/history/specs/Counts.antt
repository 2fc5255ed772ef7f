-- How many entries a space accepted and its rebuilds moved, as the calls answer it. An insert, a create or a new delegation that is given 0
-- accepts one entry, and its count is what it moved; a copy's value is what it accepted and its count what it moved. A delegation that
-- returned a child which the target already held accepted none: the statistic of delegations, which counts the new ones and which `stats`
-- answers, is as it was.
use Rattle.std.specs.Prelude.{List, [], ◌∷◌, not, ℕ, ◌+◌, eqb, get_or}
use Rattle.answers.specs.Number.{number_of}
use Rattle.base.specs.Below.{one}
use Rattle.base.specs.Choose.{pick}
use Rattle.steps.specs.Replies.{Left, Reply}
use Rattle.world.specs.Numbers.{delegated_word}
use Rattle.history.specs.Call.{Accepting, Call, open_world, reads, accepts, changes, space_insert, space_copy, space_create, create, delegate}
use Rattle.history.specs.Perform.{accept, perform}

-- The space that a call may put entries into.
abbrev pub target_of : Accepting → ℕ
target_of (space_insert s token object rights fits) = s
target_of (space_copy target source) = target
target_of (space_create s rights object fits) = s
target_of (create s object valid cap_type rights fits) = s
target_of (delegate token source target rights fits) = target

-- 1 for an answer 0.
abbrev pub given0 : Left Reply → ℕ
given0 out = one (eqb (number_of out.reply.answer) 0)

-- The statistic of delegations.
abbrev pub delegations_of : List ℕ → ℕ
delegations_of mem = get_or mem delegated_word 0

abbrev pub accepted_by : Accepting → List ℕ → ℕ
accepted_by (space_insert s token object rights fits) mem = given0 (accept (space_insert s token object rights fits) mem)
accepted_by (space_copy target source) mem = (accept (space_copy target source) mem).reply.value
accepted_by (space_create s rights object fits) mem = given0 (accept (space_create s rights object fits) mem)
accepted_by (create s object valid cap_type rights fits) mem = given0 (accept (create s object valid cap_type rights fits) mem)
accepted_by (delegate token source target rights fits) mem =
    one (not (eqb (delegations_of (accept (delegate token source target rights fits) mem).memory) (delegations_of mem)))

-- Of one call, for space s.
unfoldable pub accepted_in : Call → ℕ → List ℕ → ℕ
accepted_in (open_world d quotas) s mem = 0
accepted_in (reads call) s mem = 0
accepted_in (accepts call) s mem = pick (eqb (target_of call) s) (accepted_by call mem) 0
accepted_in (changes call) s mem = 0

unfoldable pub moved_in : Call → ℕ → List ℕ → ℕ
moved_in (open_world d quotas) s mem = 0
moved_in (reads call) s mem = 0
moved_in (accepts call) s mem = pick (eqb (target_of call) s) (accept call mem).reply.count 0
moved_in (changes call) s mem = 0

-- Of a whole history.
unfoldable pub all_accepted : List Call → ℕ → List ℕ → ℕ
all_accepted [] s mem = 0
all_accepted (call ∷ later) s mem = accepted_in call s mem + all_accepted later s (perform call mem).memory

unfoldable pub all_moved : List Call → ℕ → List ℕ → ℕ
all_moved [] s mem = 0
all_moved (call ∷ later) s mem = moved_in call s mem + all_moved later s (perform call mem).memory
