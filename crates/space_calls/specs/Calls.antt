-- The calls that change a space: what each answers and leaves, on every memory and every argument. Document 01's order of refusals: 26,
-- 20, 21, then the source's.
use Rattle.std.specs.Prelude.{not, List, ℕ, ltb, Option, Some, None, Result, Ok, Err}
use Rattle.answers.specs.Answer.{Done, Refuses, IdExhausted, SpaceIds, BadSpace}
use Rattle.answers.specs.declared.Refusal.{Refusal}
use Rattle.base.specs.Choose.{when}
use Rattle.space.specs.Change.{insert_out}
use Rattle.space.specs.Lookup.{looked_up}
use Rattle.space.specs.Words.{generation_of}
use Rattle.steps.specs.Enter.{on_world, on_space}
use Rattle.steps.specs.Steps.{space_of, new_entry, next_step, insert_step, insert_reply, remove_step, clear_step, copy_step, copied_of, taken_id, take_step}
use Rattle.table.specs.declared.CapabilityEntry.{CapabilityEntry}
use Rattle.token.specs.Token.{made}
use Rattle.token.specs.declared.capability.CapabilityToken.{CapabilityToken}
use Rattle.world.specs.declared.Numbers.{Numbers}
use Rattle.steps.specs.Replies.{Left, replied, done, refusal, refuse, Reply}
use Rattle.space_reads.specs.Replies.{found_reply}

-- ---- entries

-- Insert tests quota (11), then the id (7).
abbrev pub inserting : Numbers → ℕ → CapabilityEntry → ℕ → List ℕ → Left Reply
inserting d s e value mem =
    record { reply = insert_reply value (insert_out (space_of d s mem) e); memory = insert_step d s e mem }

unfoldable pub insert_call_out : List ℕ → ℕ → ℕ → ℕ → ℕ → Left Reply
insert_call_out mem s token object rights = on_space (refuse mem) mem s (λ d. inserting d s (new_entry token object rights) 0 mem)

-- An entry that left: its object is the value, or nothing is.
abbrev pub object_reply : Option CapabilityEntry → ℕ → Reply
object_reply got visits = found_reply (λ e. e.object) got visits

abbrev pub gone_reply : Option CapabilityEntry → ℕ → Reply
gone_reply got visits = found_reply (λ e. 0) got visits

-- Only exactly the token removes its entry.
unfoldable pub remove_out : List ℕ → ℕ → ℕ → Left Reply
remove_out mem s token =
    on_space (refuse mem) mem s (λ d.
    let l = looked_up (space_of d s mem) token in
    record { reply = object_reply l.got l.visits; memory = remove_step d s token mem })

unfoldable pub increment_out : List ℕ → ℕ → Left Reply
increment_out mem s = on_space (refuse mem) mem s (λ d. record { reply = done 0; memory = next_step d s mem })

unfoldable pub clear_out : List ℕ → ℕ → Left Reply
clear_out mem s = on_space (refuse mem) mem s (λ d. record { reply = done 0; memory = clear_step d s mem })

-- Clear, then the generation up by one.
unfoldable pub revoke_all_out : List ℕ → ℕ → Left Reply
revoke_all_out mem s = on_space (refuse mem) mem s (λ d. record { reply = done 0; memory = next_step d s (clear_step d s mem) })

-- The target takes the source's entries; the value is how many it accepted, the count its moves.
unfoldable pub copy_out : List ℕ → ℕ → ℕ → Left Reply
copy_out mem target source =
    on_space (refuse mem) mem target (λ d.
    let c = copied_of d target source mem in
    when (not (ltb source d.spaces)) (refuse mem BadSpace)
    (record { reply = replied Done c.accepted c.moved; memory = copy_step d target source mem }))

-- ---- ids

-- `alloc_cap_id`: 9 where no id is left.
abbrev pub taken_reply : Option ℕ → Reply
taken_reply (Some id) = done id
taken_reply None = refusal IdExhausted

unfoldable pub alloc_out : List ℕ → Left Reply
alloc_out mem = on_world (refuse mem) mem (λ d. record { reply = taken_reply (taken_id d mem); memory = take_step d mem })

-- Space-made create: an id is taken (12 where none is left), and a token of it and the space's generation, type and flags 0, inserted.
-- The value is the id, which is lost if the insert is refused.
abbrev pub create_made : Numbers → ℕ → ℕ → ℕ → ℕ → List ℕ → Result CapabilityToken Refusal → Left Reply
create_made d s rights object id mem (Ok t) = inserting d s (new_entry t.0 object rights) id mem
create_made d s rights object id mem (Err refusal) = refuse mem SpaceIds

abbrev pub create_taken : Numbers → ℕ → ℕ → ℕ → List ℕ → Option ℕ → Left Reply
create_taken d s rights object mem (Some id) = create_made d s rights object id mem (made id (generation_of (space_of d s mem)) 0 0)
create_taken d s rights object mem None = refuse mem SpaceIds

unfoldable pub create_out : List ℕ → ℕ → ℕ → ℕ → Left Reply
create_out mem s rights object =
    on_space (refuse mem) mem s (λ d. create_taken d s rights object (take_step d mem) (taken_id d mem))

-- Space revoke: exactly the token that the space would have made of the id leaves; 21 for an id over 2^48-1, 8 where it is absent.
abbrev pub revoke_made : Numbers → ℕ → List ℕ → Result CapabilityToken Refusal → Left Reply
revoke_made d s mem (Ok t) =
    let l = looked_up (space_of d s mem) t.0 in
    record { reply = gone_reply l.got l.visits; memory = remove_step d s t.0 mem }
revoke_made d s mem (Err refusal) = refuse mem (Refuses refusal)

unfoldable pub revoke_out : List ℕ → ℕ → ℕ → Left Reply
revoke_out mem s id = on_space (refuse mem) mem s (λ d. revoke_made d s mem (made id (generation_of (space_of d s mem)) 0 0))
