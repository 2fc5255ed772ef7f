-- The calls that revoke: what each answers and leaves, on every memory and every argument. Document 01's order of refusals: 26, 20, 21,
-- then the source's; 24 before 25. `listed` is the process list, of at most 32 pids, else 21.
use Rattle.std.specs.Prelude.{not, List, ℕ, ltb, length}
use Rattle.answers.specs.Answer.{InvalidCapability, BadField}
use Rattle.base.specs.Choose.{when}
use Rattle.space.specs.Lookup.{looked_up}
use Rattle.steps.specs.Enter.{on_world, on_space}
use Rattle.steps.specs.Replies.{Left, refuse, Reply}
use Rattle.steps.specs.Steps.{space_of, lookup_step, place_in}
use Rattle.token.specs.Token.{id_of}
use Rattle.world.specs.Numbers.{registered_of}
use Rattle.cascade.specs.Cascade.{revoking}
use Rattle.revocation_calls.specs.Revoking.{revoking_token, revoking_held, revoking_each}

-- The manager's `revoke`: 1 for an id that is not registered.
unfoldable pub revoke_out : List ℕ → ℕ → ℕ → List ℕ → Left Reply
revoke_out mem token time listed =
    on_world (refuse mem) mem (λ d.
    let r = place_in d mem (id_of token) in
    when (ltb 32 (length listed)) (refuse mem BadField)
    (when (not (ltb r (registered_of mem))) (refuse mem InvalidCapability) (revoking d r time listed mem)))

unfoldable pub revoke_capability_out : List ℕ → ℕ → ℕ → List ℕ → Left Reply
revoke_capability_out mem token time listed =
    on_world (refuse mem) mem (λ d.
    when (ltb 32 (length listed)) (refuse mem BadField) (revoking_token d token time listed mem))

-- The lookup is counted, whatever comes of it.
unfoldable pub revoke_held_out : List ℕ → ℕ → ℕ → ℕ → List ℕ → Left Reply
revoke_held_out mem s token time listed =
    on_space (refuse mem) mem s (λ d.
    let l = looked_up (space_of d s mem) token in
    when (ltb 32 (length listed)) (refuse mem BadField)
    (revoking_held d token time listed (lookup_step d s token mem) l.got l.visits))

-- 21 for over 65,535 tokens.
unfoldable pub revoke_batch_out : List ℕ → List ℕ → ℕ → List ℕ → Left Reply
revoke_batch_out mem tokens time listed =
    on_world (refuse mem) mem (λ d.
    when (ltb 65535 (length tokens)) (refuse mem BadField)
    (when (ltb 32 (length listed)) (refuse mem BadField) (revoking_each d tokens time listed 0 mem)))
