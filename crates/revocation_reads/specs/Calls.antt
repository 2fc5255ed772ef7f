-- What revocation says of itself: what each call answers, on every memory and every argument. 26 comes before 21.
use Rattle.std.specs.Prelude.{List, [], ℕ, ◌^◌, leb, ltb, drop}
use Rattle.answers.specs.Answer.{BadField}
use Rattle.base.specs.Below.{one}
use Rattle.base.specs.Choose.{pick, when}
use Rattle.registry.specs.Children.{ids_at}
use Rattle.registry.specs.Descent.{descent}
use Rattle.revocation.specs.Log.{pair_of, log_has}
use Rattle.revocation.specs.Reason.{reason_of, name_of}
use Rattle.revocation_steps.specs.Revocation.{log_of}
use Rattle.steps.specs.Enter.{on_world}
use Rattle.steps.specs.Replies.{WithArea, done, refusal, into_area, Reply}
use Rattle.steps.specs.Steps.{place_in}
use Rattle.token.specs.Token.{id_of, generation_of}
use Rattle.world.specs.Numbers.{epoch_of, registered_of, logged_of}
use Rattle.world.specs.Regions.{registry, view}
use Rattle.world.specs.declared.Numbers.{Numbers}

-- Whether the log has the token's pair: 1 or 0.
unfoldable pub is_revoked_out : List ℕ → ℕ → Reply
is_revoked_out mem token =
    on_world refusal mem (λ d. done (one (log_has (logged_of mem) (log_of d mem) (pair_of (id_of token) (generation_of token)))))

unfoldable pub epoch_out : List ℕ → Reply
epoch_out mem = on_world refusal mem (λ d. done (epoch_of mem))

-- All descendants of the id at place r, breadth first; none where r is no place of an id.
abbrev pub descendants : Numbers → List ℕ → ℕ → List ℕ
descendants d mem r =
    let rg = view d registry mem in
    pick (ltb r (registered_of mem)) (ids_at rg (drop 1 (descent d.places (registered_of mem) rg r))) []

-- `get_derivation_tree`: they go to the area. 21 for an id over 2^48-1 too.
unfoldable pub descendants_out : List ℕ → ℕ → List ℕ → WithArea
descendants_out mem id area =
    on_world (λ a. record { reply = refusal a; area = area }) mem (λ d.
    when (leb (2 ^ 48) id) (record { reply = refusal BadField; area = area })
    (into_area (descendants d mem (place_in d mem id)) area))

-- The name of a reason, by its number: it has no memory to look at. 21 for a number that is no reason's too.
unfoldable pub reason_out : ℕ → List ℕ → WithArea
reason_out reason area =
    when (ltb 3 reason) (record { reply = refusal BadField; area = area }) (into_area (name_of (reason_of reason)) area)
