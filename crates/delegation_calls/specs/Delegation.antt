-- Document 01, "Registry and delegation": delegate, step by step, and last the call, what it answers and leaves on every memory and every
-- argument. d are the numbers of a sound memory. The value is the token, the count the entries that the insert moved: 0 where a child is
-- returned or the call refused.
use Rattle.std.specs.Prelude.{Bool, true, false, not, List, ℕ, zero, suc, ◌+◌, eqb, ltb, Option, None, Some}
use Rattle.answers.specs.Answer.{InvalidCapability, CapabilityRevoked, PermissionDenied, IdExhausted, QuotaExceeded, BadSpace, RegistryFull}
use Rattle.base.specs.Choose.{pick, both, when}
use Rattle.manager_calls.specs.Admit.{admitted}
use Rattle.manager_calls.specs.Tokens.{token_of, current}
use Rattle.registry.specs.Words.{revoked, child_of}
use Rattle.space.specs.Lookup.{looked_up}
use Rattle.steps.specs.Enter.{on_space}
use Rattle.steps.specs.Replies.{Left, done, refuse, Reply}
use Rattle.steps.specs.Steps.{space_of, lookup_step, taken_id, take_step, place_in, objects, register_step, list_step, recycle_step, collect_step, children_of}
use Rattle.table.specs.declared.CapabilityEntry.{CapabilityEntry}
use Rattle.token.specs.Rights.{GRANT, holds, common}
use Rattle.token.specs.Token.{id_of, type_of}
use Rattle.world.specs.Numbers.{registered_of, delegated_word}
use Rattle.world.specs.Sound.{ids, states, links}
use Rattle.world.specs.declared.Numbers.{Numbers}

-- ---- the children that there are already

-- Held with exactly these rights.
abbrev pub held_with : ℕ → Option CapabilityEntry → Bool
held_with rights (Some e) = eqb e.rights.0 rights
held_with rights None = false

-- Place k is an unrevoked child of place p.
abbrev pub open_child : Numbers → List ℕ → ℕ → ℕ → Bool
open_child d mem p k = both (child_of (links d mem) p k) (eqb (revoked (states d mem k)) 0)

-- The token of a child that the target holds, if there is one, and the memory with the lookups counted.
pub record Offered : Type 0 where
  pub held : Bool
  pub token : ℕ
  pub memory : List ℕ

-- Each unrevoked child of place p in list order, among the m places from k on, is looked up in the target, counted as any lookup; the
-- first held there with exactly the token made of its id, its generation, the given type and the derived flags, and with those rights, is
-- the one.
unfoldable pub offered_from : Numbers → ℕ → ℕ → ℕ → ℕ → ℕ → ℕ → List ℕ → Offered
offered_from d target p cap_type rights k zero mem = record { held = false; token = 0; memory = mem }
offered_from d target p cap_type rights k (suc m) mem =
    let token = token_of (ids d mem k) cap_type rights in
    let got = (looked_up (space_of d target mem) token).got in
    let after = lookup_step d target token mem in
    pick (open_child d mem p k)
    (pick (held_with rights got)
    (record { held = true; token = token; memory = after })
    (offered_from d target p cap_type rights (k + 1) m after))
    (offered_from d target p cap_type rights (k + 1) m mem)

abbrev pub offered : Numbers → ℕ → ℕ → ℕ → List ℕ → Offered
offered d target token rights mem =
    offered_from d target (place_in d mem (id_of token)) (type_of token) rights 0 (registered_of mem) mem

-- ---- a new child

-- The child is registered with its parent's object, recorded in the list that the parent has from now on, inserted.
abbrev pub derived_with : Numbers → ℕ → ℕ → ℕ → ℕ → ℕ → List ℕ → Left Reply
derived_with d target token rights id p mem =
    let object = objects d mem p in
    admitted d target id (token_of id (type_of token) rights) object rights delegated_word
    (register_step d id object (suc p) (list_step d p mem))

-- 9 where no id was left. Else one was taken: parent unregistered gives 1, revoked or other generation gives 3; then 22.
abbrev pub derived : Numbers → ℕ → ℕ → ℕ → List ℕ → Option ℕ → Left Reply
derived d target token rights mem None = refuse mem IdExhausted
derived d target token rights mem (Some id) =
    let p = place_in d mem (id_of token) in
    when (not (ltb p (registered_of mem))) (refuse (recycle_step d id mem) InvalidCapability)
    (when (not (current d mem token p)) (refuse (recycle_step d id mem) CapabilityRevoked)
    (when (not (ltb (registered_of mem) d.places)) (refuse (recycle_step d id mem) RegistryFull)
    (derived_with d target token rights id p mem)))

unfoldable pub with_id : Numbers → ℕ → ℕ → ℕ → List ℕ → Left Reply
with_id d target token rights mem = derived d target token rights (take_step d mem) (taken_id d mem)

-- With 1,024 children the collection, then 10 exactly if 1,024 remain.
unfoldable pub with_room : Numbers → ℕ → ℕ → ℕ → List ℕ → Left Reply
with_room d target token rights mem =
    let p = place_in d mem (id_of token) in
    let after = collect_step d p mem in
    pick (ltb (children_of d mem p) 1024) (with_id d target token rights mem)
    (when (not (ltb (children_of d after p) 1024)) (refuse after QuotaExceeded) (with_id d target token rights after))

-- A child that the target holds already is returned, not counted as delegated.
abbrev pub offering : Numbers → ℕ → ℕ → ℕ → Offered → Left Reply
offering d target token rights o =
    pick o.held (record { reply = done o.token; memory = o.memory }) (with_room d target token rights o.memory)

-- 1 for a token that the source space has not, 6 without GRANT; derived rights are both sets' common bits.
abbrev pub granting : Numbers → ℕ → ℕ → ℕ → List ℕ → Option CapabilityEntry → Left Reply
granting d target token rights mem None = refuse mem InvalidCapability
granting d target token rights mem (Some e) =
    let both_sets = common e.rights.0 rights in
    when (not (holds e.rights.0 GRANT)) (refuse mem PermissionDenied)
    (offering d target token both_sets (offered d target token both_sets mem))

-- ---- the call

-- The refusals 26 and 20, then the exact lookup in the source space, which is counted.
unfoldable pub delegate_out : List ℕ → ℕ → ℕ → ℕ → ℕ → Left Reply
delegate_out mem token source target rights =
    on_space (refuse mem) mem source (λ d.
    when (not (ltb target d.spaces)) (refuse mem BadSpace)
    (granting d target token rights (lookup_step d source token mem) (looked_up (space_of d source mem) token).got))
