-- The calls of the manager but revoke and delegate, children and their statistics, and the census: what each answers and leaves, on every
-- memory and every argument. Document 01's order of refusals: 26, 20, 21, then the source's.
use Rattle.std.specs.Prelude.{Bool, false, not, List, ℕ, ◌^◌, leb, ltb, get_or, Option, None, Some, Result, Ok, Err}
use Rattle.answers.specs.Answer.{Answer, Done, Refuses, InsufficientRights, CapabilityRevoked, InvalidObject, NotFound, IdExhausted, BadField, RegistryFull, RecycleFull}
use Rattle.answers.specs.declared.Refusal.{Refusal}
use Rattle.base.specs.Below.{one}
use Rattle.base.specs.Choose.{both, when}
use Rattle.registry.specs.Children.{child_ids, parents, edges, strays}
use Rattle.space.specs.Ids.{entry_ids}
use Rattle.space.specs.Lookup.{looked_up}
use Rattle.steps.specs.Enter.{on_world, on_space}
use Rattle.steps.specs.Replies.{Left, WithArea, replied, done, refusal, refuse, into_area, Reply}
use Rattle.steps.specs.Steps.{space_of, lookup_step, taken_id, take_step, place_in, register_step, unregister_step, recycle_step, add_step}
use Rattle.table.specs.declared.CapabilityEntry.{CapabilityEntry}
use Rattle.token.specs.Rights.{holds}
use Rattle.token.specs.Token.{id_of}
use Rattle.world.specs.Numbers.{created_word, delegated_word, revoked_word, deleted_word, registered_of, recycled_of}
use Rattle.world.specs.Regions.{registry, view}
use Rattle.world.specs.declared.Numbers.{Numbers}
use Rattle.manager_calls.specs.Admit.{admitted}
use Rattle.manager_calls.specs.Tokens.{token_of, current}
use Rattle.table.specs.declared.CapabilityEntry.{CapabilityEntry}
use Rattle.manager_calls.specs.declared.ManagerStats.{ManagerStats}
use Rattle.manager_calls.specs.declared.Tree.{Tree}

-- ---- create

-- Once an id was asked for: 9 where none is left, 22 where R ids are registered already.
abbrev pub created : Numbers → ℕ → ℕ → ℕ → ℕ → List ℕ → Option ℕ → Left Reply
created d s object cap_type rights mem None = refuse mem IdExhausted
created d s object cap_type rights mem (Some id) =
    when (not (ltb (registered_of mem) d.places)) (refuse (recycle_step d id mem) RegistryFull)
    (admitted d s id (token_of id cap_type rights) object rights created_word (register_step d id object 0 mem))

-- A type over 15 gives 21, an object whose valid flag is off 5; then an id is taken.
unfoldable pub create_out : List ℕ → ℕ → ℕ → Bool → ℕ → ℕ → Left Reply
create_out mem s object valid cap_type rights =
    on_space (refuse mem) mem s (λ d.
    when (ltb 15 cap_type) (refuse mem BadField)
    (when (not valid) (refuse mem InvalidObject) (created d s object cap_type rights (take_step d mem) (taken_id d mem))))

-- ---- delete

-- Delete looks at the id only, recycles it, drops its list and its place in every list; entries in spaces stay. 8 for an id that is not
-- registered, then 23 where R+1 ids are recycled already.
unfoldable pub delete_out : List ℕ → ℕ → Left Reply
delete_out mem token =
    on_world (refuse mem) mem (λ d.
    let k = place_in d mem (id_of token) in
    when (not (ltb k (registered_of mem))) (refuse mem NotFound)
    (when (ltb d.places (recycled_of mem)) (refuse mem RecycleFull)
    (record { reply = done 0; memory = add_step deleted_word 1 (recycle_step d (id_of token) (unregister_step d k mem)) })))

-- ---- check

-- Registered, unrevoked, of its generation.
abbrev pub valid_in : Numbers → List ℕ → ℕ → Bool
valid_in d mem token =
    let k = place_in d mem (id_of token) in
    both (ltb k (registered_of mem)) (current d mem token k)

-- Held with all the rights required.
abbrev pub grants : ℕ → Option CapabilityEntry → Bool
grants required (Some e) = holds e.rights.0 required
grants required None = false

-- Rights first (2), then registered, unrevoked, same generation (3). The lookup is counted as any, and the count is its visits.
unfoldable pub check_out : List ℕ → ℕ → ℕ → ℕ → Left Reply
check_out mem token required s =
    on_space (refuse mem) mem s (λ d.
    let l = looked_up (space_of d s mem) token in
    let after = lookup_step d s token mem in
    when (not (grants required l.got)) (record { reply = replied InsufficientRights 0 l.visits; memory = after })
    (when (not (valid_in d after token)) (record { reply = replied CapabilityRevoked 0 l.visits; memory = after })
    (record { reply = replied Done 0 l.visits; memory = after })))

-- Whether a token is valid: 1 or 0.
unfoldable pub is_valid_out : List ℕ → ℕ → Reply
is_valid_out mem token = on_world refusal mem (λ d. done (one (valid_in d mem token)))

-- ---- what the manager says of itself

-- The statistics of the manager, zeros on a refusal.
pub record StatsReply : Type 0 where
  pub answer : Answer
  pub created : ℕ
  pub delegated : ℕ
  pub revoked : ℕ
  pub deleted : ℕ

abbrev pub no_stats : Answer → StatsReply
no_stats answer = record { answer = answer; created = 0; delegated = 0; revoked = 0; deleted = 0 }

unfoldable pub stats_out : List ℕ → StatsReply
stats_out mem =
    on_world no_stats mem (λ d.
    record {
      answer = Done;
      created = get_or mem created_word 0;
      delegated = get_or mem delegated_word 0;
      revoked = get_or mem revoked_word 0;
      deleted = get_or mem deleted_word 0;
    })

-- What the code's outcome tells.
abbrev pub told_stats : Result ManagerStats Refusal → StatsReply
told_stats (Ok stats) =
    record { answer = Done; created = stats.created; delegated = stats.delegated; revoked = stats.revoked; deleted = stats.deleted }
told_stats (Err refusal) = no_stats (Refuses refusal)

-- The children of an id in list order, to the area. 21 for an id over 2^48-1 too.
unfoldable pub children_out : List ℕ → ℕ → List ℕ → WithArea
children_out mem id area =
    on_world (λ a. record { reply = refusal a; area = area }) mem (λ d.
    when (leb (2 ^ 48) id) (record { reply = refusal BadField; area = area })
    (into_area (child_ids d.places (place_in d mem id) (registered_of mem) (view d registry mem)) area))

-- How many capabilities have a list of delegations, and how many delegations there are, zeros on a refusal.
pub record TreeReply : Type 0 where
  pub answer : Answer
  pub parents : ℕ
  pub children : ℕ

abbrev pub no_tree : Answer → TreeReply
no_tree answer = record { answer = answer; parents = 0; children = 0 }

-- How many ids have a list of children, and how many children there are.
unfoldable pub tree_stats_out : List ℕ → TreeReply
tree_stats_out mem =
    on_world no_tree mem (λ d.
    let rg = view d registry mem in
    record { answer = Done; parents = parents d.places (registered_of mem) rg; children = edges d.places (registered_of mem) rg })

-- What the code's outcome tells.
abbrev pub told_tree : Result Tree Refusal → TreeReply
told_tree (Ok tree) = record { answer = Done; parents = tree.parents; children = tree.children }
told_tree (Err refusal) = no_tree (Refuses refusal)

-- A census of a space counts its strays, entries whose id is not registered.
unfoldable pub census_out : List ℕ → ℕ → Reply
census_out mem s =
    on_space refusal mem s (λ d. done (strays (registered_of mem) (view d registry mem) (entry_ids (space_of d s mem))))
