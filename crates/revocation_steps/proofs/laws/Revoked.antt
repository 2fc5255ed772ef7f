-- Document 01, "Revocation", on the whole memory: after a cascade exactly what was revoked and the registered places under its first are
-- revoked, and nothing else of the registry changes; the log begins with what it was, and has each id of the cascade.
use Rattle.std.proofs.Common.{◌≡◌, ◌∙◌, ◌↔◌, ◌⊎◌, true, List, ℕ, ◌+◌, ◌*◌, ◌≤◌, ◌<◌, arith, length, take}
use Rattle.base.specs.Members.{In}
use Rattle.registry.specs.Descent.{descent, marked}
use Rattle.registry.specs.DescentLaws.{Under, descent_exactly}
use Rattle.registry.specs.MarkedLaws.{OnlyMarked, only_marked_has_list, only_marked_holders, only_marked_elsewhere, descent_marked_only, descent_marked_revoked}
use Rattle.registry.specs.StatesOnly.{same_ids, same_objects, same_links, same_recycled}
use Rattle.registry.specs.Words.{object_at, revoked, has_list, holders}
use Rattle.revocation.specs.Log.{log_has}
use Rattle.revocation.specs.LogLaws.{take_appended, has_joined}
use Rattle.world.specs.Numbers.{registered_of, logged_of}
use Rattle.world.specs.Regions.{registry, log, view}
use Rattle.world.specs.Sound.{ids, states, links, recycled, SoundAt}
use Rattle.world.specs.Views.{length_view, registry_words}
use Rattle.world.specs.declared.Numbers.{Numbers}
use Rattle.revocation_steps.specs.Revocation.{cascade_ids, cascade_pairs}
use Rattle.revocation_steps.proofs.laws.CascadeSteps.{revoke_step, cascade_marked, revoke_step_registry, revoke_step_logged, revoke_step_log}

module _ (d : Numbers) (mem : List ℕ) (sound : SoundAt d mem) (r : ℕ) (inside : r < registered_of mem)
    (fits : logged_of mem + length (cascade_pairs d mem r) ≤ d.pairs) (time : ℕ) (pids : List ℕ)
  where
    abbrev rg : List ℕ
    rg = view d registry mem

    abbrev found : List ℕ
    found = descent d.places (registered_of mem) rg r

    -- ---- the registry

    registry_after : view d registry (revoke_step d r time pids mem) ≡ marked d.places found rg
    registry_after = revoke_step_registry d mem sound r inside fits time pids ∙ cascade_marked d mem sound r inside

    long : 5 * d.places + 1 ≤ length rg
    long = registry_words d mem sound.long_enough

    only : OnlyMarked d.places found rg (view d registry (revoke_step d r time pids mem))
    only = rw registry_after (descent_marked_only d.places (registered_of mem) rg r inside sound.registered_fit long sound.linked)

    -- Exactly what was revoked before, and what is registered and under r.
    pub revoke_step_revoked :
        (k : ℕ)
        → (revoked (states d (revoke_step d r time pids mem) k) ≡ 1)
        ↔ ((revoked (states d mem k) ≡ 1) ⊎ ((k < registered_of mem) × Under (links d mem) r k))
    revoke_step_revoked k =
        rw registry_after
        (descent_marked_revoked d.places (registered_of mem) rg r inside sound.registered_fit long sound.linked k)

    -- The state of every other place is as it was.
    pub revoke_step_elsewhere :
        (k : ℕ) → ¬ ((k < registered_of mem) × Under (links d mem) r k) → states d (revoke_step d r time pids mem) k ≡ states d mem k
    revoke_step_elsewhere k apart =
        only_marked_elsewhere d.places found rg _ only k
        (λ among. apart ((descent_exactly d.places (registered_of mem) rg r sound.linked inside k).0 among))

    -- Nothing else of a place changes, nor of the recycled ids.
    pub revoke_step_ids : (k : ℕ) → k < d.places → ids d (revoke_step d r time pids mem) k ≡ ids d mem k
    revoke_step_ids = same_ids d.places rg _ only

    pub revoke_step_objects :
        (k : ℕ) → k < d.places
        → object_at d.places (view d registry (revoke_step d r time pids mem)) k ≡ object_at d.places (view d registry mem) k
    revoke_step_objects = same_objects d.places rg _ only

    pub revoke_step_links : (k : ℕ) → links d (revoke_step d r time pids mem) k ≡ links d mem k
    revoke_step_links = same_links d.places rg _ only

    pub revoke_step_holders : (k : ℕ) → holders (states d (revoke_step d r time pids mem) k) ≡ holders (states d mem k)
    revoke_step_holders = only_marked_holders d.places found rg _ only

    pub revoke_step_lists : (k : ℕ) → has_list (states d (revoke_step d r time pids mem) k) ≡ has_list (states d mem k)
    revoke_step_lists = only_marked_has_list d.places found rg _ only

    pub revoke_step_recycled : (k : ℕ) → recycled d (revoke_step d r time pids mem) k ≡ recycled d mem k
    revoke_step_recycled = same_recycled d.places rg _ only

    -- ---- the log

    room : logged_of mem + length (cascade_pairs d mem r) ≤ length (view d log mem)
    room = omega (arith, length_view d log mem tt sound.long_enough)

    pub revoke_step_log_before :
        take (logged_of mem) (view d log (revoke_step d r time pids mem)) ≡ take (logged_of mem) (view d log mem)
    revoke_step_log_before =
        rw (revoke_step_log d mem sound r inside fits time pids)
        (take_appended (logged_of mem) (cascade_pairs d mem r) (view d log mem) room)

    -- It has what it had, and each id of the cascade with generation 0; nothing else.
    pub revoke_step-log_has :
        (pair : ℕ)
        → (log_has (logged_of (revoke_step d r time pids mem)) (view d log (revoke_step d r time pids mem)) pair ≡ true)
        ↔ ((log_has (logged_of mem) (view d log mem) pair ≡ true) ⊎ In (cascade_ids d mem r) pair)
    revoke_step-log_has pair =
        rw (revoke_step_logged d mem sound r inside fits time pids, revoke_step_log d mem sound r inside fits time pids)
        (has_joined (logged_of mem) (cascade_ids d mem r) (view d log mem) room pair)
