-- Check in a user's words, and the collection in ids: a check is answered 0 exactly if the space holds the token with the rights and the id
-- is registered, unrevoked, of the token's generation; and a collection takes exactly the ids that nothing needs.
use Rattle.std.proofs.Common.{true, false, true≢false, List, ◌↔◌, ◌≡◌, refl, sym, ap, ◌∙◌, ℕ, ◌+◌, ◌*◌, ◌≤◌, ◌<◌, arith, ltb-true, lt-ltb, eqb, ltb, length, Option, None, Some}
use Rattle.answers.specs.Number.{number_of}
use Rattle.answers.specs.Answer.{Done}
use Rattle.base.specs.Exactly.{eqb_exactly, both_exactly}
use Rattle.registry.proofs.CollectionLaws.{collected_exactly}
use Rattle.registry.specs.Registering.{unneeded}
use Rattle.registry.specs.Words.{revoked}
use Rattle.space.specs.Lookup.{looked_up}
use Rattle.steps.specs.Replies.{Left, Reply}
use Rattle.steps.specs.Steps.{space_of, place_in, collect_step}
use Rattle.steps.proofs.laws.RegistrySteps.{collect_step_changes}
use Rattle.table.specs.declared.CapabilityEntry.{CapabilityEntry}
use Rattle.token.specs.Rights.{holds}
use Rattle.token.specs.Token.{id_of, generation_of}
use Rattle.world.specs.Numbers.{numbers_of, registered_of}
use Rattle.world.specs.Regions.{registry, view}
use Rattle.world.specs.Sound.{states, SoundAt, Sound}
use Rattle.world.specs.Views.{registry_words}
use Rattle.world.specs.declared.Numbers.{Numbers}
use Rattle.manager_calls.specs.Calls.{valid_in, grants, check_out}
use Rattle.manager_laws.proofs.laws.Ways.{check_by_cases}

-- ---- check

-- Held with all the rights required.
grants_exactly :
    (required : ℕ) (g : Option CapabilityEntry)
    → (grants required g ≡ true) ↔ ((e : CapabilityEntry) × ((g ≡ Some e) × (holds e.rights.0 required ≡ true)))
grants_exactly required (Some e) = (
  λ h. (e, (refl, h)),
  λ (x, (same, h)). let is : e ≡ x = cc in rw is h,
)
grants_exactly required None = (
  λ h. absurd (true≢false (sym h)),
  λ (x, (same, h)). let z : ◌≡◌ {A = ℕ} 0 1 = cc in absurd (omega arith),
)

-- A token is valid exactly if its id is registered, unrevoked, and of its generation.
pub valid_exactly :
    (d : Numbers) (mem : List ℕ) (token : ℕ)
    → (valid_in d mem token ≡ true)
    ↔ ((place_in d mem (id_of token) < registered_of mem)
    × ((revoked (states d mem (place_in d mem (id_of token))) ≡ 0)
    × (generation_of token ≡ revoked (states d mem (place_in d mem (id_of token))))))
valid_exactly d mem token =
    let k : ℕ = place_in d mem (id_of token) in
    let flag : ℕ = revoked (states d mem k) in (
      λ h.
          let (inside, is) = (both_exactly (ltb k (registered_of mem)) _).0 h in
          let (unrevoked, same) = (both_exactly (eqb flag 0) _).0 is in
          (ltb-true k (registered_of mem) inside, ((eqb_exactly flag 0).0 unrevoked, (eqb_exactly (generation_of token) flag).0 same)),
      λ (inside, (unrevoked, same)).
          (both_exactly (ltb k (registered_of mem)) _).1 (
            lt-ltb k (registered_of mem) inside,
            (both_exactly (eqb flag 0) _).1 ((eqb_exactly flag 0).1 unrevoked, (eqb_exactly (generation_of token) flag).1 same),
          ),
    )

-- The memory is sound and has the space, the space holds exactly the token with the rights, and the token is valid.
pub record Passes (mem : List ℕ) (token required s : ℕ) : Type 0 where
  pub sound : Sound mem
  pub there : s < (numbers_of mem).spaces
  pub entry : CapabilityEntry
  pub held : (looked_up (space_of (numbers_of mem) s mem) token).got ≡ Some entry
  pub granted : holds entry.rights.0 required ≡ true
  pub good : valid_in (numbers_of mem) mem token ≡ true

pub check_exactly :
    (mem : List ℕ) (token required s : ℕ) → ((check_out mem token required s).reply.answer ≡ Done) ↔ Passes mem token required s
check_exactly mem token required s =
    check_by_cases mem token required s (λ (out : Left Reply). (out.reply.answer ≡ Done) ↔ Passes mem token required s)
    (λ bad. (λ e. absurd (omega (arith, ap number_of e)), λ p. absurd (bad p.sound)))
    (λ sound far. (λ e. absurd (omega (arith, ap number_of e)), λ p. absurd (omega (arith, p.there))))
    (λ sound there without. (
      λ e. absurd (omega (arith, ap number_of e)),
      λ p. absurd (true≢false (sym (exactly.1 (p.entry, (p.held, p.granted))) ∙ without)),
    ))
    (λ sound there granted stale. (λ e. absurd (omega (arith, ap number_of e)), λ p. absurd (true≢false (sym p.good ∙ stale))))
    (λ sound there granted good. (
      λ e.
          let (entry, (held, with')) = exactly.0 granted in
          record { sound = sound; there = there; entry = entry; held = held; granted = with'; good = good },
      λ p. refl,
    ))
  where
    got : Option CapabilityEntry
    got = (looked_up (space_of (numbers_of mem) s mem) token).got

    exactly : (grants required got ≡ true) ↔ ((e : CapabilityEntry) × ((got ≡ Some e) × (holds e.rights.0 required ≡ true)))
    exactly = grants_exactly required got

-- ---- the collection

-- Exactly those ids stay whose places were needed.
pub collection_exactly :
    (d : Numbers) (mem : List ℕ) → SoundAt d mem → (p : ℕ) → p < registered_of mem → (x : ℕ)
    → (place_in d (collect_step d p mem) x < registered_of (collect_step d p mem))
    ↔ ((place_in d mem x < registered_of mem)
    × (unneeded d.places p (registered_of mem) (view d registry mem) (place_in d mem x) ≡ false))
collection_exactly d mem sound p inside x =
    let changed = collect_step_changes d mem sound p inside in
    let rg : List ℕ = view d registry mem in
    let long : 5 * d.places + 1 ≤ length rg = registry_words d mem sound.long_enough in
    rw (changed.new_word, changed.new_registry)
    (collected_exactly d.places p (registered_of mem) rg inside sound.registered_fit long sound.linked sound.ids_differ x)
