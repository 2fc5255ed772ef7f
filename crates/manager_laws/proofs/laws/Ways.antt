-- The ways through delete and check: what holds of each ending holds of the call. Created.antt and Delegated.antt have the other two calls.
use Rattle.std.proofs.Common.{Bool, true, false, not, List, ◌≡◌, sym, ◌∙◌, ℕ, ◌≤◌, ◌<◌}
use Rattle.std.proofs.lemmas.Bool.{not-true, not-false}
use Rattle.answers.specs.Answer.{Answer, Done, InsufficientRights, CapabilityRevoked, NotFound, BadSpace, RecycleFull, BadWorld}
use Rattle.space.specs.Lookup.{looked_up}
use Rattle.steps.specs.Replies.{Left, replied, done, refuse, Reply}
use Rattle.steps.specs.Steps.{space_of, lookup_step, place_in, unregister_step, recycle_step, add_step}
use Rattle.base.specs.Cases.{when_by_cases, when_below, unless_below}
use Rattle.steps.proofs.laws.Entered.{world_by_cases, space_by_cases}
use Rattle.token.specs.Token.{id_of}
use Rattle.world.specs.Numbers.{numbers_of, registered_of, recycled_of}
use Rattle.world.specs.Sound.{Sound}
use Rattle.world.specs.declared.Numbers.{Numbers}
use Rattle.manager_calls.specs.Calls.{delete_out, grants, valid_in, check_out}
use Rattle.manager_laws.proofs.laws.SameRegistered.{lookup_same, same_valid}

-- ---- delete

-- The memory that a delete given 0 leaves.
abbrev pub deleted : Numbers → ℕ → List ℕ → List ℕ
deleted d id mem = add_step 10 1 (recycle_step d id (unregister_step d (place_in d mem id) mem))

module _ (mem : List ℕ) (token : ℕ) (P : Left Reply → Type 0) where
  abbrev d : Numbers
  d = numbers_of mem

  pub delete_by_cases :
      (¬ Sound mem → P (refuse mem BadWorld))
      → (Sound mem → registered_of mem ≤ place_in (numbers_of mem) mem (id_of token) → P (refuse mem NotFound))
      → (Sound mem → place_in (numbers_of mem) mem (id_of token) < registered_of mem → (numbers_of mem).places < recycled_of mem
      → P (refuse mem RecycleFull))
      → (Sound mem → place_in (numbers_of mem) mem (id_of token) < registered_of mem → recycled_of mem ≤ (numbers_of mem).places
      → P (record { reply = done 0; memory = deleted (numbers_of mem) (id_of token) mem }))
      → P (delete_out mem token)
  unfolding delete_out
  delete_by_cases bad absent full gone =
      world_by_cases P (refuse mem) mem _ bad
      (λ sound.
      unless_below P _ _ (place_in d mem (id_of token)) (registered_of mem) (absent sound)
      (λ inside.
      when_below P _ _ d.places (recycled_of mem) (full sound inside) (gone sound inside)))

-- ---- check

-- What a check answers and leaves once it has looked the token up: the lookup is counted.
abbrev pub checked : Numbers → ℕ → ℕ → List ℕ → Answer → Left Reply
checked d s token mem answer =
    record { reply = replied answer 0 (looked_up (space_of d s mem) token).visits; memory = lookup_step d s token mem }

module _ (mem : List ℕ) (token required s : ℕ) (P : Left Reply → Type 0) where
  abbrev numbers : Numbers
  numbers = numbers_of mem

  pub check_by_cases :
      (¬ Sound mem → P (refuse mem BadWorld)) → (Sound mem → (numbers_of mem).spaces ≤ s → P (refuse mem BadSpace))
      → (Sound mem → s < (numbers_of mem).spaces → grants required (looked_up (space_of (numbers_of mem) s mem) token).got ≡ false
      → P (checked (numbers_of mem) s token mem InsufficientRights))
      → (Sound mem → s < (numbers_of mem).spaces → grants required (looked_up (space_of (numbers_of mem) s mem) token).got ≡ true
      → valid_in (numbers_of mem) mem token ≡ false → P (checked (numbers_of mem) s token mem CapabilityRevoked))
      → (Sound mem → s < (numbers_of mem).spaces → grants required (looked_up (space_of (numbers_of mem) s mem) token).got ≡ true
      → valid_in (numbers_of mem) mem token ≡ true → P (checked (numbers_of mem) s token mem Done))
      → P (check_out mem token required s)
  unfolding check_out
  check_by_cases bad none without stale good =
      let d : Numbers = numbers in
      let granted : Bool = grants required (looked_up (space_of d s mem) token).got in
      let after : List ℕ = lookup_step d s token mem in
      space_by_cases P (refuse mem) mem _ bad s none
      (λ sound there.
      let same : valid_in d after token ≡ valid_in d mem token = same_valid d mem after (lookup_same d mem sound s there token) token in
      when_by_cases P _ _ (not granted)
      (λ no'. without sound there (not-true granted no'))
      (λ yes'.
      when_by_cases P _ _ (not (valid_in d after token))
      (λ no''. stale sound there (not-false granted yes') (sym same ∙ not-true (valid_in d after token) no''))
      (λ yes''. good sound there (not-false granted yes') (sym same ∙ not-false (valid_in d after token) yes''))))
