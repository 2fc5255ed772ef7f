-- Every call is entered in one of three ways: refused with 26, where the memory is not sound; refused with 20, where there is no such
-- space; or made. What holds of each of the three holds of the call.
use Rattle.std.proofs.Common.{◌≡◌, ℕ, ◌<◌, ◌≤◌, Bool, true, false, not, ltb, List, sym, refl, ◌∙◌, true≢false, arith, ltb-false, ltb-true, Ok, Err}
use Rattle.answers.specs.Answer.{Answer, Done, BadSpace, BadWorld}
use Rattle.answers.specs.declared.Refusal.TheVariants as refusal
use Rattle.base.specs.Choose.{when}
use Rattle.steps.specs.Enter.{entered_world, entered_space, with_space, go_on, on_world, on_space}
use Rattle.world.specs.Numbers.{numbers_of}
use Rattle.world.specs.Sound.{Sound, sound_test}
use Rattle.world.specs.SoundLaws.{sound_exactly}
use Rattle.world.specs.declared.Numbers.{Numbers}
use Rattle.steps.specs.Replies.{Left, refuse, Reply}

unsound : (mem : List ℕ) → sound_test mem ≡ false → ¬ Sound mem
unsound mem t sound = true≢false (sym ((sound_exactly mem).1 sound) ∙ t)

module _ {A : Type 0} (P : A → Type 0) (refuse : Answer → A) (mem : List ℕ) (call : Numbers → A)
    (bad : ¬ Sound mem → P (refuse BadWorld))
  where
    pub world_by_cases : (Sound mem → P (call (numbers_of mem))) → P (on_world refuse mem call)
    unfolding on_world entered_world when
    world_by_cases good = go (sound_test mem) refl
      where
        go : (b : Bool) → sound_test mem ≡ b → P (go_on refuse call (when (not b) (Err refusal.BadWorld) (Ok (numbers_of mem))))
        go true t = good ((sound_exactly mem).0 t)
        go false t = bad (unsound mem t)

    pub space_by_cases :
        (s : ℕ) → (Sound mem → (numbers_of mem).spaces ≤ s → P (refuse BadSpace))
        → (Sound mem → s < (numbers_of mem).spaces → P (call (numbers_of mem))) → P (on_space refuse mem s call)
    unfolding on_space entered_space entered_world when
    space_by_cases s none good = go (sound_test mem) refl
      where
        there :
            Sound mem → (c : Bool) → ltb s (numbers_of mem).spaces ≡ c
            → P (go_on refuse call (when (not c) (Err refusal.BadSpace) (Ok (numbers_of mem))))
        there sound true l = good sound (ltb-true s (numbers_of mem).spaces l)
        there sound false l = none sound (ltb-false s (numbers_of mem).spaces l)

        go : (b : Bool) → sound_test mem ≡ b
            → P (go_on refuse call (with_space s (when (not b) (Err refusal.BadWorld) (Ok (numbers_of mem)))))
        go true t = there ((sound_exactly mem).0 t) (ltb s (numbers_of mem).spaces) refl
        go false t = bad (unsound mem t)

module _ {A : Type 0} (refuse : Answer → A) (mem : List ℕ) (call : Numbers → A) where
  pub space_bad : (s : ℕ) → ¬ Sound mem → on_space refuse mem s call ≡ refuse BadWorld
  space_bad s bad =
      space_by_cases (λ r. r ≡ refuse BadWorld) refuse mem call (λ b. refl) s
      (λ sound far. absurd (bad sound))
      (λ sound valid. absurd (bad sound))

  module _ (sound : Sound mem) where
    pub world_called : on_world refuse mem call ≡ call (numbers_of mem)
    world_called = world_by_cases (λ r. r ≡ call (numbers_of mem)) refuse mem call (λ bad. absurd (bad sound)) (λ sound. refl)

    pub space_none : (s : ℕ) → (numbers_of mem).spaces ≤ s → on_space refuse mem s call ≡ refuse BadSpace
    space_none s none =
        space_by_cases (λ r. r ≡ refuse BadSpace) refuse mem call (λ bad. absurd (bad sound)) s
        (λ sound far. refl)
        (λ sound valid. absurd (omega arith))

    pub space_called : (s : ℕ) → s < (numbers_of mem).spaces → on_space refuse mem s call ≡ call (numbers_of mem)
    space_called s valid =
        space_by_cases (λ r. r ≡ call (numbers_of mem)) refuse mem call (λ bad. absurd (bad sound)) s
        (λ sound far. absurd (omega arith))
        (λ sound valid. refl)

-- An answer of 0 was given where the memory is sound and the space there.
pub done_made :
    (mem : List ℕ) (s : ℕ) (call : Numbers → Left Reply) (P : Left Reply → Type 0)
    → (Sound mem → s < (numbers_of mem).spaces → (call (numbers_of mem)).reply.answer ≡ Done → P (call (numbers_of mem)))
    → (on_space (refuse mem) mem s call).reply.answer ≡ Done → P (on_space (refuse mem) mem s call)
done_made mem s call P made =
    space_by_cases (λ (out : Left Reply). out.reply.answer ≡ Done → P out) (refuse mem) mem call
    (λ bad e. let z : ◌≡◌ {A = ℕ} 0 1 = cc in absurd (omega arith)) s
    (λ sound far e. let z : ◌≡◌ {A = ℕ} 0 1 = cc in absurd (omega arith))
    made
