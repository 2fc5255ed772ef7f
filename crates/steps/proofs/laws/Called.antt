-- What a call leaves of a sound memory, where its own steps keep it: a refusal with 26 or 20 leaves all as it is.
use Rattle.std.proofs.Common.{ℕ, ◌<◌, List}
use Rattle.answers.specs.Answer.{Answer}
use Rattle.world.specs.Numbers.{numbers_of}
use Rattle.world.specs.Sound.{Sound}
use Rattle.world.specs.declared.Numbers.{Numbers}
use Rattle.steps.specs.Enter.{on_world, on_space}
use Rattle.steps.specs.Replies.{Left}
use Rattle.steps.proofs.laws.Entered.{world_by_cases, space_by_cases}
use Rattle.steps.proofs.laws.Kept.{Kept, kept_refl}

abbrev pub Keeps : {A : Type 0} → List ℕ → Left A → Type 0
Keeps mem out = Kept (numbers_of mem) mem out.memory

module _ (mem : List ℕ) (sound : Sound mem) {A : Type 0} (refusing : Answer → A) (call : Numbers → Left A) where
  pub on_world_keeps :
      Keeps mem (call (numbers_of mem)) → Keeps mem (on_world (λ a. record { reply = refusing a; memory = mem }) mem call)
  on_world_keeps made = world_by_cases (Keeps mem) _ mem call (λ bad. kept_refl (numbers_of mem) mem sound) (λ sound. made)

  pub on_space_keeps :
      (s : ℕ) → (s < (numbers_of mem).spaces → Keeps mem (call (numbers_of mem)))
      → Keeps mem (on_space (λ a. record { reply = refusing a; memory = mem }) mem s call)
  on_space_keeps s made =
      let as_it_is = kept_refl (numbers_of mem) mem sound in
      space_by_cases (Keeps mem) _ mem call (λ bad. as_it_is) s (λ sound far. as_it_is) (λ sound valid. made valid)
