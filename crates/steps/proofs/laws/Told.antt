-- What the refusals that all calls share say: 26 is answered exactly on memory that is not sound, 20 exactly on a sound one for a space
-- number of S or more, by every call whose own answers are neither; and 0 in every other case by a call with no refusal of its own.
use Rattle.std.proofs.Common.{◌≡◌, ℕ, ◌<◌, ◌≤◌, false, eqb, ◌≢◌, ◌↔◌, List, sym, refl, subst, arith}
use borrow.Author.Tests.{eqb-false}
use Rattle.answers.specs.Number.{number_of}
use Rattle.answers.specs.Answer.{Answer, Done, BadSpace, BadWorld}
use Rattle.world.specs.Numbers.{numbers_of}
use Rattle.world.specs.Sound.{Sound}
use Rattle.world.specs.declared.Numbers.{Numbers}
use Rattle.steps.specs.Enter.{on_world, on_space}
use Rattle.steps.proofs.laws.Cases.{given, not_given}
use Rattle.steps.proofs.laws.Entered.{world_by_cases, space_by_cases}

-- What the answer of a call on space s says of the memory and of s.
pub record Told (mem : List ℕ) (s : ℕ) (answer : Answer) : Type 0 where
  pub bad_world : (answer ≡ BadWorld) ↔ (¬ Sound mem)
  pub bad_space : (answer ≡ BadSpace) ↔ (Sound mem × ((numbers_of mem).spaces ≤ s))

-- An answer that a call gives once it is made: neither 26 nor 20.
pub record Inner (answer : Answer) : Type 0 where
  pub not_26 : number_of answer ≢ 26
  pub not_20 : number_of answer ≢ 20

-- What each of the three tells.
module _ (mem : List ℕ) (s : ℕ) where
  pub told_26 : ¬ Sound mem → Told mem s BadWorld
  told_26 bad = record {
    bad_world = given refl bad;
    bad_space = not_given BadWorld BadSpace (λ e. omega (arith, e)) (λ (sound, far). bad sound);
  }

  pub told_20 : Sound mem → (numbers_of mem).spaces ≤ s → Told mem s BadSpace
  told_20 sound far = record {
    bad_world = not_given BadSpace BadWorld (λ e. omega (arith, e)) (λ bad. bad sound);
    bad_space = given refl (sound, far);
  }

  pub told_own : Sound mem → s < (numbers_of mem).spaces → (a : Answer) → Inner a → Told mem s a
  told_own sound there a own = record {
    bad_world = not_given a BadWorld own.not_26 (λ bad. bad sound);
    bad_space = not_given a BadSpace own.not_20 (λ (sound, far). omega arith);
  }

-- Every call, on every memory.
module _ {A : Type 0} (answer_of : A → Answer) (refusing : Answer → A) (mem : List ℕ) (call : Numbers → A)
    (says : (a : Answer) → answer_of (refusing a) ≡ a)
  where
    -- One whose own answers are such.
    module _ (inner : Inner (answer_of (call (numbers_of mem)))) where
      pub told : (s : ℕ) → Told mem s (answer_of (on_space refusing mem s call))
      told s =
          space_by_cases (λ r. Told mem s (answer_of r)) refusing mem call
          (λ bad. subst (Told mem s) (sym (says BadWorld)) (told_26 mem s bad)) s
          (λ sound far. subst (Told mem s) (sym (says BadSpace)) (told_20 mem s sound far))
          (λ sound there. told_own mem s sound there _ inner)

      pub world_told : (answer_of (on_world refusing mem call) ≡ BadWorld) ↔ (¬ Sound mem)
      world_told =
          world_by_cases (λ r. (answer_of r ≡ BadWorld) ↔ (¬ Sound mem)) refusing mem call (given (says BadWorld))
          (λ sound. not_given _ BadWorld inner.not_26 (λ bad. bad sound))

    -- One with no refusal of its own is given 0 exactly where it is made.
    module _ (done : answer_of (call (numbers_of mem)) ≡ Done) where
      refused : (a : Answer) {Made : Type 0} → number_of a ≢ 0 → ¬ Made → (answer_of (refusing a) ≡ Done) ↔ Made
      refused a {Made} some none = subst (λ a. (a ≡ Done) ↔ Made) (sym (says a)) (not_given a Done some none)

      pub told_0 : (s : ℕ) → (answer_of (on_space refusing mem s call) ≡ Done) ↔ (Sound mem × (s < (numbers_of mem).spaces))
      told_0 s =
          space_by_cases (λ r. (answer_of r ≡ Done) ↔ (Sound mem × (s < (numbers_of mem).spaces))) refusing mem call
          (λ bad. refused BadWorld (λ e. omega arith) (λ (sound, there). bad sound)) s
          (λ sound far. refused BadSpace (λ e. omega arith) (λ (sound, there). omega arith))
          (λ sound there. given done (sound, there))

      pub world_told_0 : (answer_of (on_world refusing mem call) ≡ Done) ↔ Sound mem
      world_told_0 =
          world_by_cases (λ r. (answer_of r ≡ Done) ↔ Sound mem) refusing mem call (refused BadWorld (λ e. omega arith)) (given done)

pub inner : (a : Answer) → eqb (number_of a) 26 ≡ false → eqb (number_of a) 20 ≡ false → Inner a
inner a not_26 not_20 = record { not_26 = eqb-false (number_of a) 26 not_26; not_20 = eqb-false (number_of a) 20 not_20 }

pub inner_0 : Inner Done
inner_0 = inner Done refl refl
