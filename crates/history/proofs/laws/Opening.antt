-- What an opening leaves: given 0, a sound memory of its numbers, with its length and the words past the regions as they were; refused, all
-- as it was.
use Rattle.std.proofs.Common.{false, List, ◌≡◌, refl, ap, ℕ, ◌≤◌, arith, eqb, length}
use borrow.Author.Tests.{eqb-false}
use Rattle.answers.specs.Number.{number_of}
use Rattle.answers.specs.Answer.{Done}
use Rattle.world.specs.Open.{OpenOut, opened, opening, good_test}
use Rattle.world.proofs.OpenTold.{opening_by_cases, open_unchanged}
use Rattle.world.specs.Opened.{opened_length, opened_past, opened_numbers}
use Rattle.world.specs.OpenedSound.{opened_sound}
use Rattle.world.specs.Regions.{length_for}
use Rattle.world.specs.Sound.{Sound}
use Rattle.world.specs.declared.Numbers.{Numbers}
use Rattle.history.specs.Promises.{Stays}

-- Sound, and of the length that it had.
pub record Lasts (mem now : List ℕ) : Type 0 where
  pub sound : Sound now
  pub same_length : length now ≡ length mem

pub lasts_refl : (mem : List ℕ) → Sound mem → Lasts mem mem
lasts_refl mem sound = record { sound = sound; same_length = refl }

module _ (d : Numbers) (quotas mem : List ℕ) where
  -- What is known of a memory that was opened.
  pub record Opened (now : List ℕ) : Type 0 where
    pub sound : Sound now
    pub stays : Stays d mem now
    pub written : now ≡ opened d quotas mem
    pub long : length_for d ≤ length mem

  pub opening_opens : (opening d quotas mem).answer ≡ Done → Opened (opening d quotas mem).memory
  opening_opens =
      opening_by_cases d quotas mem (λ (out : OpenOut). out.answer ≡ Done → Opened out.memory)
      (λ bad e. absurd (omega (arith, ap number_of e)))
      (λ good short e. absurd (omega (arith, ap number_of e)))
      (λ good long e. record {
        sound = opened_sound d quotas mem long (good_test d quotas good);
        stays = record {
          numbers = opened_numbers d quotas mem long;
          same_length = opened_length d quotas mem long;
          past = opened_past d quotas mem long;
        };
        written = refl;
        long = long;
      })

  pub opening_refused : eqb (number_of (opening d quotas mem).answer) 0 ≡ false → (opening d quotas mem).memory ≡ mem
  opening_refused refused =
      open_unchanged d quotas mem (λ done. eqb-false (number_of (opening d quotas mem).answer) 0 refused (ap number_of done))

  pub opening_lasts : Sound mem → Lasts mem (opening d quotas mem).memory
  opening_lasts sound =
      opening_by_cases d quotas mem (λ (out : OpenOut). Lasts mem out.memory) (λ bad. lasts_refl mem sound)
      (λ good short. lasts_refl mem sound)
      (λ good long. record {
        sound = opened_sound d quotas mem long (good_test d quotas good);
        same_length = opened_length d quotas mem long;
      })
