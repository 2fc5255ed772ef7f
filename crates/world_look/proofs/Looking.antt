-- The exits of the look's tests, in the words of the code.
use Rattle.std.proofs.Common.{true, Bool, false, List, ◌≡◌, sym, ◌∙◌, ℕ, ◌≤◌, ◌<◌, arith, leb, length}
use Rattle.std.proofs.lemmas.Bool.{lt-leb}
use Rattle.base.specs.Choose.{both, both_false}
use Rattle.world.specs.Numbers.{InRange, in_range_test, in_range, numbers_of}
use Rattle.world.specs.Regions.{length_for}
use Rattle.world.specs.Sound.{head_test, sound_test}
use Rattle.world.specs.SoundLaws.{Headed, head_exactly}
use Rattle.world.specs.declared.Numbers.{Numbers}
use Rattle.world.proofs.Tests.{tests, over, within}

module _ (d : Numbers) (r : Bool) (e : r ≡ in_range_test d) (t : r ≡ true) where
  pub ranged : InRange d
  ranged = in_range d (sym e ∙ t)

module _ (d : Numbers) (mem : List ℕ) (n : ℕ) (e : n ≡ length_for d) (b : Bool) where
  pub too_short : length mem < n → false ≡ both (leb (length_for d) (length mem)) b
  too_short l = over (length_for d) (length mem) b (omega arith)

  pub long : (x : Bool) → n ≤ length mem → x ≡ b → x ≡ both (leb (length_for d) (length mem)) b
  long x l h = within (length_for d) (length mem) b x (omega arith) h

pub ruleset head_laws = (tests, ranged, too_short, long)

-- Memory without a head is too short for any numbers.
pub no_head : (mem : List ℕ) → length mem < 16 → false ≡ sound_test mem
unfolding sound_test head_test length_for
no_head mem l = rw (lt-leb (length_for (numbers_of mem)) (length mem) (omega arith), both_false)

pub headed : (d : Numbers) (mem : List ℕ) (r : Bool) → r ≡ head_test d mem → r ≡ true → Headed d mem
headed d mem r e t = (head_exactly d mem).0 (sym e ∙ t)

pub ruleset look_laws = (tests, no_head, headed)
