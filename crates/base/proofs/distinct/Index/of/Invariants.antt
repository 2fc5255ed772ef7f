-- `base::distinct::Index::of` meets its contract. The loop's invariant: the places below j are chained, and their words all new.
use Rattle.std.proofs.Common.{◌≡◌, true, List, ℕ, length, get_or}
use Rattle.base.specs.Below.{all}
use Rattle.base.specs.Distinct.{is_new}
use Rattle.base.specs.Chain.{Chained}
use Rattle.base.proofs.distinct.Index.of.Given as goal

abbrev pub words : List ℕ → ℕ → ℕ
words xs k = get_or xs k 0

-- The places below j are done; heads₀ and prevs₀ are the memory for the index as it was lent.
pub record Done (xs heads₀ prevs₀ heads prevs : List ℕ) (j : ℕ) : Type 0 where
  pub chained : Chained xs heads prevs j
  pub same_heads : length heads ≡ length heads₀
  pub same_prevs : length prevs ≡ length prevs₀
  pub new : all j (is_new (words xs)) ≡ true

abbrev pub invariant-loop-j : goal.invariant-loop-j
invariant-loop-j l = Done l.words l.initial.heads l.initial.prevs l.heads l.prevs l.j
