-- `registry::descent::mark_place` meets its contract: half of a state is that of a word, so twice that and one is a word.
use Rattle.std.proofs.Common.{◌≡◌, ℕ, ◌+◌, ◌*◌, ◌/◌, List, [], ◌∷◌, set, rules}
use Rattle.registry.specs.Words.{state_at}
use Rattle.registry.specs.Descent.{marked}
use Rattle.registry.specs.MarkedLaws.{marked_state_is}
use Rattle.registry.proofs.descent.mark_place.Goals as goal

marks : (places k : ℕ) (rg : List ℕ) → set rg (2 * places + k) (state_at places rg k / 2 * 2 + 1) ≡ marked places (k ∷ []) rg
unfolding marked
marks places k rg = rw (marked_state_is (state_at places rg k))

ruleset laws = (rules, marks)

pub returns : goal.returns
returns c = search laws
