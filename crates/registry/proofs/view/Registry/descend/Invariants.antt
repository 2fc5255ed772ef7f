-- `registry::view::Registry::descend` meets its contract: with the children of the places from `at` on behind those found, it becomes
-- the answer.
use Rattle.std.proofs.Common.{◌≡◌, ℕ, ◌-◌, ◌≤◌, List, length, take}
use Rattle.registry.specs.Words.{link_at}
use Rattle.registry.specs.Sound.{Linked}
use Rattle.registry.specs.ChildLists.{ChildLists}
use Rattle.registry.specs.Descent.{descended_from, descent}
use Rattle.registry.specs.DescentLaws.{Descending}
use Rattle.registry.proofs.view.Registry.descend.Given as goal

-- So many places are found, and the children of the first `at` of them; order₀ is the order when r alone was.
pub record Queue (places n r : ℕ) (rg firsts nexts order₀ order : List ℕ) (count at : ℕ) : Type 0 where
  pub linked : Linked n (link_at places rg)
  pub lists : ChildLists places n rg firsts nexts 0
  pub fits : n ≤ length order
  pub same : length order ≡ length order₀
  pub at_most : count ≤ n
  pub descending : Descending n (link_at places rg) r at (take count order)
  pub answer : descended_from places n rg (n - at) at (take count order) ≡ descent places n rg r

abbrev pub invariant-loop-at : goal.invariant-loop-at
invariant-loop-at l = Queue l.self.places l.self.count l.r l.self.words.now l.firsts l.nexts l.initial.order l.order l.count l.at

abbrev pub decreases-loop-at : goal.decreases-loop-at
decreases-loop-at l = l.self.count - l.at
