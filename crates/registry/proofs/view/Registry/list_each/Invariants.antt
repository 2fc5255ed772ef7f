-- `registry::view::Registry::list_each` meets its contract: the children from place `at` on are listed.
use Rattle.std.proofs.Common.{◌≡◌, ℕ, ◌≤◌, List, length}
use Rattle.registry.specs.Words.{link_at}
use Rattle.registry.specs.Sound.{Linked}
use Rattle.registry.specs.ChildLists.{ChildLists}
use Rattle.registry.proofs.view.Registry.list_each.Given as goal

-- firsts₀ and nexts₀ are the arrays as they were lent.
pub record Listing (places n : ℕ) (rg firsts₀ nexts₀ firsts nexts : List ℕ) (at : ℕ) : Type 0 where
  pub inside : at ≤ n
  pub linked : Linked n (link_at places rg)
  pub same_firsts : length firsts ≡ length firsts₀
  pub same_nexts : length nexts ≡ length nexts₀
  pub lists : ChildLists places n rg firsts nexts at

abbrev pub invariant-loop-k : goal.invariant-loop-k
invariant-loop-k l = Listing l.self.places l.self.count l.self.words.now l.initial.firsts l.initial.nexts l.firsts l.nexts l.k
