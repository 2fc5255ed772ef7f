-- `registry_look::each_place_sound` meets its contract: the places before k keep their rules, their children are counted, and no list
-- is long yet.
use Rattle.std.proofs.Common.{◌≡◌, true, List, ℕ, ◌≤◌, length}
use Rattle.base.specs.Below.{all}
use Rattle.registry.specs.Words.{link_at}
use Rattle.registry.specs.Counts.{Counted}
use Rattle.registry_look.specs.Look.{place_test}
use Rattle.registry_look.proofs.each_place_sound.Given as goal

-- The places below k are done; counts₀ are the counters as they were lent.
pub record Done (places n next : ℕ) (rg counts₀ counts : List ℕ) (k : ℕ) : Type 0 where
  pub inside : k ≤ n
  pub room : n ≤ length counts
  pub same : length counts ≡ length counts₀
  pub passed : all k (place_test places next rg) ≡ true
  pub counted : Counted (link_at places rg) k counts

abbrev pub invariant-loop-k : goal.invariant-loop-k
invariant-loop-k l = Done l.registry.places l.registry.count l.next l.registry.words.now l.initial.counts l.counts l.k
