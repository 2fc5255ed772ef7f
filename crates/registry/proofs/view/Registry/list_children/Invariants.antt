-- `registry::view::Registry::list_children` meets its contract: with the children from place k on written behind those before, the area
-- becomes the answer.
use Rattle.std.proofs.Common.{◌≡◌, ℕ, ◌+◌, ◌-◌, ◌≤◌, List, length}
use Rattle.std.proofs.Math.Seq.{sets}
use Rattle.base.specs.Written.{written}
use Rattle.registry.specs.Children.{child_places_from, ids_at, child_ids}
use Rattle.registry.proofs.view.Registry.list_children.Given as goal

-- The children that are left to write, from place k on.
abbrev pub left : ℕ → ℕ → ℕ → ℕ → List ℕ → List ℕ
left places p n k rg = ids_at rg (child_places_from places p k (n - k) rg)

-- So many are written; area₀ is the area as it was lent.
pub record Listing (places p n : ℕ) (rg area₀ area : List ℕ) (count k : ℕ) : Type 0 where
  pub inside : k ≤ n
  pub same : length area ≡ length area₀
  pub room : count + length (left places p n k rg) ≤ length area
  pub answer : sets area count (left places p n k rg) ≡ written (child_ids places p n rg) area₀

abbrev pub invariant-loop-k : goal.invariant-loop-k
invariant-loop-k l = Listing l.self.places l.p l.self.count l.self.words.now l.initial.area l.area l.count l.k
