-- No place before j is a child, so the first child from j on is the first.
use Rattle.std.proofs.Common.{◌≡◌, ◌-◌}
use Rattle.base.specs.Below.{first, first_from}
use Rattle.registry.specs.Words.{link_at, child_of}
use Rattle.registry.proofs.view.Registry.has_child.Given as goal

abbrev pub invariant-loop-j : goal.invariant-loop-j
invariant-loop-j l =
    first (child_of (link_at l.self.places l.self.words.now) l.k) l.self.count
    ≡ first_from (child_of (link_at l.self.places l.self.words.now) l.k) (l.self.count - l.j) l.j
