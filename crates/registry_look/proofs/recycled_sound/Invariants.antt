-- `registry_look::recycled_sound` meets its contract: the recycled ids before j keep their rules, and `last` is the one before j.
use Rattle.std.proofs.Common.{◌≡◌, true, List, ℕ, ◌≤◌, length}
use Rattle.base.specs.Below.{all}
use Rattle.registry.specs.Words.{recycled_at}
use Rattle.registry_look.specs.Look.{before, recycled_id_test}
use Rattle.registry_look.proofs.recycled_sound.Given as goal

pub record Done (places n m next : ℕ) (rg : List ℕ) (last j : ℕ) : Type 0 where
  pub inside : j ≤ m
  pub last_is : last ≡ before (recycled_at places rg) j
  pub passed : all j (recycled_id_test places n next rg) ≡ true

abbrev pub invariant-loop-j : goal.invariant-loop-j
invariant-loop-j l = Done l.registry.places (length l.ids.words.now) l.m l.next l.registry.words.now l.last l.j
