-- An opening as a host sees it: the answer by its number, and the memory that it leaves.
use Rattle.std.specs.Prelude.{ℕ, List}
use Rattle.answers.specs.Number.{number_of}
use Rattle.world.specs.Open.{OpenOut}

pub record Numbered : Type 0 where
  pub answer : ℕ
  pub memory : List ℕ

unfoldable pub numbered : OpenOut → Numbered
numbered left = record { answer = number_of left.answer; memory = left.memory }
