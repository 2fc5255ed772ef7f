-- `CapabilityFlags::combine` meets its contract. The loop's invariant: the flags so far and the numbers that are left give
-- the answer.
use Rattle.std.proofs.Common.{ℕ, List, ◌≡◌, Result, Ok, Err, bit_or, drop}
use Rattle.base.specs.Choose.{pick}
use Rattle.answers.specs.declared.Refusal.{Refusal}
use Rattle.answers.specs.declared.Refusal.TheVariants.{BadField}
use Rattle.token.specs.Flags.{all_flags, union_of, combined}
use Rattle.token.proofs.flags.CapabilityFlags.combine.Given as goal

-- the answer, from the flags so far and the numbers that are left
unfoldable pub from : ℕ → List ℕ → Result ℕ Refusal
from flags rest = pick (all_flags rest) (Ok (bit_or flags (union_of rest))) (Err BadField)

abbrev pub invariant-loop-number : goal.invariant-loop-number
invariant-loop-number l = from l.flags (drop l.number-index l.numbers) ≡ combined l.numbers
