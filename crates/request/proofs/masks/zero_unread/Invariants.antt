-- `request::masks::zero_unread` meets its contract: the fields before the i-th are read or zero, and the mask's low bit is of the i-th.
use Rattle.std.proofs.Common.{Bool, true, ◌≡◌, ℕ, ◌/◌, ◌^◌, ◌≤◌, eqb, get_or}
use Rattle.base.specs.Below.{all}
use Rattle.base.specs.Choose.{pick}
use Rattle.request.specs.declared.Request.{Request}
use Rattle.request.specs.Reading.{masks, field_at, reads}
use Rattle.request.proofs.masks.zero_unread.Given as goal

abbrev pub kept : Request → ℕ → Bool
kept r i = pick (reads r.op i) true (eqb (field_at r i) 0)

pub record Looking (r : Request) (mask i : ℕ) : Type 0 where
  pub inside : i ≤ 7
  pub here : mask ≡ get_or masks r.op 0 / 2 ^ i
  pub before : all i (kept r) ≡ true

abbrev pub invariant-loop-field : goal.invariant-loop-field
invariant-loop-field l = Looking l.r l.mask l.field-index
