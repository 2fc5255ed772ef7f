-- `request::masks::too_far` meets its contract: the first number that is read is too far, or else the second one decides.
use Rattle.std.proofs.Common.{Bool, true, false, not, ◌≡◌, sym, ◌∙◌, ℕ, ◌/◌, ◌%◌, div-one, rules, eqb, ltb, get_or}
use Rattle.std.proofs.lemmas.Bool.{not-true, not-false}
use Rattle.base.specs.Below.{all}
use Rattle.base.specs.Choose.{pick}
use Rattle.request.specs.declared.Request.{Request}
use Rattle.request.specs.Reading.{masks, too_far}
use Rattle.request.proofs.masks.too_far.Goals as goal

module _ (r : Request) (spaces : ℕ) where
  -- A number is read and below S, or not read, by the low bit of a mask.
  abbrev near : ℕ → ℕ → Bool
  near mask number = pick (eqb (mask % 2) 1) (ltb number spaces) true

  module _ (mask : ℕ) (far : Bool) (read : mask ≡ get_or masks r.op 0) (first : far ≡ not (near mask r.space)) where
    at_first : far ≡ true → true ≡ too_far r spaces
    unfolding too_far all
    at_first e = rw (div-one, ← read, not-true (near mask r.space) (sym first ∙ e))

    at_second : (far₂ : Bool) → far ≡ false → far₂ ≡ not (near (mask / 2) r.second) → far₂ ≡ too_far r spaces
    unfolding too_far all
    at_second far₂ e second = rw (div-one, ← read, not-false (near mask r.space) (sym first ∙ e)) second

ruleset laws = (rules, at_first, at_second)

pub returns-then-is_far : goal.returns-then-is_far
returns-then-is_far c = search laws

pub returns-else-is_far : goal.returns-else-is_far
returns-else-is_far c = search laws
