use Rattle.std.proofs.Common.{Bool, true, false, not, ◌≡◌, sym, ap, ◌∙◌, ℕ, ◌+◌, ◌/◌, ◌%◌, ◌<◌, ◌≤◌, pow-suc, div-one, add-one, arith, rules, eqb, get_or}
use Rattle.std.proofs.Math.Nat.{div-div-eq-div-mul}
use Rattle.std.proofs.lemmas.Bool.{not-true, not-false}
use Rattle.base.specs.AllLaws.{all_none, all_more, all_done, all_fails}
use Rattle.base.specs.Choose.{pick}
use Rattle.request.specs.declared.Request.{Request}
use Rattle.request.specs.Reading.{masks, field_at, zero_unread}
use Rattle.request.proofs.masks.zero_unread.Invariants.{kept, Looking}
use Rattle.request.proofs.masks.zero_unread.Goals as goal

starts : (r : Request) (mask : ℕ) → mask ≡ get_or masks r.op 0 → Looking r mask 0
starts r mask e = record { inside = omega arith; here = e ∙ sym (div-one _); before = all_none (kept r) }

module _ (r : Request) (mask i : ℕ) (looking : Looking r mask i) where
  module _ (stray : Bool) (l : i < 7) (told : stray ≡ not (pick (eqb (mask % 2) 1) true (eqb (field_at r i) 0))) where
    is_kept : stray ≡ not (kept r i)
    is_kept = told ∙ ap (λ m. not (pick (eqb (m % 2) 1) true (eqb (field_at r i) 0))) looking.here

    goes : stray ≡ false → Looking r (mask / 2) (i + 1)
    goes e = record {
      inside = omega arith;
      here = rw (looking.here, add-one i, pow-suc) (div-div-eq-div-mul _ _ _);
      before = all_more i (kept r) looking.before (not-false (kept r i) (sym is_kept ∙ e));
    }

    stops : stray ≡ true → false ≡ zero_unread r
    unfolding zero_unread
    stops e = rw (all_fails i 7 (kept r) l (not-true (kept r i) (sym is_kept ∙ e)))

  ends : 7 ≤ i → eqb r.zero 0 ≡ zero_unread r
  unfolding zero_unread
  ends u = rw (← all_done i 7 (kept r) looking.before looking.inside u)

ruleset laws = (rules, starts, goes, stops, ends)

pub loop-field-init : goal.loop-field-init
loop-field-init c = search laws

pub returns-then-is_stray : goal.returns-then-is_stray
returns-then-is_stray c = search laws

pub loop-field-preserved : goal.loop-field-preserved
loop-field-preserved c = search laws

pub returns : goal.returns
returns c = search laws
