use Rattle.std.proofs.Common.{◌≡◌, ℕ, suc, ◌+◌, ◌-◌, ◌<◌, ◌≤◌, ◌≢◌, List, ◌++◌, length, get_or, take, set, sym, refl, ap, ◌∙◌, append-nil, add-one, arith, length-set, take-suc-set, rules}
use Rattle.std.proofs.Math.Seq.{append_snoc}
use Rattle.registry.specs.Counts.{AtMost}
use Rattle.registry.specs.ChildLists.{list_from, list_empty}
use Rattle.registry.proofs.descent.append.Invariants.{Appending}
use Rattle.registry.proofs.descent.append.Goals as goal

module _ (nexts : List ℕ) (head : ℕ) (order₀ : List ℕ) (count : ℕ) where
  starts : head ≤ length nexts → AtMost (length nexts) nexts → count ≤ length order₀ → Appending nexts head order₀ count order₀ head count
  starts l inside u = record { named = l; inside = inside; room = u; same = refl; answer = refl }

  module _ (order : List ℕ) (at found : ℕ) (appending : Appending nexts head order₀ count order at found) where
    abbrev whole : List ℕ
    whole = take count order₀ ++ list_from nexts (length order₀ - count) head

    list_ends : at ≡ 0 → take found order ≡ whole
    list_ends none =
        sym (append-nil (take found order)) ∙ ap (λ ks. take found order ++ ks) (sym (rw none (list_empty nexts (length order₀ - found))))
        ∙ appending.answer

    room_ends : length order ≤ found → take found order ≡ whole
    unfolding list_from
    room_ends full =
        let none : length order₀ - found ≡ 0 = omega (arith, appending.same) in
        sym (append-nil (take found order)) ∙ (rw none at appending.answer)

    module _ (more : found < length order) (some : at ≢ 0) where
      goes : Appending nexts head order₀ count (set order found (at - 1)) (get_or nexts (at - 1) 0) (found + 1)
      unfolding list_from
      goes =
          let left : length order₀ - found ≡ suc (length order₀ - (found + 1)) = omega (arith, appending.same) in
          let here : at ≡ suc (at - 1) = omega arith in
          record {
            named = appending.inside.most (at - 1);
            inside = appending.inside;
            room = omega (arith, appending.same);
            same = length-set order found (at - 1) ∙ appending.same;
            answer = rw (add-one found, take-suc-set order found (at - 1) more, append_snoc)
                (rw add-one at (rw (left, here) at appending.answer));
          }

      here_room : at - 1 < length nexts
      here_room = omega (arith, appending.named)

ruleset laws = (rules, starts, list_ends, room_ends, goes, here_room)

pub returns-then-at-eq0-clause-order_after : goal.returns-then-at-eq0-clause-order_after
returns-then-at-eq0-clause-order_after c = search laws

pub loop-found-preserved : goal.loop-found-preserved
loop-found-preserved c = search laws

pub returns-clause-order_after : goal.returns-clause-order_after
returns-clause-order_after c = search laws
