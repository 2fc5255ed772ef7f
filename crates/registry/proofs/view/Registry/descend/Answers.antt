use Rattle.std.proofs.Common.{◌≡◌, ℕ, zero, suc, ◌+◌, ◌-◌, ◌<◌, ◌≤◌, List, [], ◌∷◌, ◌++◌, length, get_or, take, set, refl, ap, ◌∙◌, arith, length-append, length-set, length-take-le, get_or-take, take-suc-set, rules, le-ltb, lt-ltb}
use Rattle.std.proofs.Math.Nat.{sub-zero}
use Rattle.registry.specs.Words.{link_at}
use Rattle.registry.specs.Sound.{Linked}
use Rattle.registry.specs.Children.{child_places}
use Rattle.registry.specs.ChildLists.{ChildLists, list_from, lists_none, lists_children}
use Rattle.registry.specs.PlaceLists.{AllBelow}
use Rattle.registry.specs.Descent.{descended_from, descent}
use Rattle.registry.specs.DescentLaws.{Descending, descending_starts, descending_goes, found_few}
use Rattle.registry.proofs.view.Registry.descend.Invariants.{Queue}
use Rattle.registry.proofs.view.Registry.descend.Goals as goal

module _ (places n r : ℕ) (rg firsts nexts : List ℕ) where
  starts : (order : List ℕ) → Linked n (link_at places rg) → ChildLists places n rg firsts nexts 0 → r < n → n ≤ length order
      → Queue places n r rg firsts nexts (set order 0 r) (set order 0 r) 1 0
  unfolding descent
  starts order linked lists inside fits =
      let found : take 1 (set order 0 r) ≡ r ∷ [] = take-suc-set order 0 r (omega arith) in
      record {
        linked = linked;
        lists = lists;
        fits = rw length-set fits;
        same = refl;
        at_most = omega arith;
        descending = rw found (descending_starts n (link_at places rg) r inside);
        answer = rw (sub-zero, found);
      }

  module _ (order₀ order : List ℕ) (count at : ℕ) (queue : Queue places n r rg firsts nexts order₀ order count at) where
    abbrev found : List ℕ
    found = take count order

    all_found : length found ≡ count
    all_found = length-take-le count order (omega (arith, queue.at_most, queue.fits))

    all_below : AllBelow n found
    all_below = record { below = λ j l. (queue.descending.inside j l).1 }

    ends : count ≤ at → found ≡ descent places n rg r
    unfolding descended_from
    ends none = go (n - at) queue.answer
      where
        go : (m : ℕ) → descended_from places n rg m at found ≡ descent places n rg r → found ≡ descent places n rg r
        go zero e = e
        go (suc m) e = rw (le-ltb at (length found) (omega (arith, all_found))) at e

    module _ (more : at < count) where
      abbrev p : ℕ
      p = get_or order at 0

      this : get_or found at 0 ≡ p
      this = get_or-take count order at 0 more

      inside : p < n
      inside = omega (arith, this, (queue.descending.inside at (omega (arith, all_found))).1)

      abbrev next_found : List ℕ
      next_found = found ++ child_places places p n rg

      next_descending : Descending n (link_at places rg) r (at + 1) next_found
      next_descending =
          rw this at (descending_goes places n rg r queue.linked at found queue.descending (omega (arith, all_found)))

      next_answer : descended_from places n rg (n - (at + 1)) (at + 1) next_found ≡ descent places n rg r
      unfolding descended_from
      next_answer =
          let turn : n - at ≡ suc (n - (at + 1)) = omega (arith, queue.at_most) in
          rw (lt-ltb at (length found) (omega (arith, all_found)), this) at (rw turn at queue.answer)

      children_listed : list_from nexts (length order - count) (get_or firsts p 0) ≡ child_places places p n rg
      children_listed =
          lists_children places n rg firsts nexts queue.lists p (length order - count) inside
          (omega (
            arith,
            all_found,
            queue.fits,
            length-append found (child_places places p n rg),
            found_few n (link_at places rg) r (at + 1) next_found next_descending,
          ))

      goes : (order' : List ℕ) (count' : ℕ) → length order' ≡ length order → count' ≤ length order
          → take count' order' ≡ found ++ list_from nexts (length order - count) (get_or firsts p 0)
          → Queue places n r rg firsts nexts order₀ order' count' (at + 1)
      goes order' count' kept few e =
          let now_found : take count' order' ≡ next_found = rw children_listed at e in
          record {
            linked = queue.linked;
            lists = queue.lists;
            fits = rw kept queue.fits;
            same = kept ∙ queue.same;
            at_most =
                omega (
                  arith,
                  length-take-le count' order' (rw kept few),
                  ap length now_found,
                  found_few n (link_at places rg) r (at + 1) next_found next_descending,
                );
            descending = rw now_found next_descending;
            answer = rw now_found next_answer;
          }

ruleset laws = (rules, starts, all_below, ends, inside, goes)

pub list_each-requires-clause-child_lists : goal.list_each-requires-clause-child_lists
list_each-requires-clause-child_lists c = lists_none _ _ _ 4096 4096 (omega arith) (omega arith)

pub loop-at-init : goal.loop-at-init
loop-at-init c = search laws

pub loop-at-preserved : goal.loop-at-preserved
loop-at-preserved c = search laws

pub returns-clause-order_after : goal.returns-clause-order_after
returns-clause-order_after c = search laws
