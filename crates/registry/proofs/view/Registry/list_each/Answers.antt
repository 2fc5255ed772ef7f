use Rattle.std.proofs.Common.{◌≡◌, ℕ, suc, ◌+◌, ◌-◌, ◌<◌, ◌≤◌, ◌≢◌, List, length, get_or, set, refl, ◌∙◌, add-one, arith, length-set, rules}
use Rattle.registry.specs.Words.{link_at}
use Rattle.registry.specs.Sound.{Linked}
use Rattle.registry.specs.ChildLists.{ChildLists, lists_root, lists_child}
use Rattle.registry.proofs.view.Registry.list_each.Invariants.{Listing}
use Rattle.registry.proofs.view.Registry.list_each.Goals as goal

starts : (places n : ℕ) (rg firsts nexts : List ℕ) → Linked n (link_at places rg) → ChildLists places n rg firsts nexts n
    → Listing places n rg firsts nexts firsts nexts n
starts places n rg firsts nexts linked lists =
    record { inside = omega arith; linked = linked; same_firsts = refl; same_nexts = refl; lists = lists }

module _ (places n : ℕ) (rg firsts₀ nexts₀ firsts nexts : List ℕ) (at : ℕ)
    (listing : Listing places n rg firsts₀ nexts₀ firsts nexts at) where
  ends : at ≤ 0 → ChildLists places n rg firsts nexts 0
  ends none = let end : at ≡ 0 = omega arith in rw end at listing.lists

  module _ (some : 0 < at) where
    abbrev link : ℕ
    link = link_at places rg (at - 1)

    this : at - 1 < n
    this = omega (arith, listing.inside)

    so_far : ChildLists places n rg firsts nexts (at - 1 + 1)
    so_far = let here : at ≡ at - 1 + 1 = omega arith in rw here at listing.lists

    next_room : at - 1 < length nexts
    next_room = omega (arith, this, listing.lists.nexts_room)

    root : link ≡ 0 → Listing places n rg firsts₀ nexts₀ firsts nexts (at - 1)
    root none = record {
      inside = omega (arith, this);
      linked = listing.linked;
      same_firsts = listing.same_firsts;
      same_nexts = listing.same_nexts;
      lists = lists_root places n rg firsts nexts (at - 1) this so_far none;
    }

    small : link ≤ n
    small = omega (arith, listing.linked (at - 1) this, this)

    module _ (has_parent : link ≢ 0) where
      first_room : link - 1 < length firsts
      first_room = omega (arith, small, listing.lists.firsts_room)

      child : Listing places n rg firsts₀ nexts₀ (set firsts (link - 1) (at - 1 + 1))
          (set nexts (at - 1) (get_or firsts (link - 1) 0)) (at - 1)
      child =
          let named : link ≡ suc (link - 1) = omega arith in
          let more = lists_child places n rg firsts nexts (at - 1) this so_far listing.linked (link - 1) named in
          record {
            inside = omega (arith, this);
            linked = listing.linked;
            same_firsts = length-set firsts (link - 1) (at - 1 + 1) ∙ listing.same_firsts;
            same_nexts = length-set nexts (at - 1) (get_or firsts (link - 1) 0) ∙ listing.same_nexts;
            lists = rw add-one more;
          }

ruleset laws = (rules, starts, ends, next_room, first_room, root, child)

pub loop-k-preserved-then-link-ne0 : goal.loop-k-preserved-then-link-ne0
loop-k-preserved-then-link-ne0 c = search laws

pub loop-k-preserved : goal.loop-k-preserved
loop-k-preserved c = search laws
