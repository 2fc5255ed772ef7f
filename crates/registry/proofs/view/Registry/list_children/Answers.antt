use Rattle.std.proofs.Common.{◌≡◌, ℕ, suc, ◌+◌, ◌-◌, ◌<◌, ◌≤◌, ◌≢◌, List, ◌∷◌, length, set, refl, ◌∙◌, zero-add, add-one, arith, length-set, rules}
use Rattle.std.proofs.Math.Nat.{sub-zero}
use Rattle.std.proofs.Math.Seq.{sets-eq}
use Rattle.registry.specs.Words.{id_at, link_at, children}
use Rattle.base.specs.Written.{written}
use Rattle.registry.specs.Children.{child_places_from, child_places, ids_at, child_ids}
use Rattle.registry.specs.ChildrenLaws.{child_ids-length}
use Rattle.registry.proofs.Naming.{names_it, names_other}
use Rattle.registry.proofs.view.Registry.list_children.Invariants.{left, Listing}
use Rattle.registry.proofs.view.Registry.list_children.Goals as goal
use Rattle.registry.proofs.view.Registry.list_children.Goals.{then-self-k, else-self-k}

starts : (places p n : ℕ) (rg area : List ℕ) → children (link_at places rg) n p ≤ length area → Listing places p n rg area area 0 0
unfolding child_places child_ids written
starts places p n rg area enough =
    let fits : 0 + length (child_ids places p n rg) ≤ length area = omega (arith, child_ids-length places p n rg) in
    record {
      inside = omega arith;
      same = refl;
      room = rw sub-zero fits;
      answer = rw sub-zero (sets-eq (child_ids places p n rg) area 0 fits ∙ rw zero-add);
    }

module _ (places p n k : ℕ) (rg : List ℕ) (l : k < n) where
  more : n - k ≡ suc (n - (k + 1))
  more = omega arith

  child_next : link_at places rg k ≡ p + 1 → left places p n k rg ≡ id_at rg k ∷ left places p n (k + 1) rg
  unfolding child_places_from ids_at
  child_next e = rw (more, names_it (link_at places rg k) p e)

  other_next : link_at places rg k ≢ p + 1 → left places p n k rg ≡ left places p n (k + 1) rg
  unfolding child_places_from ids_at
  other_next d = rw (more, names_other (link_at places rg k) p d)

module _ (places p n : ℕ) (rg area₀ area : List ℕ) (count k : ℕ) (listing : Listing places p n rg area₀ area count k) where
  ends : n ≤ k → area ≡ written (child_ids places p n rg) area₀
  unfolding child_places_from ids_at
  ends u = let none : n - k ≡ 0 = omega arith in rw none at listing.answer

  module _ (l : k < n) where
    passes : link_at places rg k ≢ p + 1 → Listing places p n rg area₀ area count (k + 1)
    passes d = record {
      inside = omega arith;
      same = listing.same;
      room = rw (other_next places p n k rg l d) at listing.room;
      answer = rw (other_next places p n k rg l d) at listing.answer;
    }

    module _ (e : link_at places rg k ≡ p + 1) where
      fits : count + suc (length (left places p n (k + 1) rg)) ≤ length area
      fits = rw (child_next places p n k rg l e) at listing.room

      place : count < length area
      place = omega (arith, fits)

      writes : Listing places p n rg area₀ (set area count (id_at rg k)) (count + 1) (k + 1)
      writes = record {
        inside = omega arith;
        same = length-set area count (id_at rg k) ∙ listing.same;
        room = rw length-set (omega (arith, fits));
        answer = rw (add-one count) (rw (child_next places p n k rg l e) at listing.answer);
      }

ruleset laws = (rules, starts, ends, passes, place, writes)

pub loop-k-init : goal.loop-k-init
loop-k-init c = search laws

pub bounds-area-count : goal.bounds-area-count
bounds-area-count c = search laws

pub loop-k-preserved : goal.loop-k-preserved
loop-k-preserved c = elim c.if-self-k.branch [
  | then-self-k w ↦ rw (w.area-is, w.count-is) (search laws)
  | else-self-k w ↦ rw (w.area-is, w.count-is) (search laws)
]

pub returns : goal.returns
returns c = search laws
