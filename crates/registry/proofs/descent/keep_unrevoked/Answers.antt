use Rattle.std.proofs.Common.{◌≡◌, ℕ, ◌+◌, ◌<◌, ◌≤◌, Bool, true, false, eqb, List, length, get_or, take, set, sym, ◌∙◌, arith, length-take-le, get_or-take, rules, eq-eqb, ne_eqb, eqb-true}
use borrow.Author.Tests.{eqb-false}
use Rattle.base.specs.Sifted.{sift_starts, sift_few, sift_ends, sift_room, sift_here, sift_passes, sift_keeps}
use Rattle.registry.specs.Words.{state_at, revoked}
use Rattle.registry.specs.PlaceLists.{AllBelow}
use Rattle.registry.specs.Descent.{unrevoked_of}
use Rattle.registry.specs.MarkedLaws.{unrevoked_below}
use Rattle.registry.proofs.descent.keep_unrevoked.Invariants.{unrevoked, Keeping}
use Rattle.registry.proofs.descent.keep_unrevoked.Goals as goal

module _ (places : ℕ) (rg order₀ : List ℕ) (count : ℕ) where
  starts : count ≤ length order₀ → AllBelow places (take count order₀) → Keeping places rg order₀ count order₀ 0 0
  starts fits below = record { sifting = sift_starts (unrevoked places rg) order₀ count fits; below = below }

  module _ (order : List ℕ) (kept j : ℕ) (keeping : Keeping places rg order₀ count order kept j) where
    few : kept ≤ count
    few = sift_few (unrevoked places rg) order₀ count order kept j keeping.sifting

    ends : count ≤ j → take kept order ≡ unrevoked_of places rg (take count order₀)
    unfolding unrevoked_of
    ends = sift_ends (unrevoked places rg) order₀ count order kept j keeping.sifting

    ends_below : count ≤ j → AllBelow places (take kept order)
    ends_below l = rw (ends l) (unrevoked_below places places rg (take count order₀) keeping.below)

    module _ (l : j < count) where
      room : kept < length order
      room = sift_room (unrevoked places rg) order₀ count order kept j keeping.sifting l

      inside : get_or order j 0 < places
      inside =
          omega (
            arith,
            sift_here (unrevoked places rg) order₀ count order kept j keeping.sifting l,
            get_or-take count order₀ j 0 l,
            keeping.below.below j (omega (arith, length-take-le count order₀ keeping.sifting.fits)),
          )

      module _ (gone : Bool) (e : gone ≡ eqb (revoked (state_at places rg (get_or order j 0))) 1) where
        abbrev flag : ℕ
        flag = revoked (state_at places rg (get_or order j 0))

        passes : gone ≡ true → Keeping places rg order₀ count order kept (j + 1)
        passes yes' =
            let odd : flag ≡ 1 = eqb-true flag 1 (sym e ∙ yes') in
            record {
              sifting = sift_passes (unrevoked places rg) order₀ count order kept j keeping.sifting l (ne_eqb flag 0 (omega arith));
              below = keeping.below;
            }

        keeps : gone ≡ false → Keeping places rg order₀ count (set order kept (get_or order j 0)) (kept + 1) (j + 1)
        keeps no' =
            let other = eqb-false flag 1 (sym e ∙ no') in
            record {
              sifting = sift_keeps (unrevoked places rg) order₀ count order kept j keeping.sifting l (eq-eqb flag 0 (omega arith));
              below = keeping.below;
            }

ruleset laws = (rules, starts, few, ends, ends_below, room, inside, passes)

pub is_revoked-requires : goal.is_revoked-requires
is_revoked-requires c = search laws

pub loop-j-preserved-then-is_revoked : goal.loop-j-preserved-then-is_revoked
loop-j-preserved-then-is_revoked c = search laws

pub loop-j-preserved : goal.loop-j-preserved
loop-j-preserved c =
    keeps _ _ _ _ _ _ _ c.loop-j.invariant c.loop-j-test.true _
    c.is_revoked.ensures c.if-is_revoked.false

pub returns-clause-order_after : goal.returns-clause-order_after
returns-clause-order_after c = search laws

pub returns-clause-upper_bound : goal.returns-clause-upper_bound
returns-clause-upper_bound c = search laws
