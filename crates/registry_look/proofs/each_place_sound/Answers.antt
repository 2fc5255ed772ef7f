use Rattle.std.proofs.Common.{ap, ◌≡◌, refl, sym, ◌∙◌, ◌≢◌, Bool, true, false, not, List, ℕ, suc, ◌+◌, ◌-◌, ◌<◌, ◌≤◌, arith, rules, leb-true, length, get_or, length-set}
use Rattle.std.proofs.lemmas.Bool.{not-true, not-false}
use Rattle.base.specs.Below.{all}
use Rattle.base.specs.AllLaws.{all_none, all_more, all_done, all_fails}
use Rattle.base.specs.Choose.{both_make, both_false}
use Rattle.base.specs.Exactly.{both_exactly}
use Rattle.registry.specs.Words.{link_at}
use Rattle.registry.specs.Sound.{short_test}
use Rattle.registry.specs.Counts.{add_one, Counted, counted_root, counted_child, counted_full, counted_done}
use Rattle.registry_look.specs.Look.{place_test, places_test}
use Rattle.registry_look.proofs.each_place_sound.Invariants.{Done}
use Rattle.registry_look.proofs.each_place_sound.Goals as goal

starts :
    (places n next : ℕ) (rg counts : List ℕ) → n ≤ length counts → Counted (link_at places rg) 0 counts
    → Done places n next rg counts counts 0
starts places n next rg counts room counted =
    record { inside = omega arith; room = room; same = refl; passed = all_none (place_test places next rg); counted = counted }

-- A place that keeps its rules names an earlier place, or none.
earlier : (places next : ℕ) (rg : List ℕ) (k : ℕ) (r : Bool) → r ≡ place_test places next rg k → not r ≡ false → link_at places rg k ≤ k
unfolding place_test
earlier places next rg k r e t =
    let (_, (linked, _)) = simp both_exactly at (sym e ∙ not-false r t) in leb-true (link_at places rg k) k linked

module _ (places n next : ℕ) (rg counts₀ counts : List ℕ) (k : ℕ) (done : Done places n next rg counts₀ counts k) where
  ends : n ≤ k → true ≡ places_test places n next rg
  unfolding places_test
  ends u =
      sym
      (both_make (all n (place_test places next rg)) (short_test n (link_at places rg))
      (sym (all_done k n (place_test places next rg) done.passed done.inside u))
      (sym (counted_done (link_at places rg) k n counts done.counted done.inside u done.room)))

  -- A turn, in the code's words: r says whether place k keeps its rules.
  module _ (l : k < n) (r : Bool) (e : r ≡ place_test places next rg k) where
    broken : not r ≡ true → false ≡ places_test places n next rg
    unfolding places_test
    broken t = rw (all_fails k n (place_test places next rg) l (sym e ∙ not-true r t))

    module _ (t : not r ≡ false) where
      further : all (k + 1) (place_test places next rg) ≡ true
      further = all_more k (place_test places next rg) done.passed (sym e ∙ not-false r t)

      root : link_at places rg k ≡ 0 → Done places n next rg counts₀ counts (k + 1)
      root none = record {
        inside = omega arith;
        room = done.room;
        same = done.same;
        passed = further;
        counted = counted_root (link_at places rg) k counts done.counted none;
      }

      module _ (some : link_at places rg k ≢ 0) where
        this : link_at places rg k ≡ suc (link_at places rg k - 1)
        this = omega arith

        within : link_at places rg k - 1 < length counts
        within = omega (arith, done.room, earlier places next rg k r e t)

        child : get_or counts (link_at places rg k - 1) 0 < 1024
            → Done places n next rg counts₀ (add_one (link_at places rg k - 1) counts) (k + 1)
        child short = record {
          inside = omega arith;
          room = simp length-set done.room;
          same = simp length-set done.same;
          passed = further;
          counted = counted_child (link_at places rg) k counts done.counted (link_at places rg k - 1) this within short;
        }

        full : 1024 ≤ get_or counts (link_at places rg k - 1) 0 → false ≡ places_test places n next rg
        unfolding places_test
        full long =
            rw (sym (counted_full (link_at places rg) k counts done.counted (link_at places rg k - 1) this within n
            (earlier places next rg k r e t) l long))
            (sym (both_false (all n (place_test places next rg))))

ruleset laws = (rules, starts, ends, broken, root, within, child, full)

pub loop-k-init : goal.loop-k-init
loop-k-init c = search laws

pub returns-then-not-place_sound : goal.returns-then-not-place_sound
returns-then-not-place_sound c = search laws

pub loop-k-preserved-then-link-eq0 : goal.loop-k-preserved-then-link-eq0
loop-k-preserved-then-link-eq0 c = search laws

pub offset_bounds-counts-p : goal.offset_bounds-counts-p
offset_bounds-counts-p c = omega (arith, earlier _ _ _ _ _ c.place_sound.ensures (ap not c.if-not-place_sound.false))

pub bounds-counts-p : goal.bounds-counts-p
bounds-counts-p c = search laws

pub returns-then-count-ge1024 : goal.returns-then-count-ge1024
returns-then-count-ge1024 c = search laws

pub offset_bounds-counts-p-in-loop-k : goal.offset_bounds-counts-p-in-loop-k
offset_bounds-counts-p-in-loop-k c =
    omega (
      arith,
      earlier _ _ _ _ _ c.place_sound.ensures
          (ap not c.if-not-place_sound.false),
    )

pub bounds-counts-p-in-loop-k : goal.bounds-counts-p-in-loop-k
bounds-counts-p-in-loop-k c = search laws

pub loop-k-preserved : goal.loop-k-preserved
loop-k-preserved c =
    let short : get_or c.loop-k.counts (link_at c.args.registry.now.places c.args.registry.now.words.now c.loop-k.k - 1) 0 < 1024 =
    omega arith in
    search (laws, short)

pub returns : goal.returns
returns c = search laws
