-- The places under r are all of its descent but the first, r itself: where the area is long enough, their ids are written to it.
use Rattle.std.proofs.Common.{rules, List, [], ◌∷◌, ◌≡◌, refl, sym, ap, ◌∙◌, ℕ, zero, suc, ◌-◌, ◌<◌, ◌≤◌, arith, lt-ltb, length, take, drop, length-drop, length-take-le}
use Rattle.std.proofs.lemmas.Result.{err_from_is_err_and}
use Rattle.std.proofs.lemmas.Grind.{common_steps}
use Rattle.std.proofs.Math.Seq.{take-nil}
use Rattle.answers.specs.Answer.{BadField}
use Rattle.base.specs.Written.{written}
use Rattle.registry.specs.Children.{ids_at}
use Rattle.registry.specs.ChildrenLaws.{ids_at-length}
use Rattle.registry.specs.Descent.{descent}
use Rattle.registry.specs.DescentLaws.{descent_first}
use Rattle.registry.specs.PlaceLists.{AllBelow, all_below_more, all_below_later}
use Rattle.steps.proofs.laws.Listed.{into_short, into_fits}
use Rattle.steps.proofs.laws.Ready.{ready_at}
use Rattle.steps.proofs.Leaving.{area_is}
use Rattle.steps.specs.Replies.{WithArea, done, refusal, into_area}
use Rattle.world.specs.Numbers.{registered_of}
use Rattle.world.specs.Regions.{registry, view}
use Rattle.world.specs.Sound.{SoundAt}
use Rattle.world.specs.declared.Numbers.{Numbers}
use Rattle.revocation_reads.specs.Calls.{descendants}
use Rattle.revocation_reads.proofs.list_under.Goals as goal

-- All but the first.
rest_of : (n : ℕ) (xs : List ℕ) → drop 1 (take n xs) ≡ take (n - 1) (drop 1 xs)
rest_of zero xs = refl
rest_of (suc n) [] = sym (take-nil (suc n - 1))
rest_of (suc n) (x ∷ xs) = let one_less : n ≡ suc n - 1 = omega arith in ap (λ k. take k xs) one_less

rest_below : (n m : ℕ) (ks : List ℕ) → n ≤ m → AllBelow n ks → AllBelow m (drop 1 ks)
rest_below n m [] l inside = record { below = λ j u. absurd (omega arith) }
rest_below n m (k ∷ ks) l inside = all_below_more n m ks l (all_below_later n k ks inside)

-- The descent of place r, of so many places, stands at the front of `order`.
record Found (d : Numbers) (mem : List ℕ) (r : ℕ) (order : List ℕ) (count : ℕ) : Type 0 where
  sound : SoundAt d mem
  below : r < registered_of mem
  fits : count ≤ length order
  found : take count order ≡ descent d.places (registered_of mem) (view d registry mem) r
  inside : AllBelow (registered_of mem) (take count order)

finds : (d : Numbers) (mem : List ℕ) (r : ℕ) (order : List ℕ) (count : ℕ) → SoundAt d mem × (r < registered_of mem) → length order ≡ 4096
    → ((take count order ≡ descent d.places (registered_of mem) (view d registry mem) r) × (count ≤ registered_of mem))
    × AllBelow (registered_of mem) (take count order)
    → Found d mem r order count
finds d mem r order count (sound, below) long ((is, few), inside) = record {
  sound = sound;
  below = below;
  fits = omega (arith, sound.registered_fit, sound.in_range.places);
  found = is;
  inside = inside;
}

module _ (d : Numbers) (mem : List ℕ) (r : ℕ) (order : List ℕ) (count : ℕ) (at : Found d mem r order count) where
  abbrev under : List ℕ
  under = take (count - 1) (drop 1 order)

  some : 1 ≤ count
  some =
      let first = (descent_first d.places (registered_of mem) (view d registry mem) r at.sound.linked at.below).0 in
      omega (arith, ap length at.found, length-take-le count order at.fits)

  under_length : length under ≡ count - 1
  under_length = length-take-le (count - 1) (drop 1 order) (omega (arith, length-drop 1 order, at.fits))

  under_below : AllBelow d.places under
  under_below = rw rest_of at (rest_below (registered_of mem) d.places (take count order) at.sound.registered_fit at.inside)

  is_under : descendants d mem r ≡ ids_at (view d registry mem) under
  is_under = rw (lt-ltb r (registered_of mem) at.below, ← at.found, rest_of)

  how_many : length (descendants d mem r) ≡ count - 1
  how_many = ap length is_under ∙ ids_at-length (view d registry mem) under ∙ under_length

  too_short : (area : List ℕ) → length area < count - 1
      → into_area (descendants d mem r) area ≡ record { reply = refusal BadField; area = area }
  too_short area l = into_short (descendants d mem r) area (count - 1) how_many l

  lists : (area : List ℕ) → count - 1 ≤ length area
      → into_area (descendants d mem r) area ≡ record { reply = done (count - 1); area = written (ids_at (view d registry mem) under) area }
  lists area l =
      into_fits (descendants d mem r) area (count - 1) how_many l
      ∙ ap {B = WithArea} (λ xs. record { reply = done (count - 1); area = written xs area }) is_under

ruleset under_laws = (
  rules,
  rest_of,
  rest_below,
  finds,
  under,
  some,
  under_length,
  under_below,
  is_under,
  how_many,
  too_short,
  lists,
  ids_at-length,
  descent_first,
  into_short,
  into_fits,
  ready_at,
  area_is,
)

pub descend-count-requires-clause-ready : goal.descend-count-requires-clause-ready
descend-count-requires-clause-ready c =
    let (sound, below) = c.requires in (ready_at _ _ sound, below, omega (arith, sound.registered_fit, sound.in_range.places))

pub overflow_sub-count : goal.overflow_sub-count
overflow_sub-count c = search under_laws

pub returns-in_err : goal.returns-in_err
returns-in_err c =
    let (none, told) = c.from_residual.ensures in
    let (refused, is, unvisited) = err_from_is_err_and c.from_residual.result told in
    let at = finds _ _ _ _ _ c.requires (search rules) (c.descend-count.ensures.order_after, c.descend-count.ensures.all_below) in
    rw (is, unvisited) (grind (arith, common_steps, too_short _ _ _ _ _ at _ c.if-area-count.true))

pub slice_bounds-ids_at-count : goal.slice_bounds-ids_at-count
slice_bounds-ids_at-count c = search under_laws

pub slice_bounds-ids_at-start : goal.slice_bounds-ids_at-start
slice_bounds-ids_at-start c = search under_laws

pub ids_at-requires-clause-all_below : goal.ids_at-requires-clause-all_below
ids_at-requires-clause-all_below c = search under_laws

pub overflow_sub-count-2 : goal.overflow_sub-count-2
overflow_sub-count-2 c = search under_laws

pub returns : goal.returns
returns c = search under_laws
