-- The cascade stands at the front of `order`, its ids at the front of `ids`, and of these the pairs that the log has not at the front of
-- `pairs`: so what `revoke_listed` answers and leaves by these lists is what a revocation does.
use Rattle.std.proofs.Common.{rules, ne_eqb, List, ◌≢◌, ◌≡◌, sym, ap, ◌∙◌, ℕ, ◌%◌, ◌<◌, arith, length, take, length-take-le}
use Rattle.base.specs.Choose.{when_no}
use Rattle.base.specs.Written.{written, take_written}
use Rattle.registry.specs.Children.{ids_at}
use Rattle.registry.specs.ChildrenLaws.{ids_at-length}
use Rattle.revocation_steps.specs.Revocation.{cascade, cascade_ids}
use Rattle.revocation_steps.proofs.laws.Cascade.{cascade_first}
use Rattle.world.specs.Numbers.{registered_of}
use Rattle.world.specs.Regions.{registry, view}
use Rattle.world.specs.Sound.{states, SoundAt}
use Rattle.world.specs.declared.Numbers.{Numbers}
use Rattle.cascade.specs.Cascade.{revoking}
use Rattle.cascade.proofs.revoke_at.Goals as goal
use Rattle.cascade.proofs.revoke_at.Goals.{After-cascade_places-count, After-ids_at, After-keep_absent-absent}

-- Place r is in this state.
module _ (d : Numbers) (mem : List ℕ) (r state : ℕ) (is : state ≡ states d mem r) where
  module _ (count : ℕ) (order : List ℕ) (places : take count order ≡ cascade d mem r) (counted : length (take count order) ≡ count) where
    listed_ids :
        (ids₀ ids : List ℕ) → ids ≡ written (ids_at (view d registry mem) (take count order)) ids₀ → take count ids ≡ cascade_ids d mem r
    listed_ids ids₀ ids written_is =
        let named : List ℕ = ids_at (view d registry mem) (take count order) in
        let as_many : length named ≡ count = ids_at-length _ (take count order) ∙ counted in
        rw (written_is, ← places) (rw as_many at (take_written named ids₀))

    some : SoundAt d mem → r < registered_of mem → state % 2 ≢ 1 → 0 < count
    some sound inside alive =
        omega (arith, (cascade_first d mem sound r inside (rw (← is) (omega arith))).0, counted, ap length places)

-- ---- each list is as long as it was counted
order_counted :
    (c : After-cascade_places-count)
    → length (take c.cascade_places-count.result c.cascade_places-count.new.order) ≡ c.cascade_places-count.result
order_counted c = length-take-le _ c.cascade_places-count.new.order (search rules)

ids_counted :
    (c : After-ids_at) → let count = c.cascade_places-count.result in
    length (take count c.ids_at.new.ids) ≡ count
ids_counted c = length-take-le _ c.ids_at.new.ids (search rules)

pairs_counted :
    (c : After-keep_absent-absent)
    → length (take c.keep_absent-absent.result c.keep_absent-absent.new.pairs) ≡ c.keep_absent-absent.result
pairs_counted c = length-take-le _ c.keep_absent-absent.new.pairs (search rules)

pub revoke_listed-requires : goal.revoke_listed-requires
revoke_listed-requires c =
    let (sound, inside) = c.requires in
    let (places, few) = c.cascade_places-count.ensures.order_after in
    let below = c.cascade_places-count.ensures.all_below in
    let not_None = some _ _ _ _ c.state_at.ensures _ _ places
    (order_counted (goal.at.revoke_listed-requires c).After-cascade_places-count) sound inside (λ gone. omega arith) in (
      sound,
      below,
      rw (ids_counted (goal.at.revoke_listed-requires c).After-ids_at) not_None,
      omega (
        arith,
        pairs_counted (goal.at.revoke_listed-requires c).After-keep_absent-absent,
        c.keep_absent-absent.ensures.upper_bound,
        sound.in_range.places,
      ),
    )

pub returns : goal.returns
unfolding revoking
returns c =
    let state = c.state_at.ensures in
    let (places, few) = c.cascade_places-count.ensures.order_after in
    let below = c.cascade_places-count.ensures.all_below in
    let ids = listed_ids _ _ _ _ state _ _ places (order_counted (goal.at.returns c).After-cascade_places-count) _ _ c.ids_at.ensures in
    let pairs = rw ids at c.keep_absent-absent.ensures.pairs_after in
    rw (places, ids, pairs) at c.revoke_listed.ensures ∙ sym (when_no _ _ _ (ne_eqb _ 1 (λ gone. omega (arith, state))))
