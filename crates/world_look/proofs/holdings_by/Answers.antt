-- What is lent is the registry. Its rules give the index of its ids, the index the count of the spaces' entries, the count the holders'
-- rule.
use Rattle.std.proofs.Common.{Bool, true, false, List, ◌≡◌, refl, sym, ◌∙◌, ℕ, ◌+◌, ◌-◌, ◌*◌, ◌^◌, ◌<◌, ◌≤◌, arith, length, get_or, take, drop, length-take-le, replicate}
use Rattle.std.proofs.lemmas.List.{length-replicate}
use Rattle.base.specs.Chain.{Chained, chained_none}
use Rattle.base.specs.Choose.{both_left}
use Rattle.base.specs.Distinct.{all_different, differ_test, differ_take}
use Rattle.registry.specs.Counts.{at_most_none}
use Rattle.registry.specs.Sound.{registry_test, within_test}
use Rattle.registry.specs.Words.{id_at, state_at}
use Rattle.world_look.specs.Look.{Looked, looked_none, held_by_tally}
use Rattle.world.specs.Numbers.{next_of, registered_of, recycled_of}
use Rattle.world.specs.Regions.{registry, length_for, view, Spans}
use Rattle.world.specs.Sound.{spaces_with, ids_test, spaces_test, holders_test, holdings_test}
use Rattle.world.specs.SoundLaws.{Headed}
use Rattle.world.specs.Views.{length_view, lent_view}
use Rattle.world.specs.declared.Numbers.{Numbers}
use Rattle.world.proofs.Tests.{fails, passes}
use Rattle.world_look.proofs.holdings_by.Given.{Over}
use Rattle.world_look.proofs.holdings_by.Goals as goal
use Rattle.world_look.proofs.holdings_by.Goals.{After-registry}

-- What is known once the registry's places are.
record Placed (d : Numbers) (mem : List ℕ) (room start end : ℕ) : Type 0 where
  head : Headed d mem
  enough : registered_of mem ≤ room
  spans : Spans d registry start end

placed : (g : Over) (c : After-registry g) → Placed c.args.d c.args.mem.now g.row.N c.registry.result.start c.registry.result.end
placed g c =
    let (head, enough) = c.requires.headed in
    record { head = head; enough = enough; spans = c.registry.ensures }

-- ---- the tests, in the code's order
module _ {d : Numbers} {mem : List ℕ} {room start end : ℕ} (p : Placed d mem room start end) where
  abbrev rg : List ℕ
  rg = take (end - start) (drop start mem)

  abbrev ids : List ℕ
  ids = take (registered_of mem) rg

  rg_is : rg ≡ view d registry mem
  rg_is = lent_view d registry mem start end p.spans.is p.spans.ends

  long : length rg ≡ 5 * d.places + 1
  long = rw rg_is (length_view d registry mem tt p.head.long_enough)

  ids_fit : registered_of mem ≤ length rg
  ids_fit = omega (arith, long, p.head.registered_fit)

  ids_long : length ids ≡ registered_of mem
  ids_long = length-take-le (registered_of mem) rg ids_fit

  no_index : (buckets : ℕ) → 0 < buckets → buckets ≤ 2 ^ 32 → Chained ids (replicate buckets 0) (replicate room 0) 0
  no_index buckets some few = chained_none ids _ buckets some few (rw length-replicate (omega (arith, ids_long, p.enough)))

  module _ {r : Bool} (e : r ≡ registry_test d.places (registered_of mem) (recycled_of mem) (next_of mem) rg) where
    ids_tested : r ≡ ids_test d mem
    unfolding ids_test
    ids_tested = rw (← rg_is) e

    ids_fail : r ≡ false → false ≡ holdings_test d mem
    ids_fail t = fails r (ids_test d mem) _ ids_tested t

    module _ (t : r ≡ true) where
      different : all_different ids ≡ true
      unfolding registry_test
      different =
          differ_take (registered_of mem) rg ids_fit
          ∙ both_left (differ_test (registered_of mem) (id_at rg)) _ (sym e ∙ t)

      counts_none : Looked d mem ids 0 (replicate room 0)
      counts_none =
          looked_none d mem ids _ different (rw length-replicate (omega (arith, ids_long, p.enough))) (at_most_none room)

      module _ {s : Bool} (f : s ≡ spaces_test d mem) where
        spaces_fail : s ≡ false → false ≡ holdings_test d mem
        spaces_fail u =
            passes r (ids_test d mem) _ false ids_tested t (fails s (spaces_test d mem) (holders_test d mem) f u)

        module _ {counts : List ℕ} (u : s ≡ true) (looked : Looked d mem ids d.spaces counts) where
          counts_fit : registered_of mem ≤ length counts
          counts_fit = omega (arith, length-take-le (registered_of mem) rg ids_fit, looked.tally.room)

          holders_decide :
              {h : Bool} → h ≡ within_test (registered_of mem) (state_at d.places rg) (λ k. get_or counts k 0) → h ≡ holdings_test d mem
          unfolding holders_test spaces_with
          holders_decide {h} g =
              passes r (ids_test d mem) _ h ids_tested t
              (passes s (spaces_test d mem) (holders_test d mem) h f u
              (g ∙ held_by_tally (registered_of mem) rg counts (state_at d.places rg) (spaces_with d mem) ids_fit looked.tally
              ∙ rw rg_is))

pub bounds-mem-11 : goal.bounds-mem-11
unfolding length_for
bounds-mem-11 g c = omega arith

pub bounds-mem-12 : goal.bounds-mem-12
unfolding length_for
bounds-mem-12 g c = omega arith

pub registry_sound-indexed-requires-clause-chained : goal.registry_sound-indexed-requires-clause-chained
registry_sound-indexed-requires-clause-chained g c =
    no_index (placed g (goal.at.registry_sound-indexed-requires-clause-chained g c).After-registry) g.row.H (omega arith) (omega arith)

pub returns-in_default : goal.returns-in_default
returns-in_default g c = ids_fail (placed g (goal.at.returns-in_default g c).After-registry) c.in_default.ensures.value refl

pub spaces_sound-requires-clause-looked : goal.spaces_sound-requires-clause-looked
spaces_sound-requires-clause-looked g c =
    let p = placed g (goal.at.spaces_sound-requires-clause-looked g c).After-registry in
    let index = c.in-Some.ensures in
    rw index.indexed (counts_none p index.value refl)

pub returns-then-spaces_sound : goal.returns-then-spaces_sound
returns-then-spaces_sound g c =
    let p = placed g (goal.at.returns-then-spaces_sound g c).After-registry in
    let index = c.in-Some.ensures in
    let looked = c.spaces_sound.ensures in
    let still = c.if-spaces_sound.true in
    holders_decide p index.value refl looked.value still (rw index.indexed at (looked.looked_2 still)) c.holders_within.ensures
