-- `get_children` given 0: the ids of the children in list order, in front of the area. List order is the order of their places in the
-- registry, which is the order of registration.
use Rattle.std.proofs.Common.{List, ◌↔◌, ◌≡◌, refl, sym, ap, ◌∙◌, ℕ, ◌<◌, arith, length, get_or}
use Rattle.answers.specs.Number.{number_of}
use Rattle.answers.specs.Answer.{Done}
use Rattle.base.specs.Members.{In}
use Rattle.base.specs.Written.{written}
use Rattle.registry.specs.Children.{child_places, ids_at, child_ids}
use Rattle.registry.specs.ChildrenLaws.{Sisters, child_places_exactly, ids_at-length, ids_at_each}
use Rattle.registry.specs.HoldersLaws.{place_holds, place_is}
use Rattle.registry.specs.Words.{id_at}
use Rattle.steps.specs.Replies.{WithArea}
use Rattle.steps.specs.Steps.{place_in, ChildOf}
use Rattle.base.specs.Cases.{either}
use Rattle.steps.proofs.laws.Entered.{world_by_cases}
use Rattle.steps.proofs.laws.Listed.{into_by_cases}
use Rattle.world.specs.Numbers.{numbers_of, registered_of}
use Rattle.world.specs.Regions.{registry, view}
use Rattle.world.specs.Sound.{links, SoundAt}
use Rattle.world.specs.declared.Numbers.{Numbers}
use Rattle.manager_calls.specs.Calls.{children_out}

-- ---- the children of an id

-- The list has exactly the registered ids whose parent is the id, by ascending place; so each stands in it once.
pub record ChildrenOf (d : Numbers) (mem : List ℕ) (id : ℕ) (xs : List ℕ) : Type 0 where
  pub exactly : (x : ℕ) → In xs x ↔ ((place_in d mem x < registered_of mem) × ChildOf d mem x id)
  pub in_order : (j i : ℕ) → j < length xs → i < j → place_in d mem (get_or xs i 0) < place_in d mem (get_or xs j 0)

module _ (d : Numbers) (mem : List ℕ) (sound : SoundAt d mem) (id : ℕ) where
  abbrev n : ℕ
  n = registered_of mem

  abbrev rg : List ℕ
  rg = view d registry mem

  abbrev ks : List ℕ
  ks = child_places d.places (place_in d mem id) n rg

  sisters : Sisters (links d mem) (place_in d mem id) 0 n ks
  sisters = child_places_exactly d.places (place_in d mem id) n rg

  count : length (ids_at rg ks) ≡ length ks
  count = ids_at-length rg ks

  inner : (j : ℕ) → j < length (ids_at rg ks) → j < length ks
  inner j l = rw count at l

  -- The place of the j-th id is the j-th place.
  place_of_each : (j : ℕ) → j < length (ids_at rg ks) → place_in d mem (get_or (ids_at rg ks) j 0) ≡ get_or ks j 0
  place_of_each j l =
      place_is n rg (get_or (ids_at rg ks) j 0) (get_or ks j 0) sound.ids_differ (omega (arith, sisters.each j (inner j l)))
      (sym (ids_at_each rg ks j (inner j l)))

  are_children : ChildrenOf d mem id (child_ids d.places (place_in d mem id) (registered_of mem) (view d registry mem))
  unfolding child_ids
  are_children = record {
    exactly = λ x. (
      λ (j, (l, e)).
          let at : place_in d mem x ≡ get_or ks j 0 = ap (place_in d mem) (sym e) ∙ place_of_each j l in
          let (low, high, named) = sisters.each j (inner j l) in
          (omega arith, ap (links d mem) at ∙ named),
      λ (inside, named).
          let (j, (l, e)) = sisters.whole (place_in d mem x) (omega arith) (omega arith) named in
          (j, (rw count l, ids_at_each rg ks j l ∙ ap (id_at rg) e ∙ place_holds n rg x inside)),
    );
    in_order = λ j i l u. omega (arith, place_of_each i (omega arith), place_of_each j l, sisters.ascending j (inner j l) i u);
  }

-- ---- the call

-- The children in front of the area, whose other places are as they were; the value is how many.
pub children_listed :
    (mem : List ℕ) (id : ℕ) (area : List ℕ) → (children_out mem id area).reply.answer ≡ Done
    → (xs : List ℕ)
    × (ChildrenOf (numbers_of mem) mem id xs
    × (((children_out mem id area).area ≡ written xs area) × ((children_out mem id area).reply.value ≡ length xs)))
unfolding children_out
children_listed mem id area =
    world_by_cases Lists _ mem _ (λ bad e. absurd (omega (arith, ap number_of e)))
    (λ sound.
    either Lists _ _ _ (λ e. absurd (omega (arith, ap number_of e)))
    (into_by_cases _ area Lists (λ short e. absurd (omega (arith, ap number_of e)))
    (λ long e. (_, (are_children (numbers_of mem) mem sound id, (refl, refl))))))
  where
    Lists : WithArea → Type 0
    Lists l =
        l.reply.answer ≡ Done
        → (xs : List ℕ) × (ChildrenOf (numbers_of mem) mem id xs × ((l.area ≡ written xs area) × (l.reply.value ≡ length xs)))
