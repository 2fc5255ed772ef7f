-- `get_derivation_tree` given 0: the ids of all descendants, each once, parents before their children, in front of the area.
use Rattle.std.proofs.Common.{List, [], ◌↔◌, ◌≢◌, ◌⊎◌, inl, inr, ◌≡◌, refl, sym, ap, ◌∙◌, ℕ, zero, suc, ◌+◌, ◌≤◌, ◌<◌, arith, lt-ltb, le-ltb, length, get_or, drop, length-drop, get_or-drop}
use Rattle.answers.specs.Number.{number_of}
use Rattle.answers.specs.Answer.{Done}
use Rattle.base.specs.Members.{In, Once}
use Rattle.base.specs.Written.{written}
use Rattle.registry.specs.Children.{ids_at}
use Rattle.registry.specs.ChildrenLaws.{ids_at-length, ids_at_each, ids_at_differ}
use Rattle.registry.specs.Descent.{descent}
use Rattle.registry.specs.DescentLaws.{descent_below, descent_once, descent_first, descent_parents_first, descent_exactly}
use Rattle.registry.specs.HoldersLaws.{place_holds, place_is}
use Rattle.registry.specs.PlaceLists.{AllBelow}
use Rattle.steps.specs.Replies.{WithArea}
use Rattle.steps.specs.Steps.{place_in, ChildOf}
use Rattle.base.specs.Cases.{either}
use Rattle.steps.proofs.laws.Entered.{world_by_cases}
use Rattle.steps.proofs.laws.Listed.{into_by_cases}
use Rattle.world.specs.Numbers.{numbers_of, registered_of}
use Rattle.world.specs.Regions.{registry, view}
use Rattle.world.specs.Sound.{ids, links, SoundAt}
use Rattle.world.specs.declared.Numbers.{Numbers}
use Rattle.revocation_reads.specs.Calls.{descendants, descendants_out}
use Rattle.revocation_laws.proofs.laws.Meaning.{Descends}

-- The list has exactly the ids that descend from the id, but for itself, each once, and each behind its parent or a child of the id.
pub record TreeOf (d : Numbers) (mem : List ℕ) (id : ℕ) (xs : List ℕ) : Type 0 where
  pub exactly : (x : ℕ) → In xs x ↔ (Descends d mem (place_in d mem id) (place_in d mem x) × (x ≢ id))
  pub once : Once xs
  pub parents_first :
      (j : ℕ) → j < length xs
      → ChildOf d mem (get_or xs j 0) id ⊎ ((i : ℕ) × ((i < j) × ChildOf d mem (get_or xs j 0) (get_or xs i 0)))

module _ (d : Numbers) (mem : List ℕ) (sound : SoundAt d mem) (id : ℕ) (inside : place_in d mem id < registered_of mem) where
  abbrev rg : List ℕ
  rg = view d registry mem

  abbrev n : ℕ
  n = registered_of mem

  abbrev r : ℕ
  r = place_in d mem id

  abbrev found : List ℕ
  found = descent d.places n rg r

  -- All places found but the first, which is r, and their ids.
  abbrev later : List ℕ
  later = drop 1 found

  abbrev xs : List ℕ
  xs = ids_at rg later

  start : (0 < length found) × (get_or found 0 0 ≡ r)
  start = descent_first d.places n rg r sound.linked inside

  at_later : (j : ℕ) → get_or later j 0 ≡ get_or found (1 + j) 0
  at_later j = get_or-drop 1 found j 0

  count : length later + 1 ≡ length found
  count = omega (arith, length-drop 1 found, start.0)

  once_found : Once found
  once_found = descent_once d.places n rg r sound.linked inside

  later_below : AllBelow n later
  later_below = record {
    below = λ j l. rw (at_later j) ((descent_below d.places n rg r sound.linked inside).below (1 + j) (omega (arith, count)));
  }

  later_once : Once later
  later_once j l i u e =
      once_found (1 + j) (omega (arith, count)) (1 + i) (omega arith) (sym (at_later i) ∙ e ∙ at_later j)

  later_exactly : (k : ℕ) → In later k ↔ (Descends d mem r k × (k ≢ r))
  later_exactly k =
      let exactly = descent_exactly d.places n rg r sound.linked inside k in (
        λ (j, (l, e)). (
          exactly.0 (1 + j, (omega (arith, count), sym (at_later j) ∙ e)),
          λ same. once_found (1 + j) (omega (arith, count)) 0 (omega arith) (start.1 ∙ sym same ∙ sym e ∙ at_later j),
        ),
        λ (descends, other). let (i, (l, e)) = exactly.1 descends in behind i l e other,
      )
    where
      behind : (i : ℕ) → i < length found → get_or found i 0 ≡ k → k ≢ r → In later k
      behind zero l e other = absurd (other (sym e ∙ start.1))
      behind (suc j) l e other =
          let next : 1 + j ≡ suc j = omega arith in
          (j, (omega (arith, count), at_later j ∙ ap (λ i. get_or found i 0) next ∙ e))

  -- The place of the j-th id is the j-th place.
  place_of_each : (j : ℕ) → j < length later → place_in d mem (get_or xs j 0) ≡ get_or later j 0
  place_of_each j l = place_is n rg (get_or xs j 0) (get_or later j 0) sound.ids_differ (later_below.below j l)
      (sym (ids_at_each rg later j l))

  inner : (j : ℕ) → j < length xs → j < length later
  inner j l = rw (ids_at-length rg later) at l

  ids_exactly : (x : ℕ) → In xs x ↔ (Descends d mem r (place_in d mem x) × (x ≢ id))
  ids_exactly x = (
    λ (j, (l, e)).
        let place : place_in d mem x ≡ get_or later j 0 = ap (place_in d mem) (sym e) ∙ place_of_each j (inner j l) in
        let (descends, other) = (later_exactly (get_or later j 0)).0 (j, (inner j l, refl)) in
        (rw place descends, λ same. other (sym place ∙ ap (place_in d mem) same)),
    λ (descends, other).
        let k : ℕ = place_in d mem x in
        let is : ids d mem k ≡ x = place_holds n rg x descends.0 in
        let apart : k ≢ r = λ e. other (sym is ∙ ap (ids d mem) e ∙ place_holds n rg id inside) in
        let (j, (l, e)) = (later_exactly k).1 (descends, apart) in
        (j, (rw (ids_at-length rg later) l, ids_at_each rg later j l ∙ ap (ids d mem) e ∙ is)),
  )

  pub tree_of : TreeOf d mem id (descendants d mem (place_in d mem id))
  tree_of = rw (lt-ltb r n inside) (record {
    exactly = ids_exactly;
    once = ids_at_differ n rg sound.ids_differ later later_below later_once;
    parents_first = λ j l. parent j (inner j l);
  })
    where
      parent :
          (j : ℕ) → j < length later
          → ChildOf d mem (get_or xs j 0) id ⊎ ((i : ℕ) × ((i < j) × ChildOf d mem (get_or xs j 0) (get_or xs i 0)))
      parent j l =
          let (i, before, named) =
          descent_parents_first d.places n rg r sound.linked inside (1 + j) (omega arith) (omega (arith, count)) in
          go i before (ap (links d mem) (place_of_each j l ∙ at_later j) ∙ named)
        where
          go :
              (i : ℕ) → i < 1 + j → links d mem (place_in d mem (get_or xs j 0)) ≡ suc (get_or found i 0)
              → ChildOf d mem (get_or xs j 0) id ⊎ ((i : ℕ) × ((i < j) × ChildOf d mem (get_or xs j 0) (get_or xs i 0)))
          go zero before named = inl (named ∙ ap suc start.1)
          go (suc i) before named =
              let next : suc i ≡ 1 + i = omega arith in
              let place : get_or found (suc i) 0 ≡ place_in d mem (get_or xs i 0) =
              ap (λ k. get_or found k 0) next ∙ sym (at_later i) ∙ sym (place_of_each i (omega arith)) in
              inr (i, (omega arith, named ∙ ap suc place))

-- An id that is not registered has no descendants.
pub tree_none : (d : Numbers) (mem : List ℕ) (id : ℕ) → registered_of mem ≤ place_in d mem id → descendants d mem (place_in d mem id) ≡ []
tree_none d mem id outside = rw (le-ltb (place_in d mem id) (registered_of mem) outside)

-- ---- the call

-- The list in front of the area, whose other places are as they were; the value is its length.
pub descendants_listed :
    (mem : List ℕ) (id : ℕ) (area : List ℕ) → (descendants_out mem id area).reply.answer ≡ Done
    → ((descendants_out mem id area).area ≡ written (descendants (numbers_of mem) mem (place_in (numbers_of mem) mem id)) area)
    × ((descendants_out mem id area).reply.value ≡ length (descendants (numbers_of mem) mem (place_in (numbers_of mem) mem id)))
unfolding descendants_out
descendants_listed mem id area =
    world_by_cases Lists _ mem _ (λ bad e. absurd (omega (arith, ap number_of e)))
    (λ sound.
    either Lists _ _ _ (λ e. absurd (omega (arith, ap number_of e)))
    (into_by_cases list area Lists (λ short e. absurd (omega (arith, ap number_of e))) (λ long e. (refl, refl))))
  where
    list : List ℕ
    list = descendants (numbers_of mem) mem (place_in (numbers_of mem) mem id)

    Lists : WithArea → Type 0
    Lists l = l.reply.answer ≡ Done → (l.area ≡ written list area) × (l.reply.value ≡ length list)
