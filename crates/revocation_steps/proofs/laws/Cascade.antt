-- The places that a cascade revokes, and their ids: exactly the registered places under its first that are not revoked yet, each once; so
-- their ids differ, and each is a pair of the log with generation 0.
use Rattle.std.proofs.Common.{◌≡◌, refl, sym, ap, ◌∙◌, ◌↔◌, List, [], ◌∷◌, ℕ, ◌<◌, arith, eqb-true, eq-eqb, eqb, length, get_or}
use Rattle.std.proofs.Math.Decide.{dec_lt}
use Rattle.std.proofs.Math.Logic.{by_cases}
use Rattle.base.specs.Members.{In, Once}
use Rattle.base.specs.Sifted.{sifted, sifted_exactly, sifted_once}
use Rattle.registry.specs.ChildrenLaws.{ids_at-length, ids_at_each, ids_at_differ}
use Rattle.registry.specs.Descent.{descent, unrevoked_of}
use Rattle.registry.specs.DescentLaws.{Under, itself, below, descent_below, descent_once, descent_first, descent_exactly}
use Rattle.registry.specs.MarkedLaws.{unrevoked_below}
use Rattle.registry.specs.PlaceLists.{AllBelow}
use Rattle.registry.specs.Words.{state_at, revoked}
use Rattle.revocation.specs.Sound.{Pairs}
use Rattle.revocation.specs.Words.{pair_at}
use Rattle.world.specs.Numbers.{registered_of}
use Rattle.world.specs.Regions.{registry, view}
use Rattle.world.specs.Sound.{ids, states, links, SoundAt}
use Rattle.world.specs.declared.Numbers.{Numbers}
use Rattle.revocation_steps.specs.Revocation.{cascade, cascade_ids}

-- ---- of some places those that are not revoked

module _ (places : ℕ) (rg : List ℕ) where
  unrevoked_exactly : (ks : List ℕ) (k : ℕ) → In (unrevoked_of places rg ks) k ↔ (In ks k × (revoked (state_at places rg k) ≡ 0))
  unfolding unrevoked_of
  unrevoked_exactly ks k =
      let exactly = sifted_exactly (λ k. eqb (revoked (state_at places rg k)) 0) ks k in (
        λ found. let (old, passes) = exactly.0 found in (old, eqb-true (revoked (state_at places rg k)) 0 passes),
        λ (old, is). exactly.1 (old, eq-eqb (revoked (state_at places rg k)) 0 is),
      )

  unrevoked_once : (ks : List ℕ) → Once ks → Once (unrevoked_of places rg ks)
  unfolding unrevoked_of
  unrevoked_once = sifted_once (λ k. eqb (revoked (state_at places rg k)) 0)

  -- The first stays the first.
  unrevoked_first :
      (ks : List ℕ) (r : ℕ) → 0 < length ks → get_or ks 0 0 ≡ r → revoked (state_at places rg r) ≡ 0
      → (0 < length (unrevoked_of places rg ks)) × (get_or (unrevoked_of places rg ks) 0 0 ≡ r)
  unfolding unrevoked_of sifted
  unrevoked_first [] r some start is = absurd (omega arith)
  unrevoked_first (x ∷ ks) r some start is =
      rw (eq-eqb (revoked (state_at places rg x)) 0 (ap (λ k. revoked (state_at places rg k)) start ∙ is)) (omega arith, start)

-- ---- a cascade

module _ (d : Numbers) (mem : List ℕ) (sound : SoundAt d mem) (r : ℕ) (inside : r < registered_of mem) where
  abbrev rg : List ℕ
  rg = view d registry mem

  abbrev n : ℕ
  n = registered_of mem

  abbrev found : List ℕ
  found = descent d.places n rg r

  pub cascade_below : AllBelow (registered_of mem) (cascade d mem r)
  cascade_below = unrevoked_below n d.places rg found (descent_below d.places n rg r sound.linked inside)

  pub cascade_once : Once (cascade d mem r)
  cascade_once = unrevoked_once d.places rg found (descent_once d.places n rg r sound.linked inside)

  pub cascade_exactly :
      (k : ℕ) → In (cascade d mem r) k ↔ (((k < registered_of mem) × Under (links d mem) r k) × (revoked (states d mem k) ≡ 0))
  cascade_exactly k =
      let unrevoked = unrevoked_exactly d.places rg found k in
      let exactly = descent_exactly d.places n rg r sound.linked inside k in (
        λ h. let (old, is) = unrevoked.0 h in (exactly.0 old, is),
        λ (under, is). unrevoked.1 (exactly.1 under, is),
      )

  -- Where its first place is not revoked yet, the cascade begins with it;
  pub cascade_first : revoked (states d mem r) ≡ 0 → (0 < length (cascade d mem r)) × (get_or (cascade d mem r) 0 0 ≡ r)
  cascade_first is =
      let (some, start) = descent_first d.places n rg r sound.linked inside in
      unrevoked_first d.places rg found r some start is

  -- where it is, so is all under it, and the cascade revokes nothing.
  pub under_revoked : revoked (states d mem r) ≡ 1 → {k : ℕ} → Under (links d mem) r k → k < registered_of mem
      → revoked (states d mem k) ≡ 1
  under_revoked gone itself l = gone
  under_revoked gone (below k p named under) l =
      sound.cascaded k l p named (under_revoked gone under (omega (arith, sound.linked k l)))

  pub cascade_none : revoked (states d mem r) ≡ 1 → length (cascade d mem r) ≡ 0
  cascade_none gone =
      by_cases (dec_lt 0 (length (cascade d mem r)))
      (λ some.
      let ((l, under), is) = (cascade_exactly (get_or (cascade d mem r) 0 0)).0 (0, (some, refl)) in
      absurd (omega (arith, under_revoked gone under l)))
      (λ none. omega arith)

  -- The j-th id is that of the j-th place, which is registered.
  id_of_place : (j : ℕ) → j < length (cascade_ids d mem r)
      → (get_or (cascade d mem r) j 0 < n) × (pair_at (cascade_ids d mem r) j ≡ ids d mem (get_or (cascade d mem r) j 0))
  id_of_place j l =
      let u : j < length (cascade d mem r) = rw (ids_at-length rg (cascade d mem r)) at l in
      (cascade_below.below j u, ids_at_each rg (cascade d mem r) j u)

  pub cascade_ids_differ : Once (cascade_ids d mem r)
  cascade_ids_differ = ids_at_differ n rg sound.ids_differ (cascade d mem r) cascade_below cascade_once

  pub cascade_ids_coded : Pairs (length (cascade_ids d mem r)) (pair_at (cascade_ids d mem r))
  cascade_ids_coded j l =
      let (registered, is) = id_of_place j l in
      let (low, high) = sound.ids_issued (get_or (cascade d mem r) j 0) registered in
      omega (arith, is, sound.next_high)

  -- They are the ids at its places.
  pub cascade_ids_exactly : (id : ℕ) → In (cascade_ids d mem r) id ↔ ((k : ℕ) × (In (cascade d mem r) k × (ids d mem k ≡ id)))
  cascade_ids_exactly id =
      let count = ids_at-length rg (cascade d mem r) in (
        λ (j, (l, e)). (get_or (cascade d mem r) j 0, ((j, (rw count at l, refl)), sym (id_of_place j l).1 ∙ e)),
        λ (k, ((j, (l, e)), is)). (j, (rw count l, ids_at_each rg (cascade d mem r) j l ∙ ap (ids d mem) e ∙ is)),
      )
