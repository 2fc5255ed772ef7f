-- Spent ids: issued, and never given back. No step joins an issued id to the recycled ones but recycling it; an id that is taken was not
-- spent, and giving it back frees no other; every registered id is spent.
use Rattle.std.proofs.Common.{List, ◌↔◌, ◌≢◌, ◌⊎◌, ⊎_elim, ◌≡◌, sym, ap, subst, ◌∙◌, ℕ, suc, ◌+◌, ◌-◌, ◌*◌, ◌≤◌, ◌<◌, arith, length, set, Some}
use Rattle.registry.specs.Ids.{first_taken}
use Rattle.registry.specs.IdsLaws.{length_taken, taken_recycled, recycled_with_has}
use Rattle.base.specs.Distinct.{Among}
use Rattle.registry.specs.Words.{recycled_at}
use Rattle.steps.specs.Steps.{taken_id, take_step, recycle_step}
use Rattle.steps.proofs.laws.RegistryChanged.{registry_changed, word_changed}
use Rattle.steps.proofs.laws.RegistrySteps.{recycle_step_changes}
use Rattle.steps.proofs.laws.TakeStep.{taken_free}
use Rattle.steps.proofs.laws.Taking.{take_by_cases}
use Rattle.world.specs.Numbers.{numbers_of, next_of, registered_of, recycled_of}
use Rattle.world.specs.Regions.{registry, view, on_region}
use Rattle.world.specs.Sound.{ids, recycled, SoundAt}
use Rattle.world.specs.Views.{registry_words}
use Rattle.world.specs.declared.Numbers.{Numbers}
use Rattle.manager_laws.proofs.laws.SameIds.{SameIds}

-- ---- spent ids

abbrev pub Recycled : Numbers → List ℕ → ℕ → Type 0
Recycled d mem x = Among (recycled_of mem) (recycled d mem) x

-- Issued, and not given back.
pub record SpentAt (d : Numbers) (mem : List ℕ) (x : ℕ) : Type 0 where
  pub issued : x < next_of mem
  pub not_recycled : ¬ Recycled d mem x

abbrev pub Spent : List ℕ → ℕ → Type 0
Spent mem x = SpentAt (numbers_of mem) mem x

-- No id that was issued joins the recycled ones.
pub record NoneFreed (d : Numbers) (mem after : List ℕ) : Type 0 where
  pub next_grows : next_of mem ≤ next_of after
  pub none_joins : (x : ℕ) → x < next_of mem → Recycled d after x → Recycled d mem x

pub spent_still : (d : Numbers) (mem after : List ℕ) (x : ℕ) → NoneFreed d mem after → SpentAt d mem x → SpentAt d after x
spent_still d mem after x none spent = record {
  issued = omega (arith, none.next_grows, spent.issued);
  not_recycled = λ again. spent.not_recycled (none.none_joins x spent.issued again);
}

module _ (d : Numbers) (mem : List ℕ) where
  pub none_refl : NoneFreed d mem mem
  none_refl = record { next_grows = omega arith; none_joins = λ x l among. among }

  pub none_trans : (mid after : List ℕ) → NoneFreed d mem mid → NoneFreed d mid after → NoneFreed d mem after
  none_trans mid after h g = record {
    next_grows = omega (arith, h.next_grows, g.next_grows);
    none_joins = λ x l among. h.none_joins x l (g.none_joins x (omega (arith, h.next_grows)) among);
  }

  pub none_same : (after : List ℕ) → SameIds d mem after → NoneFreed d mem after
  none_same after same = record {
    next_grows = omega (arith, same.same_next);
    none_joins = λ x l (j, (u, e)). (j, (rw same.same_count at u, sym (same.same_recycled j) ∙ e));
  }

-- ---- taking an id and giving it back

module _ (d : Numbers) (mem : List ℕ) (sound : SoundAt d mem) where
  abbrev m : ℕ
  m = recycled_of mem

  abbrev rg : List ℕ
  rg = view d registry mem

  long : 5 * d.places + 1 ≤ length rg
  long = registry_words d mem sound.long_enough

  smallest_none :
      0 < recycled_of mem → NoneFreed d mem (set (on_region d registry (first_taken d.places (recycled_of mem)) mem) 12
      (recycled_of mem - 1))
  smallest_none some =
      let f : List ℕ → List ℕ = first_taken d.places m in
      let changed =
      registry_changed d mem sound.long_enough f 12 (m - 1) (omega arith) (omega arith)
      (length_taken d.places m rg some sound.recycled_fit long) in
      record {
        next_grows = omega (arith, changed.same_word 5 (omega arith) (omega arith));
        none_joins = λ x l (j, (u, e)).
            let below : j < m - 1 = rw changed.new_word at u in (
              suc j,
              (
                omega arith,
                sym (taken_recycled d.places m rg some sound.recycled_fit long j (omega arith))
                    ∙ sym (ap (λ ws. recycled_at d.places ws j) changed.new_registry) ∙ e,
              ),
            );
      }

  next_none : NoneFreed d mem (set mem 5 (next_of mem + 1))
  next_none =
      let changed = word_changed d mem sound.long_enough 5 (next_of mem + 1) (omega arith) (omega arith) in
      record {
        next_grows = omega (arith, changed.new_word);
        none_joins = λ x l (j, (u, e)). (
          j,
          (
            rw (changed.same_word 12 (omega arith) (omega arith)) at u,
            sym (ap (λ ws. recycled_at d.places ws j) changed.new_registry) ∙ e,
          ),
        );
      }

  pub take_none : NoneFreed d mem (take_step d mem)
  take_none = take_by_cases d mem (λ t after. NoneFreed d mem after) smallest_none (λ none more. next_none) (none_refl d mem)

  -- The id taken was recycled, or is new.
  pub taken_from : (id : ℕ) → taken_id d mem ≡ Some id → id < next_of mem → Recycled d mem id
  taken_from id =
      take_by_cases d mem (λ t after. t ≡ Some id → id < next_of mem → Recycled d mem id)
      (λ some is l. (0, (some, cc)))
      (λ none more is l. let same : next_of mem ≡ id = cc in absurd (omega arith))
      (λ is l. let z : ◌≡◌ {A = ℕ} 0 1 = cc in absurd (omega arith))

  -- So it was not spent.
  pub taken_unspent : (id x : ℕ) → taken_id d mem ≡ Some id → SpentAt d mem x → id ≢ x
  taken_unspent id x is spent same =
      spent.not_recycled (subst (Recycled d mem) same (taken_from id is (rw same spent.issued)))

  -- It is spent then.
  pub taken_spent : (id : ℕ) → taken_id d mem ≡ Some id → SpentAt d (take_step d mem) id
  taken_spent id is =
      let free = taken_free d mem sound id is in
      record { issued = free.issued; not_recycled = λ (j, (l, e)). free.not_recycled j l e }

  pub registered_spent : (x : ℕ) → Among (registered_of mem) (ids d mem) x → SpentAt d mem x
  registered_spent x (k, (l, e)) = record {
    issued = rw e at (sound.ids_issued k l).1;
    not_recycled = λ (j, (u, same)). sound.recycled_unregistered j u k l (same ∙ sym e);
  }

-- The recycled ids with one more.
module _ (d : Numbers) (mem : List ℕ) (sound : SoundAt d mem) (id : ℕ) (room : recycled_of mem ≤ d.places) where
  pub recycle_has : (x : ℕ) → Recycled d (recycle_step d id mem) x ↔ ((x ≡ id) ⊎ Recycled d mem x)
  recycle_has x =
      let changed = recycle_step_changes d mem sound id room in
      let long : 5 * d.places + 1 ≤ length (view d registry mem) = registry_words d mem sound.long_enough in
      rw (changed.new_word, changed.new_registry)
      (recycled_with_has d.places (recycled_of mem) id (view d registry mem) room long x)

  -- Any other id is as spent as before.
  pub recycle_spent : (x : ℕ) → x ≢ id → SpentAt d mem x → SpentAt d (recycle_step d id mem) x
  recycle_spent x other spent = record {
    issued = rw ((recycle_step_changes d mem sound id room).same_word 5 (omega arith) (omega arith)) spent.issued;
    not_recycled = λ again. ⊎_elim other spent.not_recycled ((recycle_has x).0 again);
  }

-- Given back, an id is recycled as it was, or as good as not issued.
pub back_none :
    (d : Numbers) (mem mid : List ℕ) (id : ℕ) → NoneFreed d mem mid → (id < next_of mem → Recycled d mem id) → SoundAt d mid
    → recycled_of mid ≤ d.places → NoneFreed d mem (recycle_step d id mid)
back_none d mem mid id none from sound room = record {
  next_grows = omega (arith, none.next_grows, (recycle_step_changes d mid sound id room).same_word 5 (omega arith) (omega arith));
  none_joins = λ x l again.
      ⊎_elim (λ is. subst (Recycled d mem) (sym is) (from (omega arith))) (none.none_joins x l)
      ((recycle_has d mid sound id room x).0 again);
}
