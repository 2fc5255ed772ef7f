-- What the census and the statistics of derivation count: the live entries of a space whose id is not registered, the ids that have a list
-- of children, and the children.
use Rattle.std.proofs.Common.{Bool, true, false, not, List, ◌∷◌, ◌↔◌, ◌≢◌, ◌≡◌, refl, ap, ◌∙◌, ℕ, zero, suc, ◌+◌, ◌<◌, ◌≤◌, add-zero, add-suc, suc-add, zero-add, arith, ltb-false, le-ltb, eqb, ltb}
use Rattle.std.proofs.Math.Decide.{dec_lt}
use Rattle.std.proofs.Math.Logic.{by_cases}
use Rattle.std.proofs.lemmas.Bool.{not-true}
use Rattle.base.specs.Below.{sum, one}
use Rattle.base.specs.Choose.{pick, both}
use Rattle.base.specs.Exactly.{eqb_exactly, unequal_exactly, both_exactly}
use Rattle.base.specs.SumLaws.{sum-zero, sum_ext}
use Rattle.registry.specs.Children.{parents, edges, strays}
use Rattle.registry.specs.Holders.{place_of}
use Rattle.registry.specs.RegisteringLaws.{registered_among}
use Rattle.registry.specs.Words.{has_list}
use Rattle.space.specs.Ids.{ids_of, entry_ids}
use Rattle.space.specs.Words.{table_of, slot_words}
use Rattle.steps.specs.Replies.{refusal, Reply}
use Rattle.steps.specs.Steps.{space_of}
use Rattle.steps.proofs.laws.Entered.{world_called, space_called}
use Rattle.table.specs.Insert.{live_entries}
use Rattle.table.specs.Slots.{is_live, id_of, entry_at}
use Rattle.table.specs.declared.CapabilityEntry.{CapabilityEntry}
use Rattle.world.specs.Numbers.{numbers_of, registered_of}
use Rattle.world.specs.Regions.{registry, view}
use Rattle.world.specs.Sound.{ids, states, links, Sound}
use Rattle.world.specs.declared.Numbers.{Numbers}
use Rattle.manager_calls.specs.Calls.{tree_stats_out, census_out, TreeReply}

-- m of the numbers below n have P: there is a test that exactly those pass, and m pass it.
pub record Counts (n : ℕ) (P : ℕ → Type 0) (m : ℕ) : Type 0 where
  pub test : ℕ → Bool
  pub exactly : (k : ℕ) → k < n → (test k ≡ true) ↔ P k
  pub number : m ≡ sum (λ k. one (test k)) n

-- ---- the census

-- Slot i of space s has a stray: it is live, and the id of its entry is at no registered place.
pub record Stray (mem : List ℕ) (s i : ℕ) : Type 0 where
  pub live : is_live (slot_words (space_of (numbers_of mem) s mem)) i ≡ true
  pub unregistered :
      (k : ℕ) → k < registered_of mem → ids (numbers_of mem) mem k ≢ id_of (entry_at (slot_words (space_of (numbers_of mem) s mem)) i)

module _ (n : ℕ) (rg ws : List ℕ) where
  -- The id is not registered.
  abbrev strange : ℕ → Bool
  strange id = not (ltb (place_of n rg id) n)

  abbrev stray_at : ℕ → Bool
  stray_at i = both (is_live ws i) (strange (id_of (entry_at ws i)))

  abbrev strays_in : ℕ → ℕ
  strays_in i = sum (λ j. one (stray_at j)) i

  strays_next :
      (b : Bool) (e : CapabilityEntry) (es : List CapabilityEntry)
      → strays n rg (ids_of (pick b (e ∷ es) es)) ≡ one (both b (strange (id_of e))) + strays n rg (ids_of es)
  unfolding strays ids_of
  strays_next true e es = refl
  strays_next false e es = omega arith

  -- The strays below slot i, then those of the m slots from i on.
  strays_from : (m i : ℕ) → strays_in i + strays n rg (ids_of (live_entries ws i m)) ≡ strays_in (i + m)
  unfolding live_entries ids_of strays sum
  strays_from zero i = omega (arith, ap strays_in (add-zero i))
  strays_from (suc m) i =
      omega (
        arith,
        strays_next (is_live ws i) (entry_at ws i) (live_entries ws (suc i) m),
        strays_from m (suc i),
        ap strays_in (add-suc i m),
        ap strays_in (suc-add i m),
      )

  strays_in_slots : (slots : ℕ) → strays n rg (ids_of (live_entries ws 0 slots)) ≡ strays_in slots
  strays_in_slots slots = omega (arith, sum-zero (λ j. one (stray_at j)), strays_from slots 0, ap strays_in (zero-add slots))

  strange_exactly : (id : ℕ) → (strange id ≡ true) ↔ (n ≤ place_of n rg id)
  strange_exactly id = (
    λ h. ltb-false (place_of n rg id) n (not-true (ltb (place_of n rg id) n) h),
    λ over. ap not (le-ltb (place_of n rg id) n over),
  )

module _ (mem : List ℕ) (sound : Sound mem) where
  abbrev d : Numbers
  d = numbers_of mem

  abbrev rg : List ℕ
  rg = view d registry mem

  pub census_counts :
      (s : ℕ) → s < (numbers_of mem).spaces
      → Counts (table_of (space_of (numbers_of mem) s mem)).slots (Stray mem s) (census_out mem s).value
  unfolding census_out entry_ids
  census_counts s there = record {
    test = stray_at (registered_of mem) rg ws;
    exactly = λ i l. (stray i, test i);
    number = ap (λ (r : Reply). r.value) (space_called refusal mem _ sound s there) ∙ strays_in_slots (registered_of mem) rg ws slots;
  }
    where
      ws : List ℕ
      ws = slot_words (space_of d s mem)

      slots : ℕ
      slots = (table_of (space_of d s mem)).slots

      stray : (i : ℕ) → stray_at (registered_of mem) rg ws i ≡ true → Stray mem s i
      stray i h =
          let (live, strange) = (both_exactly (is_live ws i) _).0 h in
          let outside = (strange_exactly (registered_of mem) rg ws (id_of (entry_at ws i))).0 strange in
          record {
            live = live;
            unregistered = λ k l same. omega (arith, (registered_among (registered_of mem) rg (id_of (entry_at ws i))).1 (k, (l, same)));
          }

      test : (i : ℕ) → Stray mem s i → stray_at (registered_of mem) rg ws i ≡ true
      test i h =
          (both_exactly (is_live ws i) _).1 (
            h.live,
            (strange_exactly (registered_of mem) rg ws (id_of (entry_at ws i))).1
                (by_cases (dec_lt (place_of (registered_of mem) rg (id_of (entry_at ws i))) (registered_of mem))
                (λ inside.
                let (k, (l, same)) = (registered_among (registered_of mem) rg (id_of (entry_at ws i))).0 inside in
                absurd (h.unregistered k l same))
                (λ outside. omega arith)),
          )

  -- ---- the statistics of derivation

  bit_one : (b : ℕ) → b < 2 → b ≡ one (eqb b 1)
  bit_one zero l = refl
  bit_one (suc zero) l = refl
  bit_one (suc (suc b)) l = absurd (omega arith)

  -- The registered ids that have a list of children, which may be empty.
  pub parents_counted : Counts (registered_of mem) (λ k. has_list (states (numbers_of mem) mem k) ≡ 1) (tree_stats_out mem).parents
  unfolding tree_stats_out parents
  parents_counted = record {
    test = λ k. eqb (has_list (states d mem k)) 1;
    exactly = λ k l. eqb_exactly (has_list (states d mem k)) 1;
    number =
        ap (λ (r : TreeReply). r.parents) (world_called _ mem _ sound)
        ∙ sum_ext _ (λ k. one (eqb (has_list (states d mem k)) 1)) (registered_of mem)
        (λ k l. bit_one (has_list (states d mem k)) (omega arith));
  }

  -- The registered ids that are children of a registered one.
  pub children_counted :
      Counts (registered_of mem) (λ k. (p : ℕ) × ((p < registered_of mem) × (links (numbers_of mem) mem k ≡ suc p)))
      (tree_stats_out mem).children
  unfolding tree_stats_out edges
  children_counted = record {
    test = λ k. not (eqb (links d mem k) 0);
    exactly = λ k l. (
      λ h. parent k l (links d mem k) refl ((unequal_exactly (links d mem k) 0).0 h),
      λ (p, (inside, is)). (unequal_exactly (links d mem k) 0).1 (λ none. omega arith),
    );
    number = ap (λ (r : TreeReply). r.children) (world_called _ mem _ sound);
  }
    where
      parent :
          (k : ℕ) → k < registered_of mem → (link : ℕ) → links d mem k ≡ link → (links d mem k ≡ 0 → ⊥)
          → (p : ℕ) × ((p < registered_of mem) × (links d mem k ≡ suc p))
      parent k l zero is some = absurd (some is)
      parent k l (suc p) is some = (p, (omega (arith, sound.linked k l), is))
