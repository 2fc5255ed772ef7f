-- Taking an id keeps a sound memory, and the id taken is free: in 1..2^48-1, issued, not registered, and recycled no more.
use Rattle.std.proofs.Common.{◌≡◌, ℕ, ◌+◌, ◌-◌, ◌*◌, ◌^◌, ◌<◌, ◌≤◌, ◌≢◌, List, length, set, sym, ap, ◌∙◌, subst, arith, Some}
use Rattle.registry.specs.Ids.{first_taken}
use Rattle.registry.specs.IdsLaws.{length_taken, taken_keeps, taken_unregistered, taken_smallest}
use Rattle.registry.specs.Words.{id_at, recycled_at}
use Rattle.world.specs.Numbers.{next_of, registered_of, recycled_of}
use Rattle.world.specs.Regions.{registry, on_region}
use Rattle.world.specs.Sound.{ids, recycled, spaces_with, SoundAt}
use Rattle.world.specs.Views.{registry_words}
use Rattle.world.specs.declared.Numbers.{Numbers}
use Rattle.steps.specs.Steps.{taken_id, take_step}
use Rattle.steps.proofs.laws.Kept.{Kept, kept_refl, registry_rules}
use Rattle.steps.proofs.laws.RegistryChanged.{registry_in, RegistryChanged, registry_changed, word_changed, changed_kept, recycled_changed_kept}
use Rattle.steps.proofs.laws.Taking.{take_by_cases}

-- The id i is free to be registered.
pub record Free (d : Numbers) (mem : List ℕ) (i : ℕ) : Type 0 where
  pub positive : 1 ≤ i
  pub fits : i < 2 ^ 48
  pub issued : i < next_of mem
  pub unregistered : (k : ℕ) → k < registered_of mem → ids d mem k ≢ i
  pub not_recycled : (k : ℕ) → k < recycled_of mem → recycled d mem k ≢ i

module _ (d : Numbers) (mem : List ℕ) (sound : SoundAt d mem) where
  open registry_in d mem use {rg, n, m, next}

  -- ---- the smallest recycled id

  module _ (some : 0 < recycled_of mem) where
    abbrev left : List ℕ
    left = first_taken d.places m rg

    abbrev after : List ℕ
    after = set (on_region d registry (first_taken d.places m) mem) 12 (m - 1)

    long : 5 * d.places + 1 ≤ length rg
    long = registry_words d mem sound.long_enough

    pub one_less : RegistryChanged d left 12 (m - 1) mem after
    one_less =
        registry_changed d mem sound.long_enough (first_taken d.places m) 12 (m - 1) (omega arith) (omega arith)
        (length_taken d.places m rg some sound.recycled_fit long)

    same_registered : registered_of after ≡ n
    same_registered = one_less.same_word 11 (omega arith) (λ e. omega arith)

    same_next : next_of after ≡ next
    same_next = one_less.same_word 5 (omega arith) (λ e. omega arith)

    recycled_kept : Kept d mem after
    recycled_kept =
        recycled_changed_kept d mem sound left (m - 1) after one_less (omega (arith, sound.recycled_fit))
        (taken_keeps d.places m rg some sound.recycled_fit long n next sound.registered_fit (spaces_with d mem)
        (registry_rules d mem sound))

    recycled_free : Free d after (recycled d mem 0)
    recycled_free =
        let (low, high) = sound.recycled_issued 0 some in
        let rules = (registry_rules d mem sound).recycled in
        record {
          positive = low;
          fits = omega (arith, sound.next_high);
          issued = rw same_next high;
          unregistered = λ k l e.
              taken_unregistered d.places m rg some sound.recycled_fit long n next sound.registered_fit rules k
              (rw same_registered at l) (sym e ∙ ap (λ ws. id_at ws k) one_less.new_registry);
          not_recycled = λ k l e.
              let smallest =
              taken_smallest d.places m rg some sound.recycled_fit long n next sound.registered_fit rules k
              (rw one_less.new_word at l) in
              omega (arith, smallest, ap (λ ws. recycled_at d.places ws k) one_less.new_registry);
        }

  -- ---- the next id

  module _ (more : next_of mem < 2 ^ 48) where
    abbrev upped : List ℕ
    upped = set mem 5 (next + 1)

    pub one_more : RegistryChanged d rg 5 (next + 1) mem upped
    one_more = word_changed d mem sound.long_enough 5 (next + 1) (omega arith) (omega arith)

    registered_as_was : registered_of upped ≡ n
    registered_as_was = one_more.same_word 11 (omega arith) (λ e. omega arith)

    recycled_as_was : recycled_of upped ≡ m
    recycled_as_was = one_more.same_word 12 (omega arith) (λ e. omega arith)

    next_kept : Kept d mem upped
    next_kept =
        changed_kept d mem sound rg 5 (next + 1) upped one_more n m (next + 1) registered_as_was recycled_as_was one_more.new_word
        sound.registered_fit sound.recycled_fit (omega arith) (omega arith)
        (record {
          registered = record {
            differ = sound.ids_differ;
            issued = λ k l. omega (arith, sound.ids_issued k l);
            linked = sound.linked;
            parent_has_list = sound.parent_has_list;
            short = sound.short;
            cascaded = sound.cascaded;
          };
          recycled = record {
            ascend = sound.recycled_ascend;
            unregistered = sound.recycled_unregistered;
            issued = λ k l. omega (arith, sound.recycled_issued k l);
          };
          held = sound.held;
        })

    next_free : Free d upped next
    next_free = record {
      positive = sound.next_low;
      fits = more;
      issued = rw one_more.new_word (omega arith);
      unregistered = λ k l e.
          let is : ids d mem k ≡ next = sym (ap (λ ws. id_at ws k) one_more.new_registry) ∙ e in
          omega (arith, sound.ids_issued k (rw registered_as_was at l));
      not_recycled = λ k l e.
          let is : recycled d mem k ≡ next = sym (ap (λ ws. recycled_at d.places ws k) one_more.new_registry) ∙ e in
          omega (arith, sound.recycled_issued k (rw recycled_as_was at l));
    }

  -- ---- either

  pub take_step_kept : Kept d mem (take_step d mem)
  take_step_kept =
      take_by_cases d mem (λ t after. Kept d mem after) recycled_kept (λ none. next_kept) (kept_refl d mem sound)

  pub taken_free : (i : ℕ) → taken_id d mem ≡ Some i → Free d (take_step d mem) i
  taken_free i =
      take_by_cases d mem (λ t after. t ≡ Some i → Free d after i)
      (λ some e. subst (Free d _) (cc) (recycled_free some))
      (λ none more e. subst (Free d _) (cc) (next_free more))
      (λ e. let z : ◌≡◌ {A = ℕ} 0 1 = cc in absurd (omega arith))
