-- The steps after which a call goes on keep what the next step asks of a memory, from that and from ranges alone, where the memory need not
-- be sound; and what each leaves of the words of the head.
use Rattle.std.proofs.Common.{◌≡◌, ℕ, ◌+◌, ◌-◌, ◌*◌, ◌%◌, ◌^◌, ◌<◌, ◌≤◌, Bool, true, false, eqb, ◌≢◌, List, length, get_or, set, sym, refl, ◌∙◌, arith, Option, Some, None}
use Rattle.std.proofs.Math.Decide.{ℕ_discrete}
use Rattle.std.proofs.Math.Logic.{by_cases}
use Rattle.answers.specs.Number.{number_of}
use Rattle.base.specs.Choose.{pick}
use Rattle.registry.proofs.CollectionLaws.{collects}
use Rattle.registry.specs.HoldersLaws.{HoldersOnly, held_only}
use Rattle.registry.specs.Ids.{first_taken}
use Rattle.registry.specs.IdsLaws.{length_taken}
use Rattle.registry.specs.Registering.{registered, list_given, unregistered, collected}
use Rattle.registry.specs.RegisteringLaws.{length_registered, list_given_only}
use Rattle.registry.specs.UnregisteringLaws.{length_unregistered}
use Rattle.space.specs.Change.{insert_out}
use Rattle.space.specs.Lookup.{counted}
use Rattle.space.specs.Sound.{SpaceOf}
use Rattle.space.proofs.laws.Tests.{space_exactly}
use Rattle.space.proofs.laws.Kept.{lookup_keeps, insert_keeps}
use Rattle.table.specs.Slots.{id_of}
use Rattle.table.specs.declared.CapabilityEntry.{CapabilityEntry}
use Rattle.world.specs.Numbers.{next_of, registered_of, recycled_of}
use Rattle.world.specs.Regions.{space, registry, view, on_region}
use Rattle.world.specs.Sound.{recycled}
use Rattle.world.specs.Views.{Change, length_kept, view_same, head_kept, registry_words}
use Rattle.world.specs.declared.Numbers.{Numbers}
use Rattle.steps.specs.Ready.{Ready}
use Rattle.steps.specs.Steps.{space_of, lookup_step, hold_step, insert_step, taken_id, take_step, register_step, list_step, unregister_step, collect_step, add_step}
use Rattle.steps.proofs.ChangingEntries.{still_fits}
use Rattle.steps.proofs.laws.Ready.{ready_space}
use Rattle.steps.proofs.laws.RegistryChanged.{registry_in, RegistryChanged, registry_changed, word_changed, only_registry_changed}
use Rattle.steps.proofs.laws.SpaceChanged.{other_space}
use Rattle.steps.proofs.laws.Taking.{take_by_cases}

-- The memory is ready, and the words of the head are as they were.
pub record Stays (d : Numbers) (mem after : List ℕ) : Type 0 where
  pub ready : Ready d after
  pub head : (i : ℕ) → i < 16 → get_or after i 0 ≡ get_or mem i 0

-- The memory is ready, and of the words of the head word i alone is new, v.
pub record Leaves (d : Numbers) (i v : ℕ) (mem after : List ℕ) : Type 0 where
  pub ready : Ready d after
  pub word : get_or after i 0 ≡ v
  pub others : (j : ℕ) → j < 16 → j ≢ i → get_or after j 0 ≡ get_or mem j 0

stays_trans : (d : Numbers) (mem mid after : List ℕ) → Stays d mem mid → Stays d mid after → Stays d mem after
stays_trans d mem mid after h g = record { ready = g.ready; head = λ i l. g.head i l ∙ h.head i l }

-- ---- one change

module _ (d : Numbers) (mem : List ℕ) (ready : Ready d mem) where
  -- A memory of the same length is ready by its two counts and its spaces.
  again :
      (after : List ℕ) → length after ≡ length mem → registered_of after ≤ d.places → recycled_of after ≤ d.places + 1
      → ((s : ℕ) → s < d.spaces → SpaceOf d.most (space_of d s after)) → Ready d after
  again after same registered recycled spaces = record {
    fits = still_fits d mem after ready same;
    head = rw same ready.head;
    registered_fit = registered;
    recycled_fit = recycled;
    spaces_tested = λ s l. (space_exactly d.most (space_of d s after)).1 (spaces s l).sound;
  }

  -- A space changes,
  pub space_stays :
      (s : ℕ) → s < d.spaces → (f : List ℕ → List ℕ) → SpaceOf d.most (f (space_of d s mem)) → Stays d mem (on_region d (space s) f mem)
  space_stays s valid f keeps =
      let ch : Change d (space s) f mem =
      record { valid = valid; long = ready.fits.long_enough; kept = keeps.size ∙ sym (ready_space d mem ready s valid).size } in
      let same : (i : ℕ) → i < 16 → get_or (on_region d (space s) f mem) i 0 ≡ get_or mem i 0 = head_kept d (space s) f mem ch refl in
      record {
        ready =
            again (on_region d (space s) f mem) (length_kept d (space s) f mem ch)
            (omega (arith, same 11 (omega arith), ready.registered_fit))
            (omega (arith, same 12 (omega arith), ready.recycled_fit))
            (λ k l.
            by_cases (ℕ_discrete k s)
            (λ here. rw (here, view_same d (space s) f mem ch) keeps)
            (λ other. rw (other_space d s f mem ch k l other) (ready_space d mem ready k l)));
        head = same;
      }

  -- or the registry and a word of the head, in range where it is a count.
  changed_leaves :
      (rg : List ℕ) (i v : ℕ) (after : List ℕ) → RegistryChanged d rg i v mem after → (i ≡ 11 → v ≤ d.places)
      → (i ≡ 12 → v ≤ d.places + 1) → Leaves d i v mem after
  changed_leaves rg i v after changed registered recycled = record {
    ready =
        again after changed.apart.same_length (still_few 11 d.places (omega arith) registered ready.registered_fit)
        (still_few 12 (d.places + 1) (omega arith) recycled ready.recycled_fit)
        (λ s l. rw (changed.same_space s l) (ready_space d mem ready s l));
    word = changed.new_word;
    others = changed.same_word;
  }
    where
      still_few : (j most : ℕ) → j < 16 → (i ≡ j → v ≤ most) → get_or mem j 0 ≤ most → get_or after j 0 ≤ most
      still_few j most l new old =
          by_cases (ℕ_discrete j i)
          (λ here. rw (here, changed.new_word) (new (sym here)))
          (λ other. rw (changed.same_word j l other) old)

  pub registry_and_word_leaves :
      (f : List ℕ → List ℕ) → length (f (view d registry mem)) ≡ length (view d registry mem) → (i v : ℕ) → 5 ≤ i → i < 13
      → (i ≡ 11 → v ≤ d.places) → (i ≡ 12 → v ≤ d.places + 1) → Leaves d i v mem (set (on_region d registry f mem) i v)
  registry_and_word_leaves f kept i v low high =
      changed_leaves _ i v _ (registry_changed d mem ready.fits.long_enough f i v low high kept)

  -- Only the word,
  pub word_leaves : (i v : ℕ) → 5 ≤ i → i < 11 → Leaves d i v mem (set mem i v)
  word_leaves i v low high =
      changed_leaves _ i v _ (word_changed d mem ready.fits.long_enough i v low (omega arith)) (λ e. omega arith) (λ e. omega arith)

  -- or only the registry.
  pub registry_stays :
      (f : List ℕ → List ℕ) → length (f (view d registry mem)) ≡ length (view d registry mem) → Stays d mem (on_region d registry f mem)
  registry_stays f kept =
      let changed = only_registry_changed d mem ready.fits.long_enough f kept in
      record {
        ready = (changed_leaves _ 12 (recycled_of mem) _ changed (λ e. omega arith) (λ e. ready.recycled_fit)).ready;
        head = λ i l. by_cases (ℕ_discrete i 12) (λ here. rw here changed.new_word) (λ other. changed.same_word i l other);
      }

-- ---- two changes

module _ (d : Numbers) (mem : List ℕ) (ready : Ready d mem) where
  -- Holders, after what left the memory as `mid`.
  holders_stay :
      (mid : List ℕ) (g : List ℕ → List ℕ) → Stays d mem mid
      → ((rg : List ℕ) → 5 * d.places + 1 ≤ length rg → HoldersOnly d.places rg (g rg)) → Stays d mem (on_region d registry g mid)
  holders_stay mid g st counts =
      let long : 5 * d.places + 1 ≤ length (view d registry mid) =
      registry_words d mid st.ready.fits.long_enough in
      stays_trans d mem mid (on_region d registry g mid) st
      (registry_stays d mid st.ready g (counts (view d registry mid) long).same_length)

-- ---- the steps of a space

module _ (d : Numbers) (mem : List ℕ) (ready : Ready d mem) (s : ℕ) (valid : s < d.spaces) where
  abbrev sp : List ℕ
  sp = space_of d s mem

  of_space : SpaceOf d.most sp
  of_space = ready_space d mem ready s valid

  pub lookup_stays : (token : ℕ) → Stays d mem (lookup_step d s token mem)
  unfolding lookup_step
  lookup_stays token = space_stays d mem ready s valid (λ sp. counted sp token) (lookup_keeps d.most sp of_space token)

  pub insert_stays : (e : CapabilityEntry) → e.rights.0 < 2 ^ 32 → Stays d mem (insert_step d s e mem)
  unfolding insert_step hold_step
  insert_stays e rights = go (eqb (number_of (insert_out sp e).answer) 0)
    where
      after : List ℕ
      after = on_region d (space s) (λ sp. (insert_out sp e).words) mem

      came : Stays d mem after
      came = space_stays d mem ready s valid (λ sp. (insert_out sp e).words) (insert_keeps d.most sp of_space e rights)

      go : (b : Bool) → Stays d mem (pick b (hold_step d (registered_of mem) (id_of e) after) after)
      go true =
          holders_stay d mem ready after _ came
          (λ rg long. held_only d.places (registered_of mem) rg ready.registered_fit long (id_of e))
      go false = came

  pub ready_lookup : (token : ℕ) → Ready d (lookup_step d s token mem)
  ready_lookup token = (lookup_stays token).ready

-- ---- taking an id

-- An id was taken, or none: the words of the head stay but for the next id and the count of recycled ids. Where one was taken, there is
-- room to recycle it.
pub record Takes (d : Numbers) (mem : List ℕ) (taken : Option ℕ) (after : List ℕ) : Type 0 where
  pub ready : Ready d after
  pub others : (j : ℕ) → j < 16 → j ≢ 5 → j ≢ 12 → get_or after j 0 ≡ get_or mem j 0
  pub room : (id : ℕ) → taken ≡ Some id → recycled_of after ≤ d.places

module _ (d : Numbers) (mem : List ℕ) (ready : Ready d mem) where
  open registry_in d mem use {rg, n, m}

  long : 5 * d.places + 1 ≤ length rg
  long = registry_words d mem ready.fits.long_enough

  again_taken : 0 < m → Takes d mem (Some (recycled d mem 0)) (set (on_region d registry (first_taken d.places m) mem) 12 (m - 1))
  again_taken some =
      let leaves =
      registry_and_word_leaves d mem ready (first_taken d.places m) (length_taken d.places m rg some ready.recycled_fit long)
      12 (m - 1) (omega arith) (omega arith) (λ e. omega arith) (λ e. omega (arith, ready.recycled_fit)) in
      record {
        ready = leaves.ready;
        others = λ j l not_next not_recycled. leaves.others j l not_recycled;
        room = λ id is. omega (arith, leaves.word, ready.recycled_fit);
      }

  next_taken : m ≤ 0 → Takes d mem (Some (next_of mem)) (set mem 5 (next_of mem + 1))
  next_taken none =
      let leaves = word_leaves d mem ready 5 (next_of mem + 1) (omega arith) (omega arith) in
      record {
        ready = leaves.ready;
        others = λ j l not_next not_recycled. leaves.others j l not_next;
        room = λ id is. omega (arith, leaves.others 12 (omega arith) (λ e. omega arith));
      }

  none_taken : Takes d mem None mem
  none_taken = record {
    ready = ready;
    others = λ j l not_next not_recycled. refl;
    room = λ id is. let z : ◌≡◌ {A = ℕ} 0 1 = cc in absurd (omega arith);
  }

  pub take_leaves : Takes d mem (taken_id d mem) (take_step d mem)
  take_leaves = take_by_cases d mem (Takes d mem) again_taken (λ none more. next_taken none) none_taken

  pub ready_take : Ready d (take_step d mem)
  ready_take = take_leaves.ready

  pub take_room : (id : ℕ) → taken_id d mem ≡ Some id → recycled_of (take_step d mem) ≤ d.places
  take_room = take_leaves.room

  -- ---- the steps of the registry

  module _ (id object link : ℕ) (room : registered_of mem < d.places) where
    pub register_leaves : Leaves d 11 (registered_of mem + 1) mem (register_step d id object link mem)
    unfolding register_step
    register_leaves =
        registry_and_word_leaves d mem ready (registered d.places n id object link)
        (length_registered d.places n id object link rg room long) 11 (n + 1) (omega arith) (omega arith) (λ e. omega arith)
        (λ e. omega arith)

  module _ (p : ℕ) (inside : p < d.places) where
    pub list_stays : Stays d mem (list_step d p mem)
    unfolding list_step
    list_stays = registry_stays d mem ready (list_given d.places p) (list_given_only d.places p rg inside long).same_length

  module _ (k : ℕ) (inside : k < registered_of mem) where
    pub unregister_leaves : Leaves d 11 (registered_of mem - 1) mem (unregister_step d k mem)
    unfolding unregister_step
    unregister_leaves =
        registry_and_word_leaves d mem ready (unregistered d.places n k)
        (length_unregistered d.places n k rg inside ready.registered_fit long) 11 (n - 1) (omega arith) (omega arith)
        (λ e. omega (arith, ready.registered_fit)) (λ e. omega arith)

  module _ (p : ℕ) where
    -- No more are left than there were; p need not be registered.
    pub collect_leaves : Leaves d 11 (collected d.places p (registered_of mem) (view d registry mem)).left mem (collect_step d p mem)
    unfolding collect_step collected
    collect_leaves =
        let whole = collects d.places p n n rg (omega arith) ready.registered_fit long in
        registry_and_word_leaves d mem ready (λ rg. (collected d.places p n rg).words) whole.same_length
        11 (collected d.places p n rg).left (omega arith) (omega arith) (λ e. omega (arith, whole.fewer, ready.registered_fit))
        (λ e. omega arith)

    pub ready_collect : Ready d (collect_step d p mem)
    ready_collect = collect_leaves.ready

  pub add_leaves : (i k : ℕ) → 6 ≤ i → i < 11 → Leaves d i ((get_or mem i 0 + k) % 2 ^ 64) mem (add_step i k mem)
  unfolding add_step
  add_leaves i k low high = word_leaves d mem ready i _ (omega arith) high
