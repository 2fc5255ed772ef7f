-- The look's pass over the spaces counts each entry at the place of its id. In sound tables ids differ, so what it counts for an id is
-- the spaces that have an entry of that id.
use Rattle.std.specs.Prelude.{◌≡◌, refl, Bool, true, false, not, List, ℕ, zero, suc, ◌+◌, ◌*◌, ◌<◌, ◌≤◌, eqb, leb, length, get_or, take}
use Rattle.std.proofs.Common.{sym, ap, ◌∙◌, add-zero, add-suc, arith, eqb-true, length-take-le, get_or-take, add-one}
use Rattle.base.specs.AllLaws.{all_more, all_ext}
use Rattle.base.specs.Below.{all, sum, one}
use Rattle.base.specs.Choose.{pick, both, both_left, both_right, both_true, both_false, refuted}
use Rattle.base.specs.Distinct.{all_different}
use Rattle.base.specs.Exactly.{eqb_swap}
use Rattle.base.specs.Compacted.{fold, passing, compacted, length_compacted, compacted_fold}
use Rattle.base.specs.SumLaws.{sum_const_zero}
use Rattle.table.specs.Slots.{is_live, id_at}
use Rattle.table.specs.Sound.{Capacity, no_slots, some_slots}
use Rattle.registry.specs.Counts.{count_entry, entry_counted, length_counted, AtMost, at_most_more, count_entries}
use Rattle.registry.specs.Sound.{within_test, held_test}
use Rattle.registry.specs.Words as reg
use Rattle.space.specs.Sound.{SoundSpace, space_test}
use Rattle.space.specs.Words.{table_of, slot_words, words_for}
use Rattle.space.proofs.laws.Tests.{space_exactly}
use Rattle.world.specs.Regions.{space, view}
use Rattle.world.specs.Sound.{entry_of, has_entry}
use Rattle.world.specs.declared.Numbers.{Numbers}

-- ---- the pass

-- A live slot counts for the place of its id.
unfoldable pub count_slot : List ℕ → List ℕ → ℕ → List ℕ → List ℕ
count_slot ids ws i counts = pick (is_live ws i) (count_entry ids (id_at ws i) counts) counts

-- The first n slots.
unfoldable pub count_slots : List ℕ → List ℕ → ℕ → List ℕ → List ℕ
count_slots ids ws n counts = fold (count_slot ids ws) n counts

-- How many of the first n slots are live.
abbrev pub live_below : List ℕ → ℕ → ℕ
live_below ws n = passing (is_live ws) n

-- The ids of the live ones of the first n slots, over what stood there.
unfoldable pub live_ids : List ℕ → ℕ → List ℕ → List ℕ
live_ids ws n xs = compacted (id_at ws) (is_live ws) n xs

pub length_live : (ws : List ℕ) (n : ℕ) (xs : List ℕ) → length (live_ids ws n xs) ≡ length xs
unfolding live_ids
length_live ws n xs = length_compacted (id_at ws) (is_live ws) n xs

-- An entry of each of these ids is what the slots count.
pub live_counted :
    (ids ws : List ℕ) (n : ℕ) (xs counts : List ℕ) → n ≤ length xs
    → count_entries ids (live_ids ws n xs) (live_below ws n) counts ≡ count_slots ids ws n counts
unfolding count_entries count_slots count_slot live_ids
live_counted ids ws n xs counts room = compacted_fold (count_entry ids) counts (id_at ws) (is_live ws) n xs room

-- ---- no counter goes up by more than the slots

pub few_more : (e e' : ℕ) (counts : List ℕ) → AtMost e counts → e ≤ e' → AtMost e' counts
few_more e e' counts few l = record { most = λ k. omega (arith, few.most k) }

few_slot : (e : ℕ) (ids ws : List ℕ) (i : ℕ) (counts : List ℕ) → AtMost e counts → AtMost (suc e) (count_slot ids ws i counts)
unfolding count_slot
few_slot e ids ws i counts few = go (is_live ws i)
  where
    go : (live : Bool) → AtMost (suc e) (pick live (count_entry ids (id_at ws i) counts) counts)
    go true = rw add-one at (at_most_more e ids (id_at ws i) counts few)
    go false = few_more e (suc e) counts few (omega arith)

few_slots : (e : ℕ) (ids ws : List ℕ) (n : ℕ) (counts : List ℕ) → AtMost e counts → AtMost (e + n) (count_slots ids ws n counts)
unfolding count_slots fold
few_slots e ids ws zero counts few = few_more e (e + 0) counts few (omega arith)
few_slots e ids ws (suc n) counts few = rw add-suc
    (few_slot (e + n) ids ws n (count_slots ids ws n counts) (few_slots e ids ws n counts few))

length_slot : (ids ws : List ℕ) (i : ℕ) (counts : List ℕ) → length (count_slot ids ws i counts) ≡ length counts
unfolding count_slot
length_slot ids ws i counts = go (is_live ws i)
  where
    go : (live : Bool) → length (pick live (count_entry ids (id_at ws i) counts) counts) ≡ length counts
    go true = length_counted ids (id_at ws i) counts
    go false = refl

-- ---- what it counts

-- Of each registered id, f of the id is counted.
pub record Tally (ids : List ℕ) (f : ℕ → ℕ) (counts : List ℕ) : Type 0 where
  pub differ : all_different ids ≡ true
  pub room : length ids ≤ length counts
  pub count : (k : ℕ) → k < length ids → get_or counts k 0 ≡ f (get_or ids k 0)

tally_none : (ids counts : List ℕ) → all_different ids ≡ true → length ids ≤ length counts → AtMost 0 counts → Tally ids (λ id. 0) counts
tally_none ids counts different room none =
    record { differ = different; room = room; count = λ k l. omega (arith, none.most k) }

tally_ext : (ids : List ℕ) (f g : ℕ → ℕ) (counts : List ℕ) → Tally ids f counts → ((id : ℕ) → f id ≡ g id) → Tally ids g counts
tally_ext ids f g counts tally same =
    record { differ = tally.differ; room = tally.room; count = λ k l. tally.count k l ∙ same (get_or ids k 0) }

slot_counts :
    (ids ws : List ℕ) (i : ℕ) (counts : List ℕ) (k : ℕ) → all_different ids ≡ true → length ids ≤ length counts → k < length ids
    → get_or (count_slot ids ws i counts) k 0 ≡ get_or counts k 0 + one (entry_of ws (get_or ids k 0) i)
unfolding count_slot
slot_counts ids ws i counts k different long inside = go (is_live ws i)
  where
    go : (live : Bool) → get_or (pick live (count_entry ids (id_at ws i) counts) counts) k 0
        ≡ get_or counts k 0 + one (both live (eqb (id_at ws i) (get_or ids k 0)))
    go true = rw eqb_swap (entry_counted ids (id_at ws i) counts k different long inside)
    go false = rw add-zero

-- How many of the first n slots hold an entry of the id.
abbrev entries_in : List ℕ → ℕ → ℕ → ℕ
entries_in ws n id = sum (λ i. one (entry_of ws id i)) n

tally_slots :
    (ids : List ℕ) (f : ℕ → ℕ) (ws : List ℕ) (n : ℕ) (counts : List ℕ) → Tally ids f counts
    → Tally ids (λ id. f id + entries_in ws n id) (count_slots ids ws n counts)
unfolding count_slots fold sum
tally_slots ids f ws zero counts tally = tally_ext ids f (λ id. f id + 0) counts tally (λ id. sym (add-zero (f id)))
tally_slots ids f ws (suc n) counts tally =
    let before = tally_slots ids f ws n counts tally in
    let counted = count_slots ids ws n counts in
    record {
      differ = tally.differ;
      room = rw length_slot before.room;
      count = λ k l. omega (arith, slot_counts ids ws n counted k tally.differ before.room l, before.count k l);
    }

-- ---- a sound space has at most one entry of an id

-- Of tests that at most one number passes, as many pass as it takes to say that not all fail.
one_alone :
    (p : ℕ → Bool) (n : ℕ) → ((i j : ℕ) → i < n → j < n → p i ≡ true → p j ≡ true → i ≡ j)
    → sum (λ i. one (p i)) n ≡ one (not (all n (λ i. not (p i))))
unfolding sum all
one_alone p zero alone = refl
one_alone p (suc n) alone = go (p n) refl (one_alone p n (λ i j l u. alone i j (omega arith) (omega arith)))
  where
    none : p n ≡ true → (i : ℕ) → i < n → one (p i) ≡ 0
    none here i l = ap one (refuted (p i) (λ e. omega (arith, alone i n (omega arith) (omega arith) e here)))

    go :
        (b : Bool) → p n ≡ b → sum (λ i. one (p i)) n ≡ one (not (all n (λ i. not (p i))))
        → sum (λ i. one (p i)) n + one b ≡ one (not (both (all n (λ i. not (p i))) (not b)))
    go true here before = rw both_false (omega (arith, sum_const_zero (λ i. one (p i)) n (none here)))
    go false _ before = rw (both_true, add-zero) before

one_entry : (most : ℕ) (sp : List ℕ) (id : ℕ) → SoundSpace most sp
    → entries_in (slot_words sp) (table_of sp).slots id ≡ one (has_entry sp id)
unfolding has_entry
one_entry most sp id sound =
    let ws = slot_words sp in
    one_alone (entry_of ws id) (table_of sp).slots
    (λ i j l u p q.
    let same : id_at ws i ≡ id_at ws j =
    eqb-true _ _ (both_right (is_live ws i) (eqb (id_at ws i) id) p)
    ∙ sym (eqb-true _ _ (both_right (is_live ws j) (eqb (id_at ws j) id) q)) in
    sound.table.differ i j l u (both_left (is_live ws i) (eqb (id_at ws i) id) p) (both_left (is_live ws j) (eqb (id_at ws j) id) q) same)

-- So a sound space counts once for each id that it has an entry of.
pub tally_space :
    (ids : List ℕ) (f : ℕ → ℕ) (most : ℕ) (sp counts : List ℕ) → SoundSpace most sp → Tally ids f counts
    → Tally ids (λ id. f id + one (has_entry sp id)) (count_slots ids (slot_words sp) (table_of sp).slots counts)
tally_space ids f most sp counts sound tally =
    tally_ext ids _ (λ id. f id + one (has_entry sp id)) (count_slots ids (slot_words sp) (table_of sp).slots counts)
    (tally_slots ids f (slot_words sp) (table_of sp).slots counts tally)
    (λ id. ap (λ n. f id + n) (one_entry most sp id sound))

-- Its slots fit its words.
pub slots_fit : (most : ℕ) (sp : List ℕ) → SoundSpace most sp → 8 + 4 * (table_of sp).slots ≤ words_for most
slots_fit most sp sound = go sound.table.capacity
  where
    go : Capacity most (table_of sp).slots → 8 + 4 * (table_of sp).slots ≤ words_for most
    go (no_slots e) = omega arith
    go (some_slots k power low high) = omega arith

-- ---- all spaces

-- The first s spaces are sound, and for each id those that have an entry of it are counted.
pub record Looked (d : Numbers) (mem ids : List ℕ) (s : ℕ) (counts : List ℕ) : Type 0 where
  pub sound : all s (λ s. space_test d.most (view d (space s) mem)) ≡ true
  pub tally : Tally ids (λ id. sum (λ s. one (has_entry (view d (space s) mem) id)) s) counts
  pub few : AtMost (s * 512) counts

module _ (d : Numbers) (mem ids : List ℕ) where
  pub looked_none : (counts : List ℕ) → all_different ids ≡ true → length ids ≤ length counts → AtMost 0 counts → Looked d mem ids 0 counts
  unfolding all sum
  looked_none counts different room none = record { sound = refl; tally = tally_none ids counts different room none; few = none }

  pub looked_more :
      (s : ℕ) (counts : List ℕ) → Looked d mem ids s counts → SoundSpace d.most (view d (space s) mem)
      → (table_of (view d (space s) mem)).slots ≤ 512
      → Looked d mem ids (s + 1) (count_slots ids (slot_words (view d (space s) mem)) (table_of (view d (space s) mem)).slots counts)
  unfolding sum
  looked_more s counts looked sound small =
      let sp = view d (space s) mem in
      record {
        sound = all_more s (λ s. space_test d.most (view d (space s) mem)) looked.sound ((space_exactly d.most sp).1 sound);
        tally = rw add-one (tally_space ids (λ id. sum (λ s. one (has_entry (view d (space s) mem) id)) s) d.most sp counts sound
            looked.tally);
        few = few_more (s * 512 + (table_of sp).slots) ((s + 1) * 512) _
            (few_slots (s * 512) ids (slot_words sp) (table_of sp).slots counts looked.few) (omega arith);
      }

-- The holders held against the counts.
pub held_by_tally :
    (n : ℕ) (rg counts : List ℕ) (state spaces : ℕ → ℕ) → n ≤ length rg → Tally (take n rg) spaces counts
    → within_test n state (λ k. get_or counts k 0) ≡ held_test n (reg.id_at rg) state spaces
held_by_tally n rg counts state spaces fits tally =
    let long : length (take n rg) ≡ n = length-take-le n rg fits in
    all_ext n (λ k. leb (reg.holders (state k)) (get_or counts k 0)) (λ k. leb (reg.holders (state k)) (spaces (get_or rg k 0)))
    (λ k l. ap (leb (reg.holders (state k))) (tally.count k (omega arith) ∙ ap spaces (get_or-take n rg k 0 l)))
