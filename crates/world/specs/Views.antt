-- What a change of one region does: its own words are the change's; every other region, every word past the length and the length
-- itself stay. That holds of memory that is long enough and of a change that keeps the number of the region's words.
use Rattle.std.specs.Prelude.{false, List, ◌++◌, ◌≡◌, refl, ℕ, ◌+◌, ◌-◌, ◌*◌, ◌≤◌, ◌<◌, length, get_or, set, take, drop}
use Rattle.std.proofs.Common.{⊎_elim, sym, ap, ◌∙◌, zero-add, arith, length-set, length-drop, take_all}
use Rattle.std.proofs.Math.Nat.{add-sub_cancel_left}
use Rattle.base.specs.Part as part
use Rattle.world.specs.Layout.{Valid, same, inside, apart}
use Rattle.world.specs.Numbers.{numbers_of, numbers_by_words}
use Rattle.world.specs.Regions.{Region, head, registry, queue, length_for, start_of, size_of, view, on_region}
use Rattle.world.specs.declared.Numbers.{Numbers}

-- ---- the words of a region

module _ (d : Numbers) (r : Region) (mem : List ℕ) where
  pub length_view : Valid d r → length_for d ≤ length mem → length (view d r mem) ≡ size_of d r
  length_view valid long = part.length_part (start_of d r) (size_of d r) mem (omega (arith, inside d r valid))

  pub view_word : (i : ℕ) → i < size_of d r → get_or (view d r mem) i 0 ≡ get_or mem (start_of d r + i) 0
  view_word i l = part.get_d_part (start_of d r) (size_of d r) mem i 0 l

  -- A word that is set is a region changed.
  pub set_region : (i v : ℕ) → i < size_of d r → set mem (start_of d r + i) v ≡ on_region d r (λ ws. set ws i v) mem
  set_region i v l = sym (part.on_part-set (start_of d r) (size_of d r) mem i v l)

  -- What a call is lent that is lent the region, from a up to e,
  pub lent_view : (a e : ℕ) → a ≡ start_of d r → a + size_of d r ≡ e → take (e - a) (drop a mem) ≡ view d r mem
  lent_view a e at w = rw (← w, add-sub_cancel_left, at)

  -- and what it leaves.
  pub lent_region : (a e : ℕ) (f : List ℕ → List ℕ) (ws : List ℕ) → a ≡ start_of d r → a + size_of d r ≡ e
      → ws ≡ f (take (e - a) (drop a mem)) → take a mem ++ (ws ++ drop (e - a) (drop a mem)) ≡ on_region d r f mem
  lent_region a e f ws at w h = part.lent a (size_of d r) e f mem ws w h ∙ ap (λ b. part.on_part b (size_of d r) f mem) at

-- How many words the registry and a queue have.
pub registry_words : (d : Numbers) (mem : List ℕ) → length_for d ≤ length mem → 5 * d.places + 1 ≤ length (view d registry mem)
registry_words d mem long = omega (arith, length_view d registry mem tt long)

pub queue_words : (d : Numbers) (mem : List ℕ) → length_for d ≤ length mem → (q : ℕ) → q < d.queues → 771 ≤ length (view d (queue q) mem)
queue_words d mem long q valid = omega (arith, length_view d (queue q) mem valid long)

-- The head's words are the first of the memory.
pub head_word : (d : Numbers) (mem : List ℕ) (i : ℕ) → i < 16 → get_or (view d head mem) i 0 ≡ get_or mem i 0
unfolding start_of
head_word d mem i l = rw zero-add at (view_word d head mem i l)

pub set_head : (d : Numbers) (mem : List ℕ) (i v : ℕ) → i < 16 → set mem i v ≡ on_region d head (λ ws. set ws i v) mem
unfolding start_of
set_head d mem i v l = rw zero-add at (set_region d head mem i v l)

-- ---- a region changed

-- The region is there, the memory is long enough, and the region keeps its number of words.
pub record Change (d : Numbers) (r : Region) (f : List ℕ → List ℕ) (mem : List ℕ) : Type 0 where
  pub valid : Valid d r
  pub long : length_for d ≤ length mem
  pub kept : length (f (view d r mem)) ≡ length (view d r mem)

-- A word set is such a change.
pub set_changes : (d : Numbers) (r : Region) (mem : List ℕ) (i v : ℕ) → Valid d r → length_for d ≤ length mem
    → Change d r (λ ws. set ws i v) mem
set_changes d r mem i v valid long = record { valid = valid; long = long; kept = length-set (view d r mem) i v }

-- It lies within the memory.
within : (d : Numbers) (r : Region) (f : List ℕ → List ℕ) (mem : List ℕ) → Change d r f mem → start_of d r + size_of d r ≤ length mem
within d r f mem ch = omega (arith, inside d r ch.valid)

module _ (d : Numbers) (r : Region) (f : List ℕ → List ℕ) (mem : List ℕ) (ch : Change d r f mem) where
  fits : start_of d r + size_of d r ≤ length mem
  fits = within d r f mem ch

  pub length_kept : length (on_region d r f mem) ≡ length mem
  length_kept = part.length-on_part (start_of d r) (size_of d r) f mem ch.kept

  pub view_same : view d r (on_region d r f mem) ≡ f (view d r mem)
  view_same = part.part-on_part (start_of d r) (size_of d r) f mem fits ch.kept

  pub view_other : (r' : Region) → Valid d r' → same r r' ≡ false → view d r' (on_region d r f mem) ≡ view d r' mem
  view_other r' valid' differ =
      ⊎_elim
      (part.part-on_part_after (start_of d r) (size_of d r) f mem fits ch.kept (start_of d r') (size_of d r'))
      (part.part-on_part_before (start_of d r) (size_of d r) f mem fits (start_of d r') (size_of d r'))
      (apart d r r' ch.valid valid' differ)

  pub past_kept : drop (length_for d) (on_region d r f mem) ≡ drop (length_for d) mem
  past_kept =
      sym (all (on_region d r f mem) length_kept)
      ∙ part.part-on_part_after (start_of d r) (size_of d r) f mem fits ch.kept (length_for d) (length mem) (inside d r ch.valid)
      ∙ all mem refl
    where
      all : (xs : List ℕ) → length xs ≡ length mem → take (length mem) (drop (length_for d) xs) ≡ drop (length_for d) xs
      all xs e = take_all (length mem) (drop (length_for d) xs) (simp length-drop (omega arith))

  -- A change of any region but the head leaves the words of the head, and with them the numbers.
  pub head_kept : same r head ≡ false → (i : ℕ) → i < 16 → get_or (on_region d r f mem) i 0 ≡ get_or mem i 0
  head_kept differ i l =
      sym (head_word d (on_region d r f mem) i l) ∙ ap (λ ws. get_or ws i 0) (view_other head tt differ) ∙ head_word d mem i l

  pub numbers_kept : same r head ≡ false → numbers_of (on_region d r f mem) ≡ numbers_of mem
  numbers_kept differ = numbers_by_words mem (on_region d r f mem) (λ i l. head_kept differ i (omega arith))

  -- Two changes of one region are one after the other.
  pub changed_twice : (g : List ℕ → List ℕ) → on_region d r g (on_region d r f mem) ≡ on_region d r (λ ws. g (f ws)) mem
  changed_twice g = part.on_part_twice (start_of d r) (size_of d r) f mem fits ch.kept g
