-- What a change of several regions does, one after the other: each has its own change, and what is none of them stays.
use Rattle.std.specs.Prelude.{false, List, ◌≢◌, ◌≡◌, length, drop, ℕ, zero, suc, ◌+◌, ◌≤◌, ◌<◌, refl}
use Rattle.std.proofs.Common.{◌∙◌, le_antisymm, add-one, arith, below_more, ap}
use Rattle.world.specs.Layout.{Valid, same}
use Rattle.world.specs.Regions.{Region, length_for, size_of, view, on_region, on_each}
use Rattle.world.specs.Views.{Change, length_view, length_kept, view_same, view_other, past_kept}
use Rattle.world.specs.declared.Numbers.{Numbers}

-- Regions and changes of which the first n can be made: the regions are there and differ, the changes keep the number of words.
pub record Changes (d : Numbers) (R : ℕ → Region) (f : ℕ → List ℕ → List ℕ) (n : ℕ) : Type 0 where
  pub valid : (k : ℕ) → k < n → Valid d (R k)
  pub differ : (j k : ℕ) → j ≢ k → same (R j) (R k) ≡ false
  pub keeps : (k : ℕ) → k < n → (ws : List ℕ) → length ws ≡ size_of d (R k) → length (f k ws) ≡ length ws

module _ (d : Numbers) (R : ℕ → Region) (f : ℕ → List ℕ → List ℕ) (mem : List ℕ) (long : length_for d ≤ length mem) where
  less : (n : ℕ) → Changes d R f (suc n) → Changes d R f n
  less n ch = record { valid = λ k l. ch.valid k (omega arith); differ = ch.differ; keeps = λ k l. ch.keeps k (omega arith) }

  last : (n : ℕ) → Changes d R f (suc n) → length (on_each d R f n mem) ≡ length mem → Change d (R n) (f n) (on_each d R f n mem)
  last n ch e =
      let v : Valid d (R n) = ch.valid n (omega arith) in
      let l : length_for d ≤ length (on_each d R f n mem) = omega arith in
      record { valid = v; long = l; kept = ch.keeps n (omega arith) _ (length_view d (R n) (on_each d R f n mem) v l) }

  pub each_length : (n : ℕ) → Changes d R f n → length (on_each d R f n mem) ≡ length mem
  unfolding on_each
  each_length zero ch = refl
  each_length (suc n) ch =
      let e = each_length n (less n ch) in
      let c = last n ch e in
      length_kept d (R n) (f n) (on_each d R f n mem) c ∙ e

  pub each_other : (r : Region) → Valid d r → (n : ℕ) → Changes d R f n → ((k : ℕ) → k < n → same (R k) r ≡ false)
      → view d r (on_each d R f n mem) ≡ view d r mem
  unfolding on_each
  each_other r v zero ch none = refl
  each_other r v (suc n) ch none =
      let c = last n ch (each_length n (less n ch)) in
      view_other d (R n) (f n) (on_each d R f n mem) c r v (none n (omega arith))
      ∙ each_other r v n (less n ch) (λ k l. none k (omega arith))

  pub each_at : (n : ℕ) → Changes d R f n → (k : ℕ) → k < n → view d (R k) (on_each d R f n mem) ≡ f k (view d (R k) mem)
  unfolding on_each
  each_at zero ch k l = absurd (omega arith)
  each_at (suc n) ch k l =
      let c = last n ch (each_length n (less n ch)) in
      below_more (λ k. view d (R k) (on_each d R f (suc n) mem) ≡ f k (view d (R k) mem)) n
      (λ k l.
      view_other d (R n) (f n) (on_each d R f n mem) c (R k) (ch.valid k (omega arith)) (ch.differ n k (omega arith))
      ∙ each_at n (less n ch) k l)
      (view_same d (R n) (f n) (on_each d R f n mem) c
      ∙ ap (f n) (each_other (R n) c.valid n (less n ch) (λ k l. ch.differ k n (omega arith))))
      k
      (omega arith)

  pub each_past : (n : ℕ) → Changes d R f n → drop (length_for d) (on_each d R f n mem) ≡ drop (length_for d) mem
  unfolding on_each
  each_past zero ch = refl
  each_past (suc n) ch =
      let c = last n ch (each_length n (less n ch)) in
      past_kept d (R n) (f n) (on_each d R f n mem) c ∙ each_past n (less n ch)

-- ---- the turns of a loop that makes one change a turn

pub each_none : (d : Numbers) (R : ℕ → Region) (f : ℕ → List ℕ → List ℕ) (mem : List ℕ) → mem ≡ on_each d R f 0 mem
unfolding on_each
each_none d R f mem = refl

pub each_more : (d : Numbers) (R : ℕ → Region) (f : ℕ → List ℕ → List ℕ) (n : ℕ) (mem₀ mem next : List ℕ) → mem ≡ on_each d R f n mem₀
    → next ≡ on_region d (R n) (f n) mem → next ≡ on_each d R f (n + 1) mem₀
unfolding on_each
each_more d R f n mem₀ mem next e h = h ∙ rw (add-one, e)

pub each_done : (d : Numbers) (R : ℕ → Region) (f : ℕ → List ℕ → List ℕ) (i n : ℕ) (mem₀ mem : List ℕ) → mem ≡ on_each d R f i mem₀ → i ≤ n
    → n ≤ i → mem ≡ on_each d R f n mem₀
each_done d R f i n mem₀ mem e l m = e ∙ ap (λ k. on_each d R f k mem₀) (le_antisymm l m)
