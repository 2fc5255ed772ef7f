-- Values written one behind the other, each as f of a number: of the numbers below n, those that pass a test. Every number's value is
-- written behind those of the numbers that passed before it, and is written over unless its own number passes: no branch goes by the test.
use Rattle.std.specs.Prelude.{◌≡◌, Bool, true, false, List, eqb, length, get_or, set, ℕ, zero, suc, ◌+◌, ◌<◌, ◌≤◌, refl}
use Rattle.std.proofs.Common.{sym, ◌∙◌, add-zero, le_antisymm, add-one, arith, eq-eqb, ne_eqb, length-set, get_or-set_same, get_or-set_other, ap}
use Rattle.std.proofs.Math.Dec.{eqb-suc-suc}
use Rattle.base.specs.Below.{all, sum, one}
use Rattle.base.specs.Choose.{pick, both, both_true, both_false}
use Rattle.base.specs.SumLaws.{sum_one_le, sum_goes}

-- How many of the numbers below n pass.
abbrev pub passing : (ℕ → Bool) → ℕ → ℕ
passing p n = sum (λ i. one (p i)) n

unfoldable pub compacted : (ℕ → ℕ) → (ℕ → Bool) → ℕ → List ℕ → List ℕ
compacted f p zero xs = xs
compacted f p (suc n) xs = let r = compacted f p n xs in set r (passing p n) (f n)

pub length_compacted : (f : ℕ → ℕ) (p : ℕ → Bool) (n : ℕ) (xs : List ℕ) → length (compacted f p n xs) ≡ length xs
unfolding compacted
length_compacted f p zero xs = refl
length_compacted f p (suc n) xs = length-set (compacted f p n xs) (passing p n) (f n) ∙ length_compacted f p n xs

-- The turns of a loop over the numbers below n, from a: g 0, then g 1, ..
unfoldable pub fold : {A : Type 0} → (ℕ → A → A) → ℕ → A → A
fold g zero a = a
fold g (suc n) a = g n (fold g n a)

pub fold_ext : {A : Type 0} (g h : ℕ → A → A) (n : ℕ) (a : A) → ((k : ℕ) → k < n → (b : A) → g k b ≡ h k b) → fold g n a ≡ fold h n a
unfolding fold
fold_ext g h zero a e = refl
fold_ext g h (suc n) a e = e n (omega arith) (fold g n a) ∙ ap (h n) (fold_ext g h n a (λ k l. e k (omega arith)))

all_fold : (q : ℕ → Bool) (n : ℕ) → all n q ≡ fold (λ i b. both b (q i)) n true
unfolding all fold
all_fold q zero = refl
all_fold q (suc n) = ap (λ b. both b (q n)) (all_fold q n)

-- A loop over what is listed does what a loop over the numbers does that passes over those that fail.
module _ {A : Type 0} (h : ℕ → A → A) (a : A) where
  -- With m values written, the next one is written behind them.
  compacted_more : (xs : List ℕ) (m v : ℕ) (here : Bool) (done : A) → m < length xs → fold (λ j. h (get_or xs j 0)) m a ≡ done
      → fold (λ j. h (get_or (set xs m v) j 0)) (m + one here) a ≡ pick here (h v done) done
  unfolding fold
  compacted_more xs m v here done room e = go here
    where
      kept : fold (λ j. h (get_or (set xs m v) j 0)) m a ≡ done
      kept = fold_ext (λ j. h (get_or (set xs m v) j 0)) (λ j. h (get_or xs j 0)) m a
          (λ k l b. ap (λ w. h w b) (get_or-set_other xs m k v 0 (λ e. omega arith))) ∙ e

      go : (here : Bool) → fold (λ j. h (get_or (set xs m v) j 0)) (m + one here) a ≡ pick here (h v done) done
      go true = rw (add-one, get_or-set_same xs m v 0 room, kept)
      go false = rw (add-zero, kept)

  pub compacted_fold : (f : ℕ → ℕ) (p : ℕ → Bool) (n : ℕ) (xs : List ℕ) → n ≤ length xs
      → fold (λ j. h (get_or (compacted f p n xs) j 0)) (passing p n) a ≡ fold (λ i b. pick (p i) (h (f i) b) b) n a
  unfolding fold compacted sum
  compacted_fold f p zero xs room = refl
  compacted_fold f p (suc n) xs room =
      compacted_more (compacted f p n xs) (passing p n) (f n) (p n) (fold (λ i b. pick (p i) (h (f i) b) b) n a)
      (omega (arith, length_compacted f p n xs, sum_one_le p n)) (compacted_fold f p n xs (omega arith))

-- So all that are listed pass q where each number that passes p does.
pub compacted_all :
    (q : ℕ → Bool) (f : ℕ → ℕ) (p : ℕ → Bool) (n : ℕ) (xs : List ℕ) → n ≤ length xs
    → all (passing p n) (λ j. q (get_or (compacted f p n xs) j 0)) ≡ all n (λ i. pick (p i) (q (f i)) true)
compacted_all q f p n xs room =
    all_fold (λ j. q (get_or (compacted f p n xs) j 0)) (passing p n)
    ∙ compacted_fold (λ v b. both b (q v)) true f p n xs room
    ∙ fold_ext (λ i b. pick (p i) (both b (q (f i))) b) (λ i b. both b (pick (p i) (q (f i)) true)) n true
    (λ i l b. asked (p i) (q (f i)) b)
    ∙ sym (all_fold (λ i. pick (p i) (q (f i)) true) n)
  where
    asked : (here there b : Bool) → pick here (both b there) b ≡ both b (pick here there true)
    asked true there b = refl
    asked false there b = sym (both_true b)

-- All of n numbers pass exactly where n do.
pub all_passing : (p : ℕ → Bool) (n : ℕ) → all n p ≡ eqb (passing p n) n
unfolding all sum
all_passing p zero = sym (eq-eqb 0 0 refl)
all_passing p (suc n) = go (p n) (all_passing p n)
  where
    go : (here : Bool) → all n p ≡ eqb (passing p n) n → both (all n p) here ≡ eqb (passing p n + one here) (suc n)
    go true ih = both_true (all n p) ∙ ih ∙ rw (add-one, eqb-suc-suc)
    go false ih = both_false (all n p) ∙ sym (ne_eqb (passing p n + 0) (suc n) (λ e. omega (arith, sum_one_le p n)))

-- ---- the turns of a loop that writes them

-- The numbers below i are done, of n, and m of them passed; xs₀ is the list as it was lent.
pub record Compacting (f : ℕ → ℕ) (p : ℕ → Bool) (n : ℕ) (xs₀ xs : List ℕ) (m i : ℕ) : Type 0 where
  pub inside : i ≤ n
  pub few : m ≤ i
  pub passed : m ≡ passing p i
  pub written : xs ≡ compacted f p i xs₀

pub compact_starts : (f : ℕ → ℕ) (p : ℕ → Bool) (n : ℕ) (xs : List ℕ) → Compacting f p n xs xs 0 0
unfolding compacted sum
compact_starts f p n xs = record { inside = omega arith; few = omega arith; passed = refl; written = refl }

module _ (f : ℕ → ℕ) (p : ℕ → Bool) (n : ℕ) (xs₀ xs : List ℕ) (m i : ℕ) (compacting : Compacting f p n xs₀ xs m i) where
  pub compact_goes :
      (v more : ℕ) → i < n → v ≡ f i → more ≡ one (p i) → more ≤ 1 → Compacting f p n xs₀ (set xs m v) (m + more) (i + 1)
  unfolding compacted
  compact_goes v more l e h u = record {
    inside = omega arith;
    few = omega (arith, compacting.few);
    passed = sum_goes (λ i. one (p i)) i m more compacting.passed h;
    written = rw (add-one, ← compacting.passed, ← compacting.written, e);
  }

  pub compact_ends : n ≤ i → Compacting f p n xs₀ xs m n
  compact_ends past = rw (le_antisymm compacting.inside past) at compacting
