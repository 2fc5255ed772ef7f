-- What chains over a slice answer, in std's words, as the definitions have it: where the n words of a list are to a test p what the numbers
-- below n are to q, whether all or some pass, and which is the first, is asked of the numbers.
use Rattle.std.specs.List.{position_or_len, position, list_all, list_any}
use Rattle.std.specs.Option.{unwrap_or}
use Rattle.std.proofs.Common.{◌≡◌, refl, ◌∙◌, ℕ, zero, suc, ◌<◌, ◌≤◌, Bool, true, false, ◌&&◌, List, length, get_or, take, ltb, arith, le-ltb, lt-ltb}
use Rattle.std.proofs.Math.Decide.{dec_lt}
use Rattle.std.proofs.Math.Logic.{by_cases}
use Rattle.std.proofs.Math.Seq.{take-suc, take-length}
use Rattle.std.proofs.lemmas.List.{get_or_default}
use Rattle.std.proofs.lemmas.List.Folds.{list_all-append, list_any_at, list_any_none}
use Rattle.std.proofs.lemmas.List.Sums.{position_or_len_is}
use Rattle.base.specs.AllLaws.{all_ext}
use Rattle.base.specs.Below.{all, first}
use Rattle.base.specs.Choose.{both}
use Rattle.base.specs.FirstLaws.{first-le, first_passes, first_before}

both_and : (a b : Bool) → (a && (b && true)) ≡ both a b
both_and true true = refl
both_and true false = refl
both_and false b = refl

all_taken : (p : ℕ → Bool) (n : ℕ) (xs : List ℕ) → n ≤ length xs → list_all p (take n xs) ≡ all n (λ k. p (get_or xs k 0))
unfolding all
all_taken p zero xs l = refl
all_taken p (suc n) xs l =
    rw (take-suc xs n 0 l, list_all-append, all_taken p n xs (omega arith))
    (both_and (all n (λ k. p (get_or xs k 0))) (p (get_or xs n 0)))

module _ (p q : ℕ → Bool) (xs : List ℕ) (n : ℕ) (size : length xs ≡ n) (each : (k : ℕ) → k < n → p (get_or xs k 0) ≡ q k) where
  pub all_listed : list_all p xs ≡ all n q
  all_listed =
      let whole : list_all p xs ≡ all (length xs) (λ k. p (get_or xs k 0)) = rw take-length at (all_taken p (length xs) xs (omega arith)) in
      whole ∙ rw size (all_ext n (λ k. p (get_or xs k 0)) q each)

  place : position_or_len p xs ≡ first q n
  place =
      position_or_len_is p xs (first q n) 0 (omega (arith, first-le q n))
      (λ k l. each k (omega (arith, first-le q n)) ∙ first_before q n k l)
      (λ l. each (first q n) (omega arith) ∙ first_passes q n (omega arith))

  pub first_listed : unwrap_or (position p xs) n ≡ first q n
  first_listed =
      rw (place, size)
      (by_cases (dec_lt (first q n) n)
      (λ l. rw (lt-ltb (first q n) n l))
      (λ past. rw (le-ltb (first q n) n (omega arith)) (omega (arith, first-le q n))))

  pub some_listed : list_any p xs ≡ ltb (first q n) n
  some_listed =
      by_cases (dec_lt (first q n) n)
      (λ l.
      rw (lt-ltb (first q n) n l)
      (list_any_at p xs (first q n) 0 (omega arith) (each (first q n) l ∙ first_passes q n l)))
      (λ past.
      rw (le-ltb (first q n) n (omega arith))
      (list_any_none p xs
      (λ k d l.
      rw (get_or_default xs k d 0 l) (each k (omega arith) ∙ first_before q n k (omega (arith, first-le q n))))))
