-- The words of a list in buckets, each bucket a chain from its last place down: an index that finds a word without going along the
-- list. It is kept in two lists of places, each place as one more than its number, so that 0 says that there is none.
use Rattle.std.specs.Prelude.{◌≡◌, refl, Bool, List, ℕ, suc, ◌*◌, ◌/◌, ◌%◌, ◌^◌, ◌+◌, ◌<◌, ◌≤◌, eqb, length, get_or, set, replicate}
use Rattle.std.proofs.Common.{sym, ◌∙◌, add-one, arith, eq-eqb, ne_eqb, length-set, get_or-set_same, get_or-set_other}
use Rattle.std.proofs.Math.Decide.{ℕ_discrete}
use Rattle.std.proofs.Math.Logic.{by_cases}
use Rattle.std.proofs.lemmas.List.{length-replicate, get_or-replicate}
use Rattle.base.specs.Below.{last}
use Rattle.base.specs.LastLaws.{last_here, last_past}

-- The bucket of a word, of n buckets. Which it is does not bear on any answer, only that equal words have the same.
unfoldable pub bucket_of : ℕ → ℕ → ℕ
bucket_of n word = (word * 0x9E37_79B9_7F4A_7C15) % 2 ^ 64 / 2 ^ 32 * n / 2 ^ 32

-- The word at place k is in bucket b, of n.
abbrev pub in_bucket : List ℕ → ℕ → ℕ → ℕ → Bool
in_bucket xs n b k = eqb (bucket_of n (get_or xs k 0)) b

-- The places below j are chained: a bucket's head is its last place, and each place's link the one before it in its bucket. There are
-- as many buckets as heads, and there is room to chain all of xs.
pub record Chained (xs heads prevs : List ℕ) (j : ℕ) : Type 0 where
  pub some_buckets : 0 < length heads
  pub few_buckets : length heads ≤ 2 ^ 32
  pub room : length xs ≤ length prevs
  pub head : (b : ℕ) → b < length heads → get_or heads b 0 ≡ last (in_bucket xs (length heads) b) j
  pub link : (k : ℕ) → k < j → get_or prevs k 0 ≡ last (in_bucket xs (length heads) (bucket_of (length heads) (get_or xs k 0))) k

-- Before the first place every head says that its bucket is empty.
pub chained_none :
    (xs prevs : List ℕ) (n : ℕ) → 0 < n → n ≤ 2 ^ 32 → length xs ≤ length prevs → Chained xs (replicate n 0) prevs 0
unfolding last
chained_none xs prevs n some_heads few room = record {
  some_buckets = rw length-replicate some_heads;
  few_buckets = rw length-replicate few;
  room = room;
  head = λ b l. get_or-replicate n b 0 0 (rw length-replicate at l);
  link = λ k l. absurd (omega arith);
}

-- The next place is chained by linking it to its bucket's head, and making it the head.
pub chained_more : (xs heads prevs : List ℕ) (j b : ℕ) → Chained xs heads prevs j → j < length xs
    → b ≡ bucket_of (length heads) (get_or xs j 0)
    → b < length heads → Chained xs (set heads b (j + 1)) (set prevs j (get_or heads b 0)) (j + 1)
chained_more xs heads prevs j b chained l e inside =
    let n : ℕ = length heads in
    let room : j < length prevs = omega (arith, chained.room) in
    record {
      some_buckets = rw length-set chained.some_buckets;
      few_buckets = rw length-set chained.few_buckets;
      room = rw length-set chained.room;
      head = λ b' l.
          rw (length-set, add-one)
          (by_cases (ℕ_discrete b' b)
          (λ same.
          rw same
          (get_or-set_same heads b (suc j) 0 inside
          ∙ sym (last_here (in_bucket xs n b) j (eq-eqb (bucket_of n (get_or xs j 0)) b (sym e)))))
          (λ other.
          get_or-set_other heads b b' (suc j) 0 other ∙ chained.head b' (rw length-set at l)
          ∙ sym (last_past (in_bucket xs n b') j (ne_eqb (bucket_of n (get_or xs j 0)) b' (λ q. other (sym (e ∙ q)))))));
      link = λ k u.
          rw length-set
          (by_cases (ℕ_discrete k j)
          (λ same. rw same (get_or-set_same prevs j (get_or heads b 0) 0 room ∙ chained.head b inside ∙ rw e refl))
          (λ other. get_or-set_other prevs j k (get_or heads b 0) 0 other ∙ chained.link k (omega arith)));
    }
