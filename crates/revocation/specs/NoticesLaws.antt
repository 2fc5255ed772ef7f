-- Laws of the notices of a queue as words: it holds the last 256 notices that joined, in order.
use Rattle.std.specs.Prelude.{◌≡◌, refl, length, drop, List, [], ◌∷◌, ◌++◌, ℕ, zero, suc, ◌+◌, ◌-◌, ◌*◌, ◌<◌, ◌≤◌}
use Rattle.std.proofs.Common.{ap, ◌∙◌, add-zero, add-one, length-append, length-drop, drop-drop, append_assoc, append-nil, arith, zero-add, sym, ap₂}
use Rattle.std.proofs.Math.Decide.{dec_lt}
use Rattle.std.proofs.Math.Logic.{by_cases}
use Rattle.std.proofs.lemmas.List.{drop-append-le}
use Rattle.revocation.specs.Words.{first_of, length_of}
use Rattle.revocation.specs.Queue.{pushed, begun, notices_from, notices}
use Rattle.revocation.specs.QueueLaws.{Notice, notice, notice_at, length_pushed, length_grows, notice_stays, newest_behind, length_stays, notice_moves, newest_over, first_pushed, short_pushed, length_of_begun, notice_begun}

pub length-notices_from : (qu : List ℕ) (i m : ℕ) → length (notices_from qu i m) ≡ 3 * m
unfolding notices_from
length-notices_from qu i zero = refl
length-notices_from qu i (suc m) = omega (arith, length-notices_from qu (i + 1) m)

pub length_notices : (qu : List ℕ) → length (notices qu) ≡ 3 * length_of qu
unfolding notices
length_notices qu = length-notices_from qu 0 (length_of qu)

-- The words of a notice.
abbrev pub words_of : Notice → List ℕ
words_of n = n.id ∷ n.time ∷ n.reason ∷ []

-- Equal notices have equal words,
notices_same :
    (qu after : List ℕ) (m i j : ℕ) → ((k : ℕ) → k < m → notice_at after (i + k) ≡ notice_at qu (j + k))
    → notices_from after i m ≡ notices_from qu j m
unfolding notices_from
notices_same qu after zero i j same = refl
notices_same qu after (suc m) i j same =
    let here : notice_at after i ≡ notice_at qu j = rw (add-zero i, add-zero j) at (same 0 (omega arith)) in
    let later : notices_from after (i + 1) m ≡ notices_from qu (j + 1) m =
    notices_same qu after m (i + 1) (j + 1)
    (λ k l.
    let left : i + (k + 1) ≡ i + 1 + k = omega arith in
    let right : j + (k + 1) ≡ j + 1 + k = omega arith in
    rw (left, right) at (same (k + 1) (omega arith))) in
    rw (later, ap (λ n. n.id) here, ap (λ n. n.time) here, ap (λ n. n.reason) here)

-- and one more stands behind.
notices_more : (qu : List ℕ) (m i : ℕ) → notices_from qu i (m + 1) ≡ notices_from qu i m ++ words_of (notice_at qu (i + m))
unfolding notices_from
notices_more qu zero i = rw add-zero
notices_more qu (suc m) i =
    let place : i + 1 + m ≡ i + suc m = omega arith in
    let next : suc m + 1 ≡ suc (m + 1) = omega arith in
    rw next (rw (notices_more qu m (i + 1), place))

pub notices_begun : (pid id time reason : ℕ) (qu : List ℕ) → 771 ≤ length qu
    → notices (begun pid id time reason qu) ≡ id ∷ time ∷ reason ∷ []
unfolding notices notices_from
notices_begun pid id time reason qu long = rw (length_of_begun pid id time reason qu long)
    (ap words_of (notice_begun pid id time reason qu long))

-- Without its oldest notice.
oldest_gone : (qu ws : List ℕ) (m i : ℕ) → drop 3 (notices_from qu i (m + 1) ++ ws) ≡ notices_from qu (i + 1) m ++ ws
unfolding notices_from
oldest_gone qu ws m i = rw (add-one m)

-- The last m words of a list.
abbrev pub last_words : ℕ → List ℕ → List ℕ
last_words m xs = drop (length xs - m) xs

module _ (id time reason : ℕ) (qu : List ℕ) (long : 771 ≤ length qu) (coded : first_of qu < 256) where
  abbrev after : List ℕ
  after = pushed id time reason qu

  one_more : length_of qu < 256 → notices after ≡ notices qu ++ (id ∷ time ∷ reason ∷ [])
  unfolding notices
  one_more room =
      let same : (k : ℕ) → k < length_of qu → notice_at after (0 + k) ≡ notice_at qu (0 + k) =
      λ k l. rw zero-add (notice_stays id time reason qu long coded room k l) in
      let last : notice_at after (0 + length_of qu) ≡ notice id time reason =
      rw zero-add (newest_behind id time reason qu long coded room) in
      rw (length_grows id time reason qu long coded room)
      (notices_more after (length_of qu) 0 ∙ ap₂ ◌++◌ (notices_same qu after (length_of qu) 0 0 same) (ap words_of last))

  one_moved : length_of qu ≡ 256 → notices after ≡ drop 3 (notices qu ++ (id ∷ time ∷ reason ∷ []))
  unfolding notices
  one_moved full =
      let same : (k : ℕ) → k < 255 → notice_at after (0 + k) ≡ notice_at qu (1 + k) =
      λ k l. let next : 1 + k ≡ k + 1 = omega arith in rw (zero-add, next) (notice_moves id time reason qu long coded full k l) in
      let words : List ℕ = id ∷ time ∷ reason ∷ [] in
      rw (length_stays id time reason qu long coded full, full)
      (notices_more after 255 0
      ∙ ap₂ ◌++◌ (notices_same qu after 255 0 1 same) (ap words_of (newest_over id time reason qu long coded full))
      ∙ sym (oldest_gone qu words 255 0))

  -- Document 01: the 257th notification drops the oldest. A queue holds the last 256 notices, 768 words, of those that it held and the new
  -- one.
  pub notices_pushed : length_of qu ≤ 256 → notices (pushed id time reason qu) ≡ last_words 768 (notices qu ++ (id ∷ time ∷ reason ∷ []))
  notices_pushed short =
      let words : List ℕ = notices qu ++ (id ∷ time ∷ reason ∷ []) in
      let count : length words ≡ 3 * length_of qu + 3 = omega (
        arith,
        length-append (notices qu) (id ∷ time ∷ reason ∷ []),
        length_notices qu,
      ) in
      by_cases (dec_lt (length_of qu) 256)
      (λ room. let none : length words - 768 ≡ 0 = omega (arith, count) in rw none (one_more room))
      (λ full. let three : length words - 768 ≡ 3 = omega (arith, count) in rw three (one_moved (omega arith)))

-- ---- notices that join one after another

pub last_last : (m : ℕ) (xs ys : List ℕ) → last_words m (last_words m xs ++ ys) ≡ last_words m (xs ++ ys)
last_last m xs ys =
    let gone : ℕ = length xs - m in
    let joined : drop gone xs ++ ys ≡ drop gone (xs ++ ys) = sym (drop-append-le gone xs ys (omega arith)) in
    let count : length (xs ++ ys) ≡ length xs + length ys = length-append xs ys in
    let place : gone + (length (drop gone (xs ++ ys)) - m) ≡ length (xs ++ ys) - m = omega (arith, count, length-drop gone (xs ++ ys)) in
    rw joined (drop-drop (length (drop gone (xs ++ ys)) - m) gone (xs ++ ys) ∙ ap (λ k. drop k (xs ++ ys)) place)

unfoldable pub pushed_all : List Notice → List ℕ → List ℕ
pushed_all [] qu = qu
pushed_all (n ∷ ns) qu = pushed_all ns (pushed n.id n.time n.reason qu)

-- Their words, in the order of their arrival.
unfoldable pub all_words : List Notice → List ℕ
all_words [] = []
all_words (n ∷ ns) = words_of n ++ all_words ns

-- Whatever joins, a queue holds the last 256 of all.
pub holds_the_last : (ns : List Notice) (qu : List ℕ) → 771 ≤ length qu → first_of qu < 256 → length_of qu ≤ 256
    → notices (pushed_all ns qu) ≡ last_words 768 (notices qu ++ all_words ns)
unfolding pushed_all all_words
holds_the_last [] qu long coded short =
    let none : length (notices qu) - 768 ≡ 0 = omega (arith, length_notices qu) in
    rw (append-nil (notices qu), none)
holds_the_last (n ∷ ns) qu long coded short =
    let next : List ℕ = pushed n.id n.time n.reason qu in
    holds_the_last ns next (rw length_pushed long)
    (first_pushed n.id n.time n.reason qu long coded short)
    (short_pushed n.id n.time n.reason qu long coded short)
    ∙ ap (λ ws. last_words 768 (ws ++ all_words ns)) (notices_pushed n.id n.time n.reason qu long coded short)
    ∙ last_last 768 (notices qu ++ words_of n) (all_words ns)
    ∙ ap (last_words 768) (append_assoc (notices qu) (words_of n) (all_words ns))
