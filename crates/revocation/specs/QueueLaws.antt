-- Laws of a queue, notice by notice: a new one is the last, the others keep their order, and a sound queue stays sound.
use Rattle.std.specs.Prelude.{◌≡◌, ◌≢◌, ◌⊎◌, List, ℕ, ◌+◌, ◌*◌, ◌%◌, ◌<◌, ◌≤◌, length, get_or, set}
use Rattle.std.proofs.Common.{ap, ◌∙◌, inl, inr, ⊎_elim, arith, lt-ltb, le-ltb, length-set, get_or-set_same, get_or-set_other}
use Rattle.std.proofs.Math.Decide.{dec_lt}
use Rattle.std.proofs.Math.Logic.{by_cases}
use Rattle.base.specs.Stores.{stores}
use Rattle.revocation.specs.Words.{pid_of, first_of, length_of, ring_at, reason_at}
use Rattle.revocation.specs.Queue.{notice_set, pushed, begun, freed}
use Rattle.revocation.specs.Sound.{SoundQueue}

-- What one notice says.
pub record Notice : Type 0 where
  pub id : ℕ
  pub time : ℕ
  pub reason : ℕ

abbrev pub notice : ℕ → ℕ → ℕ → Notice
notice id time reason = record { id = id; time = time; reason = reason }

-- The notice at place k of the ring, and the i-th, oldest first.
abbrev pub ring_notice : List ℕ → ℕ → Notice
ring_notice qu k = notice (get_or qu (3 + 3 * k) 0) (get_or qu (3 + 3 * k + 1) 0) (get_or qu (3 + 3 * k + 2) 0)

abbrev pub notice_at : List ℕ → ℕ → Notice
notice_at qu i = ring_notice qu (ring_at qu i)

-- ---- the number of words stays

pub length_pushed : (id time reason : ℕ) (qu : List ℕ) → length (pushed id time reason qu) ≡ length qu
unfolding pushed
length_pushed id time reason qu =
    by_cases (dec_lt (length_of qu) 256)
    (λ room. rw (lt-ltb (length_of qu) 256 room) (simp length-set))
    (λ full. rw (le-ltb (length_of qu) 256 (omega arith)) (simp length-set))

pub length_begun : (pid id time reason : ℕ) (qu : List ℕ) → length (begun pid id time reason qu) ≡ length qu
unfolding begun
length_begun pid id time reason qu = simp length-set

pub length_freed : (qu : List ℕ) → length (freed qu) ≡ length qu
unfolding freed
length_freed qu = length-set qu 2 0

-- ---- one notice is written

module _ (k id time reason : ℕ) (qu : List ℕ) where
  -- Every other word is as it was,
  set_apart : (j : ℕ) → j ≢ 3 + 3 * k → j ≢ 3 + 3 * k + 1 → j ≢ 3 + 3 * k + 2 → get_or (notice_set k id time reason qu) j 0 ≡ get_or qu j 0
  set_apart j first second third = simp get_or-set_other

  set_head : (j : ℕ) → j < 3 → get_or (notice_set k id time reason qu) j 0 ≡ get_or qu j 0
  set_head j l = set_apart j (λ e. omega arith) (λ e. omega arith) (λ e. omega arith)

  -- and so every other notice.
  set_other : (m : ℕ) → m ≢ k → ring_notice (notice_set k id time reason qu) m ≡ ring_notice qu m
  set_other m other =
      rw (
        set_apart (3 + 3 * m) (λ e. omega arith) (λ e. omega arith) (λ e. omega arith),
        set_apart (3 + 3 * m + 1) (λ e. omega arith) (λ e. omega arith) (λ e. omega arith),
        set_apart (3 + 3 * m + 2) (λ e. omega arith) (λ e. omega arith) (λ e. omega arith),
      )

  set_here : k < 256 → 771 ≤ length qu → ring_notice (notice_set k id time reason qu) k ≡ notice id time reason
  set_here inside long =
      let at : ℕ = 3 + 3 * k in
      let d1 : at ≢ at + 1 = omega arith in
      let d2 : at ≢ at + 2 = omega arith in
      let d3 : at + 1 ≢ at + 2 = omega arith in
      let l1 : at < length qu = omega arith in
      let l2 : at + 1 < length qu = omega arith in
      let l3 : at + 2 < length qu = omega arith in
      simp stores

-- A word before the ring is no notice's.
head_apart : (qu : List ℕ) (j v k : ℕ) → j < 3 → ring_notice (set qu j v) k ≡ ring_notice qu k
head_apart qu j v k l =
    rw (
      get_or-set_other qu j (3 + 3 * k) v 0 (λ e. omega arith),
      get_or-set_other qu j (3 + 3 * k + 1) v 0 (λ e. omega arith),
      get_or-set_other qu j (3 + 3 * k + 2) v 0 (λ e. omega arith),
    )

-- ---- a notice joins

-- No notice but the oldest stands at the ring's first place.
past_first : (first i : ℕ) → first < 256 → i < 255 → (first + (i + 1)) % 256 ≢ first
past_first first i inside l e = omega arith

-- `after` is the queue with a notice at place k of the ring and v in word j before the ring.
record Joined (qu after : List ℕ) (new : Notice) (k j v : ℕ) : Type 0 where
  word : get_or after j 0 ≡ v
  others : (i : ℕ) → i < 3 → i ≢ j → get_or after i 0 ≡ get_or qu i 0
  here : ring_notice after k ≡ new
  elsewhere : (m : ℕ) → m ≢ k → ring_notice after m ≡ ring_notice qu m

joins : (id time reason : ℕ) (qu : List ℕ) (k j v : ℕ) → 771 ≤ length qu → k < 256 → j < 3
    → Joined qu (set (notice_set k id time reason qu) j v) (notice id time reason) k j v
joins id time reason qu k j v long inside head =
    let middle : List ℕ = notice_set k id time reason qu in
    record {
      word = get_or-set_same middle j v 0 (simp length-set (omega arith));
      others = λ i l other. get_or-set_other middle j i v 0 other ∙ set_head k id time reason qu i l;
      here = head_apart middle j v k head ∙ set_here k id time reason qu inside long;
      elsewhere = λ m other. head_apart middle j v m head ∙ set_other k id time reason qu m other;
    }

module _ (id time reason : ℕ) (qu : List ℕ) (long : 771 ≤ length qu) (coded : first_of qu < 256) where
  -- With room: behind the others, which stay.
  module _ (room : length_of qu < 256) where
    behind : Joined qu (pushed id time reason qu) (notice id time reason) (ring_at qu (length_of qu)) 2 (length_of qu + 1)
    unfolding pushed
    behind = rw (lt-ltb (length_of qu) 256 room)
        (joins id time reason qu (ring_at qu (length_of qu)) 2 (length_of qu + 1) long (omega arith)
        (omega arith))

    first_stays : first_of (pushed id time reason qu) ≡ first_of qu
    first_stays = behind.others 1 (omega arith) (λ e. omega arith)

    pub length_grows : length_of (pushed id time reason qu) ≡ length_of qu + 1
    length_grows = behind.word

    pub notice_stays : (i : ℕ) → i < length_of qu → notice_at (pushed id time reason qu) i ≡ notice_at qu i
    notice_stays i l =
        ap (λ first. ring_notice (pushed id time reason qu) ((first + i) % 256)) first_stays
        ∙ behind.elsewhere (ring_at qu i) (λ e. omega arith)

    pub newest_behind : notice_at (pushed id time reason qu) (length_of qu) ≡ notice id time reason
    newest_behind =
        ap (λ first. ring_notice (pushed id time reason qu) ((first + length_of qu) % 256)) first_stays ∙ behind.here

  -- With 256: over the oldest, so that each is one nearer to the front.
  module _ (full : length_of qu ≡ 256) where
    over : Joined qu (pushed id time reason qu) (notice id time reason) (first_of qu) 1 ((first_of qu + 1) % 256)
    unfolding pushed
    over = rw (le-ltb (length_of qu) 256 (omega arith))
        (joins id time reason qu (first_of qu) 1 ((first_of qu + 1) % 256) long coded (omega arith))

    pub length_stays : length_of (pushed id time reason qu) ≡ 256
    length_stays = over.others 2 (omega arith) (λ e. omega arith) ∙ full

    pub notice_moves : (i : ℕ) → i < 255 → notice_at (pushed id time reason qu) i ≡ notice_at qu (i + 1)
    notice_moves i l =
        let place : ((first_of qu + 1) % 256 + i) % 256 ≡ ring_at qu (i + 1) = omega arith in
        ap (λ first. ring_notice (pushed id time reason qu) ((first + i) % 256)) over.word
        ∙ ap (ring_notice (pushed id time reason qu)) place
        ∙ over.elsewhere (ring_at qu (i + 1)) (past_first (first_of qu) i coded l)

    pub newest_over : notice_at (pushed id time reason qu) 255 ≡ notice id time reason
    newest_over =
        let place : ((first_of qu + 1) % 256 + 255) % 256 ≡ first_of qu = omega arith in
        ap (λ first. ring_notice (pushed id time reason qu) ((first + 255) % 256)) over.word
        ∙ ap (ring_notice (pushed id time reason qu)) place
        ∙ over.here

  module _ (short : length_of qu ≤ 256) where
    pub pid_pushed : pid_of (pushed id time reason qu) ≡ pid_of qu
    pid_pushed =
        by_cases (dec_lt (length_of qu) 256)
        (λ room. (behind room).others 0 (omega arith) (λ e. omega arith))
        (λ full. (over (omega arith)).others 0 (omega arith) (λ e. omega arith))

    pub first_pushed : first_of (pushed id time reason qu) < 256
    first_pushed =
        by_cases (dec_lt (length_of qu) 256)
        (λ room. rw (first_stays room) coded)
        (λ full. rw (over (omega arith)).word (omega arith))

    pub short_pushed : length_of (pushed id time reason qu) ≤ 256
    short_pushed =
        by_cases (dec_lt (length_of qu) 256)
        (λ room. omega (arith, length_grows room))
        (λ full. omega (arith, length_stays (omega arith)))

    -- Each notice is the new one, or one that the queue had: so is its reason.
    reason_pushed :
        (i : ℕ) → i < length_of (pushed id time reason qu)
        → (reason_at (pushed id time reason qu) i ≡ reason)
        ⊎ ((j : ℕ) × ((j < length_of qu) × (reason_at (pushed id time reason qu) i ≡ reason_at qu j)))
    reason_pushed i l =
        let said : Notice → ℕ = λ n. n.reason in
        by_cases (dec_lt (length_of qu) 256)
        (λ room. by_cases (dec_lt i (length_of qu)) (λ u. inr (i, (u, ap said (notice_stays room i u)))) (λ u.
        let last : i ≡ length_of qu = omega (arith, length_grows room) in inl (rw last (ap said (newest_behind room)))))
        (λ more. let full : length_of qu ≡ 256 = omega arith in
        by_cases (dec_lt i 255) (λ u. inr (i + 1, (omega arith, ap said (notice_moves full i u)))) (λ u.
        let last : i ≡ 255 = omega (arith, length_stays full) in inl (rw last (ap said (newest_over full)))))

-- ---- a queue begins, and ends

module _ (pid id time reason : ℕ) (qu : List ℕ) (long : 771 ≤ length qu) where
  -- The notice, then the pid, then the first place.
  abbrev noted : List ℕ
  noted = notice_set 0 id time reason qu

  abbrev named : List ℕ
  named = set noted 0 pid

  abbrev placed : List ℕ
  placed = set named 1 0

  pub pid_begun : pid_of (begun pid id time reason qu) ≡ pid
  unfolding begun
  pid_begun =
      get_or-set_other placed 2 0 1 0 (λ e. omega arith)
      ∙ get_or-set_other named 1 0 0 0 (λ e. omega arith)
      ∙ get_or-set_same noted 0 pid 0 (simp length-set (omega arith))

  first_begun : first_of (begun pid id time reason qu) ≡ 0
  unfolding begun
  first_begun = get_or-set_other placed 2 1 1 0 (λ e. omega arith) ∙ get_or-set_same named 1 0 0 (simp length-set (omega arith))

  pub length_of_begun : length_of (begun pid id time reason qu) ≡ 1
  unfolding begun
  length_of_begun = get_or-set_same placed 2 1 0 (simp length-set (omega arith))

  pub notice_begun : notice_at (begun pid id time reason qu) 0 ≡ notice id time reason
  unfolding begun
  notice_begun =
      ap (λ first. ring_notice (begun pid id time reason qu) ((first + 0) % 256)) first_begun
      ∙ head_apart placed 2 1 0 (omega arith)
      ∙ head_apart named 1 0 0 (omega arith)
      ∙ head_apart noted 0 pid 0 (omega arith)
      ∙ set_here 0 id time reason qu (omega arith) long

-- The place is free, and its other words stay.
pub length_of_freed : (qu : List ℕ) → 771 ≤ length qu → length_of (freed qu) ≡ 0
unfolding freed
length_of_freed qu long = get_or-set_same qu 2 0 0 (omega arith)

-- ---- sound queues stay so

pub begun_sound : (pid id time reason : ℕ) (qu : List ℕ) → 771 ≤ length qu → reason ≤ 3 → SoundQueue (begun pid id time reason qu)
begun_sound pid id time reason qu long listed =
    let count : length_of (begun pid id time reason qu) ≡ 1 = length_of_begun pid id time reason qu long in
    record {
      coded_first = rw (first_begun pid id time reason qu long) (omega arith);
      short = omega (arith, count);
      coded_reasons = λ i l.
          let only : i ≡ 0 = omega (arith, count) in
          rw (only, ap (λ n. n.reason) (notice_begun pid id time reason qu long)) listed;
    }

pub pushed_sound : (id time reason : ℕ) (qu : List ℕ) → 771 ≤ length qu → reason ≤ 3 → SoundQueue qu → SoundQueue (pushed id time reason qu)
pushed_sound id time reason qu long listed sound = record {
  coded_first = first_pushed id time reason qu long sound.coded_first sound.short;
  short = short_pushed id time reason qu long sound.coded_first sound.short;
  coded_reasons = λ i l.
      ⊎_elim
      (λ new. omega arith)
      (λ (j, (inside, old)). omega (arith, sound.coded_reasons j inside))
      (reason_pushed id time reason qu long sound.coded_first sound.short i l);
}
