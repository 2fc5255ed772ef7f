-- Notifications, on the words of one queue: a notice is three words, capability id, time in seconds, reason. Document 01: the 257th
-- notification drops the oldest.
use Rattle.std.specs.Prelude.{List, [], ◌∷◌, ℕ, zero, suc, ◌+◌, ◌*◌, ◌%◌, ltb, set}
use Rattle.base.specs.Choose.{pick}
use Rattle.revocation.specs.Words.{first_of, length_of, ring_at, notice_id_at, notice_time_at, reason_at}

-- A notice written at place k of the ring.
abbrev pub notice_set : ℕ → ℕ → ℕ → ℕ → List ℕ → List ℕ
notice_set k id time reason qu =
    set (set (set qu (3 + 3 * k) id) (3 + 3 * k + 1) time) (3 + 3 * k + 2) reason

-- One notice more behind the others; where there are 256, the oldest goes.
unfoldable pub pushed : ℕ → ℕ → ℕ → List ℕ → List ℕ
pushed id time reason qu =
    pick (ltb (length_of qu) 256)
    (set (notice_set (ring_at qu (length_of qu)) id time reason qu) 2 (length_of qu + 1))
    (set (notice_set (first_of qu) id time reason qu) 1 ((first_of qu + 1) % 256))

-- A free place becomes the queue of a pid, with its first notice.
unfoldable pub begun : ℕ → ℕ → ℕ → ℕ → List ℕ → List ℕ
begun pid id time reason qu = set (set (set (notice_set 0 id time reason qu) 0 pid) 1 0) 2 1

-- The queue is freed: its place can be used again.
unfoldable pub freed : List ℕ → List ℕ
freed qu = set qu 2 0

-- The m notices from the i-th on, oldest first, three words each.
unfoldable pub notices_from : List ℕ → ℕ → ℕ → List ℕ
notices_from qu i zero = []
notices_from qu i (suc m) = notice_id_at qu i ∷ notice_time_at qu i ∷ reason_at qu i ∷ notices_from qu (i + 1) m

unfoldable pub notices : List ℕ → List ℕ
notices qu = notices_from qu 0 (length_of qu)
