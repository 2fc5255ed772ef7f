-- The log has V words, one for each pair (id, generation) in the order of arrival: id + generation * 2^48.
-- A queue has 771 words: 0 pid, 1 first, 2 length, then 256 notices of three words as a ring: capability id, time in seconds, reason.
-- The oldest notice stands at `first`; length 0 means that the place is free. A reason is 0 explicit, 1 parent_revoked, 2 process_exit,
-- 3 policy_enforced.
use Rattle.std.specs.Prelude.{List, ℕ, ◌+◌, ◌*◌, ◌%◌, get_or}
use Rattle.base.specs.Part.{part}

abbrev pub pair_at : List ℕ → ℕ → ℕ
pair_at lg k = get_or lg k 0

abbrev pub pid_of : List ℕ → ℕ
pid_of qu = get_or qu 0 0

abbrev pub first_of : List ℕ → ℕ
first_of qu = get_or qu 1 0

abbrev pub length_of : List ℕ → ℕ
length_of qu = get_or qu 2 0

-- The queue at place q, of queues that stand one after another; its pid and its length.
abbrev pub queue_at : List ℕ → ℕ → List ℕ
queue_at qs q = part (q * 771) 771 qs

abbrev pub pid_at : List ℕ → ℕ → ℕ
pid_at qs q = pid_of (queue_at qs q)

abbrev pub length_at : List ℕ → ℕ → ℕ
length_at qs q = length_of (queue_at qs q)

-- Where the i-th notice, oldest first, stands in the ring.
abbrev pub ring_at : List ℕ → ℕ → ℕ
ring_at qu i = (first_of qu + i) % 256

abbrev pub notice_id_at : List ℕ → ℕ → ℕ
notice_id_at qu i = get_or qu (3 + 3 * ring_at qu i) 0

abbrev pub notice_time_at : List ℕ → ℕ → ℕ
notice_time_at qu i = get_or qu (3 + 3 * ring_at qu i + 1) 0

abbrev pub reason_at : List ℕ → ℕ → ℕ
reason_at qu i = get_or qu (3 + 3 * ring_at qu i + 2) 0
