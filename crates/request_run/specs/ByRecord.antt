-- A run by its records: what the first k of them leave and print, how many are read, and what is printed of the rest. A whole run is this.
use Rattle.std.specs.Prelude.{◌≡◌, ◌≢◌, Bool, true, false, List, [], ◌++◌, eqb, ltb, length, ℕ, zero, suc, ◌+◌, ◌-◌, ◌*◌, ◌/◌, ◌<◌, ◌≤◌, refl}
use Rattle.std.proofs.Common.{sym, ◌∙◌, append_assoc, arith, eqb-true, ltb-true, ltb-false, lt-ltb, le-ltb, ap}
use Rattle.std.proofs.lemmas.Bool.{eqb-false}
use Rattle.answers.specs.Number.{number_of}
use Rattle.answers.specs.Answer.{BadField}
use Rattle.base.specs.Choose.{pick}
use Rattle.steps.specs.Replies.{Reply}
use Rattle.request.specs.Lines.{line_of}
use Rattle.request.specs.Record.{request_of}
use Rattle.request_run.specs.Run.{Run, answered, ended, through, line_for, run_from, whole_run}
use Rattle.request_run.specs.RunLaws.{line_here, served_then, run_over, run_through, run_none, run_short, run_more}

-- The memory that the first k records leave, and what the one behind them is answered.
unfoldable pub memory_after : List ℕ → List ℕ → ℕ → List ℕ
memory_after bytes mem zero = mem
memory_after bytes mem (suc k) = (answered (request_of bytes (24 * k)) (memory_after bytes mem k)).memory

abbrev pub reply_after : List ℕ → List ℕ → ℕ → Reply
reply_after bytes mem k = (answered (request_of bytes (24 * k)) (memory_after bytes mem k)).reply

-- The lines of the first k records.
unfoldable pub lines_after : List ℕ → List ℕ → ℕ → List ℕ
lines_after bytes mem zero = []
lines_after bytes mem (suc k) = lines_after bytes mem k ++ line_for (k + 1) (request_of bytes (24 * k)) (reply_after bytes mem k)

-- How many records of n bytes are read: the whole ones, 2,048 at most.
unfoldable pub records_in : ℕ → ℕ
records_in n = pick (ltb n 49152) (n / 24) 2048

-- Behind k records there may be more of the n bytes, a short record or a 2,049th.
unfoldable pub last_line : ℕ → ℕ → List ℕ
last_line n k = pick (ltb (24 * k) n) (line_of (k + 1) 0 (number_of BadField) 0) []

abbrev pub ends_after : List ℕ → List ℕ → ℕ → Run
ends_after bytes mem k = record { lines = lines_after bytes mem k ++ last_line (length bytes) k; memory = memory_after bytes mem k }

-- ---- how many are read

records_most : (n k : ℕ) → 24 * k ≤ n → k ≡ 2048 → records_in n ≡ k
unfolding records_in
records_most n k fits most = rw (le-ltb n 49152 (omega arith)) (sym most)

records_all : (n k : ℕ) → 24 * k ≤ n → n - 24 * k < 24 → k < 2048 → records_in n ≡ k
unfolding records_in
records_all n k fits short few = rw (lt-ltb n 49152 (omega arith)) (omega arith)

-- ---- record after record

module _ (bytes mem : List ℕ) where
  abbrev n : ℕ
  n = length bytes

  abbrev now : ℕ → List ℕ
  now k = memory_after bytes mem k

  -- The first k records and a run behind them.
  abbrev joined : ℕ → Run → Run
  joined k rest = record { lines = lines_after bytes mem k ++ rest.lines; memory = rest.memory }

  at_more : (k : ℕ) → 24 * k < n → joined k (ended (k + 1) (now k)) ≡ ends_after bytes mem k
  unfolding last_line
  at_more k l = rw (lt-ltb (24 * k) n l)

  at_end : (k : ℕ) → n ≤ 24 * k → joined k (through (now k)) ≡ ends_after bytes mem k
  unfolding last_line
  at_end k u = rw (le-ltb (24 * k) n u)

  -- One record more.
  joins : (k : ℕ) (later : Run) → joined k (served_then (k + 1) bytes (24 * k) (now k) later) ≡ joined (suc k) later
  unfolding lines_after
  joins k later =
      ap {B = Run} (λ lines. record { lines = lines; memory = later.memory })
      (sym (append_assoc (lines_after bytes mem k) (line_here (k + 1) bytes (24 * k) (now k)) later.lines))

  -- What is left to run behind the first k records, of which at most m are read.
  abbrev left : ℕ → ℕ → Run
  left m k = run_from m (k + 1) bytes (24 * k) (now k)

  module _ (k : ℕ) (fits : 24 * k ≤ n) where
    stops : (rest : Run) → rest ≡ ends_after bytes mem k → records_in n ≡ k → rest ≡ ends_after bytes mem (records_in n)
    stops rest is last = is ∙ ap (ends_after bytes mem) (sym last)

    none_left : k ≡ 2048 → joined k (left 0 k) ≡ ends_after bytes mem (records_in n)
    none_left most = stops _ (go (ltb (24 * k) n) refl) (records_most n k fits most)
      where
        go : (b : Bool) → ltb (24 * k) n ≡ b → joined k (left 0 k) ≡ ends_after bytes mem k
        go true e = let l = ltb-true (24 * k) n e in ap (joined k) (run_over (k + 1) bytes (24 * k) (now k) l) ∙ at_more k l
        go false e = let u = ltb-false (24 * k) n e in ap (joined k) (run_through (k + 1) bytes (24 * k) (now k) u) ∙ at_end k u

    module _ (m : ℕ) (few : k < 2048) where
      all_read : n - 24 * k ≡ 0 → joined k (left (suc m) k) ≡ ends_after bytes mem (records_in n)
      all_read e =
          stops _ (ap (joined k) (run_none (k + 1) bytes (24 * k) (now k) m e) ∙ at_end k (omega arith))
          (records_all n k fits (omega arith) few)

      short_left : n - 24 * k ≢ 0 → n - 24 * k < 24 → joined k (left (suc m) k) ≡ ends_after bytes mem (records_in n)
      short_left some l =
          stops _ (ap (joined k) (run_short (k + 1) bytes (24 * k) (now k) m some l) ∙ at_more k (omega (arith, some)))
          (records_all n k fits l few)

      goes_on : n - 24 * k ≢ 0 → 24 ≤ n - 24 * k
          → joined k (left (suc m) k) ≡ joined (suc k) (left m (suc k))
      unfolding memory_after
      goes_on some u =
          ap (joined k) (run_more (k + 1) bytes (24 * k) (now k) m some (now (suc k)) u refl)
          ∙ joins k (run_from m (k + 1 + 1) bytes (24 * k + 24) (now (suc k)))
          ∙ ap (joined (suc k)) (moved (k + 1 + 1) (suc k + 1) (24 * k + 24) (24 * suc k) (omega arith) (omega arith))
        where
          moved : (i j at at' : ℕ) → i ≡ j → at ≡ at' → run_from m i bytes at (now (suc k)) ≡ run_from m j bytes at' (now (suc k))
          moved i j at at' e e' = rw (e, e')

  run_on : (m k : ℕ) → m + k ≡ 2048 → 24 * k ≤ n → joined k (left m k) ≡ ends_after bytes mem (records_in n)
  run_on zero k count fits = none_left k fits (omega arith)
  run_on (suc m) k count fits =
      go (eqb (n - 24 * k) 0) refl (ltb (n - 24 * k) 24) refl (λ u. run_on m (suc k) (omega arith) (omega arith))
    where
      few : k < 2048
      few = omega arith

      go : (a : Bool) → eqb (n - 24 * k) 0 ≡ a → (b : Bool) → ltb (n - 24 * k) 24 ≡ b
          → (24 ≤ n - 24 * k → joined (suc k) (left m (suc k)) ≡ ends_after bytes mem (records_in n))
          → joined k (left (suc m) k) ≡ ends_after bytes mem (records_in n)
      go true e b h later = all_read k fits m few (eqb-true _ _ e)
      go false e true h later = short_left k fits m few (eqb-false _ _ e) (ltb-true _ _ h)
      go false e false h later =
          let u : 24 ≤ n - 24 * k = ltb-false (n - 24 * k) 24 h in
          goes_on k fits m few (eqb-false _ _ e) u ∙ later u

  -- The lines of a run are those of the records that it reads, in order, and the line of what is left; its memory is what they leave.
  pub run_by_record : whole_run bytes mem ≡ ends_after bytes mem (records_in n)
  unfolding whole_run lines_after memory_after
  run_by_record = run_on 2048 0 refl (omega arith)
