-- A run record by record: what each test decides, and that what is left to run, behind what is written, is the whole run.
use Rattle.std.specs.Prelude.{◌≡◌, refl, ◌≢◌, Bool, true, false, List, ◌++◌, ℕ, suc, ◌+◌, ◌-◌, ◌*◌, ◌/◌, ◌^◌, ◌<◌, ◌≤◌, ltb, length}
use Rattle.std.proofs.Common.{sym, ap, ◌∙◌, arith, eq-eqb, ne_eqb, lt-ltb, le-ltb}
use Rattle.answers.specs.Number.{number_of, number_of_refusal}
use Rattle.answers.specs.Answer.{Answer, Done, Refuses}
use Rattle.answers.specs.declared.Refusal.{Refusal}
use Rattle.answers.specs.declared.Refusal.TheVariants.{InvalidCapability, InsufficientRights, CapabilityRevoked, OutOfMemory, InvalidObject, PermissionDenied, AlreadyExists, NotFound, IdExhausted, QuotaExceeded, SpaceQuota, SpaceIds, BadSpace, BadField, RegistryFull, RecycleFull, LogFull, PidTableFull, BadWorld}
use Rattle.base.specs.Choose.{pick}
use Rattle.steps.specs.Replies.{Left, Reply}
use Rattle.request.specs.Laid.{Laid, laid_laid, laid_none, length_laid}
use Rattle.request.specs.Lines.{line_of}
use Rattle.request.specs.Record.{request_of}
use Rattle.request.specs.declared.Request.{Request}
use Rattle.request_run.specs.Run.{Run, Served, Ran, answered, printed, ended, through, line_for, run_from, whole_run, lines_for}

-- ---- one record

-- No answer has more than two digits.
pub refusal_small : (refusal : Refusal) → number_of_refusal refusal < 100
refusal_small InvalidCapability = omega arith
refusal_small InsufficientRights = omega arith
refusal_small CapabilityRevoked = omega arith
refusal_small OutOfMemory = omega arith
refusal_small InvalidObject = omega arith
refusal_small PermissionDenied = omega arith
refusal_small AlreadyExists = omega arith
refusal_small NotFound = omega arith
refusal_small IdExhausted = omega arith
refusal_small QuotaExceeded = omega arith
refusal_small SpaceQuota = omega arith
refusal_small SpaceIds = omega arith
refusal_small BadSpace = omega arith
refusal_small BadField = omega arith
refusal_small RegistryFull = omega arith
refusal_small RecycleFull = omega arith
refusal_small LogFull = omega arith
refusal_small PidTableFull = omega arith
refusal_small BadWorld = omega arith

answer_small : (a : Answer) → number_of a < 100
answer_small Done = omega arith
answer_small (Refuses refusal) = refusal_small refusal

pub number_small : (n : ℕ) (a : Answer) → n ≡ number_of a → n < 100
number_small n a is = rw is (answer_small a)

module _ (bytes : List ℕ) (at : ℕ) (r : Request) (read : r ≡ request_of bytes at) where
  pub request_small : (r.cap_type ≤ 15) × (r.rights < 2 ^ 32)
  unfolding request_of
  request_small = rw read (omega arith, omega arith)

  -- By what the code saw: the record, its reply, the answer's number and the value.
  pub served :
      (number : ℕ) (mem after : List ℕ) (end : ℕ) (lines longer : List ℕ) (behind : ℕ) (reply : Reply) (n value : ℕ)
      → record { reply = reply; memory = after } ≡ answered r mem
      → n ≡ number_of reply.answer
      → value ≡ printed r.op reply.value
      → Laid end (line_of number r.op n value) lines longer behind
      → behind ≤ end + 28
      → Served bytes at number mem after end lines longer behind
  served number mem after end lines longer behind reply n value told named shown laid near =
      let replied : reply ≡ (answered r mem).reply = ap (λ (out : Left Reply). out.reply) told in
      let seen : Laid end (line_for number r reply) lines longer behind = rw (named, shown) at laid in
      let line : Laid end (line_for number r (answered r mem).reply) lines longer behind = rw replied at seen in
      record { memory = rw read at (ap (λ (out : Left Reply). out.memory) told); line = rw read at line; near = near }

-- ---- what each test decides

module _ (number : ℕ) (bytes : List ℕ) (at : ℕ) (mem : List ℕ) where
  -- The line of the record here, and what comes after it.
  abbrev pub line_here : List ℕ
  line_here = line_for number (request_of bytes at) (answered (request_of bytes at) mem).reply

  abbrev pub served_then : Run → Run
  served_then later = record { lines = line_here ++ later.lines; memory = later.memory }

  pub run_over : at < length bytes → run_from 0 number bytes at mem ≡ ended number mem
  unfolding run_from
  run_over l = rw (lt-ltb at (length bytes) l)

  pub run_through : length bytes ≤ at → run_from 0 number bytes at mem ≡ through mem
  unfolding run_from
  run_through u = rw (le-ltb at (length bytes) u)

  module _ (m : ℕ) where
    pub run_none : length bytes - at ≡ 0 → run_from (suc m) number bytes at mem ≡ through mem
    unfolding run_from
    run_none e = rw (eq-eqb (length bytes - at) 0 e)

    module _ (some : length bytes - at ≢ 0) where
      pub run_short : length bytes - at < 24 → run_from (suc m) number bytes at mem ≡ ended number mem
      unfolding run_from
      run_short l = rw (ne_eqb (length bytes - at) 0 some, lt-ltb (length bytes - at) 24 l)

      pub run_more :
          (after : List ℕ)
          → 24 ≤ length bytes - at
          → after ≡ (answered (request_of bytes at) mem).memory
          → run_from (suc m) number bytes at mem ≡ served_then (run_from m (number + 1) bytes (at + 24) after)
      unfolding run_from
      run_more after u left = rw (left, ne_eqb (length bytes - at) 0 some, le-ltb (length bytes - at) 24 u)

-- ---- the turns of the loop

-- `left` records may be read yet; with what is left of the run laid at `end`, the lines are the whole run's.
pub record Running (bytes mem₀ lines₀ mem lines : List ℕ) (left number at end : ℕ) : Type 0 where
  pub fits : 28 * lines_for (length bytes) ≤ length lines₀
  pub counted : number + left ≡ 2049
  pub here : at + 24 ≡ 24 * number
  pub inside : at ≤ length bytes
  pub near : end + 28 ≤ 28 * number
  pub behind : end ≤ length lines
  pub same : length lines ≡ length lines₀
  pub sized : length mem ≡ length mem₀
  pub memory : (run_from left number bytes at mem).memory ≡ (whole_run bytes mem₀).memory
  pub join : (last : List ℕ) (e : ℕ)
      → Laid end (run_from left number bytes at mem).lines lines last e
      → Laid 0 (whole_run bytes mem₀).lines lines₀ last e

pub run_starts : (bytes mem lines : List ℕ) → 28 * lines_for (length bytes) ≤ length lines → Running bytes mem lines mem lines 2048 1 0 0
unfolding whole_run
run_starts bytes mem lines fits = record {
  fits = fits;
  counted = refl;
  here = refl;
  inside = omega arith;
  near = omega arith;
  behind = omega arith;
  same = refl;
  sized = refl;
  memory = refl;
  join = λ last e laid. laid;
}

-- There is a line for every record that is begun.
lines_reach : (n number at : ℕ) → at < n → at + 24 ≡ 24 * number → number ≤ 2049 → number ≤ lines_for n
lines_reach n number at l here most = go (ltb 49152 n)
  where
    go : (b : Bool) → number ≤ pick b 2049 ((n + 23) / 24)
    go true = omega arith
    go false = omega arith

module _
    (bytes mem₀ lines₀ mem lines : List ℕ)
    (left number at end : ℕ)
    (running : Running bytes mem₀ lines₀ mem lines left number at end)
  where
    pub run_room : at < length bytes → end + 28 ≤ length lines
    run_room l =
        omega (
          arith,
          running.fits,
          running.near,
          running.same,
          lines_reach (length bytes) number at l running.here (omega (arith, running.counted)),
        )

    abbrev from : ℕ → Run
    from n = run_from n number bytes at mem

    closes : (rest : Run) (longer : List ℕ) (e : ℕ)
        → from left ≡ rest
        → rest.memory ≡ mem
        → Laid end rest.lines lines longer e
        → e ≤ length longer
        → Ran bytes mem₀ mem lines₀ longer e
    closes rest longer e is kept laid fits = record {
      memory = sym kept ∙ sym (ap (λ (r : Run). r.memory) is) ∙ running.memory;
      text = running.join longer e (rw is laid);
      inside = fits;
    }

    stops : from left ≡ through mem → Ran bytes mem₀ mem lines₀ lines end
    stops is = closes (through mem) lines end is refl (laid_none end lines) running.behind

    pub ends_through : left ≤ 0 → length bytes ≤ at → Ran bytes mem₀ mem lines₀ lines end
    ends_through none u = let last : left ≡ 0 = omega arith in stops (ap from last ∙ run_through number bytes at mem u)

    more : 0 < left → left ≡ suc (left - 1)
    more some = omega arith

    pub ends_none : 0 < left → length bytes - at ≡ 0 → Ran bytes mem₀ mem lines₀ lines end
    ends_none some e = stops (ap from (more some) ∙ run_none number bytes at mem (left - 1) e)

    -- The run ends with a line of answer 21.
    module _ (longer : List ℕ) (e : ℕ) (laid : Laid end (line_of number 0 21 0) lines longer e) (next : e ≤ end + 28) where
      breaks_off : at < length bytes → from left ≡ ended number mem → Ran bytes mem₀ mem lines₀ longer e
      breaks_off l is =
          let fits : e ≤ length lines = omega (arith, run_room l) in
          let long : length longer ≡ length lines = length_laid end (line_of number 0 21 0) lines longer e laid fits in
          closes (ended number mem) longer e is refl laid (omega arith)

      pub ends_over : left ≤ 0 → at < length bytes → Ran bytes mem₀ mem lines₀ longer e
      ends_over none l = let last : left ≡ 0 = omega arith in breaks_off l (ap from last ∙ run_over number bytes at mem l)

      pub ends_short : 0 < left → length bytes - at ≢ 0 → length bytes - at < 24 → Ran bytes mem₀ mem lines₀ longer e
      ends_short some begun l =
          breaks_off (omega (arith, begun)) (ap from (more some) ∙ run_short number bytes at mem (left - 1) begun l)

    pub run_goes :
        (after longer : List ℕ) (behind : ℕ)
        → 0 < left
        → length bytes - at ≢ 0
        → 24 ≤ length bytes - at
        → length after ≡ length mem
        → Served bytes at number mem after end lines longer behind
        → Running bytes mem₀ lines₀ after longer (left - 1) (number + 1) (at + 24) behind
    run_goes after longer behind some begun u kept turn =
        let room : end + 28 ≤ length lines = run_room (omega arith) in
        let later : Run = run_from (left - 1) (number + 1) bytes (at + 24) after in
        let line : List ℕ = line_here number bytes at mem in
        let long : length longer ≡ length lines = length_laid end line lines longer behind turn.line (omega (arith, turn.near)) in
        let is : from left ≡ served_then number bytes at mem later =
        ap from (more some) ∙ run_more number bytes at mem (left - 1) begun after u turn.memory in
        record {
          fits = running.fits;
          counted = omega (arith, running.counted);
          here = omega (arith, running.here);
          inside = omega (arith, running.inside);
          near = omega (arith, running.near, turn.near);
          behind = omega (arith, room, turn.near, long);
          same = long ∙ running.same;
          sized = kept ∙ running.sized;
          memory = sym (ap (λ (r : Run). r.memory) is) ∙ running.memory;
          join = λ last e laid.
              running.join last e
              (rw is (laid_laid end line lines longer behind turn.line later.lines last e laid (omega arith)));
        }
