-- Document 01, "Request stream program": what each record's call answers and leaves, and the lines of a whole run.
use Rattle.std.specs.Prelude.{not, ◌≡◌, ℕ, zero, suc, ◌+◌, ◌-◌, ◌*◌, ◌/◌, ◌≤◌, eqb, ltb, length, get_or, List, [], ◌∷◌, ◌++◌, ⊤, Result, Ok, Err}
use mathlib.Core.List.{replicate}
use Rattle.answers.specs.Number as answers
use Rattle.answers.specs.Answer.{Answer, Refuses, BadField}
use Rattle.answers.specs.declared.Refusal.{Refusal}
use Rattle.base.specs.Choose.{pick, when}
use Rattle.base.specs.Written.{written}
use Rattle.delegation_calls.specs.Delegation.{delegate_out}
use Rattle.manager_calls.specs.Calls as manager
use Rattle.notification_calls.specs.Calls as notification
use Rattle.revocation_calls.specs.Calls as revocation
use Rattle.space_calls.specs.Calls as space
use Rattle.space_reads.specs.Calls.{lookup_out}
use Rattle.steps.specs.Replies.{Left, WithArea, done, refusal, refuse, Reply}
use Rattle.world.specs.Open.{opened, opening}
use Rattle.world.specs.declared.Numbers.{Numbers}
use Rattle.request.specs.Laid.{Laid}
use Rattle.request.specs.Lines.{line_of}
use Rattle.request.specs.Reading.{verdict_of}
use Rattle.request.specs.Record.{request_of}
use Rattle.request.specs.declared.Request.{Request}

-- It opens 4 spaces of quota 32 (M 32, R 512, V 512, P 2), pids 1 and 2.
abbrev pub numbers : Numbers
numbers = record { spaces = 4; most = 32; places = 512; pairs = 512; queues = 2 }

abbrev pub quotas : List ℕ
quotas = 32 ∷ 32 ∷ 32 ∷ 32 ∷ []

abbrev pub pids : List ℕ
pids = 1 ∷ 2 ∷ []

-- ---- one record

-- 14 drain (A pid), to an area of its own for 256 notices.
unfoldable pub drained : ℕ → List ℕ → Left Reply
drained pid mem =
    let out = notification.drain_out mem pid (replicate 768 0) in
    record { reply = out.reply.reply; memory = out.memory }

-- 1 create, 2 delegate, 3 lookup, 4 check, 5 remove.
unfoldable pub called_1_to_5 : Request → List ℕ → Left Reply
called_1_to_5 r mem =
    when (eqb r.op 1) (manager.create_out mem r.space r.a (eqb r.valid 1) r.cap_type r.rights)
    (when (eqb r.op 2) (delegate_out mem r.a r.space r.second r.rights)
    (when (eqb r.op 3) (lookup_out mem r.space r.a)
    (when (eqb r.op 4) (manager.check_out mem r.a r.rights r.space) (space.remove_out mem r.space r.a))))

-- 6 delete, 7 held revoke, 8 clear, 9 copy, 10 `revoke_all`.
unfoldable pub called_6_to_10 : Request → List ℕ → Left Reply
called_6_to_10 r mem =
    when (eqb r.op 6) (manager.delete_out mem r.a)
    (when (eqb r.op 7) (revocation.revoke_held_out mem r.space r.a r.b pids)
    (when (eqb r.op 8) (space.clear_out mem r.space)
    (when (eqb r.op 9) (space.copy_out mem r.space r.second) (space.revoke_all_out mem r.space))))

-- 11 insert, 12 space-made create, 13 space revoke, 14 drain, 15 `revoke_capability`.
unfoldable pub called_11_to_15 : Request → List ℕ → Left Reply
called_11_to_15 r mem =
    when (eqb r.op 11) (space.insert_call_out mem r.space r.a r.b r.rights)
    (when (eqb r.op 12) (space.create_out mem r.space r.rights r.a)
    (when (eqb r.op 13) (space.revoke_out mem r.space r.a)
    (when (eqb r.op 14) (drained r.a mem) (revocation.revoke_capability_out mem r.a r.b pids))))

-- It is asked for an op of 1 to 15 alone.
unfoldable pub called : Request → List ℕ → Left Reply
called r mem = when (ltb r.op 6) (called_1_to_5 r mem) (when (ltb r.op 11) (called_6_to_10 r mem) (called_11_to_15 r mem))

-- To unfold this name is to unfold the choice among all calls.
unfoldable pub choices : Unit {0}
unfolding called called_1_to_5 called_6_to_10 called_11_to_15 when
choices = tt

-- A record is refused before its call, or its call is made, in the program's world, which is sound and has 4 spaces (`run_stays`).
abbrev pub judged : Result ⊤ Refusal → Request → List ℕ → Left Reply
judged (Err refusal) r mem = refuse mem (Refuses refusal)
judged (Ok made) r mem = called r mem

unfoldable pub answered : Request → List ℕ → Left Reply
answered r mem = judged (verdict_of r numbers.spaces) r mem

-- Values: token for 1 and 2, rights for 3, object for 5, id for 12, notices drained for 14, else 0.
abbrev pub valued : List ℕ
valued = 0 ∷ 1 ∷ 1 ∷ 1 ∷ 0 ∷ 1 ∷ 0 ∷ 0 ∷ 0 ∷ 0 ∷ 0 ∷ 0 ∷ 1 ∷ 0 ∷ 1 ∷ 0 ∷ []

abbrev pub printed : ℕ → ℕ → ℕ
printed op value = pick (eqb (get_or valued op 0) 1) value 0

-- ---- the run

pub record Run : Type 0 where
  pub lines : List ℕ
  pub memory : List ℕ

-- A short last record, or a 2,049th, prints op 0 and answer 21 and ends the run.
abbrev pub ended : ℕ → List ℕ → Run
ended number mem = record { lines = line_of number 0 (answers.number_of BadField) 0; memory = mem }

-- Where the records end no line is printed.
abbrev pub through : List ℕ → Run
through mem = record { lines = []; memory = mem }

-- The line of a record that its call answered.
abbrev pub line_for : ℕ → Request → Reply → List ℕ
line_for number r reply = line_of number r.op (answers.number_of reply.answer) (printed r.op reply.value)

-- The records from place `at` on, of which at most n are read.
unfoldable pub run_from : ℕ → ℕ → List ℕ → ℕ → List ℕ → Run
run_from zero number bytes at mem = pick (ltb at (length bytes)) (ended number mem) (through mem)
run_from (suc n) number bytes at mem =
    let r = request_of bytes at in
    let out = answered r mem in
    let later = run_from n (number + 1) bytes (at + 24) out.memory in
    pick (eqb (length bytes - at) 0) (through mem)
    (pick (ltb (length bytes - at) 24) (ended number mem)
    (record { lines = line_for number r out.reply ++ later.lines; memory = later.memory }))

unfoldable pub whole_run : List ℕ → List ℕ → Run
whole_run bytes mem = run_from 2048 1 bytes 0 mem

-- One record's part of a run: the memory that its call leaves, and its line at place `end` of the lines.
pub record Served (bytes : List ℕ) (at number : ℕ) (mem after : List ℕ) (end : ℕ) (lines longer : List ℕ) (behind : ℕ) : Type 0 where
  pub memory : after ≡ (answered (request_of bytes at) mem).memory
  pub line : Laid end (line_for number (request_of bytes at) (answered (request_of bytes at) mem).reply) lines longer behind
  pub near : behind ≤ end + 28

-- A whole run: the memory that it leaves, and its lines at the front of the lines.
pub record Ran (bytes mem after lines longer : List ℕ) (behind : ℕ) : Type 0 where
  pub memory : after ≡ (whole_run bytes mem).memory
  pub text : Laid 0 (whole_run bytes mem).lines lines longer behind
  pub inside : behind ≤ length longer

-- How many lines there are at most for n bytes: one for each whole record and one for what is left, or for the 2,049th record.
abbrev pub lines_for : ℕ → ℕ
lines_for n = pick (ltb 49152 n) 2049 ((n + 23) / 24)

abbrev pub unwritten : Answer → List ℕ → List ℕ → Left WithArea
unwritten answer mem area = record { reply = record { reply = refusal answer; area = area }; memory = mem }

-- The lines go to the front of the lent area; the value is how many bytes they are.
abbrev pub laid_out : Run → List ℕ → Left WithArea
laid_out run area = record {
  reply = record { reply = done (length run.lines); area = written run.lines area };
  memory = run.memory;
}

-- 21 first, for an area too short for as many lines of 28 bytes as there can be; then what the opening answers.
unfoldable pub run_out : List ℕ → List ℕ → List ℕ → Left WithArea
run_out bytes mem area =
    let begun = opening numbers quotas mem in
    when (ltb (length area) (28 * lines_for (length bytes))) (unwritten BadField mem area)
    (when (not (eqb (answers.number_of begun.answer) 0)) (unwritten begun.answer begun.memory area)
    (laid_out (whole_run bytes begun.memory) area))

-- ---- the program

-- The world that the program opens, on words that are all zero.
unfoldable pub program_world : List ℕ
program_world = opened numbers quotas (replicate 5687 0)

-- What it prints for the bytes that it reads.
unfoldable pub program_lines : List ℕ → List ℕ
program_lines bytes = (whole_run bytes program_world).lines
