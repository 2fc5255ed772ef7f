-- An area too short is refused, then what the opening refuses; then what is served is the whole run.
use Rattle.std.proofs.Common.{◌≡◌, refl, sym, ap, ◌∙◌, not, List, ℕ, ◌*◌, ◌<◌, ◌≤◌, zero-add, arith, lt-ltb, le-ltb, length}
use Rattle.std.proofs.lemmas.Grind.{common_steps}
use Rattle.std.proofs.lemmas.Result.{err_from_is_err_and}
use Rattle.answers.specs.NumberLaws.{refusal_some}
use Rattle.answers.specs.Answer.{Done, Refuses, BadField}
use Rattle.answers.specs.declared.Refusal.{Refusal}
use Rattle.base.specs.Choose.{when_yes, when_no}
use Rattle.steps.specs.Replies.{Left, WithArea, done}
use Rattle.world.specs.Open as world
use Rattle.request.specs.Laid.{laid_front}
use Rattle.request_run.specs.Run.{Ran, numbers, quotas, lines_for, unwritten, run_out}
use Rattle.request_run.proofs.run.Goals as goal

module _ (bytes mem area : List ℕ) (few : ℕ) (most : few ≡ lines_for (length bytes)) where
  refuses_area : length area < 28 * few → run_out bytes mem area ≡ unwritten BadField mem area
  unfolding run_out
  refuses_area l = when_yes _ _ _ (lt-ltb (length area) (28 * lines_for (length bytes)) (rw most at l))

  module _ (fits : 28 * few ≤ length area) (after : List ℕ) where
    enough : 28 * lines_for (length bytes) ≤ length area
    enough = rw most at fits

    refuses_open :
        (refusal : Refusal) → record { answer = Refuses refusal; memory = after } ≡ world.opening numbers quotas mem
        → run_out bytes mem area ≡ unwritten (Refuses refusal) after area
    unfolding run_out
    refuses_open refusal is =
        when_no _ _ _ (le-ltb (length area) (28 * lines_for (length bytes)) enough)
        ∙ rw (← is) (when_yes _ _ _ (ap not (refusal_some refusal)))

    runs :
        (last longer : List ℕ) (behind : ℕ) → record { answer = Done; memory = after } ≡ world.opening numbers quotas mem
        → Ran bytes after last area longer behind
        → record { reply = record { reply = done behind; area = longer }; memory = last } ≡ run_out bytes mem area
    unfolding run_out
    runs last longer behind is ran =
        alike behind _ longer _ last _ (ran.text.place ∙ zero-add _) (laid_front _ _ _ _ ran.text) ran.memory
        ∙ sym (when_no _ _ _ (le-ltb (length area) (28 * lines_for (length bytes)) enough) ∙ rw (← is) (when_no _ _ _ refl))
      where
        alike :
            (n n' : ℕ) (area area' mem mem' : List ℕ) → n ≡ n' → area ≡ area' → mem ≡ mem'
            → ◌≡◌ {A = Left WithArea} (record { reply = record { reply = done n; area = area }; memory = mem })
            (record { reply = record { reply = done n'; area = area' }; memory = mem' })
        alike n n' area area' mem mem' p q m = rw (p, q, m)

pub returns-in_err-clause-mem_after : goal.returns-in_err-clause-mem_after
returns-in_err-clause-mem_after c =
    let (refused, is, unvisited) = err_from_is_err_and c.from_residual.result c.from_residual.ensures.1 in
    let short = refuses_area _ c.args.mem.now _ _ c.lines_for.ensures.0 c.if-lines-lines_for.true in
    rw (is, unvisited) (grind (arith, common_steps, short))

pub returns-in_err-open-clause-mem_after : goal.returns-in_err-open-clause-mem_after
returns-in_err-open-clause-mem_after c =
    let (refused, is, unvisited) = err_from_is_err_and c.from_residual-in_err-open.result c.from_residual-in_err-open.ensures.1 in
    let fits : 28 * c.lines_for.result ≤ length c.args.lines.now = grind (arith, common_steps) in
    rw (is, unvisited) (sym (refuses_open _ _ _ _ c.lines_for.ensures.0 fits _ _ c.in_err-open.ensures))

pub returns-clause-mem_after : goal.returns-clause-mem_after
returns-clause-mem_after c =
    let fits : 28 * c.lines_for.result ≤ length c.args.lines.now = grind (arith, common_steps) in
    rw c.with.ensures (runs _ _ _ _ c.lines_for.ensures.0 fits _ _ _ _ c.in_ok-open.ensures c.serve_all.ensures)
