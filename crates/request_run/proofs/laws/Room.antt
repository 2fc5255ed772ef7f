-- Given room, a run is not refused: the program's numbers are good, and the memory and the area that it lends are long enough.
use Rattle.std.proofs.Common.{◌≡◌, refl, ap, ◌∙◌, Bool, true, false, not, List, ℕ, ◌+◌, ◌*◌, ◌/◌, ◌≤◌, arith, ltb-false, le-ltb, eqb, ltb, length}
use Rattle.std.proofs.Math.ListN.{length-replicate}
use mathlib.Core.List.{replicate}
use Rattle.answers.specs.Number.{number_of}
use Rattle.base.specs.Below.{all}
use Rattle.base.specs.Choose.{pick, when_no}
use Rattle.base.specs.Written.{written}
use Rattle.steps.specs.Replies.{Left, WithArea, Reply}
use Rattle.world.specs.Layout.{stream_length}
use Rattle.world.specs.Numbers.{in_range_test}
use Rattle.world.specs.Open as world
use Rattle.world.proofs.OpenTold.{opening_0}
use Rattle.world.specs.Regions.{length_for}
use Rattle.request_run.specs.Run.{numbers, quotas, whole_run, lines_for, laid_out, run_out, program_world, program_lines}

pub numbers_good : world.record_test numbers quotas ≡ true
unfolding world.record_test in_range_test all
numbers_good = refl

pub run_given_room :
    (bytes mem area : List ℕ)
    → length_for numbers ≤ length mem
    → 28 * lines_for (length bytes) ≤ length area
    → run_out bytes mem area ≡ laid_out (whole_run bytes (world.opened numbers quotas mem)) area
unfolding run_out
run_given_room bytes mem area long fits =
    let is = opening_0 numbers quotas mem numbers_good long in
    when_no _ _ _ (le-ltb (length area) (28 * lines_for (length bytes)) fits)
    ∙ when_no _ _ _ (ap (λ (o : world.OpenOut). not (eqb (number_of o.answer) 0)) is)
    ∙ ap (λ (o : world.OpenOut). laid_out (whole_run bytes o.memory) area) is

-- ---- the program

most_lines : (n : ℕ) → lines_for n ≤ 2049
most_lines n = go (ltb 49152 n) refl
  where
    go : (b : Bool) → ltb 49152 n ≡ b → pick b 2049 ((n + 23) / 24) ≤ 2049
    go true e = omega arith
    go false e = omega (arith, ltb-false 49152 n e)

-- By what the code saw of a run on words that are all zero, with room for 2,049 lines.
module _
    (bytes area longer after : List ℕ)
    (reply : Reply)
    (roomy : length area ≡ 57372)
    (told : record { reply = record { reply = reply; area = longer }; memory = after } ≡ run_out bytes (replicate 5687 0) area)
  where
    runs : record { reply = record { reply = reply; area = longer }; memory = after } ≡ laid_out (whole_run bytes program_world) area
    unfolding program_world
    runs =
        told
        ∙ run_given_room bytes (replicate 5687 0) area (omega (arith, stream_length, length-replicate {A = ℕ} 5687 0))
        (omega (arith, most_lines (length bytes)))

    pub alone_writes : longer ≡ written (program_lines bytes) area
    unfolding program_lines
    alone_writes = ap (λ (o : Left WithArea). o.reply.area) runs

    pub alone_counts : reply.value ≡ length (program_lines bytes)
    unfolding program_lines
    alone_counts = ap (λ (o : Left WithArea). o.reply.reply.value) runs
