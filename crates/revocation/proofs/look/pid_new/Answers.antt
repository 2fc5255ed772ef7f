use Rattle.std.proofs.Common.{◌≡◌, sym, true, List, ℕ, arith, rules, le-ltb, ltb, get_or}
use Rattle.base.specs.Below.{all}
use Rattle.base.specs.AllLaws.{all_make, all_tests}
use Rattle.base.specs.Choose.{both_false}
use Rattle.revocation.specs.Words.{queue_at, length_at}
use Rattle.revocation.proofs.look.pid_new.Invariants.{others}
use Rattle.revocation.proofs.look.pid_new.Goals as goal

free : (qs : List ℕ) (j long : ℕ) → long ≡ get_or (queue_at qs j) 2 0 → long ≡ 0 → true ≡ all j (others qs j)
free qs j long e none =
    sym (all_make j (others qs j) (λ i l. rw (le-ltb 0 (length_at qs j) (omega arith), both_false (ltb 0 (length_at qs i)))))

ruleset laws = (rules, all_tests)

pub returns-then-word_at-eq0 : goal.returns-then-word_at-eq0
returns-then-word_at-eq0 c = free c.args.qs.now _ _ c.word_at.ensures c.if-word_at-eq0.true

pub loop-i-init : goal.loop-i-init
loop-i-init c = search laws

pub loop-i-preserved : goal.loop-i-preserved
loop-i-preserved c = search laws

pub returns-then-not-apart : goal.returns-then-not-apart
returns-then-not-apart c = search laws

pub returns : goal.returns
returns c = search laws
