-- The statistics of the manager and of the derivation tree as a host sees them: the answer by its number, all else as it is.
use Rattle.std.specs.Prelude.{◌≡◌, Result}
use Rattle.answers.specs.Number.{number_of}
use Rattle.answers.specs.declared.Refusal.{Refusal}
use Rattle.manager_calls.specs.Calls.{StatsReply, TreeReply, told_stats, told_tree}
use Rattle.manager_calls.specs.declared.ManagerStats.{ManagerStats}
use Rattle.manager_calls.specs.declared.Tree.{Tree}
use Rattle.host.specs.declared.manager.ManagerAnswer.{ManagerAnswer}
use Rattle.host.specs.declared.manager.TreeAnswer.{TreeAnswer}

unfoldable pub manager_answer : StatsReply → ManagerAnswer
manager_answer r =
    record { answer = number_of r.answer; created = r.created; delegated = r.delegated; revoked = r.revoked; deleted = r.deleted }

unfoldable pub tree_answer : TreeReply → TreeAnswer
tree_answer r = record { answer = number_of r.answer; parents = r.parents; children = r.children }

-- What the code's conversions answer.
abbrev pub ManagerAnswers : Result ManagerStats Refusal → ManagerAnswer → Type 0
ManagerAnswers outcome answer = answer ≡ manager_answer (told_stats outcome)

abbrev pub TreeAnswers : Result Tree Refusal → TreeAnswer → Type 0
TreeAnswers outcome answer = answer ≡ tree_answer (told_tree outcome)
