-- No two outcomes of a call that answers the statistics of the manager or of the derivation tree are told alike (steps, Determined).
use Rattle.std.specs.Prelude.{Result, Ok, Err}
use Rattle.std.proofs.Common.{◌≡◌, refl}
use Rattle.answers.specs.Answer.{Answer, Refuses}
use Rattle.answers.specs.Answer as answers
use Rattle.answers.specs.declared.Refusal.{Refusal}
use Rattle.steps.proofs.laws.Determined.{Determines, read_back}
use Rattle.manager_calls.specs.Calls.{StatsReply, TreeReply, told_stats, told_tree}
use Rattle.manager_calls.specs.declared.ManagerStats.{ManagerStats}
use Rattle.manager_calls.specs.declared.Tree.{Tree}

pub stats_determine : Determines told_stats
stats_determine = read_back told_stats back same
  where
    outcome : Answer → StatsReply → Result ManagerStats Refusal
    outcome answers.Done r = Ok (record { created = r.created; delegated = r.delegated; revoked = r.revoked; deleted = r.deleted })
    outcome (Refuses why) r = Err why

    back : StatsReply → Result ManagerStats Refusal
    back r = outcome r.answer r

    same : (o : Result ManagerStats Refusal) → back (told_stats o) ≡ o
    same (Ok r) = refl
    same (Err why) = refl

pub tree_determines : Determines told_tree
tree_determines = read_back told_tree back same
  where
    outcome : Answer → TreeReply → Result Tree Refusal
    outcome answers.Done r = Ok (record { parents = r.parents; children = r.children })
    outcome (Refuses why) r = Err why

    back : TreeReply → Result Tree Refusal
    back r = outcome r.answer r

    same : (o : Result Tree Refusal) → back (told_tree o) ≡ o
    same (Ok r) = refl
    same (Err why) = refl
