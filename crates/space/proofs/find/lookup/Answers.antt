-- `space::find::lookup` meets its contract: a hit with its entry's use, or a miss.
use Rattle.std.proofs.Common.{◌∙◌}
use Rattle.space.proofs.CodeFind.{lookup_laws}
use Rattle.space.proofs.find.lookup.Goals.{in-Some, in_default}
use Rattle.space.proofs.find.lookup.Goals as goal

pub entry_of-answer-requires : goal.entry_of-answer-requires
entry_of-answer-requires c = search lookup_laws

pub count_use-requires : goal.count_use-requires
count_use-requires c = search lookup_laws

pub returns-clause-sp_after : goal.returns-clause-sp_after
returns-clause-sp_after c =
    elim c.match-counted.branch [ in-Some w ↦ search (lookup_laws, w.sp-is ∙ w.count_use.ensures) | in_default w ↦ search lookup_laws ]

pub returns-clause-value : goal.returns-clause-value
returns-clause-value c = search lookup_laws
