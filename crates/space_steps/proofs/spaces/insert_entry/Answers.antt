-- The space is lent to `space::insert`.
use Rattle.std.proofs.Common.{ap, ◌∙◌}
use Rattle.space.specs.Change.{InsertOut, insert_out}
use Rattle.steps.proofs.Lending.{lent, lends}
use Rattle.space_steps.proofs.spaces.insert_entry.Goals as goal

pub insert-requires : goal.insert-requires
insert-requires c = search lends

pub returns-clause-answer_value : goal.returns-clause-answer_value
returns-clause-answer_value c =
    let args = c.args in
    let came = c.insert.ensures in
    let here = lent _ _ _ _ _ c.space.ensures in (
      ap (λ (o : InsertOut). o.answer) came ∙ ap (λ sp. (insert_out sp args.entry).answer) here,
      ap (λ (o : InsertOut). o.moved) came ∙ ap (λ sp. (insert_out sp args.entry).moved) here,
    )
