-- `request_run::serve` meets its contract: the record's reply and its line.
use Rattle.request_run.specs.RunLaws.{request_small}
use Rattle.request_run.proofs.serve.Goals as goal

pub answer-requires : goal.answer-requires
answer-requires c = request_small _ _ _ c.request_of-r.ensures.0
