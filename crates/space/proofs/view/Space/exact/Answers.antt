-- `space::view::Space::exact` meets its contract: where the search of the id ended, the whole token is compared.
use Rattle.space.proofs.CodeFind.{find_laws}
use Rattle.space.proofs.view.Space.exact.Goals as goal

pub whole-requires : goal.whole-requires
whole-requires c = search find_laws
