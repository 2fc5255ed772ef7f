-- `space::view::Space::get_entry` meets its contract: what the search of the id answers.
use Rattle.space.proofs.CodeFind.{find_laws}
use Rattle.space.proofs.view.Space.get_entry.Goals as goal

pub entry_of-requires : goal.entry_of-requires
entry_of-requires c = search find_laws
