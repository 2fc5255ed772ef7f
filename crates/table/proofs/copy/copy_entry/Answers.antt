-- `table::copy::copy_entry` meets its contract: an insert of the entry with no uses, its moves added. A rebuild moves at most as many
-- entries as there are slots, so the sum fits.
use Rattle.table.proofs.CodeInsert.{copy_entry_laws}
use Rattle.table.proofs.copy.copy_entry.Goals as goal

pub returns-then-crowded : goal.returns-then-crowded
returns-then-crowded c = search copy_entry_laws

pub place-requires-2 : goal.place-requires-2
place-requires-2 c = search copy_entry_laws

pub returns : goal.returns
returns c = search copy_entry_laws
