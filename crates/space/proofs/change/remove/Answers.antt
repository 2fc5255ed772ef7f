-- `space::change::remove` meets its contract: only a slot that holds exactly the token is given up.
use Rattle.std.proofs.Common.{◌≡◌, ℕ, List, None, Some}
use Rattle.table.specs.declared.Search.{Search}
use Rattle.space.specs.Lookup.{exact_search}
use Rattle.space.specs.Change.{removed, removed_token}
use Rattle.space.proofs.CodeFind.{find_laws}
use Rattle.space.proofs.change.remove.Goals as goal

module _ (sp : List ℕ) (token : ℕ) (s : Search) (is : s ≡ exact_search sp token) where
  stays : s.found ≡ None → sp ≡ removed_token sp token
  unfolding removed_token
  stays absent = cc

  goes : (i : ℕ) (after : List ℕ) → s.found ≡ Some i → after ≡ removed sp i → after ≡ removed_token sp token
  unfolding removed_token
  goes i after at_i here = cc

pub entry_of-answer-requires : goal.entry_of-answer-requires
entry_of-answer-requires c = search find_laws

pub returns-in_default-clause-sp_after : goal.returns-in_default-clause-sp_after
returns-in_default-clause-sp_after c = search (stays, find_laws)

pub returns-in_default-clause-value : goal.returns-in_default-clause-value
returns-in_default-clause-value c = search (stays, find_laws)

pub remove_slot-requires : goal.remove_slot-requires
remove_slot-requires c = search find_laws

pub returns-in-Some-clause-sp_after : goal.returns-in-Some-clause-sp_after
returns-in-Some-clause-sp_after c = search (goes, find_laws)

pub returns-in-Some-clause-value : goal.returns-in-Some-clause-value
returns-in-Some-clause-value c = search (goes, find_laws)
