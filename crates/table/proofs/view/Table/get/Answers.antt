-- `table::view::Table::get` meets its contract: where the search found an id, the slot is below the slot count and its entry the answer.
use Rattle.std.proofs.Common.{◌≡◌, ap, sym, ◌∙◌, List, ℕ, ◌<◌, arith, None, Some}
use Rattle.table.specs.Slots.{entry_at}
use Rattle.table.specs.Walk.{search as searched, got}
use Rattle.table.specs.declared.CapabilityEntry.{CapabilityEntry}
use Rattle.table.specs.declared.Search.{Search}
use Rattle.table.proofs.laws.Exact.{search_at}
use Rattle.table.proofs.view.Table.get.Goals as goal

entry : (ws : List ℕ) (slots id i : ℕ) (e : CapabilityEntry) (s : Search) → s ≡ searched ws slots id → s.found ≡ Some i → e ≡ entry_at ws i
    → Some e ≡ got ws slots id
unfolding got
entry ws slots id i e s r f h = cc

nothing : (ws : List ℕ) (slots id : ℕ) (s : Search) → s ≡ searched ws slots id → s.found ≡ None → None ≡ got ws slots id
unfolding got
nothing ws slots id s r f = cc

below : (ws : List ℕ) (slots id i : ℕ) (s : Search) → s ≡ searched ws slots id → s.found ≡ Some i → i < slots
below ws slots id i s r f = (search_at ws slots id i (sym (ap (λ (s : Search). s.found) r) ∙ f)).0

pub entry_at-requires : goal.entry_at-requires
entry_at-requires c = omega (arith, below _ _ _ _ _ c.find.ensures c.in_ok-i.was)

pub returns-in_err-i : goal.returns-in_err-i
returns-in_err-i c = c.from_residual.ensures ∙ nothing _ _ _ _ c.find.ensures c.in_err-i.was

pub returns : goal.returns
returns c = entry _ _ _ _ _ _ c.find.ensures c.in_ok-i.was c.entry_at.ensures
