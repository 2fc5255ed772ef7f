-- `registry::registering::give_list` meets its contract: where the flag is set nothing is to do; where it is not, two more set it, which
-- fits a word.
use Rattle.std.proofs.Common.{◌≡◌, ℕ, ◌+◌, ◌*◌, ◌≢◌, List, set, sym, rules, eq-eqb, ne_eqb}
use Rattle.std.proofs.Math.Seq.{set-get_or}
use Rattle.registry.specs.Words.{state_at, has_list}
use Rattle.registry.specs.Registering.{list_given}
use Rattle.registry.proofs.registering.give_list.Goals as goal

module _ (places p : ℕ) (rg : List ℕ) where
  parent_has_list : has_list (state_at places rg p) ≡ 1 → rg ≡ list_given places p rg
  unfolding list_given
  parent_has_list e = rw (eq-eqb (has_list (state_at places rg p)) 1 e) (sym (set-get_or rg (2 * places + p) 0))

  gets_list : has_list (state_at places rg p) ≢ 1 → set rg (2 * places + p) (state_at places rg p + 2) ≡ list_given places p rg
  unfolding list_given
  gets_list d = rw (ne_eqb (has_list (state_at places rg p)) 1 d)

ruleset laws = (rules, parent_has_list, gets_list)

pub returns-then-rg-at-eq1 : goal.returns-then-rg-at-eq1
returns-then-rg-at-eq1 c = search laws

pub returns : goal.returns
returns c = search laws
