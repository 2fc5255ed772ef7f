-- `space::change::insert` meets its contract: quota, then the id.
use Rattle.std.proofs.Common.{◌≡◌, ℕ, ◌<◌, ◌≤◌, Bool, true, false, List, sym, ◌∙◌, le-leb}
use Rattle.std.proofs.lemmas.Bool.{lt-leb}
use Rattle.answers.specs.Answer.{Done, AlreadyExists, SpaceQuota}
use Rattle.base.specs.Choose.{when_yes, when_no}
use Rattle.table.specs.Slots.{id_of}
use Rattle.table.specs.declared.CapabilityEntry.{CapabilityEntry}
use Rattle.space.specs.Words.{quota_of, table_of}
use Rattle.space.specs.Lookup.{is_found, search_id}
use Rattle.space.specs.Change.{refused, inserted_table, inserted, insert_out}
use Rattle.space.proofs.change.insert.Goals as goal

module _ (sp : List ℕ) (e : CapabilityEntry) (quota used : ℕ) (q : quota ≡ quota_of sp) (u : used ≡ (table_of sp).full) where
  over : quota ≤ used → refused sp SpaceQuota ≡ insert_out sp e
  unfolding insert_out
  over l = sym (when_yes _ _ _ (rw (← q, ← u) (le-leb quota used l)))

  module _ (id : ℕ) (own : id ≡ id_of e) (found : Bool) (f : found ≡ is_found (search_id sp id).found) (l : used < quota) where
    tested : found ≡ is_found (search_id sp (id_of e)).found
    tested = rw own at f

    there : found ≡ true → refused sp AlreadyExists ≡ insert_out sp e
    unfolding insert_out
    there is = sym (when_no _ _ _ (rw (← q, ← u) (lt-leb quota used l)) ∙ when_yes _ _ _ (sym tested ∙ is))

    fresh : (after : List ℕ) (moved : ℕ) → found ≡ false → after ≡ inserted sp e → moved ≡ (inserted_table sp e).moved
        → record { words = after; answer = Done; moved = moved } ≡ insert_out sp e
    unfolding insert_out
    fresh after moved not_there words moves =
        rw (words, moves) (sym (when_no _ _ _ (rw (← q, ← u) (lt-leb quota used l)) ∙ when_no _ _ _ (sym tested ∙ not_there)))

pub returns-then-quota-used : goal.returns-then-quota-used
returns-then-quota-used c = search over

pub returns-then-holds_id : goal.returns-then-holds_id
returns-then-holds_id c =
    there _ _ _ _ c.quota.ensures c.used.ensures _ c.id.ensures _
    c.holds_id.ensures c.if-quota-used.false c.if-holds_id.true

pub returns : goal.returns
returns c = search fresh
