-- The record is tested first, then the length.
use Rattle.std.proofs.Common.{true, ◌≡◌, sym, ◌∙◌, arith}
use Rattle.world.specs.Open.{record_test, good}
use Rattle.world.proofs.OpenTold.{opening_21, opening_26, opening_0}
use Rattle.world.proofs.open.open.Goals as goal
use Rattle.world.proofs.open.open.Goals.{Else-not-good_record}

passed : (c : Else-not-good_record) → record_test c.args.d c.args.quotas.now
    ≡ true
passed c = sym c.good_record.ensures ∙ c.if-not-good_record.false

pub returns-then-not-good_record : goal.returns-then-not-good_record
returns-then-not-good_record c = sym (opening_21 _ _ _ (sym c.good_record.ensures ∙ c.if-not-good_record.true))

pub length_for-requires : goal.length_for-requires
length_for-requires c = (good _ _ (passed (goal.at.length_for-requires c).Else-not-good_record)).in_range

pub returns-then-mem-length_for : goal.returns-then-mem-length_for
returns-then-mem-length_for c = sym (opening_26 _ _ _ (passed (goal.at.returns-then-mem-length_for c).Else-not-good_record) (omega arith))

pub write_world-requires : goal.write_world-requires
write_world-requires c =
    let ok = good _ _ (passed (goal.at.write_world-requires c).Else-not-good_record) in
    (ok.in_range, ok.one_each, omega arith)

pub returns : goal.returns
returns c =
    rw c.write_world.ensures
    (sym (opening_0 _ _ _ (passed (goal.at.returns c).Else-not-good_record) (omega arith)))
