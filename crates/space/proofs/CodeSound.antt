-- The three tests of a space are those of `space_test`: v is what the tests made so far give.
use Rattle.std.proofs.Common.{◌≡◌, ℕ, ◌-◌, ◌^◌, ◌<◌, ◌≤◌, Bool, true, false, List, leb, length, take, drop, arith, le-ltb, lt-ltb}
use Rattle.table.specs.Sound.{sound_test}
use Rattle.table.specs.declared.CapTable.{CapTable}
use Rattle.space.specs.Words.{quota_of, generation_of, table_of}
use Rattle.space.specs.Sound.{space_test}
use Rattle.space.proofs.Lent.{lent_rest}

module _ (most : ℕ) (sp : List ℕ) (v : Bool) where
  pub no_generation : 255 < generation_of sp → v ≡ false → v ≡ space_test most sp
  unfolding space_test
  no_generation l e = rw (e, le-ltb (generation_of sp) (2 ^ 8) l)

  pub no_quota : generation_of sp ≤ 255 → v ≡ leb (quota_of sp) most → v ≡ false → v ≡ space_test most sp
  unfolding space_test
  no_quota g is e = rw (lt-ltb (generation_of sp) (2 ^ 8) (omega arith), ← is, e)

  pub rest : (t : CapTable) (r : Bool) → generation_of sp ≤ 255 → v ≡ leb (quota_of sp) most → v ≡ true → t ≡ table_of sp
      → r ≡ sound_test most (take (length sp - 8) (drop 8 sp)) t → r ≡ space_test most sp
  unfolding space_test
  rest t r g is e counts test = rw (test, counts, lent_rest, lt-ltb (generation_of sp) (2 ^ 8) (omega arith), ← is, e)

pub ruleset sound_laws = (no_generation, no_quota, rest)
