-- The test of a space is true exactly when the space is sound.
use Rattle.std.proofs.Common.{◌≡◌, ℕ, ◌^◌, Bool, true, ltb, leb, ◌↔◌, List, ltb-true, lt-ltb, le-leb, leb-true}
use Rattle.base.specs.Choose.{both, both_left, both_right, both_make}
use Rattle.table.specs.Sound.{sound_test}
use Rattle.table.proofs.laws.Tests.{sound_exactly}
use Rattle.space.specs.Words.{quota_of, generation_of, table_of, slot_words}
use Rattle.space.specs.Sound.{SoundSpace, space_test}

pub space_exactly : (most : ℕ) (sp : List ℕ) → (space_test most sp ≡ true) ↔ SoundSpace most sp
unfolding space_test
space_exactly most sp = (
  λ h.
      let rest = both_right coded (both quota table) h in
      record {
        coded = ltb-true (generation_of sp) (2 ^ 8) (both_left coded (both quota table) h);
        table = (sound_exactly most (slot_words sp) (table_of sp)).0 (both_right quota table rest);
        quota = leb-true (quota_of sp) most (both_left quota table rest);
      },
  λ s.
      both_make coded (both quota table) (lt-ltb (generation_of sp) (2 ^ 8) s.coded)
      (both_make quota table (le-leb (quota_of sp) most s.quota) ((sound_exactly most (slot_words sp) (table_of sp)).1 s.table)),
)
  where
    coded : Bool
    coded = ltb (generation_of sp) (2 ^ 8)

    quota : Bool
    quota = leb (quota_of sp) most

    table : Bool
    table = sound_test most (slot_words sp) (table_of sp)
