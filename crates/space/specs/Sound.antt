-- Document 01, "Sound memory", what it says of one space: a rule a field, and next to each rule its test. `most` is M.
use Rattle.std.specs.Prelude.{◌≡◌, ℕ, ◌^◌, ◌<◌, ◌≤◌, Bool, List, length, nat_le, nat_lt}
use Rattle.base.specs.Choose.{both}
use Rattle.table.specs.Sound as table
use Rattle.space.specs.Words.{quota_of, generation_of, table_of, slot_words, words_for}

pub record SoundSpace (most : ℕ) (sp : List ℕ) : Type 0 where
  -- coded fields hold listed values: the space generation has 8 bits
  pub coded : generation_of sp < 2 ^ 8
  -- the rules of its table
  pub table : table.Sound most (slot_words sp) (table_of sp)
  -- quotas are at most M
  pub quota : quota_of sp ≤ most

unfoldable pub space_test : ℕ → List ℕ → Bool
space_test most sp =
    both (nat_lt (generation_of sp) (2 ^ 8)) (both (nat_le (quota_of sp) most) (table.sound_test most (slot_words sp) (table_of sp)))

-- A sound space in as many words as `most` asks: what every call keeps.
pub record SpaceOf (most : ℕ) (sp : List ℕ) : Type 0 where
  pub sound : SoundSpace most sp
  pub size : length sp ≡ words_for most
  pub range : most ≤ 256
