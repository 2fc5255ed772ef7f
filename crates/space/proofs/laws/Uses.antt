-- Counting a use changes no slot's token, object or tag, so no search and no rule of the table sees it.
use Rattle.std.proofs.Common.{◌≡◌, ℕ, ◌+◌, ◌*◌, List, get_or, set, ◌∙◌, arith, get_or-set_other}
use Rattle.table.specs.Walk.{search, steps_to_stop}
use Rattle.table.specs.Sound.{Sound, sound_test}
use Rattle.table.specs.declared.CapTable.{CapTable}
use Rattle.table.proofs.laws.Tests.{sound_exactly}

module _ (ws : List ℕ) (i v : ℕ) where
  pub uses_token : (j : ℕ) → get_or (set ws (4 * i + 2) v) (4 * j) 0 ≡ get_or ws (4 * j) 0
  uses_token j = get_or-set_other ws (4 * i + 2) (4 * j) v 0 (omega arith)

  pub uses_object : (j : ℕ) → get_or (set ws (4 * i + 2) v) (4 * j + 1) 0 ≡ get_or ws (4 * j + 1) 0
  uses_object j = get_or-set_other ws (4 * i + 2) (4 * j + 1) v 0 (omega arith)

  pub uses_tag : (j : ℕ) → get_or (set ws (4 * i + 2) v) (4 * j + 3) 0 ≡ get_or ws (4 * j + 3) 0
  uses_tag j = get_or-set_other ws (4 * i + 2) (4 * j + 3) v 0 (omega arith)

  pub uses_search : (slots id : ℕ) → search (set ws (4 * i + 2) v) slots id ≡ search ws slots id
  unfolding search steps_to_stop
  uses_search slots id = simp (uses_tag, uses_token)

  pub uses_sound : (most : ℕ) (t : CapTable) → Sound most ws t → Sound most (set ws (4 * i + 2) v) t
  unfolding sound_test
  uses_sound most t sound =
      let same : sound_test most (set ws (4 * i + 2) v) t ≡ sound_test most ws t = simp (uses_tag, uses_token, uses_search) in
      (sound_exactly most _ t).0 (same ∙ (sound_exactly most ws t).1 sound)
