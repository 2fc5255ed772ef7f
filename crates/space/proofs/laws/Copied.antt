-- A copy: the target answers each token as the source did, with the uses zeroed. The code copies by way of a scratch array, and that is
-- the copy of document 01.
use Rattle.std.proofs.Common.{◌≡◌, ℕ, ◌*◌, ◌≤◌, ◌↔◌, List, length, refl, ap, ◌∙◌, arith, Option}
use Rattle.base.specs.Arith.{next_mono}
use Rattle.table.specs.Insert.{holds, gathered}
use Rattle.table.specs.Copy.{fresh}
use Rattle.table.specs.declared.CapabilityEntry.{CapabilityEntry}
use Rattle.table.proofs.laws.Scratch.{gathered_count}
use Rattle.table.proofs.laws.Contents.{HoldsAs}
use Rattle.table.proofs.laws.Copy.{copy_holds_fresh_entries, gathered_copied}
use Rattle.table.proofs.laws.LiveEntries.{live_length}
use Rattle.space.specs.Words.{words_for, generation_of, table_of, slot_words}
use Rattle.space.specs.Sound.{SpaceOf}
use Rattle.space.specs.Lookup.{looked_up}
use Rattle.space.specs.Copy.{remade, copied_table, copied_space, replacement, replaced}
use Rattle.space.proofs.laws.Held.{Has, has_as, got_as, answered_as}
use Rattle.space.proofs.laws.Kept.{fits, long, in_range, copy_keeps}
use Rattle.space.proofs.laws.View.{view, view_copied}

-- What was answered, with the uses zeroed.
abbrev pub freshly : Option CapabilityEntry → Option CapabilityEntry
freshly = got_as fresh

module _ (most : ℕ) (source target : List ℕ) (s : SpaceOf most source) (t : SpaceOf most target) where
  pub copy_holds : (x : CapabilityEntry) → Has (view (copied_space source target)) x
      ↔ HoldsAs fresh (slot_words source) (table_of source).slots x
  unfolding copied_table
  copy_holds x =
      has_as _ _ x (view_copied source target (fits most target t))
      (copy_holds_fresh_entries most (slot_words source) (table_of source) (slot_words target) s.sound.table (long most target t) x)

  pub copy_answers : (token : ℕ) → (looked_up (copied_space source target) token).got ≡ freshly (looked_up source token).got
  copy_answers token =
      answered_as most source _ token s (copy_keeps most source target s t) fresh (λ x. refl) (λ x is. copy_holds x)

  -- ---- by way of the scratch, `kept`, that `gather` filled from the source

  module _ (kept zeros : List ℕ) (count : ℕ) (whole : length zeros ≡ 2048)
      (filled : holds kept count ≡ gathered (slot_words source) 0 (table_of source).slots (holds zeros 0))
    where
      enough : 4 * (table_of source).slots ≤ length zeros
      enough = omega (arith, in_range most source s)

      pub replacement_copies : replacement target kept count ≡ copied_table source target
      unfolding replacement copied_table
      replacement_copies = gathered_copied (slot_words source) (slot_words target) kept zeros (table_of source).slots count enough filled

      pub replaced_copies : replaced target kept count (generation_of source) ≡ copied_space source target
      unfolding replaced copied_space
      replaced_copies = ap (λ u. remade target u (generation_of source)) replacement_copies

      -- What `replace` asks.
      pub replace_fits : (count ≤ 256) × (words_for count ≤ length target)
      replace_fits =
          let live : count ≡ (table_of source).full =
          gathered_count (slot_words source) kept zeros (table_of source).slots count enough filled
          ∙ live_length (slot_words source) (table_of source).slots
          ∙ s.sound.table.live_agrees in
          let few : count ≤ most = omega (arith, s.sound.table.within) in
          (omega (arith, s.range), omega (arith, t.size, next_mono (2 * count) (2 * most) (omega arith)))
