-- A batch is its single calls one after the other: it leaves what `revoke_capability` for each token in turn leaves, each on the memory
-- that the one before left, and its value is how many of them gave 0.
use Rattle.std.proofs.Common.{List, [], ◌∷◌, ◌≡◌, sym, ap, ◌∙◌, ℕ, ◌+◌, ◌≤◌, add-zero, zero-add, add_assoc, eqb, length}
use Rattle.answers.specs.Number.{number_of}
use Rattle.base.specs.Below.{one}
use Rattle.steps.specs.Replies.{Left, done, Reply}
use Rattle.steps.proofs.laws.Kept.{Kept, kept_sound}
use Rattle.world.specs.Numbers.{numbers_of}
use Rattle.world.specs.Sound.{Sound}
use Rattle.world.specs.declared.Numbers.{Numbers}
use Rattle.revocation_calls.specs.Calls.{revoke_capability_out, revoke_batch_out}
use Rattle.revocation_calls.specs.Revoking.{revoking_token, revoking_each}
use Rattle.revocation_calls.proofs.laws.Kept.{revoking_token_kept}
use Rattle.revocation_laws.proofs.laws.Ways.{revoke_capability_called, batch_called}

-- 1 for an answer 0.
abbrev pub gave0 : Left Reply → ℕ
gave0 left = one (eqb (number_of left.reply.answer) 0)

-- So many more gave 0.
abbrev pub counting : ℕ → Left ℕ → Left ℕ
counting gave later = record { reply = gave + later.reply; memory = later.memory }

-- How many of the single calls gave 0, and the memory that the last one left.
unfoldable pub singles : List ℕ → ℕ → List ℕ → List ℕ → Left ℕ
singles [] time listed mem = record { reply = 0; memory = mem }
singles (token ∷ tokens) time listed mem =
    let left = revoke_capability_out mem token time listed in
    counting (gave0 left) (singles tokens time listed left.memory)

module _ (time : ℕ) (listed : List ℕ) (few : length listed ≤ 32) where
  abbrev answered : Left ℕ → Left Reply
  answered counted = record { reply = done counted.reply; memory = counted.memory }

  each_singles :
      (tokens : List ℕ) (gave : ℕ) (mem : List ℕ) → Sound mem
      → revoking_each (numbers_of mem) tokens time listed gave mem ≡ answered (counting gave (singles tokens time listed mem))
  unfolding revoking_each singles
  each_singles [] gave mem sound = rw add-zero
  each_singles (token ∷ tokens) gave mem sound =
      let d : Numbers = numbers_of mem in
      let left : Left Reply = revoking_token d token time listed mem in
      let kept : Kept d mem left.memory = revoking_token_kept d mem sound token time listed in
      let single : revoke_capability_out mem token time listed ≡ left = revoke_capability_called mem sound time listed few token in
      let rest : Left Reply → Left ℕ = λ left. counting (gave0 left) (singles tokens time listed left.memory) in
      ap (λ d. revoking_each d tokens time listed (gave + gave0 left) left.memory) (sym kept.numbers)
      ∙ each_singles tokens (gave + gave0 left) left.memory (kept_sound mem left.memory kept)
      ∙ rw (add_assoc gave (gave0 left)) (ap (λ left. answered (counting gave (rest left))) (sym single))

  pub batch_is_singles :
      (tokens : List ℕ) (mem : List ℕ) → Sound mem → length tokens ≤ 65535
      → revoke_batch_out mem tokens time listed
      ≡ record { reply = done (singles tokens time listed mem).reply; memory = (singles tokens time listed mem).memory }
  batch_is_singles tokens mem sound fits =
      batch_called mem sound time listed few tokens fits ∙ each_singles tokens 0 mem sound ∙ rw zero-add
