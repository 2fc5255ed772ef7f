-- The turns of a batch: the tokens before i are served, and so many of them gave 0; with those from i on the memory becomes the answer.
use Rattle.std.proofs.Common.{Bool, true, false, List, ◌≡◌, refl, ap, ℕ, ◌+◌, ◌<◌, ◌≤◌, arith, eqb, length, get_or, drop, drop_of_length-le, length-take-le}
use Rattle.std.specs.Prelude.{Result, Ok, Err, is_ok}
use mir.Val.{bool_byte}
use Rattle.answers.specs.Number.{number_of}
use Rattle.answers.specs.NumberLaws.{refusal_some}
use Rattle.base.specs.Below.{one}
use Rattle.base.specs.Rest.{drop_next}
use Rattle.steps.specs.Replies.{Left, done, told, Reply}
use Rattle.steps.specs.declared.replies.Refused.{Refused}
use Rattle.steps.specs.declared.replies.Done.{Done as DoneReply}
use Rattle.world.specs.Sound.{SoundAt}
use Rattle.world.specs.declared.Numbers.{Numbers}
use Rattle.revocation_calls.specs.Revoking.{revoking_token, revoking_each}
use Rattle.revocation_calls.proofs.laws.Kept.{revoking_token_kept}

-- Of the place that a token's pair is lent, as many pairs join the log as were kept.
pub ruleset joining = (length-take-le)

module _ (d : Numbers) (tokens : List ℕ) (time : ℕ) (listed mem₀ : List ℕ) where
  pub record Revoking (mem : List ℕ) (i gave : ℕ) : Type 0 where
    pub sound : SoundAt d mem
    pub few : gave ≤ i
    pub left : revoking_each d (drop i tokens) time listed gave mem ≡ revoking_each d tokens time listed 0 mem₀

  pub starts : SoundAt d mem₀ → Revoking mem₀ 0 0
  starts sound = record { sound = sound; few = omega arith; left = refl }

  module _ (mem : List ℕ) (i gave : ℕ) (revoking : Revoking mem i gave) where
    pub still_sound : SoundAt d mem
    still_sound = revoking.sound

    pub gave_few : gave ≤ i
    gave_few = revoking.few

    pub ends : length tokens ≤ i → record { reply = done gave; memory = mem } ≡ revoking_each d tokens time listed 0 mem₀
    unfolding revoking_each
    ends u = rw (drop_of_length-le tokens u) at revoking.left

    -- The i-th token gave 0, or was refused.
    module _ (l : i < length tokens) (after : List ℕ) where
      goes :
          (reply : Reply) (more : ℕ)
          → record { reply = reply; memory = after } ≡ revoking_token d (get_or tokens i 0) time listed mem
          → more ≡ gave + one (eqb (number_of reply.answer) 0) → more ≤ i + 1 → Revoking after (i + 1) more
      unfolding revoking_each
      goes reply more is counts below =
          let replies = ap (λ (left : Left Reply). left.reply) is in
          let leaves = ap (λ (left : Left Reply). left.memory) is in
          record {
            sound = rw leaves (revoking_token_kept d mem revoking.sound (get_or tokens i 0) time listed).sound;
            few = below;
            left = rw (counts, replies, leaves) (rw (drop_next tokens i l) at revoking.left);
          }

      pub turn :
          (r : Result DoneReply Refused)
          → record { reply = told r; memory = after } ≡ revoking_token d (get_or tokens i 0) time listed mem
          → (ok : Bool) → ok ≡ is_ok r → Revoking after (i + 1) (gave + bool_byte ok)
      turn (Ok done) is ok says = rw says (goes _ _ is refl (omega (arith, revoking.few)))
      turn (Err refused) is ok says =
          rw says (goes _ _ is (rw (refusal_some refused.refusal) refl) (omega (arith, revoking.few)))
