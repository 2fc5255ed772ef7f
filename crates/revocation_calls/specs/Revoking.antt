-- Document 01, "Revocation": what a revocation does once its arguments are good. d are the numbers of a sound memory; `listed` is the
-- process list.
use Rattle.std.specs.Prelude.{not, List, [], ◌∷◌, ℕ, ◌+◌, eqb, ltb, length, Option, None, Some}
use Rattle.answers.specs.Number.{number_of}
use Rattle.answers.specs.Answer.{InsufficientRights, NotFound, LogFull}
use Rattle.base.specs.Below.{one}
use Rattle.base.specs.Choose.{pick, when}
use Rattle.cascade.specs.Cascade.{revoking}
use Rattle.revocation.specs.Log.{pair_of, absent_of}
use Rattle.steps.specs.Replies.{Left, replied, done, refuse, Reply}
use Rattle.revocation_steps.specs.Revocation.{log_of, log_step}
use Rattle.steps.specs.Steps.{place_in, add_step}
use Rattle.table.specs.declared.CapabilityEntry.{CapabilityEntry}
use Rattle.token.specs.Rights.{REVOKE, holds}
use Rattle.token.specs.Token.{id_of, generation_of}
use Rattle.world.specs.Numbers.{registered_of, logged_of, epoch_word}
use Rattle.world.specs.declared.Numbers.{Numbers}

-- Unregistered: the token's pair joins the log if absent, epoch plus one, 0.
unfoldable pub logging_token : Numbers → ℕ → List ℕ → Left Reply
logging_token d token mem =
    let pairs = absent_of (logged_of mem) (log_of d mem) (pair_of (id_of token) (generation_of token) ∷ []) in
    when (ltb d.pairs (logged_of mem + length pairs)) (refuse mem LogFull)
    (record { reply = done 0; memory = add_step epoch_word 1 (log_step d pairs mem) })

-- `revoke_capability` looks at the id only.
unfoldable pub revoking_token : Numbers → ℕ → ℕ → List ℕ → List ℕ → Left Reply
revoking_token d token time listed mem =
    let r = place_in d mem (id_of token) in
    pick (ltb r (registered_of mem)) (revoking d r time listed mem) (logging_token d token mem)

-- Held revoke: 8 for a token that the space has not, 2 without REVOKE. The count is the visits of its lookup.
abbrev pub revoking_held : Numbers → ℕ → ℕ → List ℕ → List ℕ → Option CapabilityEntry → ℕ → Left Reply
revoking_held d token time listed mem None visits = record { reply = replied NotFound 0 visits; memory = mem }
revoking_held d token time listed mem (Some e) visits =
    let left = revoking_token d token time listed mem in
    when (not (holds e.rights.0 REVOKE)) (record { reply = replied InsufficientRights 0 visits; memory = mem })
    (record { reply = replied left.reply.answer 0 visits; memory = left.memory })

-- A batch takes its tokens in order, goes on past 24 or 25, and answers how many gave 0.
unfoldable pub revoking_each : Numbers → List ℕ → ℕ → List ℕ → ℕ → List ℕ → Left Reply
revoking_each d [] time listed gave mem = record { reply = done gave; memory = mem }
revoking_each d (token ∷ tokens) time listed gave mem =
    let left = revoking_token d token time listed mem in
    revoking_each d tokens time listed (gave + one (eqb (number_of left.reply.answer) 0)) left.memory
