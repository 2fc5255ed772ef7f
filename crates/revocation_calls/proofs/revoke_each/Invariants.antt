-- The tokens before the index are served, and so many of them gave 0; with those from it on the memory becomes the answer.
use Rattle.std.proofs.Common.{◌≡◌, length}
use Rattle.revocation_calls.proofs.laws.Each.{Revoking}
use Rattle.revocation_calls.proofs.revoke_each.Given as goal

abbrev pub invariant-loop-token : goal.invariant-loop-token
invariant-loop-token l =
    (length l.mem ≡ length l.initial.mem) × Revoking l.d l.tokens l.time l.listed l.initial.mem l.mem l.token-index l.gave
