-- One place after the other: what is offered from place k on is the answer.
use Rattle.std.proofs.Common.{◌≡◌, ◌-◌, ◌≤◌, length}
use Rattle.steps.specs.Ready.{Ready}
use Rattle.token.specs.Token.{type_of}
use Rattle.delegation_calls.specs.Delegation.{offered_from, offered}
use Rattle.delegation_calls.proofs.offer.find_child.Given as goal

abbrev pub invariant-loop-k : goal.invariant-loop-k
invariant-loop-k l =
    (l.n ≤ l.d.places) × (l.p ≤ l.d.places) × (length l.mem ≡ length l.initial.mem) × Ready l.d l.mem
    × (offered_from l.d l.target l.p (type_of l.token.0) l.rights.0 l.k (l.n - l.k) l.mem
    ≡ offered l.d l.target l.token.0 l.rights.0 l.initial.mem)
