use Rattle.std.proofs.Common.{sym, ap, ◌∙◌, rules}
use Rattle.delegation_calls.specs.Delegation.{Offered}
use Rattle.delegation_calls.specs.Offer.{offer_of}
use Rattle.delegation_calls.proofs.Offering.{none_left, found, passed, ready_offered}
use Rattle.delegation_calls.proofs.offer.find_child.Goals as goal

pub returns-then-is_some : goal.returns-then-is_some
returns-then-is_some c =
    let (told, leaves) = c.offer_at-child.ensures in
    let is = found _ _ _ _ _ _ _ _ _ c.loop-k.invariant.4 c.loop-k-test.true _ told (sym c.is_some.ensures ∙ c.if-is_some.true) in
    (told ∙ sym (ap offer_of is), leaves ∙ sym (ap (λ (o : Offered). o.memory) is))

pub loop-k-preserved : goal.loop-k-preserved
loop-k-preserved c =
    let (told, leaves) = c.offer_at-child.ensures in
    let (fits, inside, same, ready, left) = c.loop-k.invariant in
    let valid = c.requires.1 in (
      fits,
      inside,
      search rules,
      rw leaves (ready_offered _ _ _ _ _ valid _ _ _ ready),
      rw leaves (passed _ _ _ _ _ _ _ _ _ left c.loop-k-test.true _ told (sym c.is_some.ensures ∙ c.if-is_some.false)),
    )

pub returns : goal.returns
unfolding offer_of
returns c =
    let is = none_left _ _ _ _ _ _ _ _ _ c.loop-k.invariant.4 c.loop-k-test.false in
    (sym (ap offer_of is), sym (ap (λ (o : Offered). o.memory) is))
