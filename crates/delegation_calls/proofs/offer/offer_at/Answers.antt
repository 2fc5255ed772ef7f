-- The place is looked at, and the token made of it looked up in the target.
use Rattle.delegation_calls.proofs.Offering.{shut_offers, shut_leaves, held_offers, absent_offers, open_leaves}
use Rattle.delegation_calls.proofs.offer.offer_at.Goals as goal

ruleset laws = (shut_offers, shut_leaves, held_offers, absent_offers, open_leaves)

pub returns-then-not-is_open_child : goal.returns-then-not-is_open_child
returns-then-not-is_open_child c = search laws

pub returns-then-held_with : goal.returns-then-held_with
returns-then-held_with c = search laws

pub returns : goal.returns
returns c = search laws
