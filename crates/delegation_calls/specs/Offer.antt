-- What the code sees of the children that are offered: the token of the one that the target holds.
use Rattle.std.specs.Prelude.{Option, Some, None}
use Rattle.base.specs.Choose.{pick}
use Rattle.delegation_calls.specs.Delegation.{Offered}
use Rattle.token.specs.declared.capability.CapabilityToken.{CapabilityToken}

unfoldable pub offer_of : Offered → Option CapabilityToken
offer_of o = pick o.held (Some (record { 0 = o.token })) None
