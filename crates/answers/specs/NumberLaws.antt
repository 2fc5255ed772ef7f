-- No refusal has the number of a call that is done.
use Rattle.std.specs.Prelude.{◌≡◌, refl, false, eqb}
use Rattle.answers.specs.Number.{number_of_refusal}
use Rattle.answers.specs.declared.Refusal.{Refusal}
use Rattle.answers.specs.declared.Refusal.TheVariants.{InvalidCapability, InsufficientRights, CapabilityRevoked, OutOfMemory, InvalidObject, PermissionDenied, AlreadyExists, NotFound, IdExhausted, QuotaExceeded, SpaceQuota, SpaceIds, BadSpace, BadField, RegistryFull, RecycleFull, LogFull, PidTableFull, BadWorld}

pub refusal_some : (refusal : Refusal) → eqb (number_of_refusal refusal) 0 ≡ false
refusal_some InvalidCapability = refl
refusal_some InsufficientRights = refl
refusal_some CapabilityRevoked = refl
refusal_some OutOfMemory = refl
refusal_some InvalidObject = refl
refusal_some PermissionDenied = refl
refusal_some AlreadyExists = refl
refusal_some NotFound = refl
refusal_some IdExhausted = refl
refusal_some QuotaExceeded = refl
refusal_some SpaceQuota = refl
refusal_some SpaceIds = refl
refusal_some BadSpace = refl
refusal_some BadField = refl
refusal_some RegistryFull = refl
refusal_some RecycleFull = refl
refusal_some LogFull = refl
refusal_some PidTableFull = refl
refusal_some BadWorld = refl
