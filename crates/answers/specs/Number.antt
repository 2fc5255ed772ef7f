-- The number of each answer: 0 where the call is done, 1 to 12 for the source's refusals, 20 to 26 for those that the port adds.
use Rattle.std.specs.Prelude.{◌≡◌, ℕ}
use Rattle.answers.specs.Answer.{Answer, Done, Refuses}
use Rattle.answers.specs.declared.Refusal.{Refusal}
use Rattle.answers.specs.declared.Refusal.TheVariants.{InvalidCapability, InsufficientRights, CapabilityRevoked, OutOfMemory, InvalidObject, PermissionDenied, AlreadyExists, NotFound, IdExhausted, QuotaExceeded, SpaceQuota, SpaceIds, BadSpace, BadField, RegistryFull, RecycleFull, LogFull, PidTableFull, BadWorld}

abbrev pub number_of_refusal : Refusal → ℕ
number_of_refusal InvalidCapability = 1
number_of_refusal InsufficientRights = 2
number_of_refusal CapabilityRevoked = 3
number_of_refusal OutOfMemory = 4
number_of_refusal InvalidObject = 5
number_of_refusal PermissionDenied = 6
number_of_refusal AlreadyExists = 7
number_of_refusal NotFound = 8
number_of_refusal IdExhausted = 9
number_of_refusal QuotaExceeded = 10
number_of_refusal SpaceQuota = 11
number_of_refusal SpaceIds = 12
number_of_refusal BadSpace = 20
number_of_refusal BadField = 21
number_of_refusal RegistryFull = 22
number_of_refusal RecycleFull = 23
number_of_refusal LogFull = 24
number_of_refusal PidTableFull = 25
number_of_refusal BadWorld = 26

abbrev pub number_of : Answer → ℕ
number_of Done = 0
number_of (Refuses refusal) = number_of_refusal refusal

-- What the code's conversion answers.
abbrev pub HasNumber : Refusal → ℕ → Type 0
HasNumber refusal number = number ≡ number_of_refusal refusal
