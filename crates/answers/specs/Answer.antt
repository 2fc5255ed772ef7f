-- What a call answers: that it is done, or why it refuses. Each refusal has the name of its answer.
use Rattle.std.specs.Prelude.{Result, Ok, Err}
use Rattle.answers.specs.declared.Refusal.{Refusal}
use Rattle.answers.specs.declared.Refusal.TheVariants as refusal

pub data Answer : Type 0 where
  Done : Answer
  Refuses : Refusal → Answer

abbrev pub InvalidCapability : Answer
InvalidCapability = Refuses refusal.InvalidCapability

abbrev pub InsufficientRights : Answer
InsufficientRights = Refuses refusal.InsufficientRights

abbrev pub CapabilityRevoked : Answer
CapabilityRevoked = Refuses refusal.CapabilityRevoked

abbrev pub OutOfMemory : Answer
OutOfMemory = Refuses refusal.OutOfMemory

abbrev pub InvalidObject : Answer
InvalidObject = Refuses refusal.InvalidObject

abbrev pub PermissionDenied : Answer
PermissionDenied = Refuses refusal.PermissionDenied

abbrev pub AlreadyExists : Answer
AlreadyExists = Refuses refusal.AlreadyExists

abbrev pub NotFound : Answer
NotFound = Refuses refusal.NotFound

abbrev pub IdExhausted : Answer
IdExhausted = Refuses refusal.IdExhausted

abbrev pub QuotaExceeded : Answer
QuotaExceeded = Refuses refusal.QuotaExceeded

abbrev pub SpaceQuota : Answer
SpaceQuota = Refuses refusal.SpaceQuota

abbrev pub SpaceIds : Answer
SpaceIds = Refuses refusal.SpaceIds

abbrev pub BadSpace : Answer
BadSpace = Refuses refusal.BadSpace

abbrev pub BadField : Answer
BadField = Refuses refusal.BadField

abbrev pub RegistryFull : Answer
RegistryFull = Refuses refusal.RegistryFull

abbrev pub RecycleFull : Answer
RecycleFull = Refuses refusal.RecycleFull

abbrev pub LogFull : Answer
LogFull = Refuses refusal.LogFull

abbrev pub PidTableFull : Answer
PidTableFull = Refuses refusal.PidTableFull

abbrev pub BadWorld : Answer
BadWorld = Refuses refusal.BadWorld

-- What an outcome of the code tells.
abbrev pub answer_of : {A : Type 0} → Result A Refusal → Answer
answer_of (Ok value) = Done
answer_of (Err refusal) = Refuses refusal
