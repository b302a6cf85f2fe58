-- Inner: what the reader of a file has read of it so far.
use Rattle.std.specs.Prelude.{◌≡◌, ◌⊎◌, ℕ, ◌*◌, ◌<◌, ◌≤◌, List, [], ◌∷◌, length, slice_get, Option, Some, None, Result, Ok, Err}
use Rattle.gw_site.specs.Observed.{Observed}
use Rattle.gw_site.specs.declared.turn.Turn.{Turn}
use Rattle.gw_site.specs.declared.turn.Turn.TheVariants.{Wrote, Synced, DiskFailed}
use Rattle.jrn_log.specs.declared.fault.OpenFault.{OpenFault}
use Rattle.jrn_log.specs.declared.fault.OpenFault.TheVariants.{Disk, TooLong, Cut, Memory}
use Rattle.jrn_log.specs.declared.read.Taken.{Taken}
use Rattle.jrn_log.specs.declared.read.Taken.TheVariants.{More, End}
use Rattle.jrn_log.specs.Slots.{HasGate, body_at, AreSlots, IsTruncatedSlot, IsFileTooLong}
use Rattle.jrn_log.specs.JournalTurns.{first_gate, first_gate_write}
use Rattle.jrn_log.specs.JournalSteps.{Phase, ToRead, ToReadOn, TakesSteps}

-- the file begins with these open slots, each followed by a gate
pub record BeginsWithSlots (file : List ℕ) (bodies : List (List ℕ)) : Type 0 where
  pub gates : (slot : ℕ) → slot < length bodies → HasGate file slot
  pub each : (slot : ℕ) → slot < length bodies → slice_get bodies slot ≡ Some (body_at file slot)

-- a slot of the file was looked at, or several: these are the bodies so far
abbrev pub AreBodiesSoFar : List ℕ → List (List ℕ) → Taken → Type 0
AreBodiesSoFar file bodies More = BeginsWithSlots file bodies
AreBodiesSoFar file bodies End = AreSlots file bodies

-- memory failed, or this slot is truncated; no call on the disk was made
abbrev pub IsSlotFault : List ℕ → OpenFault → Type 0
IsSlotFault file Disk = ⊥
IsSlotFault file (TooLong count) = ⊥
IsSlotFault file (Cut slot) = IsTruncatedSlot file slot
IsSlotFault file Memory = Unit {0}

-- the result of looking at slots, by the file
abbrev pub AreSlotsTaken : List ℕ → List (List ℕ) → Result Taken OpenFault → Type 0
AreSlotsTaken file bodies (Ok taken) = AreBodiesSoFar file bodies taken
AreSlotsTaken file bodies (Err fault) = IsSlotFault file fault

-- the disk or memory failed, or this slot is truncated
abbrev pub IsReadFault : List ℕ → OpenFault → Type 0
IsReadFault file Disk = Unit {0}
IsReadFault file (TooLong count) = ⊥
IsReadFault file (Cut slot) = IsTruncatedSlot file slot
IsReadFault file Memory = Unit {0}

-- the result of reading slots from the disk, by the file
abbrev pub IsChunkRead : List ℕ → List (List ℕ) → Result Taken OpenFault → Type 0
IsChunkRead file bodies (Ok taken) = AreBodiesSoFar file bodies taken
IsChunkRead file bodies (Err fault) = IsReadFault file fault

-- the result of reading a file that has more than one byte, by the file
abbrev pub AreBodiesRead : List ℕ → Result (List (List ℕ)) OpenFault → Type 0
AreBodiesRead file (Ok bodies) = AreSlots file bodies × (256 * length bodies < length file)
AreBodiesRead file (Err fault) = IsReadFault file fault

-- these are the bodies of a file that isn't too long; where it has more than one byte a gate follows them
pub record AreJournalBodies (slots : ℕ) (file : List ℕ) (bodies : List (List ℕ)) : Type 0 where
  pub fits : IsFileTooLong slots file → ⊥
  pub slots_are : AreSlots file bodies
  pub gate : 1 < length file → 256 * length bodies < length file

-- the disk or memory failed, or the file is too long, or truncated
abbrev pub IsFileFault : ℕ → List ℕ → OpenFault → Type 0
IsFileFault slots file Disk = Unit {0}
IsFileFault slots file (TooLong count) = (count ≡ length file) × IsFileTooLong slots file
IsFileFault slots file (Cut slot) = (IsFileTooLong slots file → ⊥) × IsTruncatedSlot file slot
IsFileFault slots file Memory = Unit {0}

-- the result of reading a file of known length, by the file
abbrev pub IsFileRead : ℕ → List ℕ → Result (List (List ℕ)) OpenFault → Type 0
IsFileRead slots file (Ok bodies) = AreJournalBodies slots file bodies
IsFileRead slots file (Err fault) = IsFileFault slots file fault

-- the turns of reading that ends with a fault: the failure of the disk, or none
abbrev pub ReadFaultTurns : OpenFault → List Turn → Type 0
ReadFaultTurns Disk turns = turns ≡ DiskFailed ∷ []
ReadFaultTurns (TooLong count) turns = turns ≡ []
ReadFaultTurns (Cut slot) turns = turns ≡ []
ReadFaultTurns Memory turns = turns ≡ []

-- the turns of reading: none, or the failure of the disk
abbrev pub ReadTurns : {T : Type 0} → Result T OpenFault → List Turn → Type 0
ReadTurns (Ok done) turns = turns ≡ []
ReadTurns (Err fault) turns = ReadFaultTurns fault turns

-- the turns of a write and its sync
abbrev pub WroteSyncedTurns : {E : Type 0} → ℕ → List ℕ → Result (Unit {0}) E → List Turn → Type 0
WroteSyncedTurns offset bytes (Ok done) turns = turns ≡ Wrote offset bytes ∷ Synced ∷ []
WroteSyncedTurns offset bytes (Err failed) turns = turns ≡ Wrote offset bytes ∷ DiskFailed ∷ []

-- the turns of a sync and a reading of the length
abbrev pub SyncedLengthTurns : {E : Type 0} → Result ℕ E → List Turn → Type 0
SyncedLengthTurns (Ok count) turns = turns ≡ Synced ∷ []
SyncedLengthTurns (Err failed) turns = (turns ≡ DiskFailed ∷ []) ⊎ (turns ≡ Synced ∷ DiskFailed ∷ [])

-- the turns of a fault after the reading of the length, where it gave this one
abbrev pub FaultTurnsAfterLength : ℕ → OpenFault → List Turn → Type 0
FaultTurnsAfterLength size Disk turns = (turns ≡ DiskFailed ∷ []) ⊎ ((size ≤ 1) × (turns ≡ first_gate_write ∷ DiskFailed ∷ []))
FaultTurnsAfterLength size (TooLong count) turns = turns ≡ []
FaultTurnsAfterLength size (Cut slot) turns = turns ≡ []
FaultTurnsAfterLength size Memory turns = turns ≡ []

-- the turns after the reading of the length, where it gave this one
abbrev pub TurnsAfterLength : {T : Type 0} → ℕ → Result T OpenFault → List Turn → Type 0
TurnsAfterLength size (Ok bodies) turns = turns ≡ first_gate size
TurnsAfterLength size (Err fault) turns = FaultTurnsAfterLength size fault turns

-- the phase in which reading has found a fault
abbrev pub read_fault_phase : OpenFault → Option Phase
read_fault_phase Disk = None
read_fault_phase (TooLong count) = None
read_fault_phase (Cut slot) = Some ToReadOn
read_fault_phase Memory = Some ToReadOn

-- the phase that reading reaches, by its result
abbrev pub read_phase : {T : Type 0} → Result T OpenFault → Option Phase
read_phase (Ok done) = Some ToReadOn
read_phase (Err fault) = read_fault_phase fault

-- a part of the file is read next: the first, or a further one
abbrev pub IsToRead : Phase → Type 0
IsToRead phase = (phase ≡ ToRead) ⊎ (phase ≡ ToReadOn)

-- the parts that were read so far, from which reading goes on
abbrev pub HasReadSome : List Turn → Observed → Observed → Type 0
HasReadSome before old new = (phase : Phase) × IsToRead phase × TakesSteps ToRead (Some phase) before old new
