-- The turns of an opening and of an append, and which of their results depend on the file alone.
use Rattle.std.specs.Prelude.{◌≡◌, ◌⊎◌, ℕ, ◌+◌, ◌*◌, ◌≤◌, nat_le, if◌then◌else◌, List, [], ◌∷◌, ◌++◌, length, Result, Ok, Err}
use Rattle.gw_site.specs.declared.turn.Turn.{Turn}
use Rattle.gw_site.specs.declared.turn.Turn.TheVariants.{Wrote, Synced, DiskFailed}
use Rattle.jrn_log.specs.declared.fault.OpenFault.{OpenFault}
use Rattle.jrn_log.specs.declared.fault.OpenFault.TheVariants.{Disk, TooLong, Cut, Memory}

-- the write of a body and of the closed gate after it
abbrev pub body_write : ℕ → List ℕ → Turn
body_write slot body = Wrote (256 * slot + 1) (body ++ 0 ∷ [])

-- the write of an open gate
abbrev pub gate_write : ℕ → Turn
gate_write slot = Wrote (256 * slot) (165 ∷ [])

-- the turns of an append in which the disk failed: those up to the write that failed or was not synced
abbrev pub FailedAppendTurns : ℕ → List ℕ → List Turn → Type 0
FailedAppendTurns slot body turns = (turns ≡ body_write slot body ∷ DiskFailed ∷ []) ⊎ (turns ≡ body_write slot body ∷ Synced ∷ gate_write slot ∷ DiskFailed ∷ [])

-- the turns of an append: the body, a sync, the gate, a sync; or those of one in which the disk failed
abbrev pub AppendTurns : {T E : Type 0} → ℕ → List ℕ → Result T E → List Turn → Type 0
AppendTurns slot body (Ok given) turns = turns ≡ body_write slot body ∷ Synced ∷ gate_write slot ∷ Synced ∷ []
AppendTurns slot body (Err failed) turns = FailedAppendTurns slot body turns

-- the write of the first gate of a file, closed
abbrev pub first_gate_write : Turn
first_gate_write = Wrote 0 (0 ∷ [])

-- the turns by which a file of this size gets its first gate, closed: a write and a sync where it has at most one byte, none where it is longer
abbrev pub first_gate : ℕ → List Turn
first_gate size = if nat_le size 1 then first_gate_write ∷ Synced ∷ [] else []

-- the turns of an opening in which the disk failed: in the first sync, in a look at the file, or at the first gate
abbrev pub FailedTurns : List ℕ → List Turn → Type 0
FailedTurns file turns = (turns ≡ DiskFailed ∷ []) ⊎ ((turns ≡ Synced ∷ DiskFailed ∷ []) ⊎ ((length file ≤ 1) × (turns ≡ Synced ∷ first_gate_write ∷ DiskFailed ∷ [])))

-- the turns of an opening that ends with a fault
abbrev pub FaultTurns : List ℕ → OpenFault → List Turn → Type 0
FaultTurns file Disk turns = FailedTurns file turns
FaultTurns file (TooLong count) turns = turns ≡ Synced ∷ []
FaultTurns file (Cut slot) turns = turns ≡ Synced ∷ []
FaultTurns file Memory turns = turns ≡ Synced ∷ []

-- the turns of an opening: a sync, and then the first gate where it isn't there
abbrev pub OpeningTurns : {T : Type 0} → List ℕ → Result T OpenFault → List Turn → Type 0
OpeningTurns file (Ok opened) turns = turns ≡ Synced ∷ first_gate (length file)
OpeningTurns file (Err fault) turns = FaultTurns file fault turns

-- a fault that only the disk or memory excuses
abbrev pub IsOutsideFault : OpenFault → Type 0
IsOutsideFault Disk = Unit {0}
IsOutsideFault (TooLong count) = ⊥
IsOutsideFault (Cut slot) = ⊥
IsOutsideFault Memory = Unit {0}

-- a result that says something of the file
abbrev pub IsAboutFile : {T : Type 0} → Result T OpenFault → Type 0
IsAboutFile (Ok opened) = Unit {0}
IsAboutFile (Err fault) = IsOutsideFault fault → ⊥
