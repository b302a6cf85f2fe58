-- The steps that an opening or an append takes of its site, in their order, each only where the one before succeeded.
use Rattle.std.specs.Prelude.{◌≡◌, ◌⊎◌, ℕ, ◌+◌, ◌*◌, nat_le, true, false, if◌then◌else◌, List, [], ◌∷◌, ◌++◌, Option, Some, None, Result, Ok, Err}
use Rattle.gw_site.specs.Observed.{Observed}
use Rattle.gw_site.specs.Steps.{LengthCall, ReadCall, WriteCall, SyncCall, SiteStep, Made, TakenStep, turns_of_steps, log_of_parts, Takes}
use Rattle.gw_site.specs.declared.turn.Turn.{Turn}
use Rattle.gw_site.specs.declared.turn.Turn.TheVariants.{Wrote, Synced}
use Rattle.jrn_log.specs.declared.fault.OpenFault.{OpenFault}
use Rattle.jrn_log.specs.declared.fault.OpenFault.TheVariants.{Disk, TooLong, Cut, Memory}

-- ---- phases

-- how far an opening or an append is: the step that comes next, and the phase after it
pub data Phase : Type 0 where
  -- the file is to be synced
  ToSync : Phase → Phase
  -- the file's length is to be asked
  ToMeasure : Phase → Phase
  -- these bytes are to be written at an offset
  ToWrite : ℕ → List ℕ → Phase → Phase
  -- a part of the file is to be read
  ToRead : Phase
  -- a part was read, and further parts may be
  ToReadOn : Phase
  -- no step comes
  Done : Phase

-- the step reads a part of the file
pub record IsReadStep (step : SiteStep) : Type 0 where
  pub offset : ℕ
  pub size : ℕ
  pub step_is : step ≡ Made (ReadCall offset size)

-- this step comes in a phase
abbrev pub IsStepIn : Phase → SiteStep → Type 0
IsStepIn (ToSync rest) step = step ≡ Made SyncCall
IsStepIn (ToMeasure rest) step = step ≡ Made LengthCall
IsStepIn (ToWrite offset bytes rest) step = step ≡ Made (WriteCall offset bytes)
IsStepIn ToRead step = IsReadStep step
IsStepIn ToReadOn step = IsReadStep step
IsStepIn Done step = ⊥

-- the turns of the phase's step where it succeeds
abbrev pub phase_turns : Phase → List Turn
phase_turns (ToSync rest) = Synced ∷ []
phase_turns (ToMeasure rest) = []
phase_turns (ToWrite offset bytes rest) = Wrote offset bytes ∷ []
phase_turns ToRead = []
phase_turns ToReadOn = []
phase_turns Done = []

-- the phase after it
abbrev pub phase_after : Phase → Phase
phase_after (ToSync rest) = rest
phase_after (ToMeasure rest) = rest
phase_after (ToWrite offset bytes rest) = rest
phase_after ToRead = ToReadOn
phase_after ToReadOn = ToReadOn
phase_after Done = Done

-- the step has the turns of success
abbrev pub HasSucceeded : Phase → TakenStep → Type 0
HasSucceeded phase one = one.turns ≡ phase_turns phase

-- each step comes in its phase, and only where the one before succeeded
abbrev pub AreSteps : Phase → List TakenStep → Type 0
AreSteps phase [] = Unit {0}
AreSteps phase (one ∷ more) = IsStepIn phase one.step × ((more ≡ []) ⊎ (HasSucceeded phase one × AreSteps (phase_after phase) more))

-- each step comes in its phase and has succeeded, and this is the phase after them
abbrev pub HasReached : Phase → Phase → List TakenStep → Type 0
HasReached last phase [] = phase ≡ last
HasReached last phase (one ∷ more) = IsStepIn phase one.step × HasSucceeded phase one × HasReached last (phase_after phase) more

-- the phase that must be reached, where there is one, is
abbrev pub HasReachedAny : Option Phase → Phase → List TakenStep → Type 0
HasReachedAny None phase taken = Unit {0}
HasReachedAny (Some last) phase taken = HasReached last phase taken

-- ---- what is taken

-- the site took steps from one phase on, none where it was dark, and where it isn't dark after them another phase is reached; its log has grown by their turns
pub record TakesSteps (first : Phase) (last : Option Phase) (before : List Turn) (old new : Observed) : Type 0 where
  pub taken : List TakenStep
  pub log : new.log ≡ Some (before ++ log_of_parts (turns_of_steps taken))
  pub takes : Takes old.plan new.plan taken
  pub none : old.dark ≡ true → taken ≡ []
  pub are : AreSteps first taken
  pub reaches : new.dark ≡ false → HasReachedAny last first taken

-- a dark site takes none, also where its log isn't observed
abbrev pub RestsDark : Observed → Observed → Type 0
RestsDark old new = old.dark ≡ true → Takes old.plan new.plan []

-- the phase that a call reaches where it succeeds
abbrev pub reached : {T E : Type 0} → Phase → Result T E → Option Phase
reached phase (Ok done) = Some phase
reached phase (Err failed) = None

-- ---- an opening

-- the phase once a file's length is known: where it has at most one byte, its first gate is written and synced; where it has slots and no more than these, it is read
abbrev pub measured_phase : ℕ → ℕ → Phase
measured_phase slots size = if nat_le size 1 then ToWrite 0 (0 ∷ []) (ToSync Done) else if nat_le size (256 * slots + 1) then ToRead else Done

-- the phase in which an opening begins
abbrev pub opening_phase : ℕ → ℕ → Phase
opening_phase slots size = ToSync (ToMeasure (measured_phase slots size))

-- the phase in which the opening of a file of this size succeeds
abbrev pub opened_phase : ℕ → Phase
opened_phase size = if nat_le size 1 then Done else ToReadOn

-- the phase in which an opening has found a fault of the file; where the disk has failed it is any
abbrev pub fault_phase : OpenFault → Option Phase
fault_phase Disk = None
fault_phase (TooLong count) = Some Done
fault_phase (Cut slot) = Some ToReadOn
fault_phase Memory = Some ToReadOn

-- the phase that an opening reaches, by its result
abbrev pub opening_reaches : {T : Type 0} → ℕ → Result T OpenFault → Option Phase
opening_reaches size (Ok opened) = Some (opened_phase size)
opening_reaches size (Err fault) = fault_phase fault

-- an opening of a file of this size, with so many slots, has taken its steps
abbrev pub TakesOpening : {T : Type 0} → ℕ → ℕ → List Turn → Observed → Observed → Result T OpenFault → Type 0
TakesOpening slots size before old new result = TakesSteps (opening_phase slots size) (opening_reaches size result) before old new

-- ---- an append

-- the phase in which an append begins: the body and the closed gate after it, and then the open gate, each with its sync
abbrev pub append_phase : ℕ → List ℕ → Phase
append_phase slot body = ToWrite (256 * slot + 1) (body ++ 0 ∷ []) (ToSync (ToWrite (256 * slot) (165 ∷ []) (ToSync Done)))

-- an append of a body in this slot has taken its steps
abbrev pub TakesAppend : {T E : Type 0} → ℕ → List ℕ → List Turn → Observed → Observed → Result T E → Type 0
TakesAppend slot body before old new result = TakesSteps (append_phase slot body) (reached Done result) before old new
