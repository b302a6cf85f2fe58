-- How a run over a site ends.
use Rattle.std.specs.Prelude.{◌≡◌, ◌⊎◌, ℕ, Bool, true, List, [], ◌∷◌, ◌++◌, length, Some}
use Rattle.gw_base.specs.declared.setup.Setup.{Setup}
use Rattle.gw_site.specs.Image.{Image}
use Rattle.gw_site.specs.Observed.{Observed}
use Rattle.gw_site.specs.Outside.{outside_of}
use Rattle.gw_site.specs.declared.turn.Turn.{Turn}
use Rattle.gw_site.specs.declared.turn.Turn.TheVariants.{OpenFailed, Crash}
use Rattle.jrn_record.specs.declared.records.Record.{Record}
use Rattle.jrn_log.specs.Slots.{IsFileTooLong, IsTruncatedSlot}
use Rattle.gw_ledger.specs.Sums.{tally_of}
use Rattle.gw_rules.specs.Acts.{Act, AreDue, Look}
use Rattle.gw_rules.specs.Stage.{Resting, Looking, Over, Broken, is_running}
use Rattle.gw_rules.specs.View.{View}
use Rattle.gw_dispatch.specs.RecordsOpening.{HasRecords, IsBadSlot, IsFileRefused, LacksMemory}
use Rattle.gw_dispatch.specs.declared.engine.Ended.{Ended}
use Rattle.gw_dispatch.specs.declared.engine.TalliedEnd.{TalliedEnd}
use Rattle.gw_dispatch.specs.declared.engine.Ended.TheVariants.{Done, NotOpened, Disk, TooLong, Cut, BadRecord, NoMemory}
use Rattle.gw_dispatch.specs.declared.records.Unopened.{Unopened}
use Rattle.gw_dispatch.specs.declared.records.Unopened.TheVariants.{Disk as DiskCause, TooLong as TooLongCause, Cut as CutCause, BadRecord as BadRecordCause, Memory as MemoryCause}

-- so many polls were made, and nothing is owed
pub record HasPolled (most : ℕ) (v : View) : Type 0 where
  pub running : is_running v.scene.stage ≡ true
  pub calls : v.calls ≡ []
  pub items : v.items ≡ []
  pub polls : v.scene.polls ≡ most

-- How a run has ended. After a lawful log no run finds a truncated slot in its journal, nor a bad record.
abbrev pub EndedBy : Ended → ℕ → View → Type 0
EndedBy Done most v = (v.scene.stage ≡ Over) ⊎ HasPolled most v
EndedBy NotOpened most v = v.scene.stage ≡ Resting
EndedBy Disk most v = v.scene.stage ≡ Broken
EndedBy (TooLong count) most v = (v.scene.stage ≡ Looking true) × (length v.scene.outside.file ≡ count)
EndedBy (Cut slot) most v = ⊥
EndedBy (BadRecord slot) most v = ⊥
EndedBy NoMemory most v = LacksMemory v

-- a run has ended so, and where it is done the tally is that of the records that are kept
pub record TalliedBy (end : TalliedEnd) (most : ℕ) (v : View) : Type 0 where
  pub ended_by : EndedBy end.ended most v
  pub tally : end.ended ≡ Done → end.tally ≡ tally_of v.scene.kept

-- no run was begun after this log: that the site could not be opened was added, or nothing where the site is dark
abbrev pub NoneBegan : List Turn → Observed → Type 0
NoneBegan before new = (new.log ≡ Some (before ++ OpenFailed ∷ [])) ⊎ ((new.dark ≡ true) × (new.log ≡ Some before))

-- ---- by the file

-- the file has records, and so many slots are enough for it
pub record FitsRecords (slots : ℕ) (file : List ℕ) : Type 0 where
  pub records : List Record
  pub has : HasRecords file records
  pub fits : IsFileRefused slots file → ⊥

-- what an end says of the journal's file that the run has found, with so many slots
abbrev pub IsEndByFile : ℕ → List ℕ → Ended → Type 0
IsEndByFile slots file Done = FitsRecords slots file
IsEndByFile slots file NotOpened = Unit {0}
IsEndByFile slots file Disk = Unit {0}
IsEndByFile slots file (TooLong count) = (count ≡ length file) × IsFileRefused slots file
IsEndByFile slots file (Cut slot) = (IsFileTooLong slots file → ⊥) × IsTruncatedSlot file slot
IsEndByFile slots file (BadRecord slot) = (IsFileTooLong slots file → ⊥) × IsBadSlot file slot
IsEndByFile slots file NoMemory = Unit {0}

-- the file that a run finds after this log: the log's, or one that a power failure has left of it
abbrev pub IsFound : List Turn → List ℕ → Type 0
IsFound before file = (file ≡ (outside_of before).file) ⊎ Image (outside_of before) file

-- the end reports a fault of the file
abbrev pub ReportsFile : Ended → Type 0
ReportsFile Done = ⊥
ReportsFile NotOpened = ⊥
ReportsFile Disk = ⊥
ReportsFile (TooLong count) = Unit {0}
ReportsFile (Cut slot) = Unit {0}
ReportsFile (BadRecord slot) = Unit {0}
ReportsFile NoMemory = ⊥

-- memory was refused in a run that ends so, or may be as its end is reported: a fault of the file has a number, whose line takes memory
abbrev pub MayLackMemory : Ended → Type 0
MayLackMemory Done = ⊥
MayLackMemory NotOpened = ⊥
MayLackMemory Disk = ⊥
MayLackMemory (TooLong count) = Unit {0}
MayLackMemory (Cut slot) = Unit {0}
MayLackMemory (BadRecord slot) = Unit {0}
MayLackMemory NoMemory = Unit {0}

-- after this log the run has begun with a power failure that has left this file
abbrev pub BeganWith : List Turn → Observed → List ℕ → Type 0
BeganWith before new file = (more : List Turn) × (new.log ≡ Some (before ++ Crash file ∷ more))

-- what the end of a run after this log says of the file that it has found; where that isn't the log's, the run has begun with a power failure that has left it
pub record EndsByFound (slots : ℕ) (before : List Turn) (new : Observed) (ended : Ended) : Type 0 where
  pub file : List ℕ
  pub found : IsFound before file
  pub ends : IsEndByFile slots file ended
  pub began : (file ≡ (outside_of before).file) ⊎ BeganWith before new file

-- ---- Inner: parts of a run

-- Inner: each step is due from this look on
abbrev pub IsDueFrom : Setup → Look → Bool → View → List Act → Type 0
IsDueFrom own look dark v acts = AreDue own v look acts

-- Inner: the rounds of a run have ended so, and where they are done these records are kept
pub record KeptBy (ended : Ended) (records : List Record) (most : ℕ) (v : View) : Type 0 where
  pub ended_by : EndedBy ended most v
  pub kept : ended ≡ Done → v.scene.kept ≡ records

-- Inner: how a run ends whose records were not opened
abbrev pub end_by : Unopened → Ended
end_by DiskCause = Disk
end_by (TooLongCause count) = TooLong count
end_by (CutCause slot) = Cut slot
end_by (BadRecordCause slot) = BadRecord slot
end_by MemoryCause = NoMemory

-- Inner: an end of a run whose site was opened
abbrev pub HasBegun : Ended → Type 0
HasBegun Done = Unit {0}
HasBegun NotOpened = ⊥
HasBegun Disk = Unit {0}
HasBegun (TooLong count) = Unit {0}
HasBegun (Cut slot) = Unit {0}
HasBegun (BadRecord slot) = Unit {0}
HasBegun NoMemory = Unit {0}

-- Inner: an end of a run whose records were opened
abbrev pub EndsRounds : Ended → Type 0
EndsRounds Done = Unit {0}
EndsRounds NotOpened = ⊥
EndsRounds Disk = Unit {0}
EndsRounds (TooLong count) = ⊥
EndsRounds (Cut slot) = ⊥
EndsRounds (BadRecord slot) = ⊥
EndsRounds NoMemory = Unit {0}
