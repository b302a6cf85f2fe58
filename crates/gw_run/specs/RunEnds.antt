-- How the top call ends after a run, and the status of that.
use Rattle.std.specs.Prelude.{◌≡◌, ℕ}
use Rattle.gw_rules.specs.View.{View}
use Rattle.gw_dispatch.specs.RunEnd.{EndedBy}
use Rattle.gw_dispatch.specs.declared.engine.Ended.{Ended}
use Rattle.gw_dispatch.specs.declared.engine.Ended.TheVariants.{Done, NotOpened as RunNotOpened, NoMemory, Disk as RunDisk, TooLong, Cut, BadRecord}
use Rattle.gw_run.specs.Top.{status_of}
use Rattle.gw_run.specs.declared.ending.Ending.{Ending}
use Rattle.gw_run.specs.declared.ending.Ending.TheVariants.{Played, NotOpened, Memory, Disk, LongJournal, CutJournal, BadSlot}

-- the end after a run that has ended so
abbrev pub ending_of : Ended → Ending
ending_of Done = Played
ending_of RunNotOpened = NotOpened
ending_of NoMemory = Memory
ending_of RunDisk = Disk
ending_of (TooLong size) = LongJournal size
ending_of (Cut slot) = CutJournal slot
ending_of (BadRecord slot) = BadSlot slot

-- the end is one after a run, of whose own end this is so
abbrev pub GivesEnd : Ending → (Ended → Type 0) → Type 0
GivesEnd ending IsSo = (ended : Ended) × (ending ≡ ending_of ended) × IsSo ended

-- the status is one after a run, 0, 69, 71, 74 or 76, of whose end this is so
abbrev pub GivesStatus : ℕ → (Ended → Type 0) → Type 0
GivesStatus status IsSo = (ended : Ended) × (status ≡ status_of (ending_of ended)) × IsSo ended

-- Inner: a run of at most so many polls, which has led to this view, gives this end
abbrev pub EndsRun : Ending → ℕ → View → Type 0
EndsRun ending most v = GivesEnd ending (λ ended. EndedBy ended most v)

-- and this status
abbrev pub EndsWithStatus : ℕ → ℕ → View → Type 0
EndsWithStatus status most v = GivesStatus status (λ ended. EndedBy ended most v)
