-- What the opening of a run's records returns, by the journal's file as it began.
use Rattle.std.specs.Prelude.{◌≡◌, ◌⊎◌, ◌↔◌, ◌+◌, ◌<◌, ◌≤◌, ℕ, Bool, true, List, [], length, Result, Ok, Err}
use Rattle.gw_base.specs.declared.setup.Setup.{Setup}
use Rattle.jrn_record.specs.declared.records.Record.{Record}
use Rattle.jrn_log.specs.Journal.{JournalValue}
use Rattle.jrn_log.specs.Slots.{AreSlots, IsFileTooLong, IsTruncatedSlot}
use Rattle.jrn_log.specs.declared.fault.OpenFault.{OpenFault}
use Rattle.jrn_log.specs.declared.fault.OpenFault.TheVariants.{Disk as JournalDisk, TooLong as JournalTooLong, Cut as JournalCut, Memory as JournalMemory}
use Rattle.gw_ledger.specs.Fold.{AreBodiesOf, IsFirstBad}
use Rattle.gw_ledger.specs.Sums.{open_count_of}
use Rattle.gw_rules.specs.Acts.{Act, AreDue, AreDueTo, Unmeasured, Looked}
use Rattle.gw_rules.specs.Lawful.{IsClear}
use Rattle.gw_rules.specs.Stage.{Looking, Broken, is_round}
use Rattle.gw_rules.specs.View.{View}
use Rattle.gw_dispatch.specs.Rounds.{IsRunOpened}
use Rattle.gw_dispatch.specs.declared.records.Records.{Records}
use Rattle.gw_dispatch.specs.declared.records.Unopened.{Unopened}
use Rattle.gw_dispatch.specs.declared.records.Unopened.TheVariants.{Disk, TooLong, Cut, BadRecord, Memory}

-- ---- files

-- no slot of the file is truncated
abbrev pub HasWholeSlots : List ℕ → Type 0
HasWholeSlots file = (slot : ℕ) → IsTruncatedSlot file slot → ⊥

-- the open slots of the file, of which none is truncated, have these records, and each may come after those before it
pub record HasRecords (file : List ℕ) (records : List Record) : Type 0 where
  pub whole : HasWholeSlots file
  pub bodies : List (List ℕ)
  pub slots_are : AreSlots file bodies
  pub records_are : AreBodiesOf bodies records

-- of so many slots these records leave fewer free than keys open
abbrev pub IsTooFull : ℕ → List Record → Type 0
IsTooFull slots records = slots < length records + open_count_of records

-- the file has records that leave fewer slots free than keys open
pub record IsFileTooFull (slots : ℕ) (file : List ℕ) : Type 0 where
  pub records : List Record
  pub has : HasRecords file records
  pub full : IsTooFull slots records

-- the file is longer than its slots take, or its records leave fewer of them free than keys open
abbrev pub IsFileRefused : ℕ → List ℕ → Type 0
IsFileRefused slots file = IsFileTooLong slots file ⊎ IsFileTooFull slots file

-- the first slot of the file that is no record, or one that may not come after those before it
pub record IsBadSlot (file : List ℕ) (slot : ℕ) : Type 0 where
  pub whole : HasWholeSlots file
  pub bodies : List (List ℕ)
  pub slots_are : AreSlots file bodies
  pub first : IsFirstBad bodies slot

-- ---- results

-- a cause that lies outside the file
abbrev pub IsOutsideCause : Unopened → Type 0
IsOutsideCause Disk = Unit {0}
IsOutsideCause (TooLong count) = ⊥
IsOutsideCause (Cut slot) = ⊥
IsOutsideCause (BadRecord slot) = ⊥
IsOutsideCause Memory = Unit {0}

-- a result that says something of the file
abbrev pub SaysOfFile : {T : Type 0} → Result T Unopened → Type 0
SaysOfFile (Ok records) = Unit {0}
SaysOfFile (Err cause) = IsOutsideCause cause → ⊥

-- too long, with the file's length: exactly where it is too long, or its records leave too few slots free
abbrev pub IsExactlyRefused : {T : Type 0} → ℕ → List ℕ → Result T Unopened → Type 0
IsExactlyRefused slots file result = SaysOfFile result → (count : ℕ) → (result ≡ Err (TooLong count)) ↔ ((count ≡ length file) × IsFileRefused slots file)

-- truncated, with the slot: exactly where a file that isn't too long is
abbrev pub IsExactlyCut : {T : Type 0} → ℕ → List ℕ → Result T Unopened → Type 0
IsExactlyCut slots file result = SaysOfFile result → (slot : ℕ) → (result ≡ Err (Cut slot)) ↔ ((IsFileTooLong slots file → ⊥) × IsTruncatedSlot file slot)

-- a bad record, with its slot: exactly where a file that isn't too long has it
abbrev pub IsExactlyBad : {T : Type 0} → ℕ → List ℕ → Result T Unopened → Type 0
IsExactlyBad slots file result = SaysOfFile result → (slot : ℕ) → (result ≡ Err (BadRecord slot)) ↔ ((IsFileTooLong slots file → ⊥) × IsBadSlot file slot)

-- what is opened: a journal of just the file's records, and the ledger of these
pub record HoldsFile (slots : ℕ) (file : List ℕ) (records : Records) : Type 0 where
  pub has : HasRecords file records.ledger.records
  pub journal_is : records.journal ≡ record { len = length records.ledger.records; slots = slots; opened = length file }

-- ---- what an opening leaves

-- the calls of an opening are due: its file is measured and read, and where the records are opened it need be looked at no more
abbrev pub OpensBy : {T E : Type 0} → Setup → Result T E → Bool → View → List Act → Type 0
OpensBy setup (Ok records) dark v acts = AreDueTo setup Unmeasured Looked dark v acts
OpensBy setup (Err cause) dark v acts = AreDue setup v Unmeasured acts

-- memory was refused: no call on the disk has failed, and in a round no call is owed
pub record LacksMemory (v : View) : Type 0 where
  pub clear : IsClear v
  pub calls : is_round v.scene.stage ≡ true → v.calls ≡ []

-- what is left where no records were opened: after a failure of the disk no more call is made; of the file it is known that it is refused, and with what length. A lawful log never has a truncated slot, nor a bad record.
abbrev pub UnopenedBy : Unopened → View → Type 0
UnopenedBy Disk v = v.scene.stage ≡ Broken
UnopenedBy (TooLong count) v = (v.scene.stage ≡ Looking true) × (length v.scene.outside.file ≡ count)
UnopenedBy (Cut slot) v = ⊥
UnopenedBy (BadRecord slot) v = ⊥
UnopenedBy Memory v = LacksMemory v

-- the opening of a run is done, and these records are kept
pub record HasOpened (setup : Setup) (records : Records) (v : View) : Type 0 where
  pub opened : IsRunOpened setup v
  pub kept : v.scene.kept ≡ records.ledger.records

-- what an opening leaves, by its result
abbrev pub OpenedBy : Setup → Result Records Unopened → View → Type 0
OpenedBy setup (Ok records) v = HasOpened setup records v
OpenedBy setup (Err cause) v = UnopenedBy cause v

-- ---- Inner: what is made of a journal

-- Inner: why no records were opened, where the journal was not
abbrev pub cause_of : OpenFault → Unopened
cause_of JournalDisk = Disk
cause_of (JournalTooLong count) = TooLong count
cause_of (JournalCut slot) = Cut slot
cause_of JournalMemory = Memory

-- Inner: why no records were opened on a journal with these bodies
abbrev pub IsCauseOf : JournalValue → List (List ℕ) → Unopened → Type 0
IsCauseOf journal bodies Disk = ⊥
IsCauseOf journal bodies (TooLong count) = (count ≡ journal.opened) × ((records : List Record) × AreBodiesOf bodies records × IsTooFull journal.slots records)
IsCauseOf journal bodies (Cut slot) = ⊥
IsCauseOf journal bodies (BadRecord slot) = IsFirstBad bodies slot
IsCauseOf journal bodies Memory = Unit {0}

-- Inner: these are the records of a journal with these bodies, and they leave as many slots free as keys open
pub record AreLedgered (journal : JournalValue) (bodies : List (List ℕ)) (records : Records) : Type 0 where
  pub journal_is : records.journal ≡ journal
  pub records_are : AreBodiesOf bodies records.ledger.records
  pub free : length records.ledger.records + open_count_of records.ledger.records ≤ journal.slots

-- Inner: what the ledger of a journal with these bodies gives
abbrev pub LedgerGives : JournalValue → List (List ℕ) → Result Records Unopened → Type 0
LedgerGives journal bodies (Ok records) = AreLedgered journal bodies records
LedgerGives journal bodies (Err cause) = IsCauseOf journal bodies cause
