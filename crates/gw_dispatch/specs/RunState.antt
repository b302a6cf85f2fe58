-- What a run remembers and keeps, and that the two are in order.
use Rattle.std.specs.Prelude.{◌≡◌, ◌⊎◌, ◌≤◌, ◌<◌, ◌+◌, ℕ, List, ◌++◌, length, Option, option_to_list, Result, Ok, Err}
use Rattle.gw_base.specs.declared.setup.Setup.{Setup}
use Rattle.gw_site.specs.Observed.{Observed}
use Rattle.jrn_record.specs.declared.records.Record.{Record}
use Rattle.jrn_log.specs.Journal.{StandsFor}
use Rattle.gw_ledger.specs.Fold.{AreFolded}
use Rattle.gw_ledger.specs.Sums.{open_count_of}
use Rattle.gw_owes.specs.Core.{Core}
use Rattle.gw_owes.specs.Dialogues.{AllHaveDialogues}
use Rattle.gw_owes.specs.Days.{days_served}
use Rattle.gw_owes.specs.RecordLaws.{AreOfSetup, AreOthersInOrder, AreTerminalsInOrder, HasRoom, IsNumbered, memory_of, memory_taken}
use Rattle.gw_owes.specs.TerminalLaws.{settings_of}
use Rattle.gw_owes.specs.Terminals.{core_without}
use Rattle.gw_owes.specs.WaitingLaws.{AreWaitsInOrder}
use Rattle.gw_owes.specs.Waits.{memory_reserved}
use Rattle.gw_core.specs.IsRow.{MayBeKept, known_with}
use Rattle.gw_core.specs.declared.gateway.Gateway.{Gateway}
use Rattle.gw_rules.specs.Stage.{Broken}
use Rattle.gw_rules.specs.View.{View}
use Rattle.gw_dispatch.specs.declared.run_state.RunState.{RunState}
use Rattle.gw_dispatch.specs.declared.records.Records.{Records}

-- ---- what is held is in order

-- what a setup says of the gateway itself
abbrev pub gateway_of : Setup → Gateway
gateway_of setup = record { name = setup.name; slots = setup.slots; line = setup.line; wait = setup.wait }

-- what is remembered is in order with what is kept, in a gateway of some setup: a slot is left for the Outcome of each open key and for what is served or waits, each terminal has the dialogue of its standing, and what waits may be begun once its terminal is ready
pub record IsOrderly (gateway : Gateway) (kept : List Record) (core : Core) : Type 0 where
  pub setup : Setup
  pub gateway_is : gateway_of setup ≡ gateway
  pub of_setup : AreOfSetup core setup
  pub folded : AreFolded kept
  pub room : HasRoom gateway.slots kept core
  pub numbered : IsNumbered core
  pub terminals : AreTerminalsInOrder kept core
  pub dialogues : AllHaveDialogues core
  pub waits : (moment : ℕ) → AreWaitsInOrder (known_with setup kept core moment)

-- the journal has just the ledger's records, and so many slots, of which one is left for the Outcome of each open key
pub record LeavesRoom (slots : ℕ) (records : Records) : Type 0 where
  pub count : records.journal.len ≡ length records.ledger.records
  pub slots_are : records.journal.slots ≡ slots
  pub room : length records.ledger.records + open_count_of records.ledger.records ≤ slots

-- the journal has just the ledger's records, and stands for the site
pub record StandFor (gateway : Gateway) (records : Records) (observed : Observed) : Type 0 where
  pub count : records.journal.len ≡ length records.ledger.records
  pub slots : records.journal.slots ≡ gateway.slots
  pub stands : StandsFor records.journal observed

-- what a run holds is in order, its journal stands for the site, and its ledger has memory for what is served or waits
pub record IsWell (state : RunState) (observed : Observed) : Type 0 where
  pub order : IsOrderly state.gateway state.records.ledger.records state.core
  pub records : StandFor state.gateway state.records observed
  pub spare : memory_reserved state.core ≤ state.records.ledger.spare

-- ---- what stays

-- Inner: no more requests wait, and what waits stays in order
pub record WaitsStay (old new : Core) : Type 0 where
  pub few : length new.waits ≤ length old.waits
  pub order : (setup : Setup) (kept : List Record) (moment : ℕ) → AreWaitsInOrder (known_with setup kept old moment) → AreWaitsInOrder (known_with setup kept new moment)

-- Inner: what is remembered stays in order with whatever is kept, the terminals' settings stay, no more ends of day are served, no more requests wait, and nothing is requested of a device
pub record StaysInOrder (old new : Core) : Type 0 where
  pub settings : settings_of new ≡ settings_of old
  pub days : days_served new.terminals ≤ days_served old.terminals
  pub waits : WaitsStay old new
  pub device_requests : new.device_requests ≡ old.device_requests
  pub order : (kept : List Record) → AreTerminalsInOrder kept old → AreTerminalsInOrder kept new

-- Inner: it is the same, or but for a till that is forgotten
abbrev pub ForgetsAny : Core → Core → Type 0
ForgetsAny old new = (new ≡ old) ⊎ ((till : ℕ) × (new ≡ core_without old till))

-- so it does whatever the terminal of this number had before
pub record OthersStayInOrder (pt : ℕ) (old new : Core) : Type 0 where
  pub settings : settings_of new ≡ settings_of old
  pub days : days_served new.terminals ≤ days_served old.terminals
  pub waits : WaitsStay old new
  pub device_requests : new.device_requests ≡ old.device_requests
  pub order : (kept : List Record) → AreOthersInOrder pt kept old → AreTerminalsInOrder kept new

-- Inner: where no call on the disk has failed this holds of the view; else the run is over
abbrev pub UnlessBroken : {T E : Type 0} → Result T E → (T → View → Type 0) → View → Type 0
UnlessBroken (Ok given) Q v = Q given v
UnlessBroken (Err failed) Q v = v.scene.stage ≡ Broken

-- ---- keeping a record

-- the record may come next, and there is room for it
pub record HasSlotsFor (records : Records) (the_record : Record) : Type 0 where
  pub may : MayBeKept records.ledger.records the_record
  pub few : records.journal.slots ≤ 1000000
  pub count : records.journal.len ≡ length records.ledger.records
  pub slot : records.journal.len < records.journal.slots
  pub spare : memory_of the_record ≤ records.ledger.spare

-- the record is kept, where there is one: the ledger has it, in the memory that was there, and so has the journal
pub record KeepsWithLedger (old new : Records) (wanted : Option Record) : Type 0 where
  pub records : new.ledger.records ≡ old.ledger.records ++ option_to_list wanted
  pub journal : new.journal ≡ record old.journal { len = length new.ledger.records }
  pub spare : new.ledger.spare + memory_taken (option_to_list wanted) ≡ old.ledger.spare

-- of two that are held only the ledger's memory differs
pub record HoldsSame (old new : RunState) : Type 0 where
  pub gateway : new.gateway ≡ old.gateway
  pub core : new.core ≡ old.core
  pub journal : new.records.journal ≡ old.records.journal
  pub records : new.records.ledger.records ≡ old.records.ledger.records
