-- What the records have of a terminal in each of its standings, and that each record that a row keeps may come next.
use Rattle.std.specs.Prelude.{◌≡◌, ◌≢◌, ◌≤◌, ℕ, ◌+◌, pos, true, false, List, [], ◌∷◌, ◌++◌, All, length, slice_get, Option, Some, None, IfSome}
use Rattle.gw_base.specs.Limits.{IsTrace}
use Rattle.gw_base.specs.declared.key.Key.{Key}
use Rattle.gw_base.specs.Moment.{IsMoment}
use Rattle.gw_base.specs.Setup.{IsSetup}
use Rattle.gw_base.specs.declared.setup.Pt.{Pt}
use Rattle.gw_base.specs.declared.setup.Setup.{Setup}
use Rattle.gw_site.specs.Outside.{Connection}
use Rattle.sale_values.specs.declared.header.Header.{Header}
use Rattle.sale_values.specs.declared.names.Period.{Period}
use Rattle.sale_values.specs.declared.names.Period.TheVariants.{AcquirerReconciliation}
use Rattle.sale_values.specs.declared.request.Reference.{Reference}
use Rattle.sale_values.specs.declared.request.SaleRequest.{SaleRequest}
use Rattle.sale_values.specs.declared.request.SaleRequest.TheVariants as requests
use Rattle.sale_values.specs.Key.{key_of}
use Rattle.sale_reply.specs.Limits.{IsHeaderWithinLimits, IsShownWithinLimits}
use Rattle.sale_reply.specs.declared.reply.Shown.{Shown}
use Rattle.zvt_apdu.specs.Grammar.{ApduValue}
use Rattle.zvt_bmp.specs.declared.fields.Fields.{Fields}
use Rattle.zvt_msg.specs.Message.{Status}
use Rattle.zvt_msg.specs.Numbers.{NumbersFitFields}
use Rattle.zvt_talk.specs.declared.phase.Phase.{Phase}
use Rattle.zvt_talk.specs.declared.phase.Phase.TheVariants as phases
use Rattle.zvt_talk.specs.Talk.{TalkFacts}
use Rattle.jrn_record.specs.declared.records.Intent.{Intent as TheIntent}
use Rattle.jrn_record.specs.declared.records.Record.{Record}
use Rattle.jrn_record.specs.declared.records.Record.TheVariants.{Intent, Outcome, Settled}
use Rattle.gw_ledger.specs.Accounts.{last_number_of}
use Rattle.gw_ledger.specs.Fold.{AreFolded, found_of, open_entry}
use Rattle.gw_ledger.specs.Sums.{open_count_of}
use Rattle.gw_owes.specs.declared.terminal.Service.{Service}
use Rattle.gw_owes.specs.declared.terminal.Service.TheVariants.{Transaction, EndOfDay, Display}
use Rattle.gw_owes.specs.declared.terminal.Standing.{Standing}
use Rattle.gw_owes.specs.declared.terminal.Standing.TheVariants.{Unlinked, Registering, Enquiring, Ready, Serving, Aside}
use Rattle.gw_owes.specs.declared.terminal.Terminal.{Terminal}
use Rattle.gw_owes.specs.Calls.{records_kept}
use Rattle.gw_owes.specs.Core.{Core, new_core}
use Rattle.gw_owes.specs.Days.{days_served}
use Rattle.gw_owes.specs.WaitingRows.{next_waiting_row, overdue_row, queue_row}
use Rattle.gw_owes.specs.Waits.{memory_reserved, slots_reserved}
use Rattle.gw_owes.specs.DeviceRequests.{greatest_device_number}
use Rattle.gw_owes.specs.Handling.{handle_row}
use Rattle.gw_owes.specs.Items.{RoundItem, Crowded, Message, Asked, Unframed, Gone, Greet, Handle, Serve, Queue, NextWaiting, Oversized, LinkLost, Late, Overdue, Due}
use Rattle.gw_owes.specs.KeptReplies.{own_key}
use Rattle.gw_owes.specs.Links.{LinkEvent, link_row}
use Rattle.gw_owes.specs.Payments.{serve_row}
use Rattle.gw_owes.specs.ReadAs.{IsReadAs, ReadAs, Request}
use Rattle.gw_owes.specs.Row.{Known, Row}
use Rattle.gw_owes.specs.Rows.{row_of}
use Rattle.gw_owes.specs.TerminalLaws.{owes_cut, settings_of}
use Rattle.gw_owes.specs.TerminalRows.{terminal_of, terminal_row}
use Rattle.gw_owes.specs.Terminals.{core_without}

-- ---- one terminal

-- none of a terminal's keys is open, and its last trace number, of at most six digits, is none below that of its records
pub record HasNoneOpen (kept : List Record) (poi : List ℕ) (last : ℕ) : Type 0 where
  pub none_open : open_entry kept poi ≡ None
  pub not_below : last_number_of kept poi ≤ last
  pub within : IsTrace last

-- a payment or a reversal that is served is the terminal's open key, with the last trace number as the number before
pub record IsServedOpen (kept : List Record) (poi : List ℕ) (last slot : ℕ) : Type 0 where
  pub intent : TheIntent
  pub is_open : open_entry kept poi ≡ Some (record { slot = slot; intent = intent; result = None })
  pub before : intent.before ≡ last
  pub not_below : last_number_of kept poi ≤ last

-- an end of day that is served is one of the terminal, with a header within the limits, and its key is unknown to the records, so that its Settled may come next; none of the terminal's keys is open
pub record IsDayServed (kept : List Record) (poi : List ℕ) (last : ℕ) (header : Header) (period : Period) : Type 0 where
  pub rests : HasNoneOpen kept poi last
  pub heading : IsHeaderWithinLimits header
  pub names : header.poi ≡ poi
  pub period_is : period ≡ AcquirerReconciliation
  pub key : Key
  pub key_is : own_key header ≡ Some key
  pub unknown : found_of kept key ≡ None

-- the results of a Display lie within the limits of a reply
abbrev pub AreResultsWithinLimits : List Shown → Type 0
AreResultsWithinLimits results = (length results ≤ 16) × All IsShownWithinLimits results

-- a display that is served has a header within the limits, and its results, where its till gets any; none of the terminal's keys is open
pub record IsDisplayServed (kept : List Record) (poi : List ℕ) (last : ℕ) (header : Header) (results : Option (List Shown)) : Type 0 where
  pub rests : HasNoneOpen kept poi last
  pub heading : IsHeaderWithinLimits header
  pub results_within : IfSome results AreResultsWithinLimits

-- what is served is on record where it is a payment or a reversal, and may be finished where it is another
abbrev pub IsServiceOnRecord : List Record → List ℕ → ℕ → Service → Type 0
IsServiceOnRecord kept poi last (Transaction slot) = IsServedOpen kept poi last slot
IsServiceOnRecord kept poi last (EndOfDay header period) = IsDayServed kept poi last header period
IsServiceOnRecord kept poi last (Display header results) = IsDisplayServed kept poi last header results

-- what the records have of a terminal of this standing; before it is ready, and once it is set aside, they may have anything
abbrev pub AreRecordsOf : List Record → List ℕ → Standing → Type 0
AreRecordsOf kept poi (Unlinked due) = Unit {0}
AreRecordsOf kept poi Registering = Unit {0}
AreRecordsOf kept poi Enquiring = Unit {0}
AreRecordsOf kept poi (Ready last) = HasNoneOpen kept poi last
AreRecordsOf kept poi (Serving service last) = IsServiceOnRecord kept poi last service
AreRecordsOf kept poi (Aside before reported) = Unit {0}

-- the last status, where there is one, was read
abbrev pub WasLastRead : Option Fields → Type 0
WasLastRead None = Unit {0}
WasLastRead (Some fields) = NumbersFitFields (Status fields)

-- the last status that a dialogue in this phase heard was read
abbrev pub HasReadStatuses : Phase → Type 0
HasReadStatuses (phases.Asked stop_wished) = Unit {0}
HasReadStatuses (phases.Begun stop_sent statuses) = WasLastRead statuses.last
HasReadStatuses (phases.Ended stop_sent) = Unit {0}

-- so it is in the dialogue that runs, where one does
abbrev pub IsTalkRead : Option TalkFacts → Type 0
IsTalkRead None = Unit {0}
IsTalkRead (Some talk) = HasReadStatuses talk.phase

-- the records have what the terminal's standing says, and what it has reported was read
pub record IsTerminalInOrder (kept : List Record) (terminal : Terminal) : Type 0 where
  pub records : AreRecordsOf kept terminal.pt.poi terminal.standing
  pub read : IsTalkRead terminal.talk

-- ---- all terminals

-- so it is of each terminal
abbrev pub AreTerminalsInOrder : List Record → Core → Type 0
AreTerminalsInOrder kept core = (number : ℕ) (terminal : Terminal) → slice_get core.terminals number ≡ Some terminal → IsTerminalInOrder kept terminal

-- the terminals are those of a setup within its limits, so that no two have one POIID
pub record AreOfSetup (core : Core) (setup : Setup) : Type 0 where
  pub within : IsSetup setup
  pub settings : settings_of core ≡ setup.terminals

-- a message was read from a till's bytes
abbrev pub IsReadFromTill : ReadAs → Type 0
IsReadFromTill as_read = (bytes : List ℕ) × IsReadAs bytes as_read

-- the POIID of the terminal that a request is about: its own, and of an Abort that of the key which it names
abbrev pub poi_asked : Header → SaleRequest → List ℕ
poi_asked header requests.Login = header.poi
poi_asked header requests.Logout = header.poi
poi_asked header (requests.Payment ask) = header.poi
poi_asked header (requests.Reversal ask) = header.poi
poi_asked header (requests.Abort reference) = (key_of header reference).poi
poi_asked header (requests.Status reference) = header.poi
poi_asked header (requests.Reconciliation period) = header.poi
poi_asked header (requests.Display outputs) = header.poi
poi_asked header (requests.Print qualifier) = header.poi
poi_asked header requests.Diagnosis = header.poi

-- a request that a terminal of this number begins to serve, or by which it is to stop, was read from a till's bytes, and is about this terminal
pub record IsReadRequest (setup : Setup) (number : ℕ) (header : Header) (request : SaleRequest) : Type 0 where
  pub read : IsReadFromTill (Request header request)
  pub names : (pt : Pt) → slice_get setup.terminals number ≡ Some pt → pt.poi ≡ poi_asked header request

-- a request that waits for a terminal of this number was read from a till's bytes, and is about this terminal; so was an Abort, which takes out another that waits
pub record IsReadQueued (setup : Setup) (number : ℕ) (header : Header) (request : SaleRequest) : Type 0 where
  pub read : IsReadFromTill (Request header request)
  pub names : ((reference : Reference) → request ≢ requests.Abort reference) → (pt : Pt) → slice_get setup.terminals number ≡ Some pt → pt.poi ≡ poi_asked header request

-- what an item has of a till was read from its bytes
abbrev pub IsReadItem : Setup → RoundItem → Type 0
IsReadItem setup (Crowded till) = Unit {0}
IsReadItem setup (Message till bytes) = Unit {0}
IsReadItem setup (Asked till as_read) = IsReadFromTill as_read
IsReadItem setup (Unframed till) = Unit {0}
IsReadItem setup (Gone till) = Unit {0}
IsReadItem setup (Greet number apdu) = Unit {0}
IsReadItem setup (Handle number apdu) = Unit {0}
IsReadItem setup (Serve number till header request) = IsReadRequest setup number header request
IsReadItem setup (Queue number till header request) = IsReadQueued setup number header request
IsReadItem setup (NextWaiting number) = Unit {0}
IsReadItem setup (Oversized number) = Unit {0}
IsReadItem setup (LinkLost number) = Unit {0}
IsReadItem setup (Late number) = Unit {0}
IsReadItem setup (Overdue key) = Unit {0}
IsReadItem setup (Due number) = Unit {0}

-- so it is of each terminal but this one
abbrev pub AreOthersInOrder : ℕ → List Record → Core → Type 0
AreOthersInOrder but kept core = (number : ℕ) (terminal : Terminal) → number ≢ but → slice_get core.terminals number ≡ Some terminal → IsTerminalInOrder kept terminal

-- a slot is left for the Outcome of each open key, and those that are reserved for what is served or waits
abbrev pub HasRoom : ℕ → List Record → Core → Type 0
HasRoom slots kept core = length kept + (open_count_of kept + slots_reserved core) ≤ slots

-- the number of the next device request has at most ten digits
abbrev pub IsNumbered : Core → Type 0
IsNumbered core = core.device_requests ≤ greatest_device_number

-- ---- the laws

-- what is known is in order: the records are folded, leave a slot for what is still to come, and have what each terminal's standing says
pub record IsInOrder (known : Known) : Type 0 where
  pub folded : AreFolded known.kept
  pub room : HasRoom known.setup.slots known.kept known.core
  pub of_setup : AreOfSetup known.core known.setup
  pub moment : IsMoment (pos known.moment)
  pub numbered : IsNumbered known.core
  pub terminals : AreTerminalsInOrder known.kept known.core

-- as a run begins, whatever the records; nothing is reserved then
abbrev pub NewCoreIsInOrder : Type 0
NewCoreIsInOrder = (setup : Setup) (kept : List Record) → AreTerminalsInOrder kept (new_core setup) × (slots_reserved (new_core setup) ≡ 0)

-- what is known stays in order with the records that a row keeps
pub record KeepsInOrder (known : Known) (kept : List Record) (core : Core) : Type 0 where
  -- at most one is kept
  pub few : length kept ≤ 1
  -- they are folded with those before, and leave a slot for what is still to come
  pub folded : AreFolded (known.kept ++ kept)
  pub room : HasRoom known.setup.slots (known.kept ++ kept) core
  pub numbered : IsNumbered core
  -- and they have what each terminal's standing says, as the row leaves it
  pub terminals : AreTerminalsInOrder (known.kept ++ kept) core

-- each item keeps what is known in order, where it cuts no terminal; the beginning of a request that has waited has a law of its own
abbrev pub EachRowKeepsInOrder : Type 0
EachRowKeepsInOrder =
    (known : Known) (item : RoundItem) → ((number : ℕ) → item ≢ NextWaiting number) → IsInOrder known → IsReadItem known.setup item → owes_cut (terminal_row known item).calls ≡ false
    → KeepsInOrder known (records_kept (terminal_row known item).calls) (terminal_row known item).core

-- so does what a till's request changes of those that wait
abbrev pub EachQueueKeepsInOrder : Type 0
EachQueueKeepsInOrder =
    (known : Known) (number till : ℕ) (header : Header) (request : SaleRequest) → IsInOrder known
    → KeepsInOrder known (records_kept (queue_row known number till header request).calls) (queue_row known number till header request).core

-- and what has waited for too long
abbrev pub EachOverdueKeepsInOrder : Type 0
EachOverdueKeepsInOrder = (known : Known) (key : Key) → IsInOrder known → KeepsInOrder known (records_kept (overdue_row known key).calls) (overdue_row known key).core

-- a row that cuts the terminal of this number keeps no record, and leaves every other in order
pub record CutKeepsInOrder (known : Known) (number : ℕ) (row : Row) : Type 0 where
  pub none_kept : records_kept row.calls ≡ []
  pub room : HasRoom known.setup.slots known.kept row.core
  pub numbered : IsNumbered row.core
  pub others : AreOthersInOrder number known.kept row.core

-- so does each item that cuts its terminal
abbrev pub EachCutKeepsInOrder : Type 0
EachCutKeepsInOrder =
    (known : Known) (item : RoundItem) (number : ℕ) → terminal_of item ≡ Some number → IsInOrder known → owes_cut (terminal_row known item).calls ≡ true
    → CutKeepsInOrder known number (terminal_row known item)

-- what leaves every terminal in order, whatever standing that of this number had, serves no more ends of day, and requests nothing of a device
pub record LinkKeepsInOrder (known : Known) (number : ℕ) (core : Core) : Type 0 where
  pub terminals : AreOthersInOrder number known.kept known.core → AreTerminalsInOrder known.kept core
  pub days : days_served core.terminals ≤ days_served known.core.terminals
  pub waits : core.waits ≡ known.core.waits
  pub device_requests : core.device_requests ≡ known.core.device_requests

-- so does an event of its link
abbrev pub EachLinkKeepsInOrder : Type 0
EachLinkKeepsInOrder = (known : Known) (number : ℕ) (event : LinkEvent) → LinkKeepsInOrder known number (link_row known number event).core

-- the items that come next after one that was read were read, too: what a till's message begins is at the terminal that it names
abbrev pub EachRowBringsReadItems : Type 0
EachRowBringsReadItems =
    (tills : List Connection) (known : Known) (item : RoundItem) → IsInOrder known → IsReadItem known.setup item → All (IsReadItem known.setup) (row_of tills known item).items

-- ---- memory

-- 1 for a record that takes memory, as an Intent and a Settled do, and 0 for one that takes none: that of an Outcome was taken with its Intent
abbrev pub memory_of : Record → ℕ
memory_of (Intent intent) = 1
memory_of (Outcome outcome) = 0
memory_of (Settled settled) = 1

-- how much memory these records take
abbrev pub memory_taken : List Record → ℕ
memory_taken [] = 0
memory_taken (next ∷ records) = memory_of next + memory_taken records

-- how much memory a row takes, and what is served or waits then will take
abbrev pub memory_after : Row → ℕ
memory_after row = memory_taken (records_kept row.calls) + memory_reserved row.core

-- a message of a terminal takes no more than was reserved
abbrev pub EachMessageTakesItsMemory : Type 0
EachMessageTakesItsMemory = (known : Known) (number : ℕ) (apdu : ApduValue) → memory_after (handle_row known number apdu) ≤ memory_reserved known.core

-- nor does the beginning of a request that has waited
abbrev pub EachNextTakesItsMemory : Type 0
EachNextTakesItsMemory = (known : Known) (number : ℕ) → memory_after (next_waiting_row known number) ≤ memory_reserved known.core

-- a request that is begun, or joins those that wait, takes one more at most
abbrev pub EachRequestTakesOne : Type 0
EachRequestTakesOne = (known : Known) (number till : ℕ) (header : Header) (request : SaleRequest) → (memory_after (serve_row known number till header request) ≤ memory_reserved known.core + 1) × (memory_after (queue_row known number till header request) ≤ memory_reserved known.core + 1)

-- once a till is gone as many ends of day are served as before, and no more requests wait
abbrev pub EachTillGoneLeavesDays : Type 0
EachTillGoneLeavesDays = (core : Core) (till : ℕ) → (days_served (core_without core till).terminals ≡ days_served core.terminals) × (length (core_without core till).waits ≤ length core.waits)
