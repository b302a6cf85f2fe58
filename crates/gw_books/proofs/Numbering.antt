-- What holds along a lawful course of the trace numbers of a book that is honest: what recovery rests on.
use Rattle.std.specs.Prelude.{◌≡◌, ◌⊎◌, ◌≤◌, ◌<◌, ℕ, Bool, true, false, ◌&&◌, ◌||◌, List, [], ◌∷◌, slice_get, Some}
use Rattle.std.specs.List.{list_any}
use Rattle.gw_base.specs.declared.key.Key.{Key}
use Rattle.gw_site.specs.Outside.{Connection}
use Rattle.gw_site.specs.declared.turn.Turn.{Turn}
use Rattle.jrn_record.specs.declared.records.Intent.{Intent as TheIntent}
use Rattle.jrn_record.specs.declared.records.Record.{Record}
use Rattle.gw_ledger.specs.Accounts.{last_number_of}
use Rattle.gw_ledger.specs.Keys.{intent_key}
use Rattle.gw_ledger.specs.Slots.{intent_at}
use Rattle.gw_owes.specs.declared.terminal.Service.{Service}
use Rattle.gw_owes.specs.declared.terminal.Service.TheVariants.{Transaction, EndOfDay, Display}
use Rattle.gw_owes.specs.declared.terminal.Standing.{Standing}
use Rattle.gw_owes.specs.declared.terminal.Standing.TheVariants.{Unlinked, Registering, Enquiring, Ready, Serving, Aside}
use Rattle.gw_owes.specs.declared.terminal.Terminal.{Terminal}
use Rattle.gw_owes.specs.Calls.{OwedCall, SendTill, SendPt, LinkPt, WriteBody, WriteGate, WriteFirstGate, Sync, CutTill, CutPt}
use Rattle.gw_owes.specs.Core.{Core}
use Rattle.gw_owes.specs.Items.{RoundItem, Crowded, Message, Asked, Unframed, Gone, Greet, Handle, Serve, Queue, NextWaiting, Oversized, LinkLost, Late, Overdue, Due}
use Rattle.gw_owes.specs.ReadAs.{ReadAs}
use Rattle.gw_owes.specs.RecordLaws.{IsReadItem}
use Rattle.gw_owes.specs.Row.{Known, Row}
use Rattle.gw_owes.specs.Rows.{row_of}
use Rattle.gw_rules.specs.Lawful.{AllowedTurn, Begins, IsRead}
use Rattle.gw_rules.specs.RecordOrder.{records_coming}
use Rattle.gw_rules.specs.Scene.{Scene}
use Rattle.gw_rules.specs.View.{View, Begin, Read, Make, after}
use Rattle.gw_rules.proofs.RecordOrderLemmas.{Ordered}
use Rattle.gw_books.specs.Past.{Numbering, numbering_at, numbering_of, SentCommand, MadeLink, Past, past_after}
use Rattle.gw_books.specs.Books.{BookedEntry, Honest}
use Rattle.gw_books.proofs.HandledLemmas.{IsItemHandled}
use Rattle.gw_books.proofs.Holding.{Holds, HoldsAfterRow, HoldsBetween, begun_past, charge_owed, is_handle, records_after}
use Rattle.gw_books.proofs.ListLemmas.{In}

-- ---- entries

-- a command was sent at this place to the terminal with this numbering
pub record WasSentAt (commands : List SentCommand) (place : ℕ) (numbering : Numbering) : Type 0 where
  pub command : SentCommand
  pub sent : In command commands
  pub place_is : command.place ≡ place
  pub numbering_is : command.numbering ≡ numbering

-- the command of the entry was sent, where it has one
abbrev pub IsOfSent : List SentCommand → BookedEntry → Type 0
IsOfSent commands entry = (place : ℕ) → entry.cause ≡ Some place → WasSentAt commands place entry.numbering

-- the entry is that of a command which was sent for this key
pub record IsForKey (commands : List SentCommand) (key : Key) (entry : BookedEntry) : Type 0 where
  pub command : SentCommand
  pub sent : In command commands
  pub key_is : command.key ≡ Some key
  pub caused : entry.cause ≡ Some command.place

-- ---- numbers

-- by this place there is an entry of this numbering with this trace number
pub record HasNumberedEntry (book : List BookedEntry) (numbering : Numbering) (place trace : ℕ) : Type 0 where
  pub entry : BookedEntry
  pub within : In entry book
  pub numbering_is : entry.numbering ≡ numbering
  pub placed : entry.place ≤ place
  pub number_is : entry.number ≡ trace

-- the trace number is 0, or that of an entry
abbrev pub IsBookedNumber : List BookedEntry → Numbering → ℕ → ℕ → Type 0
IsBookedNumber book numbering place trace = (trace ≡ 0) ⊎ HasNumberedEntry book numbering place trace

-- by this place all entries of the numbering's commands that were sent are booked
abbrev pub IsQuiet : List BookedEntry → List SentCommand → Numbering → ℕ → Type 0
IsQuiet book commands numbering place = (entry : BookedEntry) → In entry book → entry.numbering ≡ numbering → IsOfSent commands entry → entry.place ≤ place

-- no approved one of them has a greater number
abbrev pub IsGreatest : List BookedEntry → List SentCommand → Numbering → ℕ → Type 0
IsGreatest book commands numbering trace = (entry : BookedEntry) → In entry book → entry.numbering ≡ numbering → IsOfSent commands entry → entry.approved ≡ true → entry.number ≤ trace

-- the last trace number of a terminal that is ready
pub record IsReadyNumber (book : List BookedEntry) (commands : List SentCommand) (numbering : Numbering) (place last : ℕ) : Type 0 where
  pub booked : IsBookedNumber book numbering place last
  pub greatest : IsGreatest book commands numbering last
  pub quiet : IsQuiet book commands numbering place

-- ---- the key that is open

-- the number before is that of an entry which was booked before each command that was sent for the key
pub record HasEntryBefore (book : List BookedEntry) (commands : List SentCommand) (numbering : Numbering) (place : ℕ) (key : Key) (before : ℕ) : Type 0 where
  pub numbered : HasNumberedEntry book numbering place before
  pub earlier : (command : SentCommand) → In command commands → command.key ≡ Some key → (HasNumberedEntry.entry numbered).place ≤ command.place

-- of a key that is open, and the trace number before it: each command for it was sent to the terminal; the number is 0, or was booked before; no approved entry of another command has a greater number, and each of another was booked before the key's own command was sent
pub record IsOpenNumbered (book : List BookedEntry) (commands : List SentCommand) (numbering : Numbering) (place : ℕ) (key : Key) (before : ℕ) : Type 0 where
  pub sent_to : (command : SentCommand) → In command commands → command.key ≡ Some key → command.numbering ≡ numbering
  pub base : (before ≡ 0) ⊎ HasEntryBefore book commands numbering place key before
  pub lower : (entry : BookedEntry) → In entry book → entry.numbering ≡ numbering → IsOfSent commands entry → entry.approved ≡ true → (entry.number ≤ before) ⊎ IsForKey commands key entry
  pub others : (entry : BookedEntry) → In entry book → entry.numbering ≡ numbering → IsOfSent commands entry → (command : SentCommand) → In command commands → command.key ≡ Some key → (entry.place ≤ command.place) ⊎ IsForKey commands key entry

-- ---- each key

-- the command was sent for the key of an Intent of this terminal, in this slot or a later one
pub record IsSentFrom (records : List Record) (poi : List ℕ) (slot : ℕ) (command : SentCommand) : Type 0 where
  pub at : ℕ
  pub intent : TheIntent
  pub from : slot ≤ at
  pub intent_is : intent_at records at ≡ Some intent
  pub poi_is : intent.poi ≡ poi
  pub key_is : command.key ≡ Some (intent_key intent)

-- the entry is that of such a command
pub record IsEntryFrom (commands : List SentCommand) (records : List Record) (poi : List ℕ) (slot : ℕ) (entry : BookedEntry) : Type 0 where
  pub command : SentCommand
  pub sent : In command commands
  pub since : IsSentFrom records poi slot command
  pub caused : entry.cause ≡ Some command.place

-- the number before is that of an entry which was booked before each such command
pub record HasEntryBeforeAll (book : List BookedEntry) (commands : List SentCommand) (records : List Record) (numbering : Numbering) (place slot before : ℕ) : Type 0 where
  pub numbered : HasNumberedEntry book numbering place before
  pub earlier : (command : SentCommand) → In command commands → IsSentFrom records numbering.poi slot command → (HasNumberedEntry.entry numbered).place ≤ command.place

-- Of an Intent in its slot, open or not, and the trace number before it: each command for its key was sent to its terminal. The number is 0, or was booked before its command and those of all later Intents of its terminal. What its terminal has approved with a greater number is of these commands alone, and so is each entry that was booked after its own command was sent.
pub record IsIntentNumbered (book : List BookedEntry) (commands : List SentCommand) (place : ℕ) (records : List Record) (slot : ℕ) (intent : TheIntent) : Type 0 where
  pub sent_to : (command : SentCommand) → In command commands → command.key ≡ Some (intent_key intent) → command.numbering ≡ numbering_of intent
  pub base : (intent.before ≡ 0) ⊎ HasEntryBeforeAll book commands records (numbering_of intent) place slot intent.before
  pub lower : (entry : BookedEntry) → In entry book → entry.numbering ≡ numbering_of intent → IsOfSent commands entry → entry.approved ≡ true → (entry.number ≤ intent.before) ⊎ IsEntryFrom commands records intent.poi slot entry
  pub others : (entry : BookedEntry) → In entry book → entry.numbering ≡ numbering_of intent → IsOfSent commands entry → (command : SentCommand) → In command commands → command.key ≡ Some (intent_key intent)
      → (entry.place ≤ command.place) ⊎ IsEntryFrom commands records intent.poi slot entry

-- so it is of each Intent of the records
abbrev pub AreIntentsNumbered : List BookedEntry → List SentCommand → ℕ → List Record → Type 0
AreIntentsNumbered book commands place records = (slot : ℕ) (intent : TheIntent) → intent_at records slot ≡ Some intent → IsIntentNumbered book commands place records slot intent

-- the last trace number of each numbering on record is booked
abbrev pub AreLastBooked : List BookedEntry → ℕ → List Record → Type 0
AreLastBooked book place records = (numbering : Numbering) → IsBookedNumber book numbering place (last_number_of records numbering.poi)

-- the records' numbers beside the book
pub record AreRecordsNumbered (book : List BookedEntry) (commands : List SentCommand) (place : ℕ) (records : List Record) : Type 0 where
  pub intents : AreIntentsNumbered book commands place records
  pub last : AreLastBooked book place records

-- ---- standings

-- the terminal with this numbering was linked after each command to it
pub record IsLinkedSince (links : List MadeLink) (commands : List SentCommand) (numbering : Numbering) : Type 0 where
  pub link : MadeLink
  pub made : In link links
  pub numbering_is : link.numbering ≡ numbering
  pub later : (command : SentCommand) → In command commands → command.numbering ≡ numbering → command.place < link.place

-- a terminal that serves an end of day or a display is as it was ready: neither has a trace number
abbrev pub IsServiceNumbered : List SentCommand → ℕ → List BookedEntry → Numbering → ℕ → Service → Type 0
IsServiceNumbered commands place book numbering last (Transaction slot) = Unit {0}
IsServiceNumbered commands place book numbering last (EndOfDay header period) = IsReadyNumber book commands numbering place last
IsServiceNumbered commands place book numbering last (Display header results) = IsReadyNumber book commands numbering place last

-- beside an honest book: no terminal is set aside
abbrev pub IsStandingNumbered : List MadeLink → List SentCommand → ℕ → List BookedEntry → Numbering → Standing → Type 0
IsStandingNumbered links commands place book numbering (Unlinked due) = Unit {0}
IsStandingNumbered links commands place book numbering Registering = IsLinkedSince links commands numbering
IsStandingNumbered links commands place book numbering Enquiring = IsLinkedSince links commands numbering
IsStandingNumbered links commands place book numbering (Ready last) = IsReadyNumber book commands numbering place last
IsStandingNumbered links commands place book numbering (Serving service last) = IsServiceNumbered commands place book numbering last service
IsStandingNumbered links commands place book numbering (Aside before reported) = ⊥

-- so it is of each terminal
abbrev pub AreStandingsNumbered : Past → List BookedEntry → Core → Type 0
AreStandingsNumbered past book core = (number : ℕ) (terminal : Terminal) → slice_get core.terminals number ≡ Some terminal → IsStandingNumbered past.links past.commands past.place book (numbering_at terminal.pt) terminal.standing

-- ---- the order of items and links

-- a terminal may be due to be linked
abbrev pub is_due_item : RoundItem → Bool
is_due_item (Crowded till) = false
is_due_item (Message till bytes) = false
is_due_item (Asked till as_read) = false
is_due_item (Unframed till) = false
is_due_item (Gone till) = false
is_due_item (Greet number apdu) = false
is_due_item (Handle number apdu) = false
is_due_item (Serve number till header request) = false
is_due_item (Queue number till header request) = false
is_due_item (NextWaiting number) = false
is_due_item (Oversized number) = false
is_due_item (LinkLost number) = false
is_due_item (Late number) = false
is_due_item (Overdue key) = false
is_due_item (Due number) = true

-- an APDU is still to be handled after an item by which a terminal may be linked
abbrev pub handles_after_due : List RoundItem → Bool
handles_after_due [] = false
handles_after_due (item ∷ items) = (is_due_item item && list_any is_handle items) || handles_after_due items

-- a link is owed
abbrev pub link_owed : List OwedCall → Bool
link_owed [] = false
link_owed (SendTill till reply ∷ calls) = link_owed calls
link_owed (SendPt pt sending ∷ calls) = link_owed calls
link_owed (LinkPt pt ∷ calls) = true
link_owed (WriteBody slot the_record ∷ calls) = link_owed calls
link_owed (WriteGate slot the_record ∷ calls) = link_owed calls
link_owed (WriteFirstGate ∷ calls) = link_owed calls
link_owed (Sync ∷ calls) = link_owed calls
link_owed (CutTill till ∷ calls) = link_owed calls
link_owed (CutPt pt ∷ calls) = link_owed calls

-- each link was made before the last hearing, or at it
abbrev pub AreLinkedBeforeHearing : Past → Type 0
AreLinkedBeforeHearing past = (link : MadeLink) → In link past.links → link.place ≤ past.heard

-- ---- along a course

-- what holds after moves of a lawful course, beside `Holds`
pub record Numbered (v : View) (past : Past) (book : List BookedEntry) : Type 0 where
  pub kept : AreRecordsNumbered book past.commands past.place v.scene.kept
  pub coming : AreRecordsNumbered book past.commands past.place (records_coming v)
  pub standings : AreStandingsNumbered past book v.scene.core
  -- a terminal whose command is still owed is quiet
  pub asked : (number : ℕ) (terminal : Terminal) → slice_get v.scene.core.terminals number ≡ Some terminal → charge_owed number v.calls ≡ true → IsQuiet book past.commands (numbering_at terminal.pt) past.place
  pub made : (link : MadeLink) → In link past.links → link.place < past.place
  pub ordered : handles_after_due v.items ≡ false
  pub linking : link_owed v.calls ≡ true → list_any is_handle v.items ≡ false
  pub linked : list_any is_handle v.items ≡ true → AreLinkedBeforeHearing past

-- what holds between items
pub record NumberedBetween (known : Known) (past : Past) (book : List BookedEntry) : Type 0 where
  pub records : AreRecordsNumbered book past.commands past.place known.kept
  pub standings : AreStandingsNumbered past book known.core

-- what a row leaves
pub record NumberedAfterRow (known : Known) (past : Past) (book : List BookedEntry) (row : Row) : Type 0 where
  pub records : AreRecordsNumbered book past.commands past.place (records_after known row)
  pub standings : AreStandingsNumbered past book row.core
  pub asked : (number : ℕ) (terminal : Terminal) → slice_get row.core.terminals number ≡ Some terminal → charge_owed number row.calls ≡ true → IsQuiet book past.commands (numbering_at terminal.pt) past.place

-- ---- the steps

-- a row holds of what holds between items, where the book is honest for the past with what its item brings
abbrev pub RowHolds : RoundItem → Type 0
RowHolds item =
    (scene : Scene) (tills : List Connection) (known : Known) (past : Past) (book : List BookedEntry) → scene.core ≡ known.core → HoldsBetween known past book → NumberedBetween known past book
    → (is_handle item ≡ true → AreLinkedBeforeHearing past) → IsReadItem known.setup item → Honest (begun_past scene past item) book
    → HoldsAfterRow known (begun_past scene past item) book (row_of tills known item)

-- and so its numbers
abbrev pub RowNumbers : RoundItem → Type 0
RowNumbers item =
    (scene : Scene) (tills : List Connection) (known : Known) (past : Past) (book : List BookedEntry) → scene.core ≡ known.core → HoldsBetween known past book → NumberedBetween known past book
    → (is_handle item ≡ true → AreLinkedBeforeHearing past) → IsReadItem known.setup item → Honest (begun_past scene past item) book
    → NumberedAfterRow known (begun_past scene past item) book (row_of tills known item)

-- each item owes a link only where a terminal is due, and brings no item that may link or handle
pub record RowOrders (tills : List Connection) (known : Known) (item : RoundItem) : Type 0 where
  pub links : link_owed (row_of tills known item).calls ≡ true → is_due_item item ≡ true
  pub items : list_any is_due_item (row_of tills known item).items ≡ false
  pub none : is_due_item item ≡ true → (row_of tills known item).items ≡ []

-- what is handled where the item that comes first does was heard
abbrev pub IsFirstHandled : View → Type 0
IsFirstHandled v = (item : RoundItem) (rest : List RoundItem) → v.items ≡ item ∷ rest → IsItemHandled item

-- each move keeps what holds
abbrev pub BeginHolds : Type 0
BeginHolds =
    (log : List Turn) (v : View) (past : Past) (book : List BookedEntry) → Ordered log v → Begins v → IsFirstHandled v → Holds v past book → Numbered v past book → Honest (past_after v past Begin) book → Holds (after v Begin) (past_after v past Begin) book

abbrev pub BeginNumbers : Type 0
BeginNumbers =
    (log : List Turn) (v : View) (past : Past) (book : List BookedEntry) → Ordered log v → Begins v → IsFirstHandled v → Holds v past book → Numbered v past book → Honest (past_after v past Begin) book → Numbered (after v Begin) (past_after v past Begin) book

abbrev pub ReadNumbers : Type 0
ReadNumbers =
    (log : List Turn) (v : View) (past : Past) (book : List BookedEntry) (as_read : ReadAs) → Ordered log v → IsRead v as_read → Holds v past book → Numbered v past book
    → Numbered (after v (Read as_read)) (past_after v past (Read as_read)) book

abbrev pub TurnNumbers : Turn → Type 0
TurnNumbers turn =
    (log : List Turn) (v : View) (past : Past) (book : List BookedEntry) → Ordered log v → AllowedTurn v turn → Holds v past book → Numbered v past book → Numbered (after v (Make turn)) (past_after v past (Make turn)) book
