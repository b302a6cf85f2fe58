-- Laws of what the items of terminals, and their links, leave and owe.
use Rattle.std.specs.Prelude.{◌≡◌, ◌≢◌, ◌⊎◌, ◌<◌, ◌≤◌, ℕ, ◌+◌, pos, int_le, Bool, true, false, List, [], ◌∷◌, length, map, slice_get, if◌then◌else◌, Option, Some, None, Ok, Err}
use Rattle.gw_base.specs.declared.figures.Figures.{Figures}
use Rattle.gw_base.specs.declared.setup.Pt.{Pt}
use Rattle.sale_values.specs.declared.header.Header.{Header}
use Rattle.sale_values.specs.declared.names.Period.TheVariants.{SaleReconciliation}
use Rattle.sale_values.specs.declared.request.SaleRequest.{SaleRequest}
use Rattle.sale_values.specs.declared.request.SaleRequest.TheVariants as requests
use Rattle.zvt_apdu.specs.Grammar.{ApduValue}
use Rattle.zvt_msg.specs.declared.fault.PtFault.{PtFault}
use Rattle.zvt_msg.specs.Message.{MessageValue, Nack, Other}
use Rattle.zvt_msg.specs.MessageDecode.{decode_pt_message}
use Rattle.zvt_talk.specs.declared.meaning.Heard.{Heard}
use Rattle.zvt_talk.specs.declared.meaning.Heard.TheVariants as heard
use Rattle.zvt_talk.specs.declared.phase.Phase.TheVariants.{Asked}
use Rattle.zvt_talk.specs.Laws.{IsAckOrNack}
use Rattle.zvt_talk.specs.Talk.{TalkFacts}
use Rattle.jrn_record.specs.declared.records.How.TheVariants as hows
use Rattle.jrn_record.specs.declared.records.Record.TheVariants.{Settled}
use Rattle.gw_owes.specs.Awaited.{most_awaited, many_more}
use Rattle.gw_owes.specs.Calls.{Sending, Ask, Acknowledge, Refuse, OwedCall, SendTill, SendPt, CutTill, CutPt, LinkPt, WriteBody, WriteGate, WriteFirstGate, Sync, sending_bytes, records_kept}
use Rattle.gw_owes.specs.declared.terminal.Service.{Service}
use Rattle.gw_owes.specs.declared.terminal.Service.TheVariants.{Transaction, EndOfDay, Display}
use Rattle.gw_owes.specs.declared.terminal.Standing.{Standing}
use Rattle.gw_owes.specs.declared.terminal.Standing.TheVariants.{Unlinked, Registering, Enquiring, Ready, Serving, Aside}
use Rattle.gw_owes.specs.declared.terminal.Terminal.{Terminal}
use Rattle.gw_owes.specs.Core.{Core}
use Rattle.gw_owes.specs.Items.{RoundItem, Crowded, Message, Asked as AskedItem, Unframed, Gone, Greet, Handle, Serve, Queue, NextWaiting, Oversized, LinkLost, Late, Overdue, Due}
use Rattle.gw_owes.specs.Reconciliations.{settled_of}
use Rattle.gw_owes.specs.Row.{Known, Row, owing_nothing}
use Rattle.gw_owes.specs.Terminals.{terminal_at, registration}
use Rattle.gw_owes.specs.Links.{is_linked, LinkEvent, LinkIsMade, link_row}
use Rattle.gw_owes.specs.Greeting.{greet_row, oversized_row}
use Rattle.gw_owes.specs.Handling.{awaited_after, meaning_at, enquiry_command, handle_row}
use Rattle.gw_owes.specs.Reports.{Report, on_record, least_reported}
use Rattle.gw_owes.specs.Deadlines.{is_due, due_row}
use Rattle.gw_owes.specs.TerminalRows.{terminal_of, terminal_row, is_link_lost}

-- ---- what stays

-- the settings of the terminals
abbrev pub settings_of : Core → List Pt
settings_of core = map (λ (terminal : Terminal). terminal.pt) core.terminals

-- only the terminal of this number but for its settings, who is logged out, what waits, and the number of the next device request may be changed
pub record ChangesTerminalAlone (number : ℕ) (old new : Core) : Type 0 where
  pub others : (other : ℕ) → other ≢ number → slice_get new.terminals other ≡ slice_get old.terminals other
  pub settings : settings_of new ≡ settings_of old
  pub count : length new.terminals ≡ length old.terminals

-- an item of a terminal changes that terminal alone
abbrev pub EachRowChangesItsTerminal : Type 0
EachRowChangesItsTerminal = (known : Known) (item : RoundItem) (number : ℕ) → terminal_of item ≡ Some number → ChangesTerminalAlone number known.core (terminal_row known item).core

-- and so does an event of its link
abbrev pub EachLinkChangesItsTerminal : Type 0
EachLinkChangesItsTerminal = (known : Known) (number : ℕ) (event : LinkEvent) → ChangesTerminalAlone number known.core (link_row known number event).core

-- a greeting changes nothing
abbrev pub GreetingChangesNothing : Type 0
GreetingChangesNothing = (known : Known) (number : ℕ) (apdu : ApduValue) → (greet_row known number apdu).core ≡ known.core

-- a command of the terminal's own, and an APDU outside the grammar, have no effect once they are greeted
pub record HasNoEffect (known : Known) (number : ℕ) (apdu : ApduValue) : Type 0 where
  pub other : decode_pt_message apdu ≡ Ok Other → handle_row known number apdu ≡ owing_nothing known
  pub outside : (fault : PtFault) → decode_pt_message apdu ≡ Err fault → handle_row known number apdu ≡ owing_nothing known

-- whatever the terminal
abbrev pub ForeignHasNoEffect : Type 0
ForeignHasNoEffect = (known : Known) (number : ℕ) (apdu : ApduValue) → HasNoEffect known number apdu

-- the item is that the first request that waits for a terminal is begun or refused
abbrev pub is_next_waiting : RoundItem → Bool
is_next_waiting (Crowded till) = false
is_next_waiting (Message till bytes) = false
is_next_waiting (AskedItem till as_read) = false
is_next_waiting (Unframed till) = false
is_next_waiting (Gone till) = false
is_next_waiting (Greet number apdu) = false
is_next_waiting (Handle number apdu) = false
is_next_waiting (Serve number till header request) = false
is_next_waiting (Queue number till header request) = false
is_next_waiting (NextWaiting number) = true
is_next_waiting (Oversized number) = false
is_next_waiting (LinkLost number) = false
is_next_waiting (Late number) = false
is_next_waiting (Overdue key) = false
is_next_waiting (Due number) = false

-- each other item of a terminal leaves what waits
abbrev pub EachRowLeavesWaits : Type 0
EachRowLeavesWaits = (known : Known) (item : RoundItem) → is_next_waiting item ≡ false → (terminal_row known item).core.waits ≡ known.core.waits

-- so does each event of a link
abbrev pub EachLinkLeavesWaits : Type 0
EachLinkLeavesWaits = (known : Known) (number : ℕ) (event : LinkEvent) → (link_row known number event).core.waits ≡ known.core.waits

-- ---- terminals that aren't linked

-- nothing is owed for what a terminal sends, and nothing of it changes
pub record IsOwedNothing (known : Known) (number : ℕ) (apdu : ApduValue) : Type 0 where
  pub greeted : greet_row known number apdu ≡ owing_nothing known
  pub handled : handle_row known number apdu ≡ owing_nothing known
  pub oversized : oversized_row known number ≡ owing_nothing known

-- so it is of one that isn't linked
abbrev pub UnlinkedIsOwedNothing : Type 0
UnlinkedIsOwedNothing =
    (known : Known) (number : ℕ) (terminal : Terminal) (due : Option ℕ) (apdu : ApduValue) → terminal_at known number ≡ Some terminal → terminal.standing ≡ Unlinked due → IsOwedNothing known number apdu

-- and of a number that no terminal has
abbrev pub AbsentIsOwedNothing : Type 0
AbsentIsOwedNothing = (known : Known) (number : ℕ) (apdu : ApduValue) → terminal_at known number ≡ None → IsOwedNothing known number apdu

-- ---- what is awaited

-- an Ack or a Nack is one of those that were awaited; where none was, none is after it, and the greatest count stays
pub record TakesOne (message : MessageValue) : Type 0 where
  pub one : (awaited : ℕ) → IsAckOrNack message → awaited + 1 < most_awaited → awaited_after message (awaited + 1) ≡ awaited
  pub none : IsAckOrNack message → awaited_after message 0 ≡ 0
  pub most : IsAckOrNack message → awaited_after message most_awaited ≡ most_awaited
  pub other : (awaited : ℕ) → (IsAckOrNack message → ⊥) → awaited_after message awaited ≡ awaited

-- whatever the message
abbrev pub EachAckTakesOne : Type 0
EachAckTakesOne = (message : MessageValue) → TakesOne message

-- one for a command
abbrev pub commands_sent : Sending → ℕ
commands_sent (Ask command) = 1
commands_sent Acknowledge = 0
commands_sent Refuse = 0

-- how many commands are among these calls
abbrev pub commands_in : List OwedCall → ℕ
commands_in [] = 0
commands_in (SendTill till reply ∷ calls) = commands_in calls
commands_in (SendPt number sending ∷ calls) = commands_sent sending + commands_in calls
commands_in (CutTill till ∷ calls) = commands_in calls
commands_in (CutPt number ∷ calls) = commands_in calls
commands_in (LinkPt number ∷ calls) = commands_in calls
commands_in (WriteBody slot the_record ∷ calls) = commands_in calls
commands_in (WriteGate slot the_record ∷ calls) = commands_in calls
commands_in (WriteFirstGate ∷ calls) = commands_in calls
commands_in (Sync ∷ calls) = commands_in calls

-- the terminal of this number awaits so many Acks and Nacks after the row, and one more for each command that the row sends it
pub record Awaits (number awaited : ℕ) (row : Row) : Type 0 where
  pub terminal : Terminal
  pub found : slice_get row.core.terminals number ≡ Some terminal
  pub count : terminal.awaited ≡ many_more (commands_in row.calls) awaited

-- each message of a terminal that is linked counts once, and each command that is sent for it
abbrev pub EachMessageCounts : Type 0
EachMessageCounts =
    (known : Known) (number : ℕ) (apdu : ApduValue) (terminal : Terminal) (message : MessageValue) → terminal_at known number ≡ Some terminal → is_linked terminal.standing ≡ true
    → decode_pt_message apdu ≡ Ok message → Awaits number (awaited_after message terminal.awaited) (handle_row known number apdu)

-- so does each command that a request of a till has a terminal sent, the stop among them
abbrev pub EachServedCounts : Type 0
EachServedCounts =
    (known : Known) (number till : ℕ) (header : Header) (request : SaleRequest) (terminal : Terminal) → terminal_at known number ≡ Some terminal
    → Awaits number terminal.awaited (terminal_row known (Serve number till header request))

-- and each command of what has waited
abbrev pub EachNextCounts : Type 0
EachNextCounts = (known : Known) (number : ℕ) (terminal : Terminal) → terminal_at known number ≡ Some terminal → Awaits number terminal.awaited (terminal_row known (NextWaiting number))

-- on a new link, and on none, nothing is awaited but what is sent with it
abbrev pub EachLinkCountsAnew : Type 0
EachLinkCountsAnew = (known : Known) (number : ℕ) (event : LinkEvent) (terminal : Terminal) → terminal_at known number ≡ Some terminal → Awaits number 0 (link_row known number event)

-- the late Nack of a stop: where more than the last command's Ack or Nack is awaited, a Nack before the command is acknowledged is unclear
abbrev pub LateNackIsUnclear : Type 0
LateNackIsUnclear =
    (terminal : Terminal) (talk : TalkFacts) (stop_wished : Bool) (error_code : ℕ) → terminal.talk ≡ Some talk → talk.phase ≡ Asked stop_wished → 2 ≤ terminal.awaited
    → meaning_at terminal (Nack error_code) ≡ heard.Unclear

-- so it is while the count is the greatest, whatever came since
abbrev pub NackAtMostIsUnclear : Type 0
NackAtMostIsUnclear =
    (terminal : Terminal) (talk : TalkFacts) (stop_wished : Bool) (error_code : ℕ) → terminal.talk ≡ Some talk → talk.phase ≡ Asked stop_wished → terminal.awaited ≡ most_awaited
    → meaning_at terminal (Nack error_code) ≡ heard.Unclear

-- ---- cuts

-- a terminal's connection is cut by one of these calls
abbrev pub owes_cut : List OwedCall → Bool
owes_cut [] = false
owes_cut (SendTill till reply ∷ calls) = owes_cut calls
owes_cut (SendPt number sending ∷ calls) = owes_cut calls
owes_cut (CutTill till ∷ calls) = owes_cut calls
owes_cut (CutPt number ∷ calls) = true
owes_cut (LinkPt number ∷ calls) = owes_cut calls
owes_cut (WriteBody slot the_record ∷ calls) = owes_cut calls
owes_cut (WriteGate slot the_record ∷ calls) = owes_cut calls
owes_cut (WriteFirstGate ∷ calls) = owes_cut calls
owes_cut (Sync ∷ calls) = owes_cut calls

-- a registration or an enquiry runs
abbrev pub IsBeforeReady : Standing → Type 0
IsBeforeReady standing = (standing ≡ Registering) ⊎ (standing ≡ Enquiring)

-- why a message breaks its dialogue: its end is unclear, or it declines a registration or an enquiry
abbrev pub Breaks : Terminal → MessageValue → Type 0
Breaks terminal message =
    (meaning_at terminal message ≡ heard.Unclear)
    ⊎ ((result_code : ℕ) × (trace : Option ℕ) × (meaning_at terminal message ≡ heard.Declined result_code trace) × IsBeforeReady terminal.standing)

-- the message of an APDU breaks its dialogue
pub record BreaksDialogue (known : Known) (number : ℕ) (apdu : ApduValue) : Type 0 where
  pub terminal : Terminal
  pub found : terminal_at known number ≡ Some terminal
  pub message : MessageValue
  pub decoded : decode_pt_message apdu ≡ Ok message
  pub why : Breaks terminal message

-- the terminal has a dialogue whose deadline is now or before
pub record IsLateAt (known : Known) (number : ℕ) : Type 0 where
  pub terminal : Terminal
  pub found : terminal_at known number ≡ Some terminal
  pub talk : TalkFacts
  pub talk_is : terminal.talk ≡ Some talk
  pub late : int_le talk.deadline (pos known.moment) ≡ true

-- why an item may cut its terminal's connection: an APDU outside the grammar, an unclear end, a declined registration or enquiry, bytes that begin an APDU above the limit, and a deadline
abbrev pub MayCut : Known → RoundItem → Type 0
MayCut known (Crowded till) = ⊥
MayCut known (Message till bytes) = ⊥
MayCut known (AskedItem till as_read) = ⊥
MayCut known (Unframed till) = ⊥
MayCut known (Gone till) = ⊥
MayCut known (Greet number apdu) = (fault : PtFault) × (decode_pt_message apdu ≡ Err fault)
MayCut known (Handle number apdu) = BreaksDialogue known number apdu
MayCut known (Serve number till header request) = ⊥
MayCut known (Queue number till header request) = ⊥
MayCut known (NextWaiting number) = ⊥
MayCut known (Oversized number) = Unit {0}
MayCut known (LinkLost number) = ⊥
MayCut known (Late number) = IsLateAt known number
MayCut known (Overdue key) = ⊥
MayCut known (Due number) = ⊥

-- no item cuts a terminal's connection for another reason
abbrev pub EachCutHasCause : Type 0
EachCutHasCause = (known : Known) (item : RoundItem) → owes_cut (terminal_row known item).calls ≡ true → MayCut known item

-- ---- what is cut

-- no dialogue runs but in a standing that has one
abbrev pub HasDialogueOnlyIn : Standing → Option TalkFacts → Type 0
HasDialogueOnlyIn (Unlinked due) talk = talk ≡ None
HasDialogueOnlyIn Registering talk = Unit {0}
HasDialogueOnlyIn Enquiring talk = Unit {0}
HasDialogueOnlyIn (Ready last) talk = talk ≡ None
HasDialogueOnlyIn (Serving service last) talk = Unit {0}
HasDialogueOnlyIn (Aside before reported) talk = talk ≡ None

-- the terminal of this number is linked, and no dialogue runs with it but in a standing that has one
pub record IsLinkedAt (known : Known) (number : ℕ) : Type 0 where
  pub terminal : Terminal
  pub found : terminal_at known number ≡ Some terminal
  pub linked : is_linked terminal.standing ≡ true
  pub dialogue : HasDialogueOnlyIn terminal.standing terminal.talk

-- the terminal of a number is cut for each of these reasons, and nothing else is owed
abbrev pub EachCauseCuts : Type 0
EachCauseCuts = (known : Known) (item : RoundItem) (number : ℕ) → terminal_of item ≡ Some number → IsLinkedAt known number → MayCut known item → (terminal_row known item).calls ≡ CutPt number ∷ []

-- ---- events of links

-- an event of its link cuts no connection
abbrev pub NoLinkEventCuts : Type 0
NoLinkEventCuts = (known : Known) (number : ℕ) (event : LinkEvent) → owes_cut (link_row known number event).calls ≡ false

-- ---- greetings

-- what a message of a terminal that is linked gets first
pub record IsGreeted (known : Known) (number : ℕ) (apdu : ApduValue) (message : MessageValue) : Type 0 where
  -- an Ack or a Nack nothing
  pub none : IsAckOrNack message → (greet_row known number apdu).calls ≡ []
  -- a command of the terminal's own a refusal
  pub foreign : message ≡ Other → (greet_row known number apdu).calls ≡ SendPt number Refuse ∷ []
  -- and each other an acknowledgement
  pub other : (IsAckOrNack message → ⊥) → message ≢ Other → (greet_row known number apdu).calls ≡ SendPt number Acknowledge ∷ []

-- so each message of each terminal that is linked
abbrev pub EachMessageIsGreeted : Type 0
EachMessageIsGreeted =
    (known : Known) (number : ℕ) (apdu : ApduValue) (terminal : Terminal) (message : MessageValue) → terminal_at known number ≡ Some terminal → is_linked terminal.standing ≡ true
    → decode_pt_message apdu ≡ Ok message → IsGreeted known number apdu message

-- the acknowledgement is an Ack, and the refusal a Nack with the code 83
pub record GreetingsAreSpelled : Type 0 where
  pub acknowledge : sending_bytes Acknowledge ≡ 0x80 ∷ 0x00 ∷ 0x00 ∷ []
  pub refuse : sending_bytes Refuse ≡ 0x84 ∷ 0x83 ∷ 0x00 ∷ []

-- ---- nothing is left out

-- the row has this terminal in this standing, and owes these calls
pub record GoesOnTo (number : ℕ) (standing : Standing) (calls : List OwedCall) (row : Row) : Type 0 where
  pub terminal : Terminal
  pub found : slice_get row.core.terminals number ≡ Some terminal
  pub standing_is : terminal.standing ≡ standing
  pub calls_are : row.calls ≡ calls

-- a terminal that is unlinked and due is linked
abbrev pub DueIsLinked : Type 0
DueIsLinked =
    (known : Known) (number : ℕ) (terminal : Terminal) → terminal_at known number ≡ Some terminal → is_due known.moment terminal.standing ≡ true → (due_row known number).calls ≡ LinkPt number ∷ []

-- one that is linked is registered
abbrev pub LinkedIsRegistered : Type 0
LinkedIsRegistered =
    (known : Known) (number : ℕ) (terminal : Terminal) → terminal_at known number ≡ Some terminal
    → GoesOnTo number Registering (SendPt number (Ask (registration terminal.pt)) ∷ []) (link_row known number LinkIsMade)

-- one whose registration is done is enquired
abbrev pub RegisteredIsEnquired : Type 0
RegisteredIsEnquired =
    (known : Known) (number : ℕ) (apdu : ApduValue) (terminal : Terminal) (message : MessageValue) → terminal_at known number ≡ Some terminal → terminal.standing ≡ Registering
    → decode_pt_message apdu ≡ Ok message → meaning_at terminal message ≡ heard.Done → GoesOnTo number Enquiring (SendPt number (Ask (enquiry_command terminal.pt)) ∷ []) (handle_row known number apdu)

-- a terminal that is enquired sends a message that reports its last transaction
pub record ReportsAt (known : Known) (number : ℕ) (apdu : ApduValue) (terminal : Terminal) (report : Report) : Type 0 where
  pub found : terminal_at known number ≡ Some terminal
  pub standing_is : terminal.standing ≡ Enquiring
  pub message : MessageValue
  pub decoded : decode_pt_message apdu ≡ Ok message
  pub means : meaning_at terminal message ≡ heard.Told report.trace report.approved report.result_code

-- one whose enquiry reports a trace number is ready with it, where no payment and no reversal of it is open and none has a greater one
abbrev pub EnquiredIsReady : Type 0
EnquiredIsReady =
    (known : Known) (number : ℕ) (apdu : ApduValue) (terminal : Terminal) (report : Report) → ReportsAt known number apdu terminal report
    → (on_record known.kept terminal.pt.poi).opened ≡ None → (on_record known.kept terminal.pt.poi).last ≤ report.trace
    → GoesOnTo number (Ready report.trace) [] (handle_row known number apdu)

-- ---- terminals that are set aside

-- the terminal of this number is set aside, since it reported this number where that one was the last
pub record IsAsideAt (core : Core) (number before reported : ℕ) : Type 0 where
  pub terminal : Terminal
  pub found : slice_get core.terminals number ≡ Some terminal
  pub standing_is : terminal.standing ≡ Aside before reported

-- the terminal is enquired and reports a trace number below the least that it may report: the one before its open payment or reversal, or the last one of its records
pub record ReportsBelow (known : Known) (terminal : Terminal) (message : MessageValue) (before reported : ℕ) : Type 0 where
  pub standing_is : terminal.standing ≡ Enquiring
  pub approved : Option Figures
  pub result_code : ℕ
  pub meant : meaning_at terminal message ≡ heard.Told reported approved result_code
  pub before_is : before ≡ least_reported (on_record known.kept terminal.pt.poi)
  pub below : reported < before

-- the terminal approves what it serves with a trace number that is not above the one before
pub record ApprovedNotAbove (terminal : Terminal) (message : MessageValue) (before reported : ℕ) : Type 0 where
  pub slot : ℕ
  pub standing_is : terminal.standing ≡ Serving (Transaction slot) before
  pub figures : Figures
  pub meant : meaning_at terminal message ≡ heard.Approved figures
  pub reported_is : reported ≡ figures.number
  pub not_above : reported ≤ before

-- the item is a message of the terminal, by which it is set aside for one of these two reasons
pub record IsSetAside (known : Known) (item : RoundItem) (number before reported : ℕ) : Type 0 where
  pub apdu : ApduValue
  pub item_is : item ≡ Handle number apdu
  pub terminal : Terminal
  pub found : terminal_at known number ≡ Some terminal
  pub message : MessageValue
  pub decoded : decode_pt_message apdu ≡ Ok message
  pub why : ReportsBelow known terminal message before reported ⊎ ApprovedNotAbove terminal message before reported

-- no item of a terminal sets it aside for another reason
abbrev pub EachAsideHasCause : Type 0
EachAsideHasCause =
    (known : Known) (item : RoundItem) (number before reported : ℕ) → terminal_of item ≡ Some number → ((least other : ℕ) → IsAsideAt known.core number least other → ⊥)
    → IsAsideAt (terminal_row known item).core number before reported → IsSetAside known item number before reported

-- and no event of its link does
abbrev pub NoLinkEventSetsAside : Type 0
NoLinkEventSetsAside = (known : Known) (number : ℕ) (event : LinkEvent) (before reported : ℕ) → ((least other : ℕ) → IsAsideAt known.core number least other → ⊥) → IsAsideAt (link_row known number event).core number before reported → ⊥

-- one whose enquiry reports a trace number below the least is set aside, and nothing is kept
abbrev pub EnquiredIsSetAside : Type 0
EnquiredIsSetAside =
    (known : Known) (number : ℕ) (apdu : ApduValue) (terminal : Terminal) (report : Report) → ReportsAt known number apdu terminal report
    → report.trace < least_reported (on_record known.kept terminal.pt.poi)
    → GoesOnTo number (Aside (least_reported (on_record known.kept terminal.pt.poi)) report.trace) [] (handle_row known number apdu)

-- the one record that these calls keep for the item is the Settled of a reconciliation of a till's own, which asks nothing of the terminal
pub record KeepsSettled (known : Known) (item : RoundItem) (number : ℕ) (calls : List OwedCall) : Type 0 where
  pub till : ℕ
  pub header : Header
  pub item_is : item ≡ Serve number till header (requests.Reconciliation SaleReconciliation)
  pub terminal : Terminal
  pub found : terminal_at known number ≡ Some terminal
  pub kept_one : records_kept calls ≡ Settled (settled_of hows.Sale header terminal.pt.currency known.moment) ∷ []

-- the terminal of this number is set aside after the item too: no record is kept but the Settled of a till's own reconciliation, and no command is sent to it
pub record StaysAside (known : Known) (item : RoundItem) (number before reported : ℕ) : Type 0 where
  pub aside : IsAsideAt (terminal_row known item).core number before reported
  pub kept : (records_kept (terminal_row known item).calls ≡ []) ⊎ KeepsSettled known item number (terminal_row known item).calls
  pub asked_none : commands_in (terminal_row known item).calls ≡ 0

-- whatever it sends, it stays so until its link is lost: no payment, no reversal and no end of day is kept for it, and no command is sent to it
abbrev pub AsideStaysAside : Type 0
AsideStaysAside =
    (known : Known) (item : RoundItem) (number before reported : ℕ) → terminal_of item ≡ Some number → is_link_lost item ≡ false → IsAsideAt known.core number before reported
    → StaysAside known item number before reported

-- ---- what has no trace number

-- an end of day or a display, which has no trace number
abbrev pub HasNoTrace : Service → Type 0
HasNoTrace (Transaction slot) = ⊥
HasNoTrace (EndOfDay header period) = Unit {0}
HasNoTrace (Display header results) = Unit {0}

-- what is served is done or declined
abbrev pub is_done_or_declined : Heard → Bool
is_done_or_declined (heard.Begun stop) = false
is_done_or_declined (heard.Note intermediate_status) = false
is_done_or_declined heard.Line = false
is_done_or_declined heard.Block = false
is_done_or_declined heard.Seen = false
is_done_or_declined (heard.Approved figures) = false
is_done_or_declined heard.Done = true
is_done_or_declined (heard.Told trace approved result_code) = false
is_done_or_declined (heard.Declined result_code trace) = true
is_done_or_declined heard.Unclear = false
is_done_or_declined heard.Stray = false

-- after the row the terminal of this number has this standing
pub record HasStandingAfter (number : ℕ) (standing : Standing) (row : Row) : Type 0 where
  pub terminal : Terminal
  pub found : slice_get row.core.terminals number ≡ Some terminal
  pub standing_is : terminal.standing ≡ standing

-- a terminal that serves an end of day or a display is ready once that is done or declined, with the last trace number that it had before; until then it serves it
abbrev pub EachServedLeavesLast : Type 0
EachServedLeavesLast =
    (known : Known) (number : ℕ) (apdu : ApduValue) (terminal : Terminal) (service : Service) (last : ℕ) (message : MessageValue) → terminal_at known number ≡ Some terminal
    → terminal.standing ≡ Serving service last → HasNoTrace service → decode_pt_message apdu ≡ Ok message
    → HasStandingAfter number (if is_done_or_declined (meaning_at terminal message) then Ready last else Serving service last) (handle_row known number apdu)
