-- Closed examples of what terminals are owed: what happens at a terminal, and what is then owed and remembered.
use Rattle.std.specs.Prelude.{◌≡◌, ℕ, suc, zero, ◌+◌, pos, true, false, List, [], ◌∷◌, ◌++◌, map, slice_get, Option, Some, None, codes}
use Rattle.std.specs.List.{filter_map}
use Rattle.std.specs.Option.{option_map}
use Rattle.gw_base.specs.declared.condition.Condition.{Condition}
use Rattle.gw_base.specs.declared.condition.Condition.TheVariants.{Aborted, Busy, Cancel, Refusal, UnavailableDevice, UnavailableService}
use Rattle.gw_base.specs.declared.currency.Currency.TheVariants.{Eur}
use Rattle.gw_base.specs.declared.setup.Pt.{Pt}
use Rattle.sale_values.specs.declared.header.Header.{Header}
use Rattle.sale_values.specs.declared.names.Class.TheVariants as classes
use Rattle.sale_values.specs.declared.names.Kind.TheVariants as kinds
use Rattle.sale_values.specs.declared.names.Period.TheVariants.{AcquirerReconciliation}
use Rattle.sale_values.specs.declared.request.Output.{Output}
use Rattle.sale_values.specs.declared.request.SaleRequest.{SaleRequest}
use Rattle.sale_values.specs.declared.request.SaleRequest.TheVariants as requests
use Rattle.sale_reply.specs.declared.reply.GlobalStatus.{GlobalStatus}
use Rattle.sale_reply.specs.declared.reply.GlobalStatus.TheVariants as status
use Rattle.sale_reply.specs.declared.reply.Shown.{Shown}
use Rattle.sale_reply.specs.declared.reply.Told.TheVariants.{Reconciled}
use Rattle.sale_reply.specs.declared.reply.Verdict.{Verdict}
use Rattle.zvt_msg.specs.declared.command.Command.TheVariants as command
use Rattle.zvt_talk.specs.Came.{StopWished}
use Rattle.zvt_talk.specs.Dialogue.{dialogue_of}
use Rattle.zvt_talk.specs.Talk.{talk_after}
use Rattle.jrn_record.specs.declared.records.How.TheVariants as hows
use Rattle.jrn_record.specs.declared.records.Record.{Record}
use Rattle.jrn_record.specs.declared.records.Record.TheVariants.{Settled}
use Rattle.gw_owes.specs.Calls.{OwedCall, SendTill, SendPt, CutTill, CutPt, LinkPt, WriteBody, WriteGate, WriteFirstGate, Sync, sending_bytes}
use Rattle.gw_owes.specs.Core.{Core, new_core, new_terminal}
use Rattle.gw_owes.specs.declared.terminal.Service.{Service}
use Rattle.gw_owes.specs.declared.terminal.Service.TheVariants.{Transaction, EndOfDay}
use Rattle.gw_owes.specs.declared.terminal.Service.TheVariants as served
use Rattle.gw_owes.specs.declared.terminal.Standing.{Standing}
use Rattle.gw_owes.specs.declared.terminal.Standing.TheVariants.{Unlinked, Registering, Enquiring, Ready, Serving, Aside}
use Rattle.gw_owes.specs.declared.terminal.Terminal.{Terminal}
use Rattle.gw_owes.specs.Items.{RoundItem, Serve}
use Rattle.gw_owes.specs.Events.{pt_bytes_items, items_due}
use Rattle.gw_owes.specs.Reply.{ReplyValue, Finished, Diagnosis, Display, Print}
use Rattle.gw_owes.specs.Replies.{header_of_reply, success, failure, failure_reply, output_refused}
use Rattle.gw_owes.specs.Reports.{standing_reported}
use Rattle.gw_owes.specs.Row.{Known, Row, owing_nothing}
use Rattle.gw_owes.specs.Links.{LinkEvent, LinkIsMade, LinkHasFailed, LinkIsLost, link_row}
use Rattle.gw_owes.specs.Requests.{request_reply}
use Rattle.gw_owes.specs.TerminalRows.{terminal_row}
use Rattle.gw_owes.specs.TerminalExample.{one_pt, setup_with, new_known, standing_known, header_for, ack, completion, abort, approved_status, enquiry_sent, outside_status}

-- ---- what happens

-- what happens at a terminal
pub data Happening : Type 0 where
  -- its link is made, couldn't be made, or is lost
  Links : ℕ → LinkEvent → Happening
  -- it sends these bytes, all of them whole APDUs
  Sends : ℕ → List ℕ → Happening
  -- the same, and what the item of this number sends it, counted from 0, fails
  SendsAndFails : ℕ → List ℕ → ℕ → Happening
  -- this till asks for this there, and it begins there or stops what is served
  Asks : ℕ → ℕ → Header → SaleRequest → Happening
  -- nothing but that time has passed
  Passes : Happening

-- what happens at which moment
pub record At : Type 0 where
  pub moment : ℕ
  pub happening : Happening

-- one row, and then what follows from what is remembered after it
abbrev pub row_then : Row → (Core → Row) → Row
row_then row more = let after = more row.core in record { core = after.core; calls = row.calls ++ after.calls; items = [] }

-- a row and its calls, each of which succeeds: with a cut the link is lost
abbrev pub with_losses : Known → Row → List OwedCall → Row
with_losses known row [] = row
with_losses known row (SendTill till reply ∷ calls) = with_losses known row calls
with_losses known row (SendPt number sending ∷ calls) = with_losses known row calls
with_losses known row (CutTill till ∷ calls) = with_losses known row calls
with_losses known row (CutPt number ∷ calls) = with_losses known (row_then row (λ core. link_row (record known { core = core }) number LinkIsLost)) calls
with_losses known row (LinkPt number ∷ calls) = with_losses known row calls
with_losses known row (WriteBody slot the_record ∷ calls) = with_losses known row calls
with_losses known row (WriteGate slot the_record ∷ calls) = with_losses known row calls
with_losses known row (WriteFirstGate ∷ calls) = with_losses known row calls
with_losses known row (Sync ∷ calls) = with_losses known row calls

-- what an item leaves and owes, with what follows from its cut
abbrev pub item_row : Known → RoundItem → Row
item_row known item = let row = terminal_row known item in with_losses known row row.calls

-- the same of an item whose send to this terminal fails: the connection is cut
abbrev pub failed_row : Known → ℕ → RoundItem → Row
failed_row known number item =
    let row = terminal_row known item in
    with_losses known (record row { calls = row.calls ++ CutPt number ∷ [] }) (CutPt number ∷ [])

-- items, one after the other
abbrev pub items_row : Known → List RoundItem → Row
items_row known [] = owing_nothing known
items_row known (item ∷ items) = row_then (item_row known item) (λ core. items_row (record known { core = core }) items)

-- the same, where the send to this terminal of the item of this number fails
abbrev pub items_failing : Known → ℕ → ℕ → List RoundItem → Row
items_failing known number at [] = owing_nothing known
items_failing known number zero (item ∷ items) = row_then (failed_row known number item) (λ core. items_row (record known { core = core }) items)
items_failing known number (suc at) (item ∷ items) = row_then (item_row known item) (λ core. items_failing (record known { core = core }) number at items)

-- what happens, and then what may be due
abbrev pub happening_row : Known → Happening → Row
happening_row known (Links number event) = link_row known number event
happening_row known (Sends number bytes) = items_row known (pt_bytes_items number [] bytes ++ items_due known.core)
happening_row known (SendsAndFails number bytes at) = items_failing known number at (pt_bytes_items number [] bytes ++ items_due known.core)
happening_row known (Asks number till header request) = items_row known (Serve number till header request ∷ items_due known.core)
happening_row known Passes = items_row known (items_due known.core)

-- one thing after the other
abbrev pub happenings_row : Known → List At → Row
happenings_row known [] = owing_nothing known
happenings_row known (first ∷ rest) =
    row_then (happening_row (record known { moment = first.moment }) first.happening) (λ core. happenings_row (record known { core = core }) rest)

-- ---- what is seen of it

-- what a terminal is sent as bytes, what becomes of its connection, what a till is sent, and what is kept
pub data Call : Type 0 where
  -- these bytes are sent to the terminal of this number
  Out : ℕ → List ℕ → Call
  -- its connection is cut
  Cuts : ℕ → Call
  -- it is linked
  Link : ℕ → Call
  -- the till of this number is sent this
  TillGets : ℕ → ReplyValue → Call
  -- this record is kept
  IsKept : Record → Call

-- what is seen of a call; a record is kept as its gate is opened
abbrev pub seen_call : OwedCall → Option Call
seen_call (SendTill till reply) = Some (TillGets till reply)
seen_call (SendPt number sending) = Some (Out number (sending_bytes sending))
seen_call (CutTill till) = None
seen_call (CutPt number) = Some (Cuts number)
seen_call (LinkPt number) = Some (Link number)
seen_call (WriteBody slot the_record) = None
seen_call (WriteGate slot the_record) = Some (IsKept the_record)
seen_call WriteFirstGate = None
seen_call Sync = None

-- what is seen of the calls of a row
abbrev pub seen_calls : Row → List Call
seen_calls row = filter_map seen_call row.calls

-- the terminal of this number after a row
abbrev pub terminal_in : ℕ → Row → Option Terminal
terminal_in number row = slice_get row.core.terminals number

-- its standing
abbrev pub standing_in : ℕ → Row → Option Standing
standing_in number row = option_map (λ (terminal : Terminal). terminal.standing) (terminal_in number row)

-- how many of its Acks and Nacks are awaited
abbrev pub awaited_in : ℕ → Row → Option ℕ
awaited_in number row = option_map (λ (terminal : Terminal). terminal.awaited) (terminal_in number row)

-- what was sent and done, and the standing of the first terminal then, with how many of its Acks and Nacks are awaited
pub record Comes (row : Row) (calls : List Call) (standing : Standing) (awaited : ℕ) : Type 0 where
  pub calls_are : seen_calls row ≡ calls
  pub standing_is : standing_in 0 row ≡ Some standing
  pub awaited_is : awaited_in 0 row ≡ Some awaited

-- ---- one terminal

-- what comes of what happens at the one terminal
abbrev pub after_all : List At → Row
after_all happenings = happenings_row (new_known (one_pt ∷ [])) happenings

-- at this moment the terminal sends these bytes
abbrev pub sends : ℕ → List ℕ → At
sends moment bytes = record { moment = moment; happening = Sends 0 bytes }

-- the same, and what the item of this number sends it fails
abbrev pub sends_and_fails : ℕ → List ℕ → ℕ → At
sends_and_fails moment bytes at = record { moment = moment; happening = SendsAndFails 0 bytes at }

-- at this moment its link is made, couldn't be made, or is lost
abbrev pub link_event : ℕ → LinkEvent → At
link_event moment event = record { moment = moment; happening = Links 0 event }

-- at this moment till 3 asks for this
abbrev pub asks : ℕ → Header → SaleRequest → At
asks moment header request = record { moment = moment; happening = Asks 0 3 header request }

-- nothing comes until this moment
abbrev pub passes : ℕ → At
passes moment = record { moment = moment; happening = Passes }

-- ---- bytes

-- a command of the terminal's own
abbrev pub foreign : List ℕ
foreign = 0x06 ∷ 0x99 ∷ 0x00 ∷ []

-- the registration
abbrev pub registration_sent : List ℕ
registration_sent = 0x06 ∷ 0x00 ∷ 0x06 ∷ 0x12 ∷ 0x34 ∷ 0x56 ∷ 0xBA ∷ 0x09 ∷ 0x78 ∷ []

-- a refusal of a foreign command
abbrev pub refusal_sent : List ℕ
refusal_sent = 0x84 ∷ 0x83 ∷ 0x00 ∷ []

-- ---- the way to ready

-- the run's first round passes, the link is made, and the registration is acknowledged
abbrev pub until_acknowledged : List At
until_acknowledged = passes 0 ∷ link_event 0 LinkIsMade ∷ sends 1 ack ∷ []

-- what is sent until then
abbrev pub acknowledged_calls : List Call
acknowledged_calls = Link 0 ∷ Out 0 registration_sent ∷ []

-- the registration is done
abbrev pub until_registered : List At
until_registered = until_acknowledged ++ sends 2 completion ∷ []

-- what is sent until then
abbrev pub registered_calls : List Call
registered_calls = acknowledged_calls ++ Out 0 ack ∷ Out 0 enquiry_sent ∷ []

-- the enquiry is acknowledged
abbrev pub until_enquired : List At
until_enquired = until_registered ++ sends 3 ack ∷ []

-- the terminal has no last transaction
abbrev pub until_ready : List At
until_ready = until_enquired ++ sends 4 (abort 0x83) ∷ []

-- what is sent until then
abbrev pub ready_calls : List Call
ready_calls = registered_calls ++ Out 0 ack ∷ []

-- the terminal is linked at once, registers, is enquired, and is ready with 0
pub record ExampleBecomesReady : Type 0 where
  pub linked : Comes (after_all (passes 0 ∷ link_event 0 LinkIsMade ∷ [])) acknowledged_calls Registering 1
  pub acknowledged : Comes (after_all until_acknowledged) acknowledged_calls Registering 0
  pub registered : Comes (after_all until_registered) registered_calls Enquiring 1
  pub enquired : Comes (after_all until_enquired) registered_calls Enquiring 0
  pub ready : Comes (after_all until_ready) ready_calls (Ready 0) 0

-- the terminal reports its last transaction, with trace number 123
abbrev pub until_last_reported : List At
until_last_reported = until_enquired ++ sends 4 approved_status ∷ sends 5 completion ∷ []

-- what is sent until then
abbrev pub last_reported_calls : List Call
last_reported_calls = ready_calls ++ Out 0 ack ∷ []

-- the Status of its last transaction is acknowledged too, and it is ready with that one's trace number; all of it may come at once
pub record ExampleReportsLast : Type 0 where
  pub apart : Comes (after_all until_last_reported) last_reported_calls (Ready 123) 0
  pub together : Comes (after_all (until_registered ++ sends 3 (ack ++ approved_status ++ completion) ∷ [])) last_reported_calls (Ready 123) 0

-- ---- registrations and enquiries that fail

-- the registration is declined, which cuts the connection: it is due again five seconds later
abbrev pub until_declined : List At
until_declined = until_acknowledged ++ sends 2 (abort 0x6C) ∷ []

-- what is sent until then
abbrev pub declined_calls : List Call
declined_calls = acknowledged_calls ++ Out 0 ack ∷ Cuts 0 ∷ []

-- so does one that is refused at once, which isn't acknowledged
abbrev pub until_refused : List At
until_refused = passes 0 ∷ link_event 0 LinkIsMade ∷ sends 1 (0x84 ∷ 0x83 ∷ 0x00 ∷ []) ∷ []

-- a registration that is declined, refused, declined by a status, unclear, or completed before it is acknowledged
pub record ExampleRegistrationFails : Type 0 where
  pub declined : Comes (after_all until_declined) declined_calls (Unlinked (Some 7)) 0
  pub not_due : Comes (after_all (until_declined ++ passes 6 ∷ [])) declined_calls (Unlinked (Some 7)) 0
  pub due : Comes (after_all (until_declined ++ passes 7 ∷ [])) (declined_calls ++ Link 0 ∷ []) (Unlinked (Some 7)) 0
  pub refused : Comes (after_all until_refused) (acknowledged_calls ++ Cuts 0 ∷ []) (Unlinked (Some 6)) 0
  pub by_status : Comes (after_all (until_acknowledged ++ sends 2 (0x04 ∷ 0x0F ∷ 0x02 ∷ 0x27 ∷ 0x05 ∷ []) ∷ sends 3 completion ∷ [])) (acknowledged_calls ++ Out 0 ack ∷ Out 0 ack ∷ Cuts 0 ∷ []) (Unlinked (Some 8)) 0
  pub unclear : Comes (after_all (until_acknowledged ++ sends 2 (0x06 ∷ 0x1E ∷ 0x00 ∷ []) ∷ [])) (acknowledged_calls ++ Out 0 ack ∷ Cuts 0 ∷ []) (Unlinked (Some 7)) 0
  pub too_early : Comes (after_all (passes 0 ∷ link_event 0 LinkIsMade ∷ sends 1 completion ∷ [])) (acknowledged_calls ++ Out 0 ack ∷ Cuts 0 ∷ []) (Unlinked (Some 6)) 0

-- an enquiry that is completed without a status is unclear, and one that is refused, or aborted with another code, is cut as well
pub record ExampleEnquiryFails : Type 0 where
  pub unclear : Comes (after_all (until_enquired ++ sends 4 completion ∷ [])) (ready_calls ++ Cuts 0 ∷ []) (Unlinked (Some 9)) 0
  pub refused : Comes (after_all (until_registered ++ sends 3 (0x84 ∷ 0x83 ∷ 0x00 ∷ []) ∷ [])) (registered_calls ++ Cuts 0 ∷ []) (Unlinked (Some 8)) 0
  pub other_code : Comes (after_all (until_enquired ++ sends 4 (abort 0x6C) ∷ [])) (ready_calls ++ Cuts 0 ∷ []) (Unlinked (Some 9)) 0

-- a link that couldn't be made is due again five seconds later, and so is one that is lost
pub record ExampleLinkFails : Type 0 where
  pub failed : Comes (after_all (passes 0 ∷ link_event 0 LinkHasFailed ∷ passes 4 ∷ [])) (Link 0 ∷ []) (Unlinked (Some 5)) 0
  pub again : Comes (after_all (passes 0 ∷ link_event 0 LinkHasFailed ∷ passes 5 ∷ [])) (Link 0 ∷ Link 0 ∷ []) (Unlinked (Some 5)) 0
  pub lost : Comes (after_all (until_ready ++ link_event 9 LinkIsLost ∷ passes 14 ∷ [])) (ready_calls ++ Link 0 ∷ []) (Unlinked (Some 14)) 0

-- ---- deadlines

-- A registration is cut after five seconds of silence, and an enquiry 180 after its last message. A message that comes at the deadline is taken first, and where no dialogue runs there is none.
pub record ExampleSilence : Type 0 where
  pub asked : Comes (after_all (passes 0 ∷ link_event 0 LinkIsMade ∷ passes 4 ∷ [])) acknowledged_calls Registering 1
  pub asked_late : Comes (after_all (passes 0 ∷ link_event 0 LinkIsMade ∷ passes 5 ∷ [])) (acknowledged_calls ++ Cuts 0 ∷ []) (Unlinked (Some 10)) 0
  pub begun : Comes (after_all (until_enquired ++ passes 182 ∷ [])) registered_calls Enquiring 0
  pub begun_late : Comes (after_all (until_enquired ++ passes 183 ∷ [])) (registered_calls ++ Cuts 0 ∷ []) (Unlinked (Some 188)) 0
  pub put_off : Comes (after_all (until_enquired ++ sends 183 ack ∷ passes 362 ∷ [])) registered_calls Enquiring 0
  pub in_time : Comes (after_all (until_enquired ++ sends 183 (abort 0x83) ∷ [])) ready_calls (Ready 0) 0
  pub without_dialogue : Comes (after_all (until_ready ++ passes 100000 ∷ [])) ready_calls (Ready 0) 0

-- ---- messages without a dialogue, and foreign commands

-- where no dialogue runs a message is acknowledged, and no more; an Ack pays for nothing
pub record ExampleStrayMessages : Type 0 where
  pub acknowledged : Comes (after_all (until_ready ++ sends 5 completion ∷ [])) (ready_calls ++ Out 0 ack ∷ []) (Ready 0) 0
  pub ack_alone : Comes (after_all (until_ready ++ sends 5 ack ∷ [])) ready_calls (Ready 0) 0

-- a command of the terminal's own is refused, whether a dialogue runs or not, and puts no deadline off
pub record ExampleForeignCommand : Type 0 where
  pub refused : Comes (after_all (until_ready ++ sends 5 foreign ∷ [])) (ready_calls ++ Out 0 refusal_sent ∷ []) (Ready 0) 0
  pub in_dialogue : Comes (after_all (until_enquired ++ sends 100 foreign ∷ passes 183 ∷ [])) (registered_calls ++ Out 0 refusal_sent ∷ Cuts 0 ∷ []) (Unlinked (Some 188)) 0

-- ---- bytes outside the grammar

-- a Status whose fields are truncated cuts the connection, and is not acknowledged; so do bytes that begin an APDU above the limit, after the APDUs before them. An APDU after the cut owes nothing, also where it comes with the other.
pub record ExampleOutside : Type 0 where
  pub status : Comes (after_all (until_ready ++ sends 5 outside_status ∷ [])) (ready_calls ++ Cuts 0 ∷ []) (Unlinked (Some 10)) 0
  pub oversized : Comes (after_all (until_ready ++ sends 5 (foreign ++ 0x06 ∷ 0xD1 ∷ 0xFF ∷ 0xE1 ∷ 0x2E ∷ []) ∷ [])) (ready_calls ++ Out 0 refusal_sent ∷ Cuts 0 ∷ []) (Unlinked (Some 10)) 0
  pub then_good : Comes (after_all (until_enquired ++ sends 5 (outside_status ++ abort 0x83) ∷ [])) (registered_calls ++ Cuts 0 ∷ []) (Unlinked (Some 10)) 0

-- ---- sends that fail

-- Where an acknowledgement fails the connection is cut: the message has no effect, and the messages that came with it neither. What came before has had its effect.
pub record ExampleFailedSend : Type 0 where
  pub first : Comes (after_all (until_enquired ++ sends_and_fails 4 (approved_status ++ completion) 0 ∷ [])) (ready_calls ++ Cuts 0 ∷ []) (Unlinked (Some 9)) 0
  pub second : Comes (after_all (until_enquired ++ sends_and_fails 4 (approved_status ++ completion) 3 ∷ [])) (ready_calls ++ Out 0 ack ∷ Cuts 0 ∷ []) (Unlinked (Some 9)) 0
  pub command : Comes (after_all (until_acknowledged ++ sends_and_fails 2 completion 1 ∷ [])) (registered_calls ++ Cuts 0 ∷ []) (Unlinked (Some 7)) 0

-- ---- terminals that aren't linked, and numbers that no terminal has

-- nothing is owed for what comes from them
pub record ExampleUnlinked : Type 0 where
  pub unlinked : Comes (after_all (passes 0 ∷ link_event 0 LinkHasFailed ∷ sends 1 (foreign ++ completion) ∷ [])) (Link 0 ∷ []) (Unlinked (Some 5)) 0
  pub absent : Comes (after_all (until_ready ++ record { moment = 5; happening = Sends 7 (foreign ++ outside_status) } ∷ [])) ready_calls (Ready 0) 0

-- ---- terminals that are set aside

-- a gateway whose one terminal reported a smaller trace number than before
abbrev pub after_aside : List At → Row
after_aside happenings = happenings_row (record (new_known (one_pt ∷ [])) { core = record (new_core (setup_with (one_pt ∷ []))) { terminals = record (new_terminal one_pt) { standing = Aside 123 50 } ∷ [] } }) happenings

-- it is greeted as any other, and stays aside; it is linked anew after its link is lost
pub record ExampleAside : Type 0 where
  pub message : Comes (after_aside (sends 5 completion ∷ [])) (Out 0 ack ∷ []) (Aside 123 50) 0
  pub foreign : Comes (after_aside (sends 5 foreign ∷ [])) (Out 0 refusal_sent ∷ []) (Aside 123 50) 0
  pub lost : Comes (after_aside (link_event 5 LinkIsLost ∷ passes 10 ∷ [])) (Link 0 ∷ []) (Unlinked (Some 10)) 0

-- ---- stops

-- a payment was asked of the terminal at this moment, and a stop is wished before it is acknowledged
abbrev pub stopping_terminal : ℕ → Terminal
stopping_terminal moment = record (new_terminal one_pt) {
  standing = Serving (Transaction 2) 123;
  talk = option_map (λ dialogue. talk_after dialogue (StopWished ∷ [])) (dialogue_of (command.Authorise 1099 978) 0x83 5 180 (pos moment));
  awaited = 1;
}

-- what comes of what happens then
abbrev pub after_wish : List At → Row
after_wish happenings = happenings_row (record (new_known (one_pt ∷ [])) { core = record (new_core (setup_with (one_pt ∷ []))) { terminals = stopping_terminal 10 ∷ [] } }) happenings

-- the stop
abbrev pub stop_sent : List ℕ
stop_sent = 0x06 ∷ 0xB0 ∷ 0x00 ∷ []

-- The stop is sent once the payment is acknowledged, and is acknowledged or refused in its turn; the payment goes on until its deadline.
pub record ExampleStop : Type 0 where
  pub sent : Comes (after_wish (sends 11 ack ∷ [])) (Out 0 stop_sent ∷ []) (Serving (Transaction 2) 123) 1
  pub refused : Comes (after_wish (sends 11 ack ∷ sends 12 (0x84 ∷ 0x83 ∷ 0x00 ∷ []) ∷ [])) (Out 0 stop_sent ∷ []) (Serving (Transaction 2) 123) 0
  pub late : Comes (after_wish (sends 11 ack ∷ passes 191 ∷ [])) (Out 0 stop_sent ∷ Cuts 0 ∷ []) (Unlinked (Some 196)) 0

-- ---- the late Nack of a stop

-- the terminal was asked at this moment for a payment, after a stop whose Ack or Nack is still awaited
abbrev pub stopped_terminal : ℕ → Terminal
stopped_terminal moment = record (new_terminal one_pt) {
  standing = Serving (Transaction 2) 123;
  talk = option_map (λ dialogue. talk_after dialogue []) (dialogue_of (command.Authorise 1099 978) 0x83 5 180 (pos moment));
  awaited = 2;
}

-- what comes of what happens then
abbrev pub after_stop : List At → Row
after_stop happenings = happenings_row (record (new_known (one_pt ∷ [])) { core = record (new_core (setup_with (one_pt ∷ []))) { terminals = stopped_terminal 10 ∷ [] } }) happenings

-- A Nack then may be that of the stop: it is unclear, and declines nothing. An Ack begins the payment, and one more is awaited, which has no effect.
pub record ExampleLateStop : Type 0 where
  pub nack : Comes (after_stop (sends 11 (0x84 ∷ 0x83 ∷ 0x00 ∷ []) ∷ [])) (Cuts 0 ∷ []) (Unlinked (Some 16)) 0
  pub ack_first : Comes (after_stop (sends 11 ack ∷ [])) [] (Serving (Transaction 2) 123) 1
  pub nack_later : Comes (after_stop (sends 11 ack ∷ sends 12 (0x84 ∷ 0x83 ∷ 0x00 ∷ []) ∷ [])) [] (Serving (Transaction 2) 123) 0
  pub none_below : Comes (after_stop (sends 11 ack ∷ sends 12 ack ∷ sends 13 ack ∷ [])) [] (Serving (Transaction 2) 123) 0

-- ---- reports

-- a terminal is ready with a trace number that is not below the least, and is set aside with one that is
pub record ExampleComparedReports : Type 0 where
  pub same : standing_reported 123 123 ≡ Ready 123
  pub above : standing_reported 123 124 ≡ Ready 124
  pub below : standing_reported 123 50 ≡ Aside 123 50

-- ---- the most terminals

-- so many terminals, whose POIIDs are single characters from this one on
abbrev pub pts_from : ℕ → ℕ → List Pt
pts_from first zero = []
pts_from first (suc count) = record one_pt { poi = first ∷ [] } ∷ pts_from (first + 1) count

-- their numbers
abbrev pub numbers_from : ℕ → ℕ → List ℕ
numbers_from first zero = []
numbers_from first (suc count) = first ∷ numbers_from (first + 1) count

-- a gateway with 32 terminals, the most that a setup may have, begins a run: `A` is the first POIID
abbrev pub many_known : Known
many_known = new_known (pts_from 65 32)

-- the last of them is linked, and its registration acknowledged and done
abbrev pub last_registered : List At
last_registered = record { moment = 0; happening = Links 31 LinkIsMade } ∷ record { moment = 1; happening = Sends 31 (ack ++ completion) } ∷ []

-- The core with 32 terminals: its first round links all of them, in order. What the last one sends is owed to it alone, and leaves the others as they were: they are due to be linked.
pub record ExampleManyTerminals : Type 0 where
  pub all_linked : seen_calls (happenings_row many_known (passes 0 ∷ [])) ≡ map Link (numbers_from 0 32)
  pub last_alone : seen_calls (happenings_row many_known last_registered) ≡ Out 31 registration_sent ∷ Out 31 ack ∷ Out 31 enquiry_sent ∷ map Link (numbers_from 0 31)
  pub last_is : standing_in 31 (happenings_row many_known last_registered) ≡ Some Enquiring
  pub first_is : terminal_in 0 (happenings_row many_known last_registered) ≡ Some (new_terminal (record one_pt { poi = 65 ∷ [] }))
  pub before_is : terminal_in 30 (happenings_row many_known last_registered) ≡ Some (new_terminal (record one_pt { poi = 95 ∷ [] }))

-- ---- Diagnosis

-- a Diagnosis gets this status
abbrev pub HasStatus : Standing → GlobalStatus → Type 0
HasStatus standing status =
    request_reply (standing_known standing) (header_for (codes "Diagnosis") (codes "T1")) requests.Diagnosis ≡ Some (Diagnosis (header_of_reply (header_for (codes "Diagnosis") (codes "T1"))) status)

-- a Diagnosis has `OK` for a terminal that is ready, and for no other; one of a POIID that isn't configured fails
pub record ExampleDiagnosis : Type 0 where
  pub new : HasStatus (Unlinked None) status.Unreachable
  pub unlinked : HasStatus (Unlinked (Some 5)) status.Unreachable
  pub registering : HasStatus Registering status.Unreachable
  pub enquiring : HasStatus Enquiring status.Unreachable
  pub ready : HasStatus (Ready 123) status.Ready
  pub serving : HasStatus (Serving (Transaction 2) 123) status.Busy
  pub aside : HasStatus (Aside 123 50) status.Maintenance
  pub unknown : request_reply (standing_known (Ready 123)) (header_for (codes "Diagnosis") (codes "T2")) requests.Diagnosis ≡ Some (failure_reply (header_for (codes "Diagnosis") (codes "T2")) UnavailableDevice)

-- ---- an end of day

-- the header of a request for an end of day
abbrev pub end_of_day_header : Header
end_of_day_header = header_for (codes "Reconciliation") (codes "T1")

-- the standing of the terminal that serves it
abbrev pub serving_end_of_day : Standing
serving_end_of_day = Serving (EndOfDay end_of_day_header AcquirerReconciliation) 123

-- till 3 asks for it at the terminal, which is ready with trace number 123
abbrev pub until_day_asked : List At
until_day_asked = until_last_reported ++ asks 6 end_of_day_header (requests.Reconciliation AcquirerReconciliation) ∷ []

-- what is sent until then
abbrev pub day_asked_calls : List Call
day_asked_calls = last_reported_calls ++ Out 0 (0x06 ∷ 0x50 ∷ 0x03 ∷ 0x12 ∷ 0x34 ∷ 0x56 ∷ []) ∷ []

-- it is acknowledged
abbrev pub until_day_acknowledged : List At
until_day_acknowledged = until_day_asked ++ sends 7 ack ∷ []

-- what is kept of it where it is done at this moment
abbrev pub settled_record_at : ℕ → Record
settled_record_at moment = Settled (record { how = hows.Acquirer; sale = codes "S1"; poi = codes "T1"; service = codes "5"; currency = Eur; moment = pos moment })

-- the till gets its totals: nothing was paid
abbrev pub day_totals_reply : Call
day_totals_reply = TillGets 3 (Finished (header_of_reply end_of_day_header) (Reconciled AcquirerReconciliation Eur (0, 0) (0, 0)))

-- the till gets a Failure
abbrev pub day_failure : Condition → Call
day_failure condition = TillGets 3 (failure_reply end_of_day_header condition)

-- Once it is done its Settled is kept, and then the till gets the totals. Where it is declined, by the terminal, as a refusal of the command, or by the last status, nothing is kept, and the till gets a Failure. The terminal is ready with the trace number that it had before.
pub record ExampleEndOfDay : Type 0 where
  pub begun : Comes (after_all until_day_asked) day_asked_calls serving_end_of_day 1
  pub acknowledged : Comes (after_all until_day_acknowledged) day_asked_calls serving_end_of_day 0
  pub done : Comes (after_all (until_day_acknowledged ++ sends 8 completion ∷ [])) (day_asked_calls ++ Out 0 ack ∷ IsKept (settled_record_at 8) ∷ day_totals_reply ∷ []) (Ready 123) 0
  pub declined : Comes (after_all (until_day_acknowledged ++ sends 8 (abort 0x6C) ∷ [])) (day_asked_calls ++ Out 0 ack ∷ day_failure Cancel ∷ []) (Ready 123) 0
  pub refused : Comes (after_all (until_day_asked ++ sends 7 (0x84 ∷ 0x83 ∷ 0x00 ∷ []) ∷ [])) (day_asked_calls ++ day_failure UnavailableService ∷ []) (Ready 123) 0
  pub by_status :
      Comes (after_all (until_day_acknowledged ++ sends 8 (0x04 ∷ 0x0F ∷ 0x02 ∷ 0x27 ∷ 0x05 ∷ []) ∷ sends 9 completion ∷ []))
      (day_asked_calls ++ Out 0 ack ∷ Out 0 ack ∷ day_failure Refusal ∷ []) (Ready 123) 0

-- where its end is unclear, the terminal silent for too long, or its link lost, nothing is kept, and the till gets a Failure
pub record ExampleDayLost : Type 0 where
  pub unclear : Comes (after_all (until_day_acknowledged ++ sends 8 (0x06 ∷ 0x1E ∷ 0x00 ∷ []) ∷ [])) (day_asked_calls ++ Out 0 ack ∷ Cuts 0 ∷ day_failure UnavailableDevice ∷ []) (Unlinked (Some 13)) 0
  pub too_early : Comes (after_all (until_day_asked ++ sends 7 completion ∷ [])) (day_asked_calls ++ Out 0 ack ∷ Cuts 0 ∷ day_failure UnavailableDevice ∷ []) (Unlinked (Some 12)) 0
  pub not_acknowledged : Comes (after_all (until_day_asked ++ passes 11 ∷ [])) (day_asked_calls ++ Cuts 0 ∷ day_failure UnavailableDevice ∷ []) (Unlinked (Some 16)) 0
  pub silent : Comes (after_all (until_day_acknowledged ++ passes 187 ∷ [])) (day_asked_calls ++ Cuts 0 ∷ day_failure UnavailableDevice ∷ []) (Unlinked (Some 192)) 0
  pub lost : Comes (after_all (until_day_acknowledged ++ link_event 8 LinkIsLost ∷ [])) (day_asked_calls ++ day_failure UnavailableDevice ∷ []) (Unlinked (Some 13)) 0
  pub outside : Comes (after_all (until_day_acknowledged ++ sends 8 outside_status ∷ [])) (day_asked_calls ++ Cuts 0 ∷ day_failure UnavailableDevice ∷ []) (Unlinked (Some 13)) 0

-- at this moment till 3 asks to abort what has the ServiceID of the examples
abbrev pub asks_abort : ℕ → At
asks_abort moment = asks moment (header_for (codes "Abort") (codes "T1")) (requests.Abort (record { service = codes "5"; sale = None; poi = None }))

-- A stop is sent once: at once where the command is acknowledged, and else as soon as it is. An abort by the terminal is `Aborted` then; where the terminal is done all the same, the Settled is kept.
pub record ExampleDayStopped : Type 0 where
  pub sent : Comes (after_all (until_day_acknowledged ++ asks_abort 8 ∷ [])) (day_asked_calls ++ Out 0 stop_sent ∷ []) serving_end_of_day 1
  pub once : Comes (after_all (until_day_acknowledged ++ asks_abort 8 ∷ asks_abort 9 ∷ [])) (day_asked_calls ++ Out 0 stop_sent ∷ []) serving_end_of_day 1
  pub wished : Comes (after_all (until_day_asked ++ asks_abort 6 ∷ [])) day_asked_calls serving_end_of_day 1
  pub sent_later : Comes (after_all (until_day_asked ++ asks_abort 6 ∷ sends 7 ack ∷ [])) (day_asked_calls ++ Out 0 stop_sent ∷ []) serving_end_of_day 1
  pub aborted :
      Comes (after_all (until_day_acknowledged ++ asks_abort 8 ∷ sends 9 (ack ++ abort 0x6C) ∷ [])) (day_asked_calls ++ Out 0 stop_sent ∷ Out 0 ack ∷ day_failure Aborted ∷ []) (Ready 123) 0
  pub done :
      Comes (after_all (until_day_acknowledged ++ asks_abort 8 ∷ sends 9 (ack ++ completion) ∷ []))
      (day_asked_calls ++ Out 0 stop_sent ∷ Out 0 ack ∷ IsKept (settled_record_at 9) ∷ day_totals_reply ∷ []) (Ready 123) 0

-- ---- a display

-- the header of a Display
abbrev pub header_of_display : Header
header_of_display = record (header_for (codes "Display") (codes "T1")) { class = classes.Device; device = Some (codes "1") }

-- an output for this device, of one line
abbrev pub output_for : List ℕ → Output
output_for device = record { device = device; qualify = codes "Display"; required = true; texts = Some (codes "HELLO" ∷ []) }

-- one for the customer's display, which asks for a response
abbrev pub shown_output : Output
shown_output = output_for (codes "CustomerDisplay")

-- its result
abbrev pub shown_with : Verdict → Shown
shown_with verdict = record { device = codes "CustomerDisplay"; qualify = codes "Display"; verdict = verdict }

-- the reply to its Display
abbrev pub shown_reply : Verdict → ReplyValue
shown_reply verdict = Display (record { class = classes.Device; category = codes "Display"; kind = kinds.Response; service = Some (codes "5"); device = Some (codes "1"); sale = codes "S1"; poi = codes "T1" }) (shown_with verdict ∷ [])

-- the standing of the terminal that serves it: no output is shown yet
abbrev pub serving_display_of_one : Standing
serving_display_of_one = Serving (served.Display header_of_display (Some (shown_with (failure UnavailableDevice) ∷ []))) 123

-- till 3 asks for it at the terminal, which is ready with trace number 123
abbrev pub until_display_asked : List At
until_display_asked = until_last_reported ++ asks 6 header_of_display (requests.Display (shown_output ∷ [])) ∷ []

-- what is sent until then
abbrev pub display_asked_calls : List Call
display_asked_calls =
    last_reported_calls ++ Out 0 (0x06 ∷ 0xE0 ∷ 0x0A ∷ 0xF0 ∷ 0x05 ∷ 0xF1 ∷ 0xF0 ∷ 0xF5 ∷ 0x48 ∷ 0x45 ∷ 0x4C ∷ 0x4C ∷ 0x4F ∷ []) ∷ []

-- the till gets the result
abbrev pub display_result_of : Verdict → Call
display_result_of verdict = TillGets 3 (shown_reply verdict)

-- It is shown once the terminal acknowledges it, and not where it refuses it: then the till gets the result, and the terminal is ready with the trace number that it had before. An Abort doesn't stop it. Where no output asks for a response the till gets none.
pub record ExampleDisplay : Type 0 where
  pub begun : Comes (after_all until_display_asked) display_asked_calls serving_display_of_one 1
  pub done : Comes (after_all (until_display_asked ++ sends 7 ack ∷ [])) (display_asked_calls ++ display_result_of success ∷ []) (Ready 123) 0
  pub refused : Comes (after_all (until_display_asked ++ sends 7 (0x84 ∷ 0x83 ∷ 0x00 ∷ []) ∷ [])) (display_asked_calls ++ display_result_of (failure UnavailableService) ∷ []) (Ready 123) 0
  pub not_stopped : Comes (after_all (until_display_asked ++ asks_abort 6 ∷ [])) display_asked_calls serving_display_of_one 1
  pub without_response :
      Comes (after_all (until_last_reported ++ asks 6 header_of_display (requests.Display (record shown_output { required = false } ∷ [])) ∷ sends 7 ack ∷ [])) display_asked_calls (Ready 123) 0

-- where its end is unclear, the terminal silent for too long, or its link lost, the till gets the result that it isn't shown
pub record ExampleDisplayLost : Type 0 where
  pub unclear : Comes (after_all (until_display_asked ++ sends 7 completion ∷ [])) (display_asked_calls ++ Out 0 ack ∷ Cuts 0 ∷ display_result_of (failure UnavailableDevice) ∷ []) (Unlinked (Some 12)) 0
  pub code_0 : Comes (after_all (until_display_asked ++ sends 7 (0x84 ∷ 0x00 ∷ 0x00 ∷ []) ∷ [])) (display_asked_calls ++ Cuts 0 ∷ display_result_of (failure UnavailableDevice) ∷ []) (Unlinked (Some 12)) 0
  pub silent : Comes (after_all (until_display_asked ++ passes 11 ∷ [])) (display_asked_calls ++ Cuts 0 ∷ display_result_of (failure UnavailableDevice) ∷ []) (Unlinked (Some 16)) 0
  pub lost : Comes (after_all (until_display_asked ++ link_event 7 LinkIsLost ∷ [])) (display_asked_calls ++ display_result_of (failure UnavailableDevice) ∷ []) (Unlinked (Some 12)) 0

-- what a Display of this output gets at once, where its terminal has this standing and its POIID is this one
abbrev pub display_gets : Standing → List ℕ → Output → Option ReplyValue
display_gets standing poi output = request_reply (standing_known standing) (record header_of_display { poi = poi }) (requests.Display (output ∷ []))

-- it is refused for this reason
abbrev pub IsDisplayRefused : Standing → List ℕ → Output → Condition → Type 0
IsDisplayRefused standing poi output condition = display_gets standing poi output ≡ Some (Display (header_of_reply (record header_of_display { poi = poi })) (output_refused condition output ∷ []))

-- A Display is refused where its POIID isn't configured, where no output is for the customer's display, and where its terminal isn't ready, for another reason where it serves something. Else there is no reply yet. A Print is refused.
pub record ExampleOutputs : Type 0 where
  pub unknown : IsDisplayRefused (Ready 123) (codes "T2") shown_output UnavailableDevice
  pub no_customer : IsDisplayRefused (Ready 123) (codes "T1") (output_for (codes "CashierDisplay")) UnavailableDevice
  pub unlinked : IsDisplayRefused (Unlinked None) (codes "T1") shown_output UnavailableDevice
  pub aside : IsDisplayRefused (Aside 123 50) (codes "T1") shown_output UnavailableDevice
  pub busy : IsDisplayRefused (Serving (Transaction 2) 123) (codes "T1") shown_output Busy
  pub begins : display_gets (Ready 123) (codes "T1") shown_output ≡ None
  pub print : request_reply (standing_known (Ready 123)) (header_for (codes "Print") (codes "T1")) (requests.Print (codes "Document")) ≡ Some (Print (header_of_reply (header_for (codes "Print") (codes "T1"))) (codes "Document") (failure UnavailableDevice))

-- ---- a link that is lost

-- after the link is lost of a terminal that serves this for till 3
abbrev pub lost_serving : Service → Row
lost_serving service =
    link_row (record (new_known (one_pt ∷ [])) { core = record (new_core (setup_with (one_pt ∷ []))) { terminals = record (new_terminal one_pt) { standing = Serving service 123; asker = Some 3 } ∷ [] }; moment = 8 }) 0 LinkIsLost

-- what is owed then, and the till that is remembered
pub record Loses (service : Service) (calls : List Call) (asker : Option ℕ) : Type 0 where
  pub comes : Comes (lost_serving service) calls (Unlinked (Some 13)) 0
  pub asker_is : option_map (λ (terminal : Terminal). terminal.asker) (terminal_in 0 (lost_serving service)) ≡ Some asker

-- a payment or a reversal gets no reply, and its till is remembered; an end of day and a display get theirs, where there is one, and it is forgotten
pub record ExampleLostServing : Type 0 where
  pub transaction : Loses (Transaction 2) [] (Some 3)
  pub end_of_day : Loses (EndOfDay end_of_day_header AcquirerReconciliation) (day_failure UnavailableDevice ∷ []) None
  pub display : Loses (served.Display header_of_display (Some (shown_with (failure UnavailableDevice) ∷ []))) (display_result_of (failure UnavailableDevice) ∷ []) None
  pub without_results : Loses (served.Display header_of_display None) [] None
