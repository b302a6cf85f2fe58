-- Closed examples in which the premises of the laws of reversals and Aborts hold: one that may begin, why others may not, what ends one that is served, each cause of a refusal, and dialogues that are to stop.
use Rattle.std.specs.Prelude.{◌≡◌, ◌<◌, ℕ, pos, true, false, List, [], ◌∷◌, ◌++◌, Option, Some, None, Ok, codes, unwrap_or}
use Rattle.gw_base.specs.declared.condition.Condition.{Condition}
use Rattle.gw_base.specs.declared.condition.Condition.TheVariants.{Busy, InProgress, LoggedOut, NotAllowed, NotFound, UnavailableDevice, UnavailableService}
use Rattle.gw_base.specs.declared.figures.Figures.{Figures}
use Rattle.gw_site.specs.Outside.{is_connected}
use Rattle.sale_values.specs.declared.header.Header.{Header}
use Rattle.sale_values.specs.declared.names.Period.TheVariants.{AcquirerReconciliation}
use Rattle.sale_values.specs.declared.request.Reference.{Reference}
use Rattle.sale_values.specs.declared.request.ReversalAsk.{ReversalAsk}
use Rattle.sale_values.specs.declared.request.SaleRequest.TheVariants as requests
use Rattle.zvt_bmp.specs.declared.fields.Fields.{Fields}
use Rattle.zvt_talk.specs.declared.dialogue_kind.DialogueKind.TheVariants as dialogues
use Rattle.zvt_talk.specs.declared.meaning.Heard.TheVariants as heard
use Rattle.zvt_talk.specs.declared.phase.Phase.{Phase}
use Rattle.zvt_talk.specs.declared.phase.Phase.TheVariants.{Asked, Begun}
use Rattle.zvt_talk.specs.Talk.{TalkFacts}
use Rattle.zvt_talk.specs.TalkSteps.{no_statuses, with_fields}
use Rattle.zvt_apdu.specs.Grammar.{ApduValue}
use Rattle.zvt_msg.specs.Message.{Ack, Nack}
use Rattle.zvt_msg.specs.MessageDecode.{decode_pt_message}
use Rattle.jrn_record.specs.declared.records.Record.{Record}
use Rattle.jrn_record.specs.declared.records.Record.TheVariants.{Intent}
use Rattle.gw_ledger.specs.declared.entry.Entry.{Entry as TheEntry}
use Rattle.gw_owes.specs.declared.terminal.Service.TheVariants.{Transaction, EndOfDay}
use Rattle.gw_owes.specs.declared.terminal.Standing.{Standing}
use Rattle.gw_owes.specs.declared.terminal.Standing.TheVariants.{Enquiring, Ready, Serving, Unlinked}
use Rattle.gw_owes.specs.declared.terminal.Terminal.{Terminal}
use Rattle.gw_owes.specs.AbortLaws.{ServesAborted}
use Rattle.gw_owes.specs.Core.{new_core, new_terminal}
use Rattle.gw_owes.specs.Diagnosis.{named_terminal}
use Rattle.gw_owes.specs.Dialogues.{HasItsDialogue}
use Rattle.gw_owes.specs.Items.{Asked as AskedItem, Serve}
use Rattle.gw_owes.specs.KeptReplies.{found_for, is_open_key}
use Rattle.gw_owes.specs.PaymentExample.{paid_at, till_header, intent_after, approved_with_amount, two_tills}
use Rattle.owes_examples.specs.PaymentExample.{with_slot_count}
use Rattle.gw_owes.specs.PaymentLaws.{BeginsThere, BeginsToReverse, IsReversible, MeansAt, ReportsOfOpen}
use Rattle.gw_owes.specs.ReadAs.{Request}
use Rattle.gw_owes.specs.Reports.{Report}
use Rattle.owes_examples.specs.ReversalExample.{declined_records, ended_records, payment_records, paid_text, reversal_ask_of, reversal_intent_kept, reversed_with_amount, settled_records, since_kept}
use Rattle.gw_owes.specs.ReversalLaws.{IsReversalAt, NamesIrreversible, RefusesReversal, ReversalWaits}
use Rattle.gw_owes.specs.Reversals.{original_of}
use Rattle.gw_owes.specs.Row.{Known}
use Rattle.gw_owes.specs.Rows.{row_of}
use Rattle.gw_owes.specs.Sessions.{is_logged_out}
use Rattle.gw_owes.specs.Steps.{Begins, is_used_up, lacks_room, step_result}
use Rattle.gw_owes.specs.Waits.{is_pending_key}
use Rattle.gw_owes.specs.StepLaws.{has_steps}
use Rattle.gw_owes.specs.TerminalExample.{one_pt, setup_with, standing_known}
use Rattle.gw_owes.specs.Terminals.{terminal_at}

-- ---- one that may begin

-- a gateway with these records, whose one terminal, `T1`, is ready with the trace number 123
abbrev pub known_ready : List Record → Known
known_ready kept = let since = since_kept kept (Ready 123) in since.known

-- the terminal
abbrev pub ready_with_paid : Terminal
ready_with_paid = record (new_terminal one_pt) { standing = Ready 123 }

-- the header of a reversal of till `S1` there, with ServiceID 2
abbrev pub header_to_reverse : Header
header_to_reverse = till_header (codes "Reversal") (codes "2")

-- the reversal of the payment of 10.99
abbrev pub whole_reversal : ReversalAsk
whole_reversal = reversal_ask_of paid_text None

-- the payment's entry
abbrev pub original_entry : TheEntry
original_entry = record { slot = 0; intent = intent_after 0; result = Some (approved_with_amount 1099) }

-- till 1 asks for the reversal of the payment: its text names the payment, which may be reversed, so that it begins there, and is served
pub record ExampleReversalAccepted : Type 0 where
  pub there : is_connected two_tills 1 ≡ true
  pub named : named_terminal (known_ready payment_records).core (codes "T1") ≡ Some (record { number = 0; terminal = ready_with_paid })
  pub found : terminal_at (known_ready payment_records) 0 ≡ Some ready_with_paid
  pub unknown : found_for payment_records header_to_reverse ≡ None
  pub not_pending : is_pending_key (known_ready payment_records).core header_to_reverse (Some (record { number = 0; terminal = ready_with_paid })) ≡ false
  pub logged_in : is_logged_out (known_ready payment_records).core (codes "S1") (codes "T1") ≡ false
  pub original : original_of payment_records (codes "T1") whole_reversal ≡ Some original_entry
  pub reversible : IsReversible payment_records whole_reversal original_entry (approved_with_amount 1099)
  pub number_left : is_used_up payment_records (codes "T1") (Some (record { number = 0; terminal = ready_with_paid })) ≡ false
  pub room : lacks_room 1000000 payment_records (known_ready payment_records).core ≡ false
  pub steps : has_steps (requests.Reversal whole_reversal) ≡ true
  pub begins : step_result (known_ready payment_records) header_to_reverse (requests.Reversal whole_reversal) (Some (record { number = 0; terminal = ready_with_paid })) ≡ Begins
  pub item : BeginsThere 1 header_to_reverse (requests.Reversal whole_reversal) 0 (row_of two_tills (known_ready payment_records) (AskedItem 1 (Request header_to_reverse (requests.Reversal whole_reversal))))
  pub served :
      BeginsToReverse (known_ready payment_records) 1 header_to_reverse whole_reversal 0 ready_with_paid 123
      (row_of two_tills (known_ready payment_records) (Serve 0 1 header_to_reverse (requests.Reversal whole_reversal)))

-- ---- why others may not

-- with these records the text of a reversal with this amount, on a key that is new, names an entry of the terminal that may not be reversed
pub record IsIrreversibleIn (kept : List Record) (header : Header) (text : List ℕ) (amount : Option ℕ) : Type 0 where
  pub unknown : found_for kept header ≡ None
  pub names : NamesIrreversible (known_ready kept) header (reversal_ask_of text amount)

-- no transaction of the terminal has the text; or a part is asked, or it was declined, is reversed, is a reversal, or is settled
pub record ExampleIrreversible : Type 0 where
  pub named_none : original_of payment_records (codes "T1") (reversal_ask_of (codes "000999-0001-0") None) ≡ None
  pub part : IsIrreversibleIn payment_records header_to_reverse paid_text (Some 1)
  pub declined : IsIrreversibleIn declined_records header_to_reverse (codes "000000-0000-0") None
  pub reversed : IsIrreversibleIn (ended_records (reversed_with_amount 1099)) (till_header (codes "Reversal") (codes "3")) paid_text None
  pub reversal : IsIrreversibleIn (ended_records (reversed_with_amount 1099)) (till_header (codes "Reversal") (codes "3")) (codes "000124-0018-2") None
  pub settled_one : IsIrreversibleIn settled_records header_to_reverse paid_text None

-- ---- what ends one that is served

-- the dialogue of the reversal, in this phase
abbrev pub reversing_talk : Phase → TalkFacts
reversing_talk phase = record { dialogue_kind = dialogues.Reversal; none = 0x83; command_time = 180; deadline = pos 1741342444; phase = phase }

-- the records with the reversal, which is open
abbrev pub reversing_records : List Record
reversing_records = payment_records ++ Intent reversal_intent_kept ∷ []

-- its entry
abbrev pub reversal_entry : TheEntry
reversal_entry = record { slot = 2; intent = reversal_intent_kept; result = None }

-- the terminal serves it for till 1, in this phase, with so many Acks and Nacks awaited
abbrev pub reversing_terminal : Phase → ℕ → Terminal
reversing_terminal phase awaited = record (new_terminal one_pt) { standing = Serving (Transaction 2) 123; talk = Some (reversing_talk phase); awaited = awaited; asker = Some 1 }

-- a gateway with these records, whose one terminal is this
abbrev pub known_of_terminal : List Record → Terminal → Known
known_of_terminal kept terminal =
    record (standing_known (Ready 0)) { core = record (new_core (setup_with (one_pt ∷ []))) { terminals = terminal ∷ [] }; kept = kept; moment = paid_at }

-- a status that approves 10.99, with trace number 124 and receipt number 18
abbrev pub reported_fields : Fields
reported_fields = record { result = Some 0; amount = Some 1099; trace = Some 124; receipt = Some 18; currency = None; tail = 0 }

-- its figures
abbrev pub reported_figures : Figures
reported_figures = record { number = 124; receipt = 18; amount = 1099 }

-- the command was acknowledged, and this status was the last
abbrev pub after_status : Fields → Phase
after_status fields = Begun false (with_fields no_statuses fields)

-- a completion, and an abort with the code B4
abbrev pub completed : ApduValue
completed = record { class = 0x06; instr = 0x0F; body = [] }

abbrev pub aborted_with : ℕ → ApduValue
aborted_with result_code = record { class = 0x06; instr = 0x1E; body = result_code ∷ [] }

-- the same status with the code 6C, and the one of the payment, whose trace number is the one before the reversal
abbrev pub declined_fields : Fields
declined_fields = record reported_fields { result = Some 0x6C }

abbrev pub payment_fields : Fields
payment_fields = record reported_fields { trace = Some 123; receipt = Some 17 }

-- the terminal is enquired, and has reported this status
abbrev pub enquired_terminal : Fields → Terminal
enquired_terminal fields = record (new_terminal one_pt) {
  standing = Enquiring;
  talk = Some (record (reversing_talk (after_status fields)) { dialogue_kind = dialogues.Enquiry });
  asker = Some 1;
}

-- what it reports: the reversal as approved, as declined, and the payment before it
abbrev pub report_of_reversal : Report
report_of_reversal = record { trace = 124; approved = Some reported_figures; result_code = 0 }

abbrev pub report_of_decline : Report
report_of_decline = record { trace = 124; approved = None; result_code = 0x6C }

abbrev pub report_of_payment : Report
report_of_payment = record { trace = 123; approved = Some (record { number = 123; receipt = 17; amount = 1099 }); result_code = 0 }

-- while the reversal is open the enquiry, of which this status was the last, reports this
abbrev pub ReportsOfReversal : Fields → Report → Type 0
ReportsOfReversal fields report = ReportsOfOpen (known_of_terminal reversing_records (enquired_terminal fields)) 0 completed (enquired_terminal fields) report reversal_entry

-- the reversal that is served is completed after the status that approves it, or aborted, or the enquiry reports while it is open: that it is approved, or declined, or that the payment before it is still the last transaction
pub record ExampleReversalMeans : Type 0 where
  pub entry : IsReversalAt reversing_records 2 reversal_entry
  pub above : 123 < 124
  pub approved :
      MeansAt (known_of_terminal reversing_records (reversing_terminal (after_status reported_fields) 0)) 0 completed (reversing_terminal (after_status reported_fields) 0) 2 123 (heard.Approved reported_figures)
  pub declined : MeansAt (known_of_terminal reversing_records (reversing_terminal (Begun false no_statuses) 0)) 0 (aborted_with 0xB4) (reversing_terminal (Begun false no_statuses) 0) 2 123 (heard.Declined 0xB4 None)
  pub reported : ReportsOfReversal reported_fields report_of_reversal
  pub reported_decline : ReportsOfReversal declined_fields report_of_decline
  pub unperformed : ReportsOfReversal payment_fields report_of_payment
  pub before : report_of_payment.trace ≡ reversal_entry.intent.before

-- ---- each cause of a refusal

-- a gateway with so many slots and these records, whose one terminal, `T1`, has this standing
abbrev pub known_in_slots : ℕ → List Record → Standing → Known
known_in_slots slots kept standing = let since = with_slot_count slots (since_kept kept standing) in since.known

-- there, till `S1` is logged out at `T1`
abbrev pub with_logout : Known → Known
with_logout known = record known { core = record known.core { logged_out = record { sale = codes "S1"; poi = codes "T1" } ∷ [] } }

-- there, this reversal waits for `T1` under this header, of till 2
abbrev pub with_waiting : Known → Header → ReversalAsk → Known
with_waiting known header reversal =
    record known {
      core = record known.core {
        waits = record { key = record { sale = header.sale; poi = header.poi; service = unwrap_or header.service [] }; pt = 0; till = 2; deadline = pos 1741342564; header = header; request = requests.Reversal reversal } ∷ [];
      };
    }

-- there, so many requests may wait for each terminal
abbrev pub with_line : ℕ → Known → Known
with_line line known = record known { setup = record known.setup { line = line } }

-- there, a reversal under this header has the cause of this condition
abbrev pub HasCauseIn : Known → Header → ReversalAsk → Condition → Type 0
HasCauseIn known header reversal condition = RefusesReversal known header reversal (named_terminal known.core header.poi) condition

-- the header of an end of day with the same ServiceID
abbrev pub header_of_day_there : Header
header_of_day_there = till_header (codes "Reconciliation") (codes "2")

-- the key is open, or has other content; it waits, and the same is asked for, or another amount; the terminal serves the end of day of the key; the POIID names no terminal; the till is logged out there; the text names no entry, or one that may not be reversed, as a part is asked; no trace number is left, or no room; the terminal isn't linked; and it serves another reversal, and none may wait, or one does where one may
pub record ExampleReversalCauses : Type 0 where
  pub in_progress : HasCauseIn (known_in_slots 1000000 reversing_records (Serving (Transaction 2) 123)) header_to_reverse whole_reversal InProgress
  pub other_content : HasCauseIn (known_in_slots 1000000 reversing_records (Serving (Transaction 2) 123)) header_to_reverse (reversal_ask_of paid_text (Some 1)) NotAllowed
  pub waits_again : HasCauseIn (with_waiting (known_in_slots 1000000 payment_records (Ready 123)) header_to_reverse whole_reversal) header_to_reverse whole_reversal InProgress
  pub waits_otherwise : HasCauseIn (with_waiting (known_in_slots 1000000 payment_records (Ready 123)) header_to_reverse whole_reversal) header_to_reverse (reversal_ask_of paid_text (Some 1)) NotAllowed
  pub key_of_day : HasCauseIn (known_in_slots 1000000 payment_records (Serving (EndOfDay header_of_day_there AcquirerReconciliation) 123)) header_to_reverse whole_reversal NotAllowed
  pub unconfigured : HasCauseIn (known_in_slots 1000000 payment_records (Ready 123)) (record header_to_reverse { poi = codes "T2" }) whole_reversal UnavailableDevice
  pub logged_out : HasCauseIn (with_logout (known_in_slots 1000000 payment_records (Ready 123))) header_to_reverse whole_reversal LoggedOut
  pub named_none : HasCauseIn (known_in_slots 1000000 payment_records (Ready 123)) header_to_reverse (reversal_ask_of (codes "000999-0001-0") None) NotFound
  pub irreversible : HasCauseIn (known_in_slots 1000000 payment_records (Ready 123)) header_to_reverse (reversal_ask_of paid_text (Some 1)) NotAllowed
  pub used_up : HasCauseIn (known_in_slots 1000000 payment_records (Ready 999999)) header_to_reverse whole_reversal UnavailableService
  pub no_room : HasCauseIn (known_in_slots 3 payment_records (Ready 123)) header_to_reverse whole_reversal UnavailableService
  pub unlinked : HasCauseIn (known_in_slots 4 payment_records (Unlinked None)) header_to_reverse whole_reversal UnavailableDevice
  pub busy : HasCauseIn (known_in_slots 1000000 reversing_records (Serving (Transaction 2) 123)) (till_header (codes "Reversal") (codes "3")) whole_reversal Busy
  pub full : HasCauseIn (with_line 1 (with_waiting (known_in_slots 1000000 reversing_records (Serving (Transaction 2) 123)) (till_header (codes "Reversal") (codes "4")) whole_reversal)) (till_header (codes "Reversal") (codes "3")) whole_reversal Busy

-- while the terminal serves another reversal, and one request may wait for it, a reversal does
abbrev pub ExampleReversalWaits : Type 0
ExampleReversalWaits =
    ReversalWaits (with_line 1 (known_in_slots 1000000 reversing_records (Serving (Transaction 2) 123))) (till_header (codes "Reversal") (codes "3")) whole_reversal
    (Some (record { number = 0; terminal = record (new_terminal one_pt) { standing = Serving (Transaction 2) 123 } }))

-- ---- dialogues that are to stop

-- the header of an Abort of the same till, with ServiceID 7
abbrev pub header_to_stop : Header
header_to_stop = till_header (codes "Abort") (codes "7")

-- it names the reversal
abbrev pub reversal_named : Reference
reversal_named = record { service = codes "2"; sale = None; poi = None }

-- an acknowledgement, and a refusal with the code 83
abbrev pub acknowledging : ApduValue
acknowledging = record { class = 0x80; instr = 0x00; body = [] }

abbrev pub refusing : ApduValue
refusing = record { class = 0x84; instr = 0x83; body = [] }

-- the terminal serves the reversal that the Abort names, in this phase, and has its dialogue
pub record MayStopIn (phase : Phase) (awaited : ℕ) : Type 0 where
  pub named : named_terminal (known_of_terminal reversing_records (reversing_terminal phase awaited)).core (codes "T1") ≡ Some (record { number = 0; terminal = reversing_terminal phase awaited })
  pub serves : ServesAborted (known_of_terminal reversing_records (reversing_terminal phase awaited)) 0 header_to_stop reversal_named (reversing_terminal phase awaited) (reversing_talk phase)
  pub standing_is : (reversing_terminal phase awaited).standing ≡ Serving (Transaction 2) 123
  pub dialogue : HasItsDialogue (reversing_terminal phase awaited)

-- one whose command isn't acknowledged, before and after a stop is wished; one that is begun, before and after a stop is sent; an Ack and a Nack, which may be that of the stop; and an abort with the code 6C, before the stop and after it
pub record ExampleMayStop : Type 0 where
  pub open_key : is_open_key reversing_records header_to_stop reversal_named ≡ true
  pub asked : MayStopIn (Asked false) 1
  pub wished : MayStopIn (Asked true) 1
  pub begun : MayStopIn (Begun false no_statuses) 0
  pub stopped : MayStopIn (Begun true no_statuses) 1
  pub acknowledged : decode_pt_message acknowledging ≡ Ok Ack
  pub refused : decode_pt_message refusing ≡ Ok (Nack 0x83)
  pub cancelled : MeansAt (known_of_terminal reversing_records (reversing_terminal (Begun false no_statuses) 0)) 0 (aborted_with 0x6C) (reversing_terminal (Begun false no_statuses) 0) 2 123 (heard.Declined 0x6C None)
  pub aborted : MeansAt (known_of_terminal reversing_records (reversing_terminal (Begun true no_statuses) 1)) 0 (aborted_with 0x6C) (reversing_terminal (Begun true no_statuses) 1) 2 123 (heard.Declined 0x6C None)
