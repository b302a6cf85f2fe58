-- The example log of a recovery: the power fails once a payment's command was sent, and in a later run the terminal reports that the payment was approved. It is along a course that the checker computes.
use Rattle.std.specs.Prelude.{◌≡◌, ℕ, pos, true, List, [], ◌∷◌, ◌++◌, Some, None, codes}
use Rattle.sale_frame.specs.Grammar.{frame}
use Rattle.gw_base.specs.declared.condition.Condition.TheVariants.{InProgress}
use Rattle.gw_site.specs.declared.turn.Turn.{Turn}
use Rattle.gw_site.specs.declared.turn.Turn.TheVariants.{Start, Polled, Opened, HeardTill, HeardPt, Linked, SentTill, SentPt, Synced, Crash, Stopped}
use Rattle.sale_values.specs.declared.request.SaleRequest.TheVariants as requests
use Rattle.jrn_record.specs.Grammar.{record_body}
use Rattle.jrn_record.specs.declared.records.Record.TheVariants.{Intent, Outcome}
use Rattle.gw_owes.specs.PaymentExample.{till_header, paid_header}
use Rattle.gw_owes.specs.ReadAs.{ReadAs, Request}
use Rattle.gw_owes.specs.Replies.{header_of_reply, failure_reply}
use Rattle.gw_owes.specs.Reply.{ReplyValue, Repeated, reply_value_bytes}
use Rattle.gw_owes.specs.TerminalExample.{ack, completion, approved_status, enquiry_sent}
use Rattle.gw_owes.specs.declared.terminal.Standing.TheVariants.{Ready}
use Rattle.gw_rules.specs.PaymentLogExample.{logged_intent, logged_outcome, logged_result, keep_turns, keep_moves, ready_none_log, ready_none_course, begun_log, begun_course}
use Rattle.gw_rules.specs.RowExample.{terminal_setup, register_bytes}
use Rattle.gw_rules.specs.TerminalLogExample.{items_begin, LeavesStanding}
use Rattle.gw_rules.specs.View.{View, Move, Begin, Read, Make, view_from, at_first}

-- ---- what the till asks

-- a till asks, with ServiceID 2, for the status of the payment with ServiceID 1
unfoldable pub open_status_request : List ℕ
open_status_request = codes "{\"SaleToPOIRequest\":{\"MessageHeader\":{\"ProtocolVersion\":\"3.0\",\"MessageClass\":\"Service\",\"MessageCategory\":\"TransactionStatus\",\"MessageType\":\"Request\",\"ServiceID\":\"2\",\"SaleID\":\"S1\",\"POIID\":\"T1\"},\"TransactionStatusRequest\":{\"MessageReference\":{\"ServiceID\":\"1\"}}}}"

-- the same with ServiceID 3
unfoldable pub resolved_status_request : List ℕ
resolved_status_request = codes "{\"SaleToPOIRequest\":{\"MessageHeader\":{\"ProtocolVersion\":\"3.0\",\"MessageClass\":\"Service\",\"MessageCategory\":\"TransactionStatus\",\"MessageType\":\"Request\",\"ServiceID\":\"3\",\"SaleID\":\"S1\",\"POIID\":\"T1\"},\"TransactionStatusRequest\":{\"MessageReference\":{\"ServiceID\":\"1\"}}}}"

-- as it is read, by its ServiceID
abbrev pub asked_status : List ℕ → ReadAs
asked_status service = Request (till_header (codes "TransactionStatus") service) (requests.Status (Some (record { service = codes "1"; sale = None; poi = None })))

-- the payment is in progress
abbrev pub open_status_reply : ReplyValue
open_status_reply = failure_reply (till_header (codes "TransactionStatus") (codes "2")) InProgress

-- the reply to the payment, of the moment 6, is repeated
abbrev pub resolved_status_reply : ReplyValue
resolved_status_reply = Repeated (header_of_reply (till_header (codes "TransactionStatus") (codes "3"))) (paid_header (codes "1")) (logged_result 6)

-- ---- a later run

-- the file with the payment's Intent, and the closed gate after it
abbrev pub intent_file : List ℕ
intent_file = 165 ∷ (record_body (Intent logged_intent) ++ 0 ∷ [])

-- the power fails once the command was sent, and leaves that file; a run begins on it, and the terminal is linked
abbrev pub later_run_log : List Turn
later_run_log = Crash intent_file ∷ Start terminal_setup ∷ Synced ∷ Polled (pos 4) ∷ Linked 0 ∷ SentPt 0 register_bytes true ∷ []

-- its course
abbrev pub later_run_course : List Move
later_run_course = Make (Crash intent_file) ∷ Make (Start terminal_setup) ∷ Make Synced ∷ Make (Polled (pos 4)) ∷ (items_begin 2 ++ Make (Linked 0) ∷ Make (SentPt 0 register_bytes true) ∷ [])

-- a till asks for the payment's status, which is in progress
abbrev pub open_status_log : List Turn
open_status_log = Polled (pos 4) ∷ Opened 2 ∷ Polled (pos 4) ∷ HeardTill 2 (frame open_status_request) ∷ SentTill 2 (reply_value_bytes open_status_reply) true ∷ []

-- its course
abbrev pub open_status_course : List Move
open_status_course =
    Make (Polled (pos 4)) ∷ Make (Opened 2) ∷ (items_begin 2 ++ Make (Polled (pos 4)) ∷ Make (HeardTill 2 (frame open_status_request)) ∷ Read (asked_status (codes "2")) ∷ Begin ∷ Make (SentTill 2 (reply_value_bytes open_status_reply) true) ∷ items_begin 2)

-- the terminal is registered, and enquired
abbrev pub enquired_later_log : List Turn
enquired_later_log = Polled (pos 5) ∷ HeardPt 0 (ack ++ completion) ∷ SentPt 0 ack true ∷ SentPt 0 enquiry_sent true ∷ Polled (pos 6) ∷ []

-- its course
abbrev pub enquired_later_course : List Move
enquired_later_course = Make (Polled (pos 5)) ∷ Make (HeardPt 0 (ack ++ completion)) ∷ (items_begin 4 ++ Make (SentPt 0 ack true) ∷ Begin ∷ Make (SentPt 0 enquiry_sent true) ∷ (items_begin 3 ++ Make (Polled (pos 6)) ∷ []))

-- ---- the terminal reports

-- the log up to there
abbrev pub open_log : List Turn
open_log = ready_none_log ++ begun_log ++ later_run_log ++ open_status_log ++ enquired_later_log

-- its course
abbrev pub open_course : List Move
open_course = ready_none_course ++ begun_course ++ later_run_course ++ open_status_course ++ enquired_later_course

-- the view at its end
abbrev pub open_view : View
open_view = view_from at_first open_course

-- the terminal acknowledges the enquiry, and reports that its last transaction is approved
abbrev pub report_bytes : List ℕ
report_bytes = ack ++ approved_status ++ completion

-- that is the payment: the Outcome is kept; no till waits for it in this run
abbrev pub resolved_later_log : List Turn
resolved_later_log = HeardPt 0 report_bytes ∷ SentPt 0 ack true ∷ SentPt 0 ack true ∷ keep_turns 1 (Outcome (logged_outcome 6))

-- the moves after what it says
abbrev pub resolving_moves : List Move
resolving_moves = items_begin 4 ++ Make (SentPt 0 ack true) ∷ (items_begin 3 ++ Make (SentPt 0 ack true) ∷ Begin ∷ (keep_moves 1 (Outcome (logged_outcome 6)) ++ items_begin 3))

-- ---- the till asks again

-- the till asks for the payment's status again, and the reply to the payment is repeated
abbrev pub resolved_status_log : List Turn
resolved_status_log = Polled (pos 7) ∷ HeardTill 2 (frame resolved_status_request) ∷ SentTill 2 (reply_value_bytes resolved_status_reply) true ∷ Polled (pos 8) ∷ Stopped ∷ []

-- its course
abbrev pub resolved_status_course : List Move
resolved_status_course =
    Make (Polled (pos 7)) ∷ Make (HeardTill 2 (frame resolved_status_request)) ∷ Read (asked_status (codes "3")) ∷ Begin ∷ Make (SentTill 2 (reply_value_bytes resolved_status_reply) true) ∷ (items_begin 2 ++ Make (Polled (pos 8)) ∷ Make Stopped ∷ [])

-- the whole log
abbrev pub recovery_log : List Turn
recovery_log = open_log ++ resolved_later_log ++ resolved_status_log

-- its course
abbrev pub recovery_course : List Move
recovery_course = open_course ++ Make (HeardPt 0 report_bytes) ∷ (resolving_moves ++ resolved_status_course)

-- The log is lawful. In the first run the Intent is kept, which the later run has as it begins; at the end both records are kept, and the terminal is ready with the payment's trace number.
pub record RecoveryIsLawful : Type 0 where
  pub leaves : LeavesStanding recovery_log recovery_course (Ready 123)
  pub open_is : open_view.scene.kept ≡ Intent logged_intent ∷ []
  pub kept_is : (view_from at_first recovery_course).scene.kept ≡ Intent logged_intent ∷ Outcome (logged_outcome 6) ∷ []
