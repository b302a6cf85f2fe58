-- Example logs of a payment, from the start on: one that is begun, and one whose key stays open as the terminal's link is lost, until the terminal reports. Each is along a course that the checker computes.
use Rattle.std.specs.Prelude.{◌≡◌, ℕ, pos, true, List, [], ◌∷◌, ◌++◌, None, codes}
use Rattle.sale_frame.specs.Grammar.{frame}
use Rattle.gw_site.specs.declared.turn.Turn.{Turn}
use Rattle.gw_site.specs.declared.turn.Turn.TheVariants.{Polled, Opened, HeardTill, HeardPt, Lost, Linked, SentTill, SentPt, Synced, Stopped}
use Rattle.sale_values.specs.declared.request.SaleRequest.TheVariants as requests
use Rattle.jrn_log.specs.JournalTurns.{body_write, gate_write}
use Rattle.jrn_record.specs.Grammar.{record_body}
use Rattle.jrn_record.specs.declared.records.Intent.{Intent as TheIntent}
use Rattle.jrn_record.specs.declared.records.Outcome.{Outcome as TheOutcome}
use Rattle.jrn_record.specs.declared.records.Record.{Record}
use Rattle.jrn_record.specs.declared.records.Record.TheVariants.{Intent, Outcome}
use Rattle.gw_owes.specs.PaymentExample.{till_header, ask_of, paid_header, intent_after}
use Rattle.gw_owes.specs.ReadAs.{ReadAs, Request}
use Rattle.gw_owes.specs.Reply.{ReplyValue, Finished, reply_value_bytes}
use Rattle.gw_owes.specs.TerminalExample.{ack, completion, abort, approved_status, enquiry_sent}
use Rattle.gw_owes.specs.declared.terminal.Standing.TheVariants.{Ready}
use Rattle.sale_reply.specs.declared.reply.Told.{Told as ResultBody}
use Rattle.sale_reply.specs.declared.reply.Told.TheVariants.{PaymentApproved}
use Rattle.gw_base.specs.declared.currency.Currency.TheVariants.{Eur}
use Rattle.gw_rules.specs.RowExample.{register_bytes}
use Rattle.gw_rules.specs.TerminalLogExample.{items_begin, enquired_log, enquired_course, LeavesStanding}
use Rattle.gw_rules.specs.View.{Move, Begin, Read, Make, view_from, at_first}

-- ---- what the till asks, and what is kept

-- a payment of 10.99 euros with ServiceID 1, in bytes
unfoldable pub payment_request : List ℕ
payment_request = codes "{\"SaleToPOIRequest\":{\"MessageHeader\":{\"ProtocolVersion\":\"3.0\",\"MessageClass\":\"Service\",\"MessageCategory\":\"Payment\",\"MessageType\":\"Request\",\"ServiceID\":\"1\",\"SaleID\":\"S1\",\"POIID\":\"T1\"},\"PaymentRequest\":{\"SaleData\":{\"SaleTransactionID\":{\"TransactionID\":\"27908\",\"TimeStamp\":\"2025-03-07T10:11:04+00:00\"}},\"PaymentTransaction\":{\"AmountsReq\":{\"Currency\":\"EUR\",\"RequestedAmount\":10.99}},\"PaymentData\":{\"PaymentType\":\"Normal\"}}}}"

-- as it is read
abbrev pub asked_payment : ReadAs
asked_payment = Request (till_header (codes "Payment") (codes "1")) (requests.Payment (ask_of 1099))

-- its Intent, of the moment 3
abbrev pub logged_intent : TheIntent
logged_intent = record (intent_after 0) { moment = pos 3 }

-- its Outcome, of this moment
abbrev pub logged_outcome : ℕ → TheOutcome
logged_outcome moment = record { approved = true; slot = 0; number = 123; receipt = 17; amount = 1099; condition = None; moment = pos moment }

-- the result that its till gets
abbrev pub logged_result : ℕ → ResultBody
logged_result moment = PaymentApproved (codes "27908") (codes "2025-03-07T10:11:04+00:00") (record { number = 123; receipt = 17; slot = 0; moment = pos moment }) 1099 (record { minor = 1099; currency = Eur })

-- the reply with it
abbrev pub logged_reply : ℕ → ReplyValue
logged_reply moment = Finished (paid_header (codes "1")) (logged_result moment)

-- the command of the payment, as it is sent
abbrev pub authorise_sent : List ℕ
authorise_sent = 0x06 ∷ 0x01 ∷ 0x0A ∷ 0x04 ∷ 0x00 ∷ 0x00 ∷ 0x00 ∷ 0x00 ∷ 0x10 ∷ 0x99 ∷ 0x49 ∷ 0x09 ∷ 0x78 ∷ []

-- the turns that keep a record in this slot
abbrev pub keep_turns : ℕ → Record → List Turn
keep_turns slot the_record = body_write slot (record_body the_record) ∷ Synced ∷ gate_write slot ∷ Synced ∷ []

-- their moves
abbrev pub keep_moves : ℕ → Record → List Move
keep_moves slot the_record = Make (body_write slot (record_body the_record)) ∷ Make Synced ∷ Make (gate_write slot) ∷ Make Synced ∷ []

-- ---- a payment begins

-- the enquiry is acknowledged, and the terminal has no last transaction
abbrev pub ready_none_log : List Turn
ready_none_log = enquired_log ++ Polled (pos 2) ∷ HeardPt 0 (ack ++ abort 0x64) ∷ SentPt 0 ack true ∷ []

-- its course
abbrev pub ready_none_course : List Move
ready_none_course = enquired_course ++ Make (Polled (pos 2)) ∷ Make (HeardPt 0 (ack ++ abort 0x64)) ∷ (items_begin 4 ++ Make (SentPt 0 ack true) ∷ items_begin 4)

-- a till opens, and asks for the payment: the Intent is kept, and then the terminal is asked
abbrev pub begun_log : List Turn
begun_log = Polled (pos 3) ∷ Opened 1 ∷ Polled (pos 3) ∷ HeardTill 1 (frame payment_request) ∷ (keep_turns 0 (Intent logged_intent) ++ SentPt 0 authorise_sent true ∷ [])

-- its course: the message is read and begins, and then the item with which the terminal begins to serve it, before those that may be due
abbrev pub begun_course : List Move
begun_course =
    Make (Polled (pos 3)) ∷ Make (Opened 1) ∷ (items_begin 2 ++ Make (Polled (pos 3)) ∷ Make (HeardTill 1 (frame payment_request)) ∷ Read asked_payment ∷ Begin ∷ Begin ∷ (keep_moves 0 (Intent logged_intent) ++ Make (SentPt 0 authorise_sent true) ∷ items_begin 2))

-- ---- its key stays open until the terminal reports

-- The terminal's link is lost as it serves the payment: five seconds later it is linked again, registers and is enquired.
abbrev pub enquired_again_log : List Turn
enquired_again_log =
    Polled (pos 4) ∷ Lost 0 ∷ Polled (pos 9) ∷ Linked 0 ∷ SentPt 0 register_bytes true ∷ Polled (pos 10) ∷ HeardPt 0 (ack ++ completion) ∷ SentPt 0 ack true ∷ SentPt 0 enquiry_sent true ∷ []

-- its course
abbrev pub enquired_again_course : List Move
enquired_again_course =
    Make (Polled (pos 4)) ∷ Make (Lost 0) ∷ (items_begin 3 ++ Make (Polled (pos 9)) ∷ (items_begin 2 ++ Make (Linked 0) ∷ Make (SentPt 0 register_bytes true) ∷ Make (Polled (pos 10)) ∷ Make (HeardPt 0 (ack ++ completion)) ∷ (items_begin 4 ++ Make (SentPt 0 ack true) ∷ Begin ∷ Make (SentPt 0 enquiry_sent true) ∷ items_begin 3)))

-- It reports that its last transaction is approved, and this is the payment: the Outcome is kept, and then the till gets its reply.
abbrev pub resolved_log : List Turn
resolved_log =
    Polled (pos 11) ∷ HeardPt 0 (ack ++ approved_status ++ completion) ∷ SentPt 0 ack true ∷ SentPt 0 ack true ∷ (keep_turns 1 (Outcome (logged_outcome 11)) ++ SentTill 1 (reply_value_bytes (logged_reply 11)) true ∷ Polled (pos 12) ∷ Stopped ∷ [])

-- its course
abbrev pub resolved_course : List Move
resolved_course =
    Make (Polled (pos 11)) ∷ Make (HeardPt 0 (ack ++ approved_status ++ completion)) ∷ (items_begin 4 ++ Make (SentPt 0 ack true) ∷ (items_begin 3 ++ Make (SentPt 0 ack true) ∷ Begin ∷ (keep_moves 1 (Outcome (logged_outcome 11)) ++ Make (SentTill 1 (reply_value_bytes (logged_reply 11)) true) ∷ (items_begin 3 ++ Make (Polled (pos 12)) ∷ Make Stopped ∷ []))))

-- the whole course
abbrev pub lost_and_resolved_course : List Move
lost_and_resolved_course = ready_none_course ++ begun_course ++ enquired_again_course ++ resolved_course

-- the log is lawful; the terminal is ready with the payment's trace number, and both records are kept
pub record ResolvedIsLawful : Type 0 where
  pub leaves : LeavesStanding (ready_none_log ++ begun_log ++ enquired_again_log ++ resolved_log) lost_and_resolved_course (Ready 123)
  pub kept_is : (view_from at_first lost_and_resolved_course).scene.kept ≡ Intent logged_intent ∷ Outcome (logged_outcome 11) ∷ []
