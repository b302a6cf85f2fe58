-- Closed examples of reversals and stops: courses along which a played terminal reverses its payment, and is sent a stop, with what it books along them.
use Rattle.std.specs.Prelude.{ℕ, pos, true, List, [], ◌∷◌, ◌++◌, Some, None, codes}
use Rattle.gw_base.specs.declared.currency.Currency.TheVariants.{Eur}
use Rattle.gw_site.specs.declared.turn.Turn.TheVariants.{Polled, HeardTill, HeardPt, SentPt, SentTill}
use Rattle.sale_frame.specs.Grammar.{frame}
use Rattle.sale_values.specs.declared.request.ReversalAsk.{ReversalAsk}
use Rattle.sale_values.specs.declared.request.SaleRequest.TheVariants as requests
use Rattle.sale_reply.specs.declared.reply.Told.TheVariants.{ReversalApproved}
use Rattle.jrn_record.specs.declared.records.Intent.{Intent as TheIntent}
use Rattle.jrn_record.specs.declared.records.Outcome.{Outcome as TheOutcome}
use Rattle.jrn_record.specs.declared.records.Record.TheVariants.{Intent, Outcome}
use Rattle.pt_core.specs.declared.play.Play.TheVariants as play
use Rattle.pt_core.specs.Example.{acknowledgement, approval}
use Rattle.gw_owes.specs.ReadAs.{ReadAs, Request}
use Rattle.gw_owes.specs.Reply.{ReplyValue, Finished, reply_value_bytes}
use Rattle.gw_owes.specs.Replies.{header_of_reply}
use Rattle.gw_owes.specs.TerminalExample.{ack, abort}
use Rattle.gw_rules.specs.TerminalLogExample.{items_begin}
use Rattle.gw_rules.specs.View.{Move, Begin, Read, Make}
use Rattle.gw_books.specs.Kinds.{BookedReversal}
use Rattle.gw_books.specs.Books.{BookedEntry}
use Rattle.gw_books.specs.Example.{asked_course, keeping_moves, first_numbering}
use Rattle.gw_books.specs.ReversalExample.{abort_asked_course, abort_read, abort_text, reversing_header, reversing_intent, stop, stopping_moves}
use Rattle.gw_played.specs.Example.{IsPlayedAlong, first_approval, first_entry, first_payment_reply, first_unperformed, first_unperformed_reply, played_approved_course, plays_first}

-- ---- a reversal that is approved

-- a till asks with ServiceID 8 to reverse the payment that the terminal has booked with number 1
unfoldable pub first_reversal_text : List ℕ
first_reversal_text = codes "{\"SaleToPOIRequest\":{\"MessageHeader\":{\"ProtocolVersion\":\"3.0\",\"MessageClass\":\"Service\",\"MessageCategory\":\"Reversal\",\"MessageType\":\"Request\",\"ServiceID\":\"8\",\"SaleID\":\"S1\",\"POIID\":\"T1\"},\"ReversalRequest\":{\"OriginalPOITransaction\":{\"POITransactionID\":{\"TransactionID\":\"000001-0001-0\"}},\"ReversalReason\":\"MerchantCancel\"}}}"

-- what it asks
abbrev pub first_reversal_ask : ReversalAsk
first_reversal_ask = record { transaction = codes "000001-0001-0"; amount = None }

-- what it is read as
abbrev pub first_reversal_read : ReadAs
first_reversal_read = Request reversing_header (requests.Reversal first_reversal_ask)

-- its Intent
abbrev pub first_reversing_intent : TheIntent
first_reversing_intent = record reversing_intent { before = 1 }

-- the command that asks for it, by the receipt of the payment
abbrev pub reverse_first : List ℕ
reverse_first = 0x06 ∷ 0x30 ∷ 0x06 ∷ 0x12 ∷ 0x34 ∷ 0x56 ∷ 0x87 ∷ 0x00 ∷ 0x01 ∷ []

-- the entry of the reversal, which the terminal books as it hears the command, at place 38
abbrev pub second_entry : BookedEntry
second_entry = record { numbering = first_numbering; place = 39; cause = Some 38; kind = BookedReversal; number = 2; receipt = 2; amount = 1099; approved = true }

-- what the terminal sends for it after its acknowledgement: the status of that entry, and a completion
abbrev pub reversal_approval : List ℕ
reversal_approval = 0x04 ∷ 0x0F ∷ 0x10 ∷ 0x27 ∷ 0x00 ∷ 0x04 ∷ 0x00 ∷ 0x00 ∷ 0x00 ∷ 0x00 ∷ 0x10 ∷ 0x99 ∷ 0x0B ∷ 0x00 ∷ 0x00 ∷ 0x02 ∷ 0x87 ∷ 0x00 ∷ 0x02 ∷ 0x06 ∷ 0x0F ∷ 0x00 ∷ []

-- its Outcome
abbrev pub first_reversal : TheOutcome
first_reversal = record { approved = true; slot = 2; number = 2; receipt = 2; amount = 1099; condition = None; moment = pos 7 }

-- its reply
abbrev pub first_reversal_reply : ReplyValue
first_reversal_reply = Finished (header_of_reply reversing_header) (ReversalApproved (record { number = 2; receipt = 2; slot = 2; moment = pos 7 }) (record { minor = 1099; currency = Eur }))

-- after the approved payment the till asks for the reversal: the Intent is kept, and the terminal asked
abbrev pub reversal_asked_moves : List Move
reversal_asked_moves = Make (HeardTill 1 (frame first_reversal_text)) ∷ Read first_reversal_read ∷ (items_begin 2 ++ keeping_moves 2 (Intent first_reversing_intent) ++ Make (SentPt 0 reverse_first true) ∷ items_begin 2)

-- the terminal approves, the Outcome is kept, and the till gets its reply
abbrev pub reversal_approved_moves : List Move
reversal_approved_moves = Make (Polled (pos 7)) ∷ Make (HeardPt 0 (acknowledgement ++ reversal_approval)) ∷ (items_begin 4 ++ Make (SentPt 0 ack true) ∷ (items_begin 3 ++ Make (SentPt 0 ack true) ∷ Begin
    ∷ (keeping_moves 3 (Outcome first_reversal) ++ Make (SentTill 1 (reply_value_bytes first_reversal_reply) true) ∷ (items_begin 3 ++ Make (Polled (pos 8)) ∷ []))))

-- the whole course
abbrev pub played_reversed_course : List Move
played_reversed_course = played_approved_course ++ reversal_asked_moves ++ reversal_approved_moves

-- ---- a payment that is stopped and approved all the same

-- the stop is sent in a dialogue that is begun; the terminal approves: the Outcome is kept, and the till gets its reply
abbrev pub approved_all_the_same_moves : List Move
approved_all_the_same_moves = Make (Polled (pos 7)) ∷ Make (HeardPt 0 approval) ∷ Begin ∷ Make (SentPt 0 ack true) ∷ (items_begin 3 ++ Make (SentPt 0 ack true) ∷ Begin
    ∷ (keeping_moves 1 (Outcome (first_approval 7)) ++ Make (SentTill 1 (reply_value_bytes (first_payment_reply 7)) true) ∷ (items_begin 3 ++ Make (Polled (pos 8)) ∷ [])))

-- the whole course
abbrev pub played_stopped_course : List Move
played_stopped_course = abort_asked_course ++ stopping_moves ++ approved_all_the_same_moves

-- ---- a payment whose stop is wished before its command is acknowledged, and that is aborted

-- the till's Abort is read, and nothing is sent yet
abbrev pub stop_wished_moves : List Move
stop_wished_moves = Make (Polled (pos 5)) ∷ Make (HeardTill 1 (frame abort_text)) ∷ Read abort_read ∷ items_begin 4

-- the terminal acknowledges, and is sent the stop; it aborts: the Outcome is kept, and the till gets its reply
abbrev pub aborted_moves : List Move
aborted_moves = Make (Polled (pos 6)) ∷ Make (HeardPt 0 (ack ++ abort 0x6C)) ∷ (items_begin 2 ++ Make (SentPt 0 stop true) ∷ (items_begin 2 ++ Make (SentPt 0 ack true) ∷ Begin
    ∷ (keeping_moves 1 (Outcome (first_unperformed 6)) ++ Make (SentTill 1 (reply_value_bytes (first_unperformed_reply 6)) true) ∷ (items_begin 3 ++ Make (Polled (pos 7)) ∷ []))))

-- the whole course
abbrev pub played_aborted_course : List Move
played_aborted_course = asked_course ++ stop_wished_moves ++ aborted_moves

-- ---- the examples

-- A reversal of the approved payment is booked beside it, with the payment's amount. A payment that is sent a stop is booked where the terminal approves it all the same, and not where it is aborted; the stop books nothing.
pub record PlayedReversals : Type 0 where
  pub reversed : IsPlayedAlong played_reversed_course (plays_first play.Approve) (first_entry ∷ second_entry ∷ [])
  pub stopped : IsPlayedAlong played_stopped_course (plays_first play.Approve) (first_entry ∷ [])
  pub aborted : IsPlayedAlong played_aborted_course (plays_first (play.Decline 0x6C)) []
