-- Closed examples: a payment that is approved and then reversed, with the book that is honest and agrees; one that was asked as a reversal; and one that a till aborts, which is stopped.
use Rattle.std.specs.Prelude.{◌≡◌, ℕ, pos, true, List, [], ◌∷◌, ◌++◌, Some, None, codes}
use Rattle.gw_base.specs.declared.currency.Currency.TheVariants.{Eur}
use Rattle.gw_base.specs.declared.figures.Figures.{Figures}
use Rattle.gw_base.specs.declared.key.Key.{Key}
use Rattle.gw_site.specs.Outside.{is_connected}
use Rattle.gw_site.specs.declared.turn.Turn.TheVariants.{Polled, HeardTill, HeardPt, SentPt, SentTill}
use Rattle.sale_frame.specs.Grammar.{frame}
use Rattle.sale_values.specs.Key.{key_of}
use Rattle.sale_values.specs.declared.header.Header.{Header}
use Rattle.sale_values.specs.declared.request.Reference.{Reference}
use Rattle.sale_values.specs.declared.request.ReversalAsk.{ReversalAsk}
use Rattle.sale_values.specs.declared.request.SaleRequest.TheVariants as requests
use Rattle.sale_reply.specs.declared.reply.Told.{Told as ResultBody}
use Rattle.sale_reply.specs.declared.reply.Told.TheVariants.{ReversalApproved}
use Rattle.zvt_msg.specs.Message.{Completion}
use Rattle.zvt_talk.specs.Talk.{TalkFacts}
use Rattle.zvt_talk.specs.TalkSteps.{may_send_stop}
use Rattle.jrn_record.specs.declared.records.Deal.TheVariants.{Reversal}
use Rattle.jrn_record.specs.declared.records.Intent.{Intent as TheIntent}
use Rattle.jrn_record.specs.declared.records.Outcome.{Outcome as TheOutcome}
use Rattle.jrn_record.specs.declared.records.Record.{Record}
use Rattle.jrn_record.specs.declared.records.Record.TheVariants.{Intent, Outcome}
use Rattle.gw_ledger.specs.declared.entry.Entry.{Entry as TheEntry}
use Rattle.gw_owes.specs.declared.terminal.Standing.TheVariants.{Ready}
use Rattle.gw_owes.specs.Diagnosis.{NamedTerminal, named_terminal}
use Rattle.gw_owes.specs.Items.{Message}
use Rattle.gw_owes.specs.ReadAs.{ReadAs, IsReadAs, Request}
use Rattle.gw_owes.specs.Reply.{ReplyValue, Finished, reply_value_bytes}
use Rattle.gw_owes.specs.Replies.{header_of_reply}
use Rattle.gw_owes.specs.Reversals.{original_of}
use Rattle.gw_owes.specs.Steps.{Begins, step_result}
use Rattle.gw_owes.specs.Stops.{serves_key}
use Rattle.gw_owes.specs.TerminalExample.{ack, completion}
use Rattle.gw_rules.specs.Laws.{IsLeanCourse}
use Rattle.gw_rules.specs.Lawful.{turns_of}
use Rattle.gw_rules.specs.RowExample.{terminal_setup}
use Rattle.gw_rules.specs.Scene.{known_in}
use Rattle.gw_rules.specs.TerminalLogExample.{items_begin}
use Rattle.gw_rules.specs.View.{Move, Begin, Read, Make, view_from, at_first}
use Rattle.gw_books.specs.Kinds.{BookedReversal}
use Rattle.gw_books.specs.Past.{Occasion, OfRequest, OfMessage, Approved, SentCommand, SentReply, Past}
use Rattle.gw_books.specs.Books.{BookedEntry}
use Rattle.gw_books.specs.BrokenLaws.{BreaksAgreement}
use Rattle.gw_books.specs.Example.{IsHonestAndAgrees, asked_course, entry_in_time, first_numbering, kept_approval, keeping_moves, opened_moves, paid_course, paid_entry, paid_past, paying_header, paying_intent, payment_read, payment_text, polled_linked, paid_reply}
use Rattle.gw_books.specs.Headline.{HasPast}
use Rattle.gw_books.specs.ReversalLaws.{IsBookedReversal, IsOfPaid, kept_after}
use Rattle.gw_books.specs.RoundLaws.{ComesNext, EndsRound}

-- ---- what is asked

-- a till asks with ServiceID 8 to reverse the payment of the examples
unfoldable pub reversal_text : List ℕ
reversal_text = codes "{\"SaleToPOIRequest\":{\"MessageHeader\":{\"ProtocolVersion\":\"3.0\",\"MessageClass\":\"Service\",\"MessageCategory\":\"Reversal\",\"MessageType\":\"Request\",\"ServiceID\":\"8\",\"SaleID\":\"S1\",\"POIID\":\"T1\"},\"ReversalRequest\":{\"OriginalPOITransaction\":{\"POITransactionID\":{\"TransactionID\":\"000123-0017-0\"}},\"ReversalReason\":\"MerchantCancel\"}}}"

-- its header
abbrev pub reversing_header : Header
reversing_header = record paying_header { category = codes "Reversal"; service = Some (codes "8") }

-- what it asks: the amount is that of the original
abbrev pub reversal_ask : ReversalAsk
reversal_ask = record { transaction = codes "000123-0017-0"; amount = None }

-- what it is read as
abbrev pub reversal_read : ReadAs
reversal_read = Request reversing_header (requests.Reversal reversal_ask)

-- its key
abbrev pub reversal_key : Key
reversal_key = record { sale = codes "S1"; poi = codes "T1"; service = codes "8" }

-- its Intent
abbrev pub reversing_intent : TheIntent
reversing_intent = record {
  what = Reversal;
  sale = codes "S1";
  poi = codes "T1";
  service = codes "8";
  transaction = None;
  stamp = None;
  amount = 1099;
  currency = Eur;
  before = 123;
  original = Some 0;
  moment = pos 6;
}

-- the command that asks for it, by the receipt of the payment
abbrev pub reverse : List ℕ
reverse = 0x06 ∷ 0x30 ∷ 0x06 ∷ 0x12 ∷ 0x34 ∷ 0x56 ∷ 0x87 ∷ 0x00 ∷ 0x17 ∷ []

-- ---- a reversal begins

-- after the payment the till's bytes are heard
abbrev pub reversal_heard_course : List Move
reversal_heard_course = paid_course ++ Make (HeardTill 1 (frame reversal_text)) ∷ []

-- the reversal is read and begins, its Intent is kept, and the terminal asked; then the next poll may come
abbrev pub reversing_moves : List Move
reversing_moves = Read reversal_read ∷ (items_begin 2 ++ keeping_moves 2 (Intent reversing_intent) ++ Make (SentPt 0 reverse true) ∷ items_begin 2)

-- the entry of the payment, which is its original
abbrev pub paid_original : TheEntry
paid_original = record { slot = 0; intent = paying_intent; result = Some kept_approval }

-- what is asked comes next there, at a terminal that is ready, with its original, and is due to begin
pub record ReversalRoundIsAsked : Type 0 where
  pub ends : EndsRound (turns_of reversal_heard_course) (view_from at_first reversal_heard_course) reversing_moves
  pub next : ComesNext (view_from at_first reversal_heard_course) terminal_setup (Message 1 reversal_text)
  pub there : is_connected (view_from at_first reversal_heard_course).scene.outside.tills 1 ≡ true
  pub reads : IsReadAs reversal_text reversal_read
  pub named : NamedTerminal
  pub named_is : named_terminal (view_from at_first reversal_heard_course).scene.core reversing_header.poi ≡ Some named
  pub ready : named.terminal.standing ≡ Ready 123
  pub begins : step_result (known_in (view_from at_first reversal_heard_course).scene terminal_setup) reversing_header (requests.Reversal reversal_ask) (Some named) ≡ Begins
  pub original : original_of (kept_after reversal_heard_course) reversing_header.poi reversal_ask ≡ Some paid_original

-- ---- it is approved

-- the status of a reversal of 10.99 with trace number 124 and receipt number 18
abbrev pub reversing_status : List ℕ
reversing_status =
    0x04 ∷ 0x0F ∷ 0x10 ∷ 0x27 ∷ 0x00 ∷ 0x04 ∷ 0x00 ∷ 0x00 ∷ 0x00 ∷ 0x00 ∷ 0x10 ∷ 0x99 ∷ 0x0B ∷ 0x00 ∷ 0x01 ∷ 0x24 ∷ 0x87 ∷ 0x00 ∷ 0x18 ∷ []

-- its figures
abbrev pub reversed_figures : Figures
reversed_figures = record { number = 124; receipt = 18; amount = 1099 }

-- its Outcome
abbrev pub kept_reversal : TheOutcome
kept_reversal = record { approved = true; slot = 2; number = 124; receipt = 18; amount = 1099; condition = None; moment = pos 7 }

-- its result body
abbrev pub reversed_result_body : ResultBody
reversed_result_body = ReversalApproved (record { number = 124; receipt = 18; slot = 2; moment = pos 7 }) (record { minor = 1099; currency = Eur })

-- its reply
abbrev pub reversing_reply : ReplyValue
reversing_reply = Finished (header_of_reply reversing_header) reversed_result_body

-- the terminal approves, the Outcome is kept, and the till gets its reply
abbrev pub reversed_moves : List Move
reversed_moves = Make (Polled (pos 7)) ∷ Make (HeardPt 0 (ack ++ reversing_status ++ completion)) ∷ (items_begin 4 ++ Make (SentPt 0 ack true) ∷ (items_begin 3 ++ Make (SentPt 0 ack true) ∷ Begin
    ∷ (keeping_moves 3 (Outcome kept_reversal) ++ Make (SentTill 1 (reply_value_bytes reversing_reply) true) ∷ items_begin 3)))

-- the whole course, with one poll more
abbrev pub reversed_course : List Move
reversed_course = reversal_heard_course ++ reversing_moves ++ reversed_moves ++ Make (Polled (pos 8)) ∷ []

-- the records of the payment
abbrev pub paid_kept : List Record
paid_kept = Intent paying_intent ∷ Outcome kept_approval ∷ []

-- and with those of the reversal
abbrev pub reversed_kept : List Record
reversed_kept = paid_kept ++ Intent reversing_intent ∷ Outcome kept_reversal ∷ []

-- the command, at place 38
abbrev pub reversal_command : SentCommand
reversal_command = record { place = 38; numbering = first_numbering; kind = BookedReversal; whole = true; key = Some reversal_key }

-- the reply, at place 47
abbrev pub sent_reversal : SentReply
sent_reversal = record { place = 47; bytes = reply_value_bytes reversing_reply; occasion = OfMessage 0 Completion; kept = reversed_kept; waiting = [] }

-- the till's request, for which the calls are made
abbrev pub reversal_occasion : Occasion
reversal_occasion = OfRequest reversing_header (requests.Reversal reversal_ask)

-- what has happened along it: after the payment the reversal's Intent was written, and its gate, and its command sent; the approval was heard at place 40, the Outcome was written, and its gate, and the till has its reply
abbrev pub reversed_past : Past
reversed_past = record paid_past {
  place = 49;
  heard = 40;
  commands = reversal_command ∷ paid_past.commands;
  ends = record { place = 40; numbering = first_numbering; ending = Approved 38 reversed_figures } ∷ paid_past.ends;
  replies = sent_reversal ∷ paid_past.replies;
  polls = polled_linked 48 reversed_kept ∷ polled_linked 39 (paid_kept ++ Intent reversing_intent ∷ []) ∷ paid_past.polls;
  deeds = OfMessage 0 Completion ∷ OfMessage 0 Completion ∷ reversal_occasion ∷ reversal_occasion ∷ reversal_occasion ∷ paid_past.deeds;
}

-- the log is lawful, and this has happened along it
abbrev pub ReversedHasPast : Type 0
ReversedHasPast = HasPast (turns_of reversed_course) reversed_past

-- its entry, which is in the book before the approval is heard
abbrev pub reversed_entry : BookedEntry
reversed_entry = record { numbering = first_numbering; place = 40; cause = Some 38; kind = BookedReversal; number = 124; receipt = 18; amount = 1099; approved = true }

-- the entries of both
abbrev pub reversed_book : List BookedEntry
reversed_book = paid_entry ∷ reversed_entry ∷ []

-- the book with both is honest and agrees
abbrev pub ReversedAgrees : Type 0
ReversedAgrees = IsHonestAndAgrees reversed_past reversed_book

-- the entry of the reversal
abbrev pub reversal_kept : TheEntry
reversal_kept = record { slot = 2; intent = reversing_intent; result = Some kept_reversal }

-- along the course the second entry is the one that reverses the payment, which is booked too
pub record ReversedIsBooked : Type 0 where
  pub lean : IsLeanCourse (turns_of reversed_course) reversed_course
  pub reversed : IsBookedReversal (kept_after reversed_course) reversed_past 0 reversed_entry
  pub reversal_is : reversed.reversal ≡ reversal_kept
  pub paid : IsOfPaid (kept_after reversed_course) reversed_past reversed_book 0 reversal_kept

-- ---- a payment that was asked as a reversal

-- the Intent of the payment is kept, and then the terminal is sent the reversal of a receipt
abbrev pub misasked_course : List Move
misasked_course = opened_moves ++ Make (Polled (pos 4)) ∷ Make (HeardTill 1 (frame payment_text)) ∷ Read payment_read ∷ (items_begin 2 ++ keeping_moves 0 (Intent paying_intent) ++ Make (SentPt 0 reverse true) ∷ [])

-- a success of the payment doesn't agree with the approved entry of that command, which is a reversal
abbrev pub ReversalIsNoPayment : Type 0
ReversalIsNoPayment = BreaksAgreement (misasked_course ++ Make (SentTill 1 (reply_value_bytes paid_reply) true) ∷ []) (record entry_in_time { kind = BookedReversal } ∷ [])

-- ---- a stop

-- a till asks with ServiceID 9 to abort the payment of the examples
unfoldable pub abort_text : List ℕ
abort_text = codes "{\"SaleToPOIRequest\":{\"MessageHeader\":{\"ProtocolVersion\":\"3.0\",\"MessageClass\":\"Service\",\"MessageCategory\":\"Abort\",\"MessageType\":\"Request\",\"ServiceID\":\"9\",\"SaleID\":\"S1\",\"POIID\":\"T1\"},\"AbortRequest\":{\"MessageReference\":{\"ServiceID\":\"7\"}}}}"

-- its header
abbrev pub aborting_header : Header
aborting_header = record paying_header { category = codes "Abort"; service = Some (codes "9") }

-- what it refers to
abbrev pub abort_reference : Reference
abort_reference = record { service = codes "7"; sale = None; poi = None }

-- what it is read as
abbrev pub abort_read : ReadAs
abort_read = Request aborting_header (requests.Abort abort_reference)

-- `06 B0` without data
abbrev pub stop : List ℕ
stop = 0x06 ∷ 0xB0 ∷ 0x00 ∷ []

-- the terminal has acknowledged the command of the payment, and the till's Abort is heard
abbrev pub abort_asked_course : List Move
abort_asked_course = asked_course ++ Make (Polled (pos 5)) ∷ Make (HeardPt 0 ack) ∷ (items_begin 5 ++ Make (Polled (pos 6)) ∷ Make (HeardTill 1 (frame abort_text)) ∷ [])

-- it is read, and the stop is sent; then the next poll may come
abbrev pub stopping_moves : List Move
stopping_moves = Read abort_read ∷ (items_begin 2 ++ Make (SentPt 0 stop true) ∷ items_begin 2)

-- the Abort comes next there, of the key that the terminal serves in a dialogue that is begun, without a stop yet
pub record AbortedRoundIsStopped : Type 0 where
  pub ends : EndsRound (turns_of abort_asked_course) (view_from at_first abort_asked_course) stopping_moves
  pub next : ComesNext (view_from at_first abort_asked_course) terminal_setup (Message 1 abort_text)
  pub there : is_connected (view_from at_first abort_asked_course).scene.outside.tills 1 ≡ true
  pub reads : IsReadAs abort_text abort_read
  pub named : NamedTerminal
  pub named_is : named_terminal (view_from at_first abort_asked_course).scene.core (key_of aborting_header abort_reference).poi ≡ Some named
  pub served : serves_key (kept_after abort_asked_course) (key_of aborting_header abort_reference) named.terminal ≡ true
  pub talk : TalkFacts
  pub talk_is : named.terminal.talk ≡ Some talk
  pub may_stop : may_send_stop talk.phase ≡ true
