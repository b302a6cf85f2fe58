-- Closed examples: courses of payments that are approved and declined, and what has happened along them.
use Rattle.std.specs.Prelude.{◌≡◌, ◌<◌, ℕ, pos, true, false, List, [], ◌∷◌, ◌++◌, Some, None, codes}
use Rattle.gw_base.specs.declared.condition.Condition.TheVariants.{Cancel}
use Rattle.gw_base.specs.declared.currency.Currency.TheVariants.{Eur}
use Rattle.gw_base.specs.declared.figures.Figures.{Figures}
use Rattle.gw_base.specs.declared.key.Key.{Key}
use Rattle.gw_site.specs.Outside.{is_connected}
use Rattle.gw_site.specs.declared.turn.Turn.TheVariants.{Polled, Opened, HeardTill, HeardPt, SentPt, SentTill, Synced}
use Rattle.sale_frame.specs.Grammar.{frame}
use Rattle.sale_values.specs.declared.header.Header.{Header}
use Rattle.sale_values.specs.declared.names.Class.TheVariants as classes
use Rattle.sale_values.specs.declared.names.Kind.TheVariants as kinds
use Rattle.sale_values.specs.declared.request.PaymentAsk.{PaymentAsk}
use Rattle.sale_values.specs.declared.request.SaleRequest.TheVariants as requests
use Rattle.sale_reply.specs.declared.reply.PoiMark.{PoiMark}
use Rattle.sale_reply.specs.declared.reply.Told.{Told as ResultBody}
use Rattle.sale_reply.specs.declared.reply.Told.TheVariants.{PaymentApproved, PaymentDeclined}
use Rattle.zvt_msg.specs.Message.{Abort, Completion}
use Rattle.zvt_talk.specs.declared.meaning.Heard.TheVariants as heard
use Rattle.jrn_log.specs.JournalTurns.{body_write, gate_write}
use Rattle.jrn_record.specs.declared.records.Deal.TheVariants.{Payment}
use Rattle.jrn_record.specs.declared.records.Intent.{Intent as TheIntent}
use Rattle.jrn_record.specs.declared.records.Outcome.{Outcome as TheOutcome}
use Rattle.jrn_record.specs.declared.records.Record.{Record}
use Rattle.jrn_record.specs.declared.records.Record.TheVariants.{Intent, Outcome}
use Rattle.jrn_record.specs.Grammar.{record_body}
use Rattle.gw_owes.specs.declared.terminal.Standing.TheVariants.{Ready}
use Rattle.gw_owes.specs.declared.terminal.Terminal.{Terminal}
use Rattle.gw_owes.specs.Diagnosis.{NamedTerminal, named_terminal}
use Rattle.gw_owes.specs.Items.{Message, Handle}
use Rattle.gw_owes.specs.PaymentLaws.{MeansAt}
use Rattle.gw_owes.specs.ReadAs.{ReadAs, IsReadAs, Request}
use Rattle.gw_owes.specs.Reply.{ReplyValue, Finished, reply_value_bytes}
use Rattle.gw_owes.specs.Replies.{header_of_reply}
use Rattle.gw_owes.specs.Steps.{Begins, step_result}
use Rattle.gw_owes.specs.TerminalExample.{ack, completion, abort, approved_status}
use Rattle.gw_rules.specs.CutCauseExample.{completion_apdu}
use Rattle.gw_rules.specs.Lawful.{turns_of}
use Rattle.gw_rules.specs.RowExample.{terminal_setup}
use Rattle.gw_rules.specs.Scene.{known_in}
use Rattle.gw_rules.specs.TerminalLogExample.{items_begin, enquired_course}
use Rattle.gw_rules.specs.View.{Move, Begin, Read, Make, view_from, at_first}
use Rattle.gw_books.specs.Kinds.{BookedPayment}
use Rattle.gw_books.specs.Past.{Numbering, Occasion, OfRequest, OfMessage, OfNothing, Approved, Declined, Reported, SentCommand, MadeLink, SentReply, MadePoll, Past}
use Rattle.gw_books.specs.Books.{BookedEntry, Honest}
use Rattle.gw_books.specs.Agrees.{Agrees}
use Rattle.gw_books.specs.RoundLaws.{ComesNext, EndsRound}

-- ---- what is asked

-- a till asks to pay 10.99 with ServiceID 7
unfoldable pub payment_text : List ℕ
payment_text = codes "{\"SaleToPOIRequest\":{\"MessageHeader\":{\"ProtocolVersion\":\"3.0\",\"MessageClass\":\"Service\",\"MessageCategory\":\"Payment\",\"MessageType\":\"Request\",\"ServiceID\":\"7\",\"SaleID\":\"S1\",\"POIID\":\"T1\"},\"PaymentRequest\":{\"SaleData\":{\"SaleTransactionID\":{\"TransactionID\":\"X1\",\"TimeStamp\":\"2026-11-27T12:00:00Z\"}},\"PaymentTransaction\":{\"AmountsReq\":{\"Currency\":\"EUR\",\"RequestedAmount\":10.99}}}}}"

-- its header
abbrev pub paying_header : Header
paying_header = record { class = classes.Service; category = codes "Payment"; kind = kinds.Request; service = Some (codes "7"); device = None; sale = codes "S1"; poi = codes "T1" }

-- what it asks
abbrev pub payment_ask : PaymentAsk
payment_ask = record { transaction = codes "X1"; stamp = codes "2026-11-27T12:00:00Z"; currency = codes "EUR"; amount = 1099; kind = None }

-- what it is read as
abbrev pub payment_read : ReadAs
payment_read = Request paying_header (requests.Payment payment_ask)

-- its key
abbrev pub payment_key : Key
payment_key = record { sale = codes "S1"; poi = codes "T1"; service = codes "7" }

-- its Intent
abbrev pub paying_intent : TheIntent
paying_intent = record {
  what = Payment;
  sale = codes "S1";
  poi = codes "T1";
  service = codes "7";
  transaction = Some (codes "X1");
  stamp = Some (codes "2026-11-27T12:00:00Z");
  amount = 1099;
  currency = Eur;
  before = 0;
  original = None;
  moment = pos 4;
}

-- the command that asks for it
abbrev pub authorise : List ℕ
authorise = 0x06 ∷ 0x01 ∷ 0x0A ∷ 0x04 ∷ 0x00 ∷ 0x00 ∷ 0x00 ∷ 0x00 ∷ 0x10 ∷ 0x99 ∷ 0x49 ∷ 0x09 ∷ 0x78 ∷ []

-- ---- courses

-- a record is kept in this slot
abbrev pub keeping_moves : ℕ → Record → List Move
keeping_moves slot the_record = Make (body_write slot (record_body the_record)) ∷ Make Synced ∷ Make (gate_write slot) ∷ Make Synced ∷ []

-- the terminal is linked and registers; its enquiry reports that there is no last transaction
abbrev pub ready_moves : List Move
ready_moves = enquired_course ++ Make (Polled (pos 2)) ∷ Make (HeardPt 0 (ack ++ abort 0x64)) ∷ (items_begin 4 ++ Make (SentPt 0 ack true) ∷ items_begin 4)

-- a till opens
abbrev pub opened_moves : List Move
opened_moves = ready_moves ++ Make (Polled (pos 3)) ∷ Make (Opened 1) ∷ items_begin 2

-- it asks for the payment: the Intent is kept, and the command sent
abbrev pub asked_moves : List Move
asked_moves = Make (Polled (pos 4)) ∷ Make (HeardTill 1 (frame payment_text)) ∷ Read payment_read ∷ (items_begin 2 ++ keeping_moves 0 (Intent paying_intent) ++ Make (SentPt 0 authorise true) ∷ items_begin 2)

-- until then
abbrev pub asked_course : List Move
asked_course = opened_moves ++ asked_moves

-- the book is honest for what has happened, and agrees with it
pub record IsHonestAndAgrees (past : Past) (book : List BookedEntry) : Type 0 where
  pub honest : Honest past book
  pub agrees : Agrees past book

-- ---- a payment begins

-- the numbering of the terminal
abbrev pub first_numbering : Numbering
first_numbering = record { poi = codes "T1" }

-- its link, at place 5
abbrev pub first_link : MadeLink
first_link = record { place = 5; numbering = first_numbering; records = 0 }

-- the command, at place 22
abbrev pub payment_command : SentCommand
payment_command = record { place = 22; numbering = first_numbering; kind = BookedPayment; whole = true; key = Some payment_key }

-- the till's request, for which the calls are made
abbrev pub payment_occasion : Occasion
payment_occasion = OfRequest paying_header (requests.Payment payment_ask)

-- the site is polled while the terminal is linked, with these records kept
abbrev pub polled_linked : ℕ → List Record → MadePoll
polled_linked place kept = record { place = place; links = first_link ∷ []; kept = kept }

-- what has happened until the command is sent: the enquiry has reported no transaction; the Intent was written, and its gate, and the command is sent
abbrev pub asked_past : Past
asked_past = record {
  place = 23;
  occasion = OfNothing;
  heard = 12;
  commands = payment_command ∷ [];
  links = first_link ∷ [];
  lasting = first_link ∷ [];
  ends = record { place = 12; numbering = first_numbering; ending = Reported 0 None } ∷ [];
  replies = [];
  polls = polled_linked 16 [] ∷ polled_linked 14 [] ∷ polled_linked 11 [] ∷ polled_linked 7 [] ∷ record { place = 4; links = []; kept = [] } ∷ [];
  deeds = payment_occasion ∷ payment_occasion ∷ payment_occasion ∷ [];
}

-- ---- an approved payment

-- the numbers of its reply
abbrev pub approved_mark : PoiMark
approved_mark = record { number = 123; receipt = 17; slot = 0; moment = pos 5 }

-- its result body
abbrev pub paid_result_body : ResultBody
paid_result_body = PaymentApproved (codes "X1") (codes "2026-11-27T12:00:00Z") approved_mark 1099 (record { minor = 1099; currency = Eur })

-- its reply
abbrev pub paid_reply : ReplyValue
paid_reply = Finished (header_of_reply paying_header) paid_result_body

-- its Outcome
abbrev pub kept_approval : TheOutcome
kept_approval = record { approved = true; slot = 0; number = 123; receipt = 17; amount = 1099; condition = None; moment = pos 5 }

-- the terminal approves, the Outcome is kept, and the till gets its reply
abbrev pub paid_moves : List Move
paid_moves = Make (Polled (pos 5)) ∷ Make (HeardPt 0 (ack ++ approved_status ++ completion)) ∷ (items_begin 4 ++ Make (SentPt 0 ack true) ∷ (items_begin 3 ++ Make (SentPt 0 ack true) ∷ Begin
    ∷ (keeping_moves 1 (Outcome kept_approval) ++ Make (SentTill 1 (reply_value_bytes paid_reply) true) ∷ items_begin 3)))

-- the whole course, with one poll more
abbrev pub paid_course : List Move
paid_course = asked_course ++ paid_moves ++ Make (Polled (pos 6)) ∷ []

-- the reply, at place 31
abbrev pub sent_success : SentReply
sent_success = record { place = 31; bytes = reply_value_bytes paid_reply; occasion = OfMessage 0 Completion; kept = Intent paying_intent ∷ Outcome kept_approval ∷ []; waiting = [] }

-- what has happened along it: the approval was heard at place 24, the Outcome was written, and its gate, and the till has its reply
abbrev pub paid_past : Past
paid_past = record asked_past {
  place = 33;
  heard = 24;
  ends = record { place = 24; numbering = first_numbering; ending = Approved 22 (record { number = 123; receipt = 17; amount = 1099 }) } ∷ asked_past.ends;
  replies = sent_success ∷ [];
  polls = polled_linked 32 (Intent paying_intent ∷ Outcome kept_approval ∷ []) ∷ polled_linked 23 (Intent paying_intent ∷ []) ∷ asked_past.polls;
  deeds = OfMessage 0 Completion ∷ OfMessage 0 Completion ∷ asked_past.deeds;
}

-- its entry, which is in the book before the approval is heard
abbrev pub paid_entry : BookedEntry
paid_entry = record { numbering = first_numbering; place = 24; cause = Some 22; kind = BookedPayment; number = 123; receipt = 17; amount = 1099; approved = true }

-- the same, just after the command
abbrev pub entry_in_time : BookedEntry
entry_in_time = record paid_entry { place = 23 }

-- an older entry of the same terminal, with this trace number
abbrev pub older_entry : ℕ → BookedEntry
older_entry number = record paid_entry { place = 0; cause = None; number = number }

-- the figures of the payment
abbrev pub paid_figures : Figures
paid_figures = record { number = 123; receipt = 17; amount = 1099 }

-- ---- a declined payment

-- its result body
abbrev pub refused_result : ResultBody
refused_result = PaymentDeclined (codes "X1") (codes "2026-11-27T12:00:00Z") (record { number = 0; receipt = 0; slot = 0; moment = pos 5 }) Cancel

-- its reply
abbrev pub refusal_reply : ReplyValue
refusal_reply = Finished (header_of_reply paying_header) refused_result

-- its Outcome
abbrev pub kept_decline : TheOutcome
kept_decline = record { approved = false; slot = 0; number = 0; receipt = 0; amount = 0; condition = Some Cancel; moment = pos 5 }

-- the terminal declines, the Outcome is kept, and the till gets its reply
abbrev pub refused_moves : List Move
refused_moves = Make (Polled (pos 5)) ∷ Make (HeardPt 0 (ack ++ abort 0x6C)) ∷ (items_begin 4 ++ Make (SentPt 0 ack true) ∷ Begin
    ∷ (keeping_moves 1 (Outcome kept_decline) ++ Make (SentTill 1 (reply_value_bytes refusal_reply) true) ∷ items_begin 3))

-- the whole course, with one poll more
abbrev pub refused_course : List Move
refused_course = asked_course ++ refused_moves ++ Make (Polled (pos 6)) ∷ []

-- the reply, at place 30
abbrev pub sent_refusal : SentReply
sent_refusal = record { place = 30; bytes = reply_value_bytes refusal_reply; occasion = OfMessage 0 (Abort (Some 0x6C)); kept = Intent paying_intent ∷ Outcome kept_decline ∷ []; waiting = [] }

-- what has happened along it
abbrev pub refused_past : Past
refused_past = record asked_past {
  place = 32;
  heard = 24;
  ends = record { place = 24; numbering = first_numbering; ending = Declined 22 None } ∷ asked_past.ends;
  replies = sent_refusal ∷ [];
  polls = polled_linked 31 (Intent paying_intent ∷ Outcome kept_decline ∷ []) ∷ polled_linked 23 (Intent paying_intent ∷ []) ∷ asked_past.polls;
  deeds = OfMessage 0 (Abort (Some 0x6C)) ∷ OfMessage 0 (Abort (Some 0x6C)) ∷ asked_past.deeds;
}

-- ---- rounds

-- the till's bytes are heard
abbrev pub heard_moves : List Move
heard_moves = Make (Polled (pos 4)) ∷ Make (HeardTill 1 (frame payment_text)) ∷ []

-- until then
abbrev pub heard_course : List Move
heard_course = opened_moves ++ heard_moves

-- the payment is read and begins, its Intent is kept, and the terminal asked; then the next poll may come
abbrev pub beginning_moves : List Move
beginning_moves = Read payment_read ∷ (items_begin 2 ++ keeping_moves 0 (Intent paying_intent) ++ Make (SentPt 0 authorise true) ∷ items_begin 2)

-- what is asked comes next there, at a terminal that is ready, and is due to begin
pub record PaidRoundIsAsked : Type 0 where
  pub ends : EndsRound (turns_of heard_course) (view_from at_first heard_course) beginning_moves
  pub next : ComesNext (view_from at_first heard_course) terminal_setup (Message 1 payment_text)
  pub there : is_connected (view_from at_first heard_course).scene.outside.tills 1 ≡ true
  pub reads : IsReadAs payment_text payment_read
  pub named : NamedTerminal
  pub named_is : named_terminal (view_from at_first heard_course).scene.core paying_header.poi ≡ Some named
  pub ready : named.terminal.standing ≡ Ready 0
  pub begins : step_result (known_in (view_from at_first heard_course).scene terminal_setup) paying_header (requests.Payment payment_ask) (Some named) ≡ Begins

-- the terminal's messages are heard, and acknowledged
abbrev pub completing_moves : List Move
completing_moves = Make (Polled (pos 5)) ∷ Make (HeardPt 0 (ack ++ approved_status ++ completion)) ∷ (items_begin 4 ++ Make (SentPt 0 ack true) ∷ (items_begin 3 ++ Make (SentPt 0 ack true) ∷ []))

-- until then
abbrev pub completed_course : List Move
completed_course = asked_course ++ completing_moves

-- the Completion is handled: the Outcome is kept, and the till gets its reply; then the next poll may come
abbrev pub replying_moves : List Move
replying_moves = Begin ∷ (keeping_moves 1 (Outcome kept_approval) ++ Make (SentTill 1 (reply_value_bytes paid_reply) true) ∷ items_begin 3)

-- the Completion comes next there, and means that the payment of slot 0 is approved, with a trace number above the one before
pub record PaidRoundIsSaid : Type 0 where
  pub ends : EndsRound (turns_of completed_course) (view_from at_first completed_course) replying_moves
  pub next : ComesNext (view_from at_first completed_course) terminal_setup (Handle 0 completion_apdu)
  pub terminal : Terminal
  pub means : MeansAt (known_in (view_from at_first completed_course).scene terminal_setup) 0 completion_apdu terminal 0 0 (heard.Approved (record { number = 123; receipt = 17; amount = 1099 }))
  pub above : 0 < 123

-- the terminal's Abort is heard, and acknowledged
abbrev pub aborting_moves : List Move
aborting_moves = Make (Polled (pos 5)) ∷ Make (HeardPt 0 (ack ++ abort 0x6C)) ∷ (items_begin 4 ++ Make (SentPt 0 ack true) ∷ [])

-- until then
abbrev pub abort_heard_course : List Move
abort_heard_course = asked_course ++ aborting_moves

-- it is handled: the Outcome is kept, and the till gets its reply; then the next poll may come
abbrev pub refusing_moves : List Move
refusing_moves = Begin ∷ (keeping_moves 1 (Outcome kept_decline) ++ Make (SentTill 1 (reply_value_bytes refusal_reply) true) ∷ items_begin 3)

-- the Abort comes next there, and means that the payment of slot 0 is declined
pub record RefusedRoundIsSaid : Type 0 where
  pub ends : EndsRound (turns_of abort_heard_course) (view_from at_first abort_heard_course) refusing_moves
  pub next : ComesNext (view_from at_first abort_heard_course) terminal_setup (Handle 0 (record { class = 0x06; instr = 0x1E; body = 0x6C ∷ [] }))
  pub terminal : Terminal
  pub means : MeansAt (known_in (view_from at_first abort_heard_course).scene terminal_setup) 0 (record { class = 0x06; instr = 0x1E; body = 0x6C ∷ [] }) terminal 0 0 (heard.Declined 0x6C None)
