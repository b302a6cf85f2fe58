-- A closed example of a payment that waits while its terminal serves an end of day: it is in progress, is begun once that is done, and is approved; and what a till may not be sent of such keys.
use Rattle.std.specs.List.{list_all}
use Rattle.std.specs.Prelude.{◌≡◌, pos, true, List, [], ◌∷◌, ◌++◌, Some, None, codes}
use Rattle.gw_base.specs.declared.condition.Condition.TheVariants.{Aborted, InProgress}
use Rattle.gw_base.specs.declared.currency.Currency.TheVariants.{Eur}
use Rattle.gw_base.specs.declared.setup.Setup.{Setup}
use Rattle.gw_site.specs.declared.turn.Turn.TheVariants.{Polled, Opened, HeardTill, HeardPt, Linked, SentPt, SentTill}
use Rattle.sale_frame.specs.Grammar.{frame}
use Rattle.sale_values.specs.declared.request.SaleRequest.{SaleRequest}
use Rattle.sale_values.specs.declared.request.SaleRequest.TheVariants as requests
use Rattle.sale_reply.specs.declared.reply.PoiMark.{PoiMark}
use Rattle.sale_reply.specs.declared.reply.Told.{Told as ResultBody}
use Rattle.sale_reply.specs.declared.reply.Told.TheVariants.{PaymentApproved}
use Rattle.zvt_msg.specs.Message.{Completion}
use Rattle.jrn_record.specs.declared.records.Intent.{Intent as TheIntent}
use Rattle.jrn_record.specs.declared.records.Outcome.{Outcome as TheOutcome}
use Rattle.jrn_record.specs.declared.records.Record.{Record}
use Rattle.jrn_record.specs.declared.records.Record.TheVariants.{Intent, Outcome, Settled}
use Rattle.gw_owes.specs.ReadAs.{Request}
use Rattle.gw_owes.specs.Reply.{ReplyValue, Finished, reply_value_bytes}
use Rattle.gw_owes.specs.Replies.{header_of_reply, failure_reply}
use Rattle.gw_owes.specs.TerminalExample.{ack, completion, abort, approved_status, enquiry_sent}
use Rattle.gw_rules.specs.DayLogExample.{day_key, logged_settled}
use Rattle.gw_rules.specs.Example.{began_moves}
use Rattle.gw_rules.specs.Lawful.{turns_of}
use Rattle.gw_rules.specs.RowExample.{register_bytes, terminal_setup}
use Rattle.gw_rules.specs.TerminalLogExample.{items_begin}
use Rattle.gw_rules.specs.View.{Move, Begin, Read, Make}
use Rattle.gw_books.specs.Agrees.{in_progress_agrees}
use Rattle.gw_books.specs.Books.{BookedEntry}
use Rattle.gw_books.specs.BrokenLaws.{BreaksAgreement}
use Rattle.gw_books.specs.Example.{payment_text, paying_header, payment_read, payment_key, paying_intent, authorise, keeping_moves, first_numbering, payment_command, payment_occasion, asked_past, polled_linked, kept_approval, paid_entry, IsHonestAndAgrees}
use Rattle.gw_books.specs.Headline.{HasPast}
use Rattle.gw_books.specs.Past.{OfRequest, OfMessage, SentCommand, Approved, SentReply, Past}
use Rattle.gw_books.specs.ReversalExample.{aborting_header}
use Rattle.gw_books.specs.SaidLaws.{said_by_reply}
use Rattle.book_examples.specs.DayExample.{asked_day_moves, none_settled_reply, settled_course}
use Rattle.book_examples.specs.DisagreeExample.{status_asking_header}
use Rattle.book_examples.specs.Example.{progress_reply}

-- ---- the course

-- a gateway with one terminal, for which one request may wait
abbrev pub queued_setup : Setup
queued_setup = record terminal_setup { line = 1 }

-- its terminal is linked and registers; its enquiry reports that there is no last transaction
abbrev pub queued_ready_moves : List Move
queued_ready_moves =
    began_moves queued_setup ++ Make (Polled (pos 0)) ∷ (items_begin 2 ++ Make (Linked 0) ∷ Make (SentPt 0 register_bytes true) ∷ Make (Polled (pos 1)) ∷ Make (HeardPt 0 (ack ++ completion))
    ∷ (items_begin 4 ++ Make (SentPt 0 ack true) ∷ Begin ∷ Make (SentPt 0 enquiry_sent true)
    ∷ (items_begin 3 ++ Make (Polled (pos 2)) ∷ Make (HeardPt 0 (ack ++ abort 0x64)) ∷ (items_begin 4 ++ Make (SentPt 0 ack true) ∷ items_begin 4))))

-- a till opens
abbrev pub queued_opened_moves : List Move
queued_opened_moves = Make (Polled (pos 3)) ∷ Make (Opened 1) ∷ items_begin 2

-- while the terminal serves the till's end of day, the till asks for a payment: it waits
abbrev pub queued_asked_moves : List Move
queued_asked_moves = Make (Polled (pos 5)) ∷ Make (HeardTill 1 (frame payment_text)) ∷ Read payment_read ∷ items_begin 4

-- it asks for it again: the payment is in progress
abbrev pub queued_again_moves : List Move
queued_again_moves = Make (Polled (pos 5)) ∷ Make (HeardTill 1 (frame payment_text)) ∷ Read payment_read ∷ Begin ∷ Make (SentTill 1 (reply_value_bytes progress_reply) true) ∷ items_begin 3

-- its Intent
abbrev pub queued_intent : TheIntent
queued_intent = record paying_intent { moment = pos 6 }

-- the end of day is done: the Settled is kept, and the till gets the totals; then the payment is begun: its Intent is kept, and the command sent
abbrev pub queued_begun_moves : List Move
queued_begun_moves =
    Make (Polled (pos 6)) ∷ Make (HeardPt 0 (ack ++ completion)) ∷ (items_begin 4 ++ Make (SentPt 0 ack true) ∷ Begin
    ∷ (keeping_moves 0 (Settled logged_settled) ++ Make (SentTill 1 (reply_value_bytes none_settled_reply) true) ∷ Begin
    ∷ (keeping_moves 1 (Intent queued_intent) ++ Make (SentPt 0 authorise true) ∷ items_begin 3)))

-- the numbers of its reply
abbrev pub queued_mark : PoiMark
queued_mark = record { number = 123; receipt = 17; slot = 1; moment = pos 7 }

-- its result body
abbrev pub queued_result_body : ResultBody
queued_result_body = PaymentApproved (codes "X1") (codes "2026-11-27T12:00:00Z") queued_mark 1099 (record { minor = 1099; currency = Eur })

-- its reply
abbrev pub queued_reply : ReplyValue
queued_reply = Finished (header_of_reply paying_header) queued_result_body

-- its Outcome
abbrev pub queued_approval : TheOutcome
queued_approval = record kept_approval { slot = 1; moment = pos 7 }

-- the terminal approves, the Outcome is kept, and the till gets its reply
abbrev pub queued_paid_moves : List Move
queued_paid_moves = Make (Polled (pos 7)) ∷ Make (HeardPt 0 (ack ++ approved_status ++ completion)) ∷ (items_begin 4 ++ Make (SentPt 0 ack true) ∷ (items_begin 3 ++ Make (SentPt 0 ack true) ∷ Begin
    ∷ (keeping_moves 2 (Outcome queued_approval) ++ Make (SentTill 1 (reply_value_bytes queued_reply) true) ∷ (items_begin 3 ++ Make (Polled (pos 8)) ∷ []))))

-- the course until the payment waits
abbrev pub queued_waits_course : List Move
queued_waits_course = queued_ready_moves ++ queued_opened_moves ++ asked_day_moves ++ queued_asked_moves

-- the whole course, with one poll more
abbrev pub queued_course : List Move
queued_course = queued_ready_moves ++ queued_opened_moves ++ asked_day_moves ++ queued_asked_moves ++ queued_again_moves ++ queued_begun_moves ++ queued_paid_moves

-- ---- what has happened

-- the command, at place 36
abbrev pub queued_command : SentCommand
queued_command = record payment_command { place = 36 }

-- the records once it is approved
abbrev pub queued_records : List Record
queued_records = Settled logged_settled ∷ Intent queued_intent ∷ Outcome queued_approval ∷ []

-- while it waits its key is one of those that wait, and so is that of the end of day
abbrev pub queued_progress : SentReply
queued_progress = record { place = 23; bytes = reply_value_bytes progress_reply; occasion = payment_occasion; kept = []; waiting = payment_key ∷ day_key ∷ [] }

-- the totals
abbrev pub queued_totals : SentReply
queued_totals = record { place = 31; bytes = reply_value_bytes none_settled_reply; occasion = OfMessage 0 Completion; kept = Settled logged_settled ∷ []; waiting = payment_key ∷ [] }

-- the success
abbrev pub queued_success : SentReply
queued_success = record { place = 45; bytes = reply_value_bytes queued_reply; occasion = OfMessage 0 Completion; kept = queued_records; waiting = [] }

-- what the till was sent, the newest first
abbrev pub queued_replies : List SentReply
queued_replies = queued_success ∷ queued_totals ∷ queued_progress ∷ []

-- what has happened along the course: what was done for the payment was done for the till's request, though it had waited
abbrev pub queued_past : Past
queued_past = record asked_past {
  place = 47;
  heard = 38;
  commands = queued_command ∷ [];
  ends = record { place = 38; numbering = first_numbering; ending = Approved 36 (record { number = 123; receipt = 17; amount = 1099 }) } ∷ asked_past.ends;
  replies = queued_replies;
  polls = polled_linked 46 queued_records ∷ polled_linked 37 (Settled logged_settled ∷ Intent queued_intent ∷ []) ∷ polled_linked 24 [] ∷ polled_linked 21 [] ∷ polled_linked 19 [] ∷ asked_past.polls;
  deeds = OfMessage 0 Completion ∷ OfMessage 0 Completion ∷ payment_occasion ∷ payment_occasion ∷ payment_occasion ∷ OfMessage 0 Completion ∷ OfMessage 0 Completion ∷ [];
}

-- the log is lawful, and this has happened along it
abbrev pub QueuedHasPast : Type 0
QueuedHasPast = HasPast (turns_of queued_course) queued_past

-- its entry
abbrev pub queued_entry : BookedEntry
queued_entry = record paid_entry { place = 38; cause = Some 36 }

-- the book with this entry is honest and agrees
abbrev pub QueuedAgrees : Type 0
QueuedAgrees = IsHonestAndAgrees queued_past (queued_entry ∷ [])

-- ---- what a till may not be sent

-- a till aborts the payment with ServiceID 7
abbrev pub aborting_payment : SaleRequest
aborting_payment = requests.Abort (record { service = codes "7"; sale = None; poi = None })

-- the payment is taken out, and gets a Failure; then it is asked for again, and is said to be in progress before it waits again
abbrev pub taken_out_course : List Move
taken_out_course = queued_waits_course ++ Make (Polled (pos 6)) ∷ Make (HeardTill 1 (frame (0 ∷ []))) ∷ Read (Request aborting_header aborting_payment) ∷ Begin ∷ Begin
    ∷ Make (SentTill 1 (reply_value_bytes (failure_reply paying_header Aborted)) true) ∷ (items_begin 3 ++ Make (Polled (pos 7)) ∷ Make (HeardTill 1 (frame (0 ∷ []))) ∷ Read payment_read ∷ Begin ∷ Make (SentTill 1 (reply_value_bytes progress_reply) true) ∷ [])

-- that doesn't agree
abbrev pub TakenOutDisagrees : Type 0
TakenOutDisagrees = BreaksAgreement taken_out_course []

-- a status asks about the end of day
abbrev pub day_status : SaleRequest
day_status = requests.Status (Some (record { service = codes "2"; sale = None; poi = None }))

-- what a status gets of a key that is in progress
abbrev pub day_progress_reply : ReplyValue
day_progress_reply = failure_reply status_asking_header InProgress

-- once the end of day of the example is over, it is said to be in progress
abbrev pub over_course : List Move
over_course = settled_course ++ Make (HeardTill 1 (frame (0 ∷ []))) ∷ Read (Request status_asking_header day_status) ∷ Begin ∷ Make (SentTill 1 (reply_value_bytes day_progress_reply) true) ∷ []

-- a status may get that an end of day is in progress while it is served, and not once it is over
pub record DayIsInProgress : Type 0 where
  pub served :
      list_all (in_progress_agrees asked_past [] (record { place = 20; bytes = reply_value_bytes day_progress_reply; occasion = OfRequest status_asking_header day_status; kept = []; waiting = day_key ∷ [] })) (said_by_reply day_progress_reply)
      ≡ true
  pub over : BreaksAgreement over_course []
