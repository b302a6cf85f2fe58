-- A closed example of an end of day and a display: what has happened along the course, and the book that is honest for it and agrees.
use Rattle.std.specs.Prelude.{ℕ, pos, true, List, [], ◌∷◌, ◌++◌, codes}
use Rattle.gw_base.specs.declared.condition.Condition.TheVariants.{InProgress}
use Rattle.gw_base.specs.declared.currency.Currency.TheVariants.{Eur}
use Rattle.gw_site.specs.declared.turn.Turn.TheVariants.{Polled, HeardTill, HeardPt, SentPt, SentTill}
use Rattle.sale_frame.specs.Grammar.{frame}
use Rattle.sale_values.specs.declared.names.Period.TheVariants.{AcquirerReconciliation}
use Rattle.sale_values.specs.declared.request.Output.{Output}
use Rattle.sale_values.specs.declared.request.SaleRequest.TheVariants as requests
use Rattle.sale_reply.specs.declared.reply.Told.TheVariants.{Reconciled}
use Rattle.zvt_msg.specs.Message.{Ack, Completion, Intermediate}
use Rattle.jrn_record.specs.declared.records.Record.{Record}
use Rattle.jrn_record.specs.declared.records.Record.TheVariants.{Settled}
use Rattle.gw_owes.specs.ReadAs.{ReadAs, Request}
use Rattle.gw_owes.specs.Reply.{ReplyValue, Finished, reply_value_bytes}
use Rattle.gw_owes.specs.Replies.{header_of_reply, failure_reply}
use Rattle.gw_owes.specs.TerminalExample.{ack, completion}
use Rattle.gw_rules.specs.DayLogExample.{day_request, day_header, day_key, asked_day, day_sent, intermediate, shown_status, logged_settled, hello, hello_cashier, display_header, hello_sent, hello_reply}
use Rattle.gw_rules.specs.Lawful.{turns_of}
use Rattle.gw_rules.specs.TerminalLogExample.{items_begin}
use Rattle.gw_rules.specs.View.{Move, Begin, Read, Make}
use Rattle.gw_books.specs.Example.{opened_moves, keeping_moves, asked_past, polled_linked, IsHonestAndAgrees}
use Rattle.gw_books.specs.Headline.{HasPast}
use Rattle.gw_books.specs.Past.{Occasion, OfRequest, OfMessage, SentReply, Past}

-- ---- the course

-- the till asks for an end of day, and the terminal is asked
abbrev pub asked_day_moves : List Move
asked_day_moves = Make (Polled (pos 4)) ∷ Make (HeardTill 1 (frame day_request)) ∷ Read asked_day ∷ (items_begin 2 ++ Make (SentPt 0 day_sent true) ∷ items_begin 2)

-- the reply to the same request, while the end of day is served
abbrev pub served_day_reply : ReplyValue
served_day_reply = failure_reply day_header InProgress

-- the till asks for it again: it is in progress
abbrev pub served_day_moves : List Move
served_day_moves = Make (Polled (pos 5)) ∷ Make (HeardTill 1 (frame day_request)) ∷ Read asked_day ∷ Begin ∷ Make (SentTill 1 (reply_value_bytes served_day_reply) true) ∷ items_begin 2

-- the reply with the totals, of no payment
abbrev pub none_settled_reply : ReplyValue
none_settled_reply = Finished (header_of_reply day_header) (Reconciled AcquirerReconciliation Eur (0, 0) (0, 0))

-- the terminal acknowledges it, says an intermediate status, which the till is asked to show, and completes it: the Settled is kept, and the till gets the totals
abbrev pub completed_day_moves : List Move
completed_day_moves =
    Make (Polled (pos 6)) ∷ Make (HeardPt 0 (ack ++ intermediate ++ completion)) ∷ (items_begin 4 ++ Make (SentPt 0 ack true) ∷ Begin ∷ Make (SentTill 1 (reply_value_bytes shown_status) true) ∷ Begin ∷ Begin ∷ Make (SentPt 0 ack true) ∷ Begin
    ∷ (keeping_moves 0 (Settled logged_settled) ++ Make (SentTill 1 (reply_value_bytes none_settled_reply) true) ∷ items_begin 3))

-- what is to be shown
abbrev pub hello_outputs : List Output
hello_outputs = hello_cashier ∷ hello ∷ []

-- a till asks to show it, with ServiceID 3
unfoldable pub hello_text : List ℕ
hello_text = codes "{\"SaleToPOIRequest\":{\"MessageHeader\":{\"ProtocolVersion\":\"3.0\",\"MessageClass\":\"Device\",\"MessageCategory\":\"Display\",\"MessageType\":\"Request\",\"ServiceID\":\"3\",\"DeviceID\":\"1\",\"SaleID\":\"S1\",\"POIID\":\"T1\"},\"DisplayRequest\":{\"DisplayOutput\":[{\"Device\":\"CashierDisplay\",\"InfoQualify\":\"Display\",\"ResponseRequiredFlag\":true,\"OutputContent\":{\"OutputFormat\":\"Text\",\"OutputText\":[{\"Text\":\"Hello\"}]}},{\"Device\":\"CustomerDisplay\",\"InfoQualify\":\"Display\",\"ResponseRequiredFlag\":true,\"OutputContent\":{\"OutputFormat\":\"Text\",\"OutputText\":[{\"Text\":\"Hello\"}]}}]}}}"

-- what it is read as
abbrev pub asked_hello : ReadAs
asked_hello = Request display_header (requests.Display hello_outputs)

-- the terminal is asked to show it
abbrev pub asked_hello_moves : List Move
asked_hello_moves = Make (Polled (pos 7)) ∷ Make (HeardTill 1 (frame hello_text)) ∷ Read asked_hello ∷ (items_begin 2 ++ Make (SentPt 0 hello_sent true) ∷ items_begin 2)

-- it acknowledges that, and the till gets the results
abbrev pub shown_hello_moves : List Move
shown_hello_moves = Make (Polled (pos 8)) ∷ Make (HeardPt 0 ack) ∷ (items_begin 2 ++ Make (SentTill 1 (reply_value_bytes hello_reply) true) ∷ items_begin 3)

-- the whole course, with one poll more
abbrev pub settled_course : List Move
settled_course = opened_moves ++ asked_day_moves ++ served_day_moves ++ completed_day_moves ++ asked_hello_moves ++ shown_hello_moves ++ Make (Polled (pos 9)) ∷ []

-- ---- what has happened

-- the end of day is the till's request
abbrev pub day_occasion : Occasion
day_occasion = OfRequest day_header (requests.Reconciliation AcquirerReconciliation)

-- the records once it is settled
abbrev pub records_settled : List Record
records_settled = Settled logged_settled ∷ []

-- while it is served its key is one of those that wait
abbrev pub sent_served : SentReply
sent_served = record { place = 21; bytes = reply_value_bytes served_day_reply; occasion = day_occasion; kept = []; waiting = day_key ∷ [] }

-- the device request
abbrev pub sent_status : SentReply
sent_status = record { place = 25; bytes = reply_value_bytes shown_status; occasion = OfMessage 0 (Intermediate 0x0A); kept = []; waiting = day_key ∷ [] }

-- the totals
abbrev pub sent_totals : SentReply
sent_totals = record { place = 31; bytes = reply_value_bytes none_settled_reply; occasion = OfMessage 0 Completion; kept = records_settled; waiting = [] }

-- the results of the display
abbrev pub sent_results : SentReply
sent_results = record { place = 37; bytes = reply_value_bytes hello_reply; occasion = OfMessage 0 Ack; kept = records_settled; waiting = [] }

-- what the till was sent, the newest first
abbrev pub settled_replies : List SentReply
settled_replies = sent_results ∷ sent_totals ∷ sent_status ∷ sent_served ∷ []

-- what has happened along the course: no command that may charge a card was sent, and no dialogue has ended with an entry
abbrev pub settled_past : Past
settled_past = record asked_past {
  place = 39;
  heard = 36;
  commands = [];
  replies = settled_replies;
  polls = polled_linked 38 records_settled ∷ polled_linked 35 records_settled ∷ polled_linked 32 records_settled ∷ polled_linked 22 [] ∷ polled_linked 19 [] ∷ asked_past.polls;
  deeds = OfMessage 0 Completion ∷ OfMessage 0 Completion ∷ [];
}

-- the log is lawful, and this has happened along it
abbrev pub SettledHasPast : Type 0
SettledHasPast = HasPast (turns_of settled_course) settled_past

-- the book without an entry is honest and agrees
abbrev pub SettledAgrees : Type 0
SettledAgrees = IsHonestAndAgrees settled_past []
