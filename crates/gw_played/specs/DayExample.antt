-- Closed examples of ends of day and displays: courses along which a played terminal is asked for them after its payment, with what it books along them.
use Rattle.std.specs.Prelude.{ℕ, pos, true, List, [], ◌∷◌, ◌++◌, None, codes}
use Rattle.gw_site.specs.declared.turn.Turn.TheVariants.{Polled, HeardTill, HeardPt, SentPt, SentTill}
use Rattle.sale_frame.specs.Grammar.{frame}
use Rattle.sale_values.specs.declared.request.Reference.{Reference}
use Rattle.sale_values.specs.declared.request.SaleRequest.TheVariants as requests
use Rattle.jrn_record.specs.declared.records.Record.TheVariants.{Settled}
use Rattle.jrn_record.specs.declared.records.Settled.{Settled as TheSettled}
use Rattle.pt_core.specs.declared.play.Play.TheVariants as play
use Rattle.gw_owes.specs.ReadAs.{ReadAs, Request}
use Rattle.gw_owes.specs.Replies.{header_of_reply, success}
use Rattle.gw_owes.specs.Reply.{ReplyValue, Display, reply_value_bytes}
use Rattle.gw_owes.specs.TerminalExample.{ack, completion}
use Rattle.gw_rules.specs.DayLogExample.{asked_day, day_request, day_sent, display_header, hello, hello_sent, logged_settled, totals_reply}
use Rattle.gw_rules.specs.TerminalLogExample.{items_begin}
use Rattle.gw_rules.specs.View.{Move, Begin, Read, Make}
use Rattle.gw_books.specs.Example.{keeping_moves}
use Rattle.gw_books.specs.ReversalExample.{aborting_header, stop}
use Rattle.gw_played.specs.Example.{IsPlayedAlong, first_entry, played_approved_course, plays_first}

-- ---- an end of day

-- after the approved payment the till asks for an end of day: the terminal is asked
abbrev pub end_of_day_asked_moves : List Move
end_of_day_asked_moves = Make (HeardTill 1 (frame day_request)) ∷ Read asked_day ∷ (items_begin 2 ++ Make (SentPt 0 day_sent true) ∷ items_begin 2)

-- its Settled
abbrev pub first_settled : TheSettled
first_settled = record logged_settled { moment = pos 7 }

-- the terminal acknowledges and completes it: the Settled is kept, and the till gets the totals
abbrev pub end_of_day_done_moves : List Move
end_of_day_done_moves = Make (Polled (pos 7)) ∷ Make (HeardPt 0 (ack ++ completion)) ∷ (items_begin 4 ++ Make (SentPt 0 ack true) ∷ Begin
    ∷ (keeping_moves 2 (Settled first_settled) ++ Make (SentTill 1 (reply_value_bytes totals_reply) true) ∷ (items_begin 3 ++ Make (Polled (pos 8)) ∷ [])))

-- the whole course
abbrev pub played_day_course : List Move
played_day_course = played_approved_course ++ end_of_day_asked_moves ++ end_of_day_done_moves

-- ---- an end of day that is stopped

-- a till asks with ServiceID 9 to abort the end of day
unfoldable pub day_abort_text : List ℕ
day_abort_text = codes "{\"SaleToPOIRequest\":{\"MessageHeader\":{\"ProtocolVersion\":\"3.0\",\"MessageClass\":\"Service\",\"MessageCategory\":\"Abort\",\"MessageType\":\"Request\",\"ServiceID\":\"9\",\"SaleID\":\"S1\",\"POIID\":\"T1\"},\"AbortRequest\":{\"MessageReference\":{\"ServiceID\":\"2\"}}}}"

-- what it refers to
abbrev pub day_reference : Reference
day_reference = record { service = codes "2"; sale = None; poi = None }

-- what it is read as
abbrev pub asked_day_abort : ReadAs
asked_day_abort = Request aborting_header (requests.Abort day_reference)

-- the terminal has acknowledged the end of day, and is sent the stop
abbrev pub end_of_day_stopped_moves : List Move
end_of_day_stopped_moves = Make (Polled (pos 7)) ∷ Make (HeardPt 0 ack) ∷ (items_begin 5 ++ Make (Polled (pos 8)) ∷ Make (HeardTill 1 (frame day_abort_text)) ∷ Read asked_day_abort ∷ (items_begin 2 ++ Make (SentPt 0 stop true) ∷ items_begin 2))

-- its Settled
abbrev pub later_settled : TheSettled
later_settled = record logged_settled { moment = pos 9 }

-- it has completed it all the same: the Settled is kept, and the till gets the totals
abbrev pub end_of_day_completed_moves : List Move
end_of_day_completed_moves = Make (Polled (pos 9)) ∷ Make (HeardPt 0 completion) ∷ Begin ∷ Make (SentPt 0 ack true) ∷ Begin
    ∷ (keeping_moves 2 (Settled later_settled) ++ Make (SentTill 1 (reply_value_bytes totals_reply) true) ∷ (items_begin 3 ++ Make (Polled (pos 10)) ∷ []))

-- the whole course
abbrev pub played_stopped_day_course : List Move
played_stopped_day_course = played_approved_course ++ end_of_day_asked_moves ++ end_of_day_stopped_moves ++ end_of_day_completed_moves

-- ---- a display

-- a till asks with ServiceID 3 to show a text to the customer
unfoldable pub display_text : List ℕ
display_text = codes "{\"SaleToPOIRequest\":{\"MessageHeader\":{\"ProtocolVersion\":\"3.0\",\"MessageClass\":\"Device\",\"MessageCategory\":\"Display\",\"MessageType\":\"Request\",\"ServiceID\":\"3\",\"DeviceID\":\"1\",\"SaleID\":\"S1\",\"POIID\":\"T1\"},\"DisplayRequest\":{\"DisplayOutput\":[{\"Device\":\"CustomerDisplay\",\"InfoQualify\":\"Display\",\"ResponseRequiredFlag\":true,\"OutputContent\":{\"OutputFormat\":\"Text\",\"OutputText\":[{\"Text\":\"Hello\"}]}}]}}}"

-- what it is read as
abbrev pub asked_display : ReadAs
asked_display = Request display_header (requests.Display (hello ∷ []))

-- its reply: the text is shown
abbrev pub first_display_reply : ReplyValue
first_display_reply = Display (header_of_reply display_header) (record { device = codes "CustomerDisplay"; qualify = codes "Display"; verdict = success } ∷ [])

-- After the end of day the till asks for it: the terminal is asked to show it, and acknowledges that. The till gets the result.
abbrev pub display_shown_moves : List Move
display_shown_moves = Make (HeardTill 1 (frame display_text)) ∷ Read asked_display ∷ (items_begin 2 ++ Make (SentPt 0 hello_sent true) ∷ (items_begin 2 ++ Make (Polled (pos 9)) ∷ Make (HeardPt 0 ack)
    ∷ (items_begin 2 ++ Make (SentTill 1 (reply_value_bytes first_display_reply) true) ∷ (items_begin 3 ++ Make (Polled (pos 10)) ∷ []))))

-- the whole course
abbrev pub played_display_course : List Move
played_display_course = played_day_course ++ display_shown_moves

-- ---- the examples

-- An end of day books nothing, also where it is sent a stop; nor does a display.
pub record PlayedDays : Type 0 where
  pub settled : IsPlayedAlong played_day_course (plays_first play.Approve) (first_entry ∷ [])
  pub stopped : IsPlayedAlong played_stopped_day_course (plays_first play.Approve) (first_entry ∷ [])
  pub displayed : IsPlayedAlong played_display_course (plays_first play.Approve) (first_entry ∷ [])
