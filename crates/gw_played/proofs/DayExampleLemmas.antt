-- The examples of played terminals with ends of day and displays, by computing.
use Rattle.std.proofs.Common.{◌≡◌, Bool, true, List, [], ◌∷◌, ◌++◌, refl, arith}
use Rattle.std.specs.Prelude.{ℕ, bytes_eq, codes}
use Rattle.std.specs.Str.{chars}
use Rattle.zvt_apdu.specs.DecodeStream.{decode_apdus, decode_apdus_within}
use Rattle.zvt_bmp.specs.Decode.{decode_field_value, decode_status, decode_status_field, decode_status_within}
use Rattle.zvt_msg.specs.declared.command.Command.TheVariants as commands
use Rattle.zvt_msg.specs.CommandDecode.{decode_command, decode_display_lines}
use Rattle.zvt_msg.specs.MessageDecode.{decode_pt_message}
use Rattle.jrn_record.specs.declared.records.Record.TheVariants.{Settled}
use Rattle.xlate.specs.Display.{show_lines}
use Rattle.gw_ledger.specs.History.{history}
use Rattle.pt_core.specs.declared.play.Play.TheVariants as play
use Rattle.pt_core.specs.Exchange.{Sends, Hears, HearsSent}
use Rattle.gw_owes.specs.Calls.{Ask, Acknowledge, WriteBody, WriteGate}
use Rattle.gw_owes.specs.Reconciliations.{day_command}
use Rattle.gw_owes.specs.TerminalExample.{ack, completion}
use Rattle.gw_rules.specs.DayLogExample.{day_request, day_sent, hello_sent, totals_reply}
use Rattle.gw_rules.specs.Lawful.{IsCourse, IsChunk, turns_of}
use Rattle.gw_rules.specs.Laws.{IsLeanCourse}
use Rattle.gw_rules.specs.RowExample.{example_pt}
use Rattle.gw_rules.specs.View.{View, view_from, at_first}
use Rattle.gw_rules.proofs.CourseLemmas.{course-append}
use Rattle.gw_rules.proofs.DayTextLemmas.{day-chunk, day-read}
use Rattle.gw_rules.proofs.TextLemmas.{bytes-tested}
use Rattle.gw_books.specs.Example.{asked_course, first_link, payment_text}
use Rattle.gw_books.specs.Past.{past_of}
use Rattle.gw_books.specs.ReversalExample.{stop}
use Rattle.gw_books.proofs.CourseLemmas.{asked-lawful}
use Rattle.gw_played.specs.DayExample.{PlayedDays, day_abort_text, display_shown_moves, display_text, end_of_day_asked_moves, end_of_day_completed_moves, end_of_day_done_moves, end_of_day_stopped_moves, first_display_reply, first_settled, later_settled, played_day_course, played_display_course, played_stopped_day_course}
use Rattle.gw_played.specs.Example.{approved_moves, first_entry, played_approved_course, plays_first}
use Rattle.gw_played.specs.Played.{PlacedExchange, exchanges_in, exchanges_of, book_along}
use Rattle.gw_played.proofs.DayExampleTextLemmas.{day-abort-chunk, day-abort-read, display-chunk, display-read}
use Rattle.gw_played.proofs.PlayedExampleLemmas.{all-linked, approved_exchanges, approving-lawful, booked-by, exchanged, lean-tested, played-by}

-- ---- the course is lawful, and lean

completed-chunk : IsChunk (ack ++ completion)
completed-chunk = record { count = (omega arith, omega arith); bytes = bytes-tested (ack ++ completion) refl }

ack-chunk : IsChunk ack
ack-chunk = record { count = (omega arith, omega arith); bytes = bytes-tested ack refl }

completion-chunk : IsChunk completion
completion-chunk = record { count = (omega arith, omega arith); bytes = bytes-tested completion refl }

abbrev approved_view : View
approved_view = view_from at_first played_approved_course

day-asked-lawful : IsCourse approved_view end_of_day_asked_moves
unfolding decode_apdus decode_apdus_within decode_pt_message decode_status decode_status_within decode_status_field decode_field_value history payment_text day_request
day-asked-lawful = ((record { polled = refl; connected_is = refl }, day-chunk), (record { idle = record { round = refl; calls = refl }; waits = refl; bytes = day_request; message = refl; reads = day-read }, (record { idle = record { round = refl; calls = refl }; first = refl }, (record { idle = record { round = refl; calls = refl }; first = refl }, ((Ask (day_command example_pt), refl, refl), (record { idle = record { round = refl; calls = refl }; first = refl }, (record { idle = record { round = refl; calls = refl }; first = refl }, tt)))))))

day-done-lawful : IsCourse (view_from approved_view end_of_day_asked_moves) end_of_day_done_moves
unfolding decode_apdus decode_apdus_within decode_pt_message decode_status decode_status_within decode_status_field decode_field_value history payment_text day_request
day-done-lawful = (record { running = refl; calls = refl; items = refl }, ((record { polled = refl; connected_is = refl }, completed-chunk), (record { idle = record { round = refl; calls = refl }; first = refl }, (record { idle = record { round = refl; calls = refl }; first = refl }, (record { idle = record { round = refl; calls = refl }; first = refl }, (record { idle = record { round = refl; calls = refl }; first = refl }, ((Acknowledge, refl, refl), (record { idle = record { round = refl; calls = refl }; first = refl }, ((WriteBody 2 (Settled first_settled), refl, refl), (refl, ((WriteGate 2 (Settled first_settled), refl, refl), (refl, ((totals_reply, refl, refl), (record { idle = record { round = refl; calls = refl }; first = refl }, (record { idle = record { round = refl; calls = refl }; first = refl }, (record { idle = record { round = refl; calls = refl }; first = refl }, (record { running = refl; calls = refl; items = refl }, tt)))))))))))))))))

display-shown-lawful : IsCourse (view_from (view_from approved_view end_of_day_asked_moves) end_of_day_done_moves) display_shown_moves
unfolding decode_apdus decode_apdus_within decode_pt_message decode_status decode_status_within decode_status_field decode_field_value history payment_text day_request display_text chars
display-shown-lawful = ((record { polled = refl; connected_is = refl }, display-chunk), (record { idle = record { round = refl; calls = refl }; waits = refl; bytes = display_text; message = refl; reads = display-read }, (record { idle = record { round = refl; calls = refl }; first = refl }, (record { idle = record { round = refl; calls = refl }; first = refl }, ((Ask (show_lines (codes "Hello" ∷ [])), refl, refl), (record { idle = record { round = refl; calls = refl }; first = refl }, (record { idle = record { round = refl; calls = refl }; first = refl }, (record { running = refl; calls = refl; items = refl }, ((record { polled = refl; connected_is = refl }, ack-chunk), (record { idle = record { round = refl; calls = refl }; first = refl }, (record { idle = record { round = refl; calls = refl }; first = refl }, ((first_display_reply, refl, refl), (record { idle = record { round = refl; calls = refl }; first = refl }, (record { idle = record { round = refl; calls = refl }; first = refl }, (record { idle = record { round = refl; calls = refl }; first = refl }, (record { running = refl; calls = refl; items = refl }, tt))))))))))))))))

day-stopped-lawful : IsCourse (view_from approved_view end_of_day_asked_moves) end_of_day_stopped_moves
unfolding decode_apdus decode_apdus_within decode_pt_message decode_status decode_status_within decode_status_field decode_field_value history payment_text day_request day_abort_text
day-stopped-lawful = (record { running = refl; calls = refl; items = refl }, ((record { polled = refl; connected_is = refl }, ack-chunk), (record { idle = record { round = refl; calls = refl }; first = refl }, (record { idle = record { round = refl; calls = refl }; first = refl }, (record { idle = record { round = refl; calls = refl }; first = refl }, (record { idle = record { round = refl; calls = refl }; first = refl }, (record { idle = record { round = refl; calls = refl }; first = refl }, (record { running = refl; calls = refl; items = refl }, ((record { polled = refl; connected_is = refl }, day-abort-chunk), (record { idle = record { round = refl; calls = refl }; waits = refl; bytes = day_abort_text; message = refl; reads = day-abort-read }, (record { idle = record { round = refl; calls = refl }; first = refl }, (record { idle = record { round = refl; calls = refl }; first = refl }, ((Ask commands.Stop, refl, refl), (record { idle = record { round = refl; calls = refl }; first = refl }, (record { idle = record { round = refl; calls = refl }; first = refl }, tt)))))))))))))))

day-completed-lawful : IsCourse (view_from (view_from approved_view end_of_day_asked_moves) end_of_day_stopped_moves) end_of_day_completed_moves
unfolding decode_apdus decode_apdus_within decode_pt_message decode_status decode_status_within decode_status_field decode_field_value history payment_text day_request day_abort_text
day-completed-lawful = (record { running = refl; calls = refl; items = refl }, ((record { polled = refl; connected_is = refl }, completion-chunk), (record { idle = record { round = refl; calls = refl }; first = refl }, ((Acknowledge, refl, refl), (record { idle = record { round = refl; calls = refl }; first = refl }, ((WriteBody 2 (Settled later_settled), refl, refl), (refl, ((WriteGate 2 (Settled later_settled), refl, refl), (refl, ((totals_reply, refl, refl), (record { idle = record { round = refl; calls = refl }; first = refl }, (record { idle = record { round = refl; calls = refl }; first = refl }, (record { idle = record { round = refl; calls = refl }; first = refl }, (record { running = refl; calls = refl; items = refl }, tt))))))))))))))

approved-lawful : IsCourse at_first played_approved_course
approved-lawful = course-append at_first asked_course approved_moves asked-lawful approving-lawful

day-lean : IsLeanCourse (turns_of played_day_course) played_day_course
day-lean = record {
  turns_are = refl;
  lawful = course-append at_first played_approved_course (end_of_day_asked_moves ++ end_of_day_done_moves) approved-lawful (course-append approved_view end_of_day_asked_moves end_of_day_done_moves day-asked-lawful day-done-lawful);
  lean = lean-tested played_day_course refl;
}

stopped-day-lean : IsLeanCourse (turns_of played_stopped_day_course) played_stopped_day_course
stopped-day-lean = record {
  turns_are = refl;
  lawful = course-append at_first played_approved_course (end_of_day_asked_moves ++ end_of_day_stopped_moves ++ end_of_day_completed_moves) approved-lawful
      (course-append approved_view end_of_day_asked_moves (end_of_day_stopped_moves ++ end_of_day_completed_moves) day-asked-lawful
      (course-append (view_from approved_view end_of_day_asked_moves) end_of_day_stopped_moves end_of_day_completed_moves day-stopped-lawful day-completed-lawful));
  lean = lean-tested played_stopped_day_course refl;
}

display-lean : IsLeanCourse (turns_of played_display_course) played_display_course
display-lean = record {
  turns_are = refl;
  lawful = course-append at_first played_approved_course (end_of_day_asked_moves ++ end_of_day_done_moves ++ display_shown_moves) approved-lawful
      (course-append approved_view end_of_day_asked_moves (end_of_day_done_moves ++ display_shown_moves) day-asked-lawful
      (course-append (view_from approved_view end_of_day_asked_moves) end_of_day_done_moves display_shown_moves day-done-lawful display-shown-lawful));
  lean = lean-tested played_display_course refl;
}

-- ---- what is heard was sent, and what is booked

-- the exchanges of the end of day
abbrev day_exchanges : Bool → List PlacedExchange
day_exchanges own = exchanged own 37 (Sends ack) (exchanged own 36 (Hears (ack ++ completion)) (exchanged own 34 (Sends day_sent) (approved_exchanges own)))

-- where it is stopped
abbrev stopped_day_exchanges : Bool → List PlacedExchange
stopped_day_exchanges own =
    exchanged own 42 (Sends ack) (exchanged own 41 (Hears completion) (exchanged own 39 (Sends stop) (exchanged own 36 (Hears ack) (exchanged own 34 (Sends day_sent) (approved_exchanges own)))))

-- and of the display
abbrev display_exchanges : Bool → List PlacedExchange
display_exchanges own = exchanged own 47 (Hears ack) (exchanged own 45 (Sends hello_sent) (day_exchanges own))

day-exchanges : (poi : List ℕ) → exchanges_of poi played_day_course ≡ day_exchanges (bytes_eq (codes "T1") poi)
unfolding decode_apdus decode_apdus_within decode_pt_message decode_status decode_status_within decode_status_field decode_field_value history payment_text day_request
day-exchanges poi = refl

stopped-day-exchanges : (poi : List ℕ) → exchanges_of poi played_stopped_day_course ≡ stopped_day_exchanges (bytes_eq (codes "T1") poi)
unfolding decode_apdus decode_apdus_within decode_pt_message decode_status decode_status_within decode_status_field decode_field_value history payment_text day_request day_abort_text
stopped-day-exchanges poi = refl

display-exchanges : (poi : List ℕ) → exchanges_of poi played_display_course ≡ display_exchanges (bytes_eq (codes "T1") poi)
unfolding decode_apdus decode_apdus_within decode_pt_message decode_status decode_status_within decode_status_field decode_field_value history payment_text day_request display_text chars
display-exchanges poi = refl

day-hears : HearsSent (plays_first play.Approve) (exchanges_in (day_exchanges true))
unfolding decode_apdus decode_apdus_within decode_command
day-hears = (([], refl), (([], refl), (([], refl), (([], refl), tt))))

-- of what it sent for the end of day that is stopped the acknowledgement is heard first
stopped-day-hears : HearsSent (plays_first play.Approve) (exchanges_in (stopped_day_exchanges true))
unfolding decode_apdus decode_apdus_within decode_command
stopped-day-hears = (([], refl), ((completion, refl), (([], refl), (([], refl), (([], refl), tt)))))

display-hears : HearsSent (plays_first play.Approve) (exchanges_in (display_exchanges true))
unfolding decode_apdus decode_apdus_within decode_command decode_display_lines
display-hears = (([], refl), (([], refl), (([], refl), (([], refl), (([], refl), tt)))))

day-book : book_along (plays_first play.Approve) (codes "T1") (day_exchanges true) ≡ first_entry ∷ []
unfolding decode_apdus decode_apdus_within decode_command
day-book = refl

stopped-day-book : book_along (plays_first play.Approve) (codes "T1") (stopped_day_exchanges true) ≡ first_entry ∷ []
unfolding decode_apdus decode_apdus_within decode_command
stopped-day-book = refl

display-book : book_along (plays_first play.Approve) (codes "T1") (display_exchanges true) ≡ first_entry ∷ []
unfolding decode_apdus decode_apdus_within decode_command decode_display_lines
display-book = refl

-- ---- its link

day-links : (past_of played_day_course).links ≡ first_link ∷ []
unfolding decode_apdus decode_apdus_within decode_pt_message decode_status decode_status_within decode_status_field decode_field_value history payment_text day_request
day-links = refl

stopped-day-links : (past_of played_stopped_day_course).links ≡ first_link ∷ []
unfolding decode_apdus decode_apdus_within decode_pt_message decode_status decode_status_within decode_status_field decode_field_value history payment_text day_request day_abort_text
stopped-day-links = refl

display-links : (past_of played_display_course).links ≡ first_link ∷ []
unfolding decode_apdus decode_apdus_within decode_pt_message decode_status decode_status_within decode_status_field decode_field_value history payment_text day_request display_text chars
display-links = refl

-- ---- the examples

pub played-days : PlayedDays
played-days = record {
  settled = record {
    lean = day-lean;
    played = played-by played_day_course (plays_first play.Approve) day_exchanges day-exchanges day-hears tt;
    linked = all-linked (past_of played_day_course) (first_link ∷ []) day-links refl;
    book_is = booked-by played_day_course (plays_first play.Approve) day_exchanges (first_entry ∷ []) day-exchanges day-book;
  };
  stopped = record {
    lean = stopped-day-lean;
    played = played-by played_stopped_day_course (plays_first play.Approve) stopped_day_exchanges stopped-day-exchanges stopped-day-hears tt;
    linked = all-linked (past_of played_stopped_day_course) (first_link ∷ []) stopped-day-links refl;
    book_is = booked-by played_stopped_day_course (plays_first play.Approve) stopped_day_exchanges (first_entry ∷ []) stopped-day-exchanges stopped-day-book;
  };
  displayed = record {
    lean = display-lean;
    played = played-by played_display_course (plays_first play.Approve) display_exchanges display-exchanges display-hears tt;
    linked = all-linked (past_of played_display_course) (first_link ∷ []) display-links refl;
    book_is = booked-by played_display_course (plays_first play.Approve) display_exchanges (first_entry ∷ []) display-exchanges display-book;
  };
}
