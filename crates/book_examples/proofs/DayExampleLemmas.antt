-- The example of an end of day and a display: it is lawful, and the book without an entry is honest and agrees.
use Rattle.std.proofs.Common.{◌≡◌, ◌∙◌, true, List, [], ◌∷◌, ◌++◌, refl, sym, ap, arith}
use Rattle.std.specs.Prelude.{pos, codes}
use Rattle.std.specs.Fmt.{digits}
use Rattle.std.specs.List.{list_all}
use Rattle.std.specs.Str.{chars}
use Rattle.gw_base.specs.declared.condition.Condition.TheVariants.{InProgress, UnavailableDevice}
use Rattle.gw_base.specs.declared.currency.Currency.TheVariants.{Eur}
use Rattle.gw_site.specs.declared.turn.Turn.TheVariants.{Polled}
use Rattle.zvt_apdu.specs.DecodeStream.{decode_apdus, decode_apdus_within}
use Rattle.zvt_bmp.specs.Decode.{decode_field_value, decode_status_field, decode_status_within, decode_status}
use Rattle.zvt_msg.specs.MessageDecode.{decode_pt_message}
use Rattle.sale_values.specs.declared.names.Period.TheVariants.{AcquirerReconciliation}
use Rattle.sale_reply.specs.Limits.{IsHeaderWithinLimits, IsShownWithinLimits}
use Rattle.sale_reply.specs.declared.reply.SaleReply.TheVariants as reply
use Rattle.sale_reply.specs.declared.reply.Shown.{Shown}
use Rattle.sale_reply.specs.declared.reply.Told.TheVariants.{Reconciled}
use Rattle.std.proofs.lemmas.List.Elements.{All-from_recursion}
use Rattle.jrn_record.specs.declared.records.Record.TheVariants.{Settled}
use Rattle.gw_ledger.specs.History.{history}
use Rattle.xlate.specs.Display.{show_lines}
use Rattle.gw_owes.specs.Calls.{Ask, Acknowledge, WriteBody, WriteGate}
use Rattle.gw_owes.specs.DeviceRequests.{device_header}
use Rattle.gw_owes.specs.Reconciliations.{day_command}
use Rattle.gw_owes.specs.Replies.{failure, header_of_reply, success}
use Rattle.gw_owes.specs.Reply.{ReplyValue, reply_value_tree}
use Rattle.gw_owes.specs.TerminalExample.{ack, completion}
use Rattle.gw_rules.specs.DayLogExample.{day_request, day_header, day_key, intermediate, shown_status, logged_settled, display_header, hello_reply}
use Rattle.gw_rules.specs.Lawful.{IsCourse}
use Rattle.gw_rules.specs.RowExample.{example_pt}
use Rattle.gw_rules.specs.View.{View, Make, view_from, at_first}
use Rattle.gw_rules.proofs.CourseLemmas.{course-append}
use Rattle.gw_rules.proofs.DayTextLemmas.{day-chunk, day-read}
use Rattle.gw_rules.proofs.TextLemmas.{bytes-tested, ident-tested}
use Rattle.gw_books.specs.Agrees.{success_agrees, refusal_agrees, unaccepted_agrees, not_found_agrees, in_progress_agrees, EachSaid, Agrees}
use Rattle.gw_books.specs.Books.{Honest}
use Rattle.gw_books.specs.Example.{opened_moves}
use Rattle.gw_books.specs.Past.{SentReply, past_of}
use Rattle.gw_books.specs.Said.{IsFramed}
use Rattle.gw_books.specs.SaidLaws.{said_by_reply}
use Rattle.gw_books.proofs.CourseLemmas.{lean-tested, opened-lawful}
use Rattle.gw_books.proofs.ExampleLemmas.{Agreement, SaysSo, each-agrees}
use Rattle.gw_books.proofs.MessageLemmas.{reply-framed}
use Rattle.gw_books.proofs.SaidLemmas.{each-reply-says}
use Rattle.book_examples.specs.DayExample.{asked_day_moves, served_day_reply, served_day_moves, none_settled_reply, completed_day_moves, hello_text, asked_hello_moves, shown_hello_moves, settled_course, sent_served, sent_status, sent_totals, sent_results, settled_replies, settled_past, SettledHasPast, SettledAgrees}
use Rattle.book_examples.proofs.DayTextLemmas.{hello-chunk, hello-reads}

-- ---- it is lawful

abbrev opened_view : View
opened_view = view_from at_first opened_moves

abbrev asked_view : View
asked_view = view_from opened_view asked_day_moves

abbrev served_view : View
served_view = view_from asked_view served_day_moves

abbrev settled_view : View
settled_view = view_from served_view completed_day_moves

abbrev hello_view : View
hello_view = view_from settled_view asked_hello_moves

asked-lawful : IsCourse opened_view asked_day_moves
unfolding decode_apdus decode_apdus_within decode_pt_message history day_request
asked-lawful = (record { running = refl; calls = refl; items = refl }, ((record { polled = refl; connected_is = refl }, day-chunk), (record { idle = record { round = refl; calls = refl }; waits = refl; bytes = day_request; message = refl; reads = day-read }, (record { idle = record { round = refl; calls = refl }; first = refl }, (record { idle = record { round = refl; calls = refl }; first = refl }, ((Ask (day_command example_pt), refl, refl), (record { idle = record { round = refl; calls = refl }; first = refl }, (record { idle = record { round = refl; calls = refl }; first = refl }, tt))))))))

served-lawful : IsCourse asked_view served_day_moves
unfolding decode_apdus decode_apdus_within decode_pt_message history day_request
served-lawful = (record { running = refl; calls = refl; items = refl }, ((record { polled = refl; connected_is = refl }, day-chunk), (record { idle = record { round = refl; calls = refl }; waits = refl; bytes = day_request; message = refl; reads = day-read }, (record { idle = record { round = refl; calls = refl }; first = refl }, ((served_day_reply, refl, refl), (record { idle = record { round = refl; calls = refl }; first = refl }, (record { idle = record { round = refl; calls = refl }; first = refl }, tt)))))))

completed-lawful : IsCourse served_view completed_day_moves
unfolding decode_apdus decode_apdus_within decode_pt_message decode_status decode_status_within decode_status_field decode_field_value history day_request
completed-lawful = (record { running = refl; calls = refl; items = refl }, ((record { polled = refl; connected_is = refl }, record { count = (omega arith, omega arith); bytes = bytes-tested (ack ++ intermediate ++ completion) refl }), (record { idle = record { round = refl; calls = refl }; first = refl }, (record { idle = record { round = refl; calls = refl }; first = refl }, (record { idle = record { round = refl; calls = refl }; first = refl }, (record { idle = record { round = refl; calls = refl }; first = refl }, ((Acknowledge, refl, refl), (record { idle = record { round = refl; calls = refl }; first = refl }, ((shown_status, refl, refl), (record { idle = record { round = refl; calls = refl }; first = refl }, (record { idle = record { round = refl; calls = refl }; first = refl }, ((Acknowledge, refl, refl), (record { idle = record { round = refl; calls = refl }; first = refl }, ((WriteBody 0 (Settled logged_settled), refl, refl), (refl, ((WriteGate 0 (Settled logged_settled), refl, refl), (refl, ((none_settled_reply, refl, refl), (record { idle = record { round = refl; calls = refl }; first = refl }, (record { idle = record { round = refl; calls = refl }; first = refl }, (record { idle = record { round = refl; calls = refl }; first = refl }, tt)))))))))))))))))))))

asked-hello-lawful : IsCourse settled_view asked_hello_moves
unfolding chars decode_apdus decode_apdus_within decode_pt_message decode_status decode_status_within decode_status_field decode_field_value history day_request hello_text
asked-hello-lawful = (record { running = refl; calls = refl; items = refl }, ((record { polled = refl; connected_is = refl }, hello-chunk), (record { idle = record { round = refl; calls = refl }; waits = refl; bytes = hello_text; message = refl; reads = hello-reads }, (record { idle = record { round = refl; calls = refl }; first = refl }, (record { idle = record { round = refl; calls = refl }; first = refl }, ((Ask (show_lines (codes "Hello" ∷ [])), refl, refl), (record { idle = record { round = refl; calls = refl }; first = refl }, (record { idle = record { round = refl; calls = refl }; first = refl }, tt))))))))

shown-hello-lawful : IsCourse hello_view (shown_hello_moves ++ Make (Polled (pos 9)) ∷ [])
unfolding chars decode_apdus decode_apdus_within decode_pt_message decode_status decode_status_within decode_status_field decode_field_value history day_request hello_text
shown-hello-lawful = (record { running = refl; calls = refl; items = refl }, ((record { polled = refl; connected_is = refl }, record { count = (omega arith, omega arith); bytes = bytes-tested ack refl }), (record { idle = record { round = refl; calls = refl }; first = refl }, (record { idle = record { round = refl; calls = refl }; first = refl }, ((hello_reply, refl, refl), (record { idle = record { round = refl; calls = refl }; first = refl }, (record { idle = record { round = refl; calls = refl }; first = refl }, (record { idle = record { round = refl; calls = refl }; first = refl }, (record { running = refl; calls = refl; items = refl }, tt)))))))))

settled-lawful : IsCourse at_first settled_course
settled-lawful =
    course-append at_first opened_moves (asked_day_moves ++ served_day_moves ++ completed_day_moves ++ asked_hello_moves ++ shown_hello_moves ++ Make (Polled (pos 9)) ∷ []) opened-lawful
    (course-append opened_view asked_day_moves (served_day_moves ++ completed_day_moves ++ asked_hello_moves ++ shown_hello_moves ++ Make (Polled (pos 9)) ∷ []) asked-lawful
    (course-append asked_view served_day_moves (completed_day_moves ++ asked_hello_moves ++ shown_hello_moves ++ Make (Polled (pos 9)) ∷ []) served-lawful
    (course-append served_view completed_day_moves (asked_hello_moves ++ shown_hello_moves ++ Make (Polled (pos 9)) ∷ []) completed-lawful
    (course-append settled_view asked_hello_moves (shown_hello_moves ++ Make (Polled (pos 9)) ∷ []) asked-hello-lawful shown-hello-lawful))))

settled-past : past_of settled_course ≡ settled_past
unfolding chars decode_apdus decode_apdus_within decode_pt_message decode_status decode_status_within decode_status_field decode_field_value history day_request hello_text
settled-past = refl

pub settled-has-past : SettledHasPast
settled-has-past = record { moves = settled_course; lean = record { turns_are = refl; lawful = settled-lawful; lean = lean-tested settled_course refl }; past_is = sym settled-past }

-- ---- what is sent

pub day-heading : IsHeaderWithinLimits (header_of_reply day_header)
day-heading = record { category = ident-tested 40 (codes "Reconciliation") refl; service = ident-tested 10 (codes "2") refl; device = tt; sale = ident-tested 40 (codes "S1") refl; poi = ident-tested 40 (codes "T1") refl }

served-framed : IsFramed sent_served.bytes (reply_value_tree served_day_reply)
served-framed = reply-framed served_day_reply (reply.Plain (header_of_reply day_header) (failure InProgress)) refl (day-heading, tt)

status-framed : IsFramed sent_status.bytes (reply_value_tree shown_status)
unfolding digits
status-framed = reply-framed shown_status (reply.DisplayRequest (device_header (codes "Display") day_key 0) 0x0A) refl (
  record { category = ident-tested 40 (codes "Display") refl; service = ident-tested 10 (codes "2") refl; device = ident-tested 10 (codes "0") refl; sale = ident-tested 40 (codes "S1") refl; poi = ident-tested 40 (codes "T1") refl },
  omega arith,
)

totals-framed : IsFramed sent_totals.bytes (reply_value_tree none_settled_reply)
totals-framed = reply-framed none_settled_reply (reply.Told (header_of_reply day_header) (Reconciled AcquirerReconciliation Eur (0, 0) (0, 0))) refl (day-heading, ((omega arith, omega arith), (omega arith, omega arith)))

-- the results of the display
abbrev results : List Shown
results = record { device = codes "CashierDisplay"; qualify = codes "Display"; verdict = failure UnavailableDevice } ∷ record { device = codes "CustomerDisplay"; qualify = codes "Display"; verdict = success } ∷ []

results-framed : IsFramed sent_results.bytes (reply_value_tree hello_reply)
results-framed = reply-framed hello_reply (reply.Display (header_of_reply display_header) results) refl (
  record { category = ident-tested 40 (codes "Display") refl; service = ident-tested 10 (codes "3") refl; device = ident-tested 10 (codes "1") refl; sale = ident-tested 40 (codes "S1") refl; poi = ident-tested 40 (codes "T1") refl },
  omega arith,
  All-from_recursion IsShownWithinLimits results (
    record { device = ident-tested 40 (codes "CashierDisplay") refl; qualify = ident-tested 40 (codes "Display") refl; verdict = tt },
    (record { device = ident-tested 40 (codes "CustomerDisplay") refl; qualify = ident-tested 40 (codes "Display") refl; verdict = tt }, tt),
  ),
)

-- ---- honest, and agrees

-- a reply that is sent says only what agrees
says : (agrees : Agreement) (sent : SentReply) (own : ReplyValue) → IsFramed sent.bytes (reply_value_tree own) → list_all (agrees settled_past [] sent) (said_by_reply own) ≡ true → SaysSo agrees settled_past [] sent
says agrees sent own framed passes = record { message = reply_value_tree own; framed = framed; passes = ap (list_all (agrees settled_past [] sent)) (each-reply-says own) ∙ passes }

-- so do all
each : (agrees : Agreement) → list_all (agrees settled_past [] sent_results) (said_by_reply hello_reply) ≡ true → list_all (agrees settled_past [] sent_totals) (said_by_reply none_settled_reply) ≡ true
    → list_all (agrees settled_past [] sent_served) (said_by_reply served_day_reply) ≡ true → EachSaid agrees settled_past []
each agrees displayed totals served = each-agrees agrees settled_past [] settled_replies refl (
  says agrees sent_results hello_reply results-framed displayed,
  (says agrees sent_totals none_settled_reply totals-framed totals, (says agrees sent_status shown_status status-framed refl, (says agrees sent_served served_day_reply served-framed served, tt))),
)

settled-honest : Honest settled_past []
settled-honest = record { caused = refl; linked = refl; ordered = refl; numbered = refl; true_ends = refl }

settled-book-agrees : Agrees settled_past []
unfolding history
settled-book-agrees = record {
  keyed = refl;
  sent_once = refl;
  booked_once = refl;
  success = each success_agrees refl refl refl;
  refusal = each refusal_agrees refl refl refl;
  unaccepted = each unaccepted_agrees refl refl refl;
  not_found = each not_found_agrees refl refl refl;
  in_progress = each in_progress_agrees refl refl refl;
  resolved = refl;
  inside = refl;
}

pub settled-agrees : SettledAgrees
settled-agrees = record { honest = settled-honest; agrees = settled-book-agrees }
