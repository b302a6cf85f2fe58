-- The example of a payment that waits: it is lawful, and the book with its entry is honest and agrees; and what a till may not be sent of such keys.
use Rattle.std.proofs.Common.{◌≡◌, ◌∙◌, true, false, List, [], ◌∷◌, ◌++◌, refl, sym, ap, arith, leb-true}
use Rattle.std.specs.Fmt.{digits}
use Rattle.std.specs.List.{list_all}
use Rattle.std.specs.Prelude.{codes}
use Rattle.std.specs.Str.{chars}
use Rattle.gw_base.specs.Transaction.{transaction_text}
use Rattle.gw_base.specs.Setup.{IsSetup}
use Rattle.gw_base.specs.declared.condition.Condition.{Condition}
use Rattle.gw_base.specs.declared.condition.Condition.TheVariants.{Aborted, InProgress}
use Rattle.gw_base.specs.declared.currency.Currency.TheVariants.{Eur}
use Rattle.gw_site.specs.declared.turn.Turn.TheVariants.{Start}
use Rattle.zvt_apdu.specs.DecodeStream.{decode_apdus, decode_apdus_within}
use Rattle.zvt_bmp.specs.Decode.{decode_field_value, decode_status_field, decode_status_within, decode_status}
use Rattle.zvt_msg.specs.MessageDecode.{decode_pt_message}
use Rattle.zvt_msg.specs.declared.command.Command.TheVariants as commands
use Rattle.sale_values.specs.Money.{money_text}
use Rattle.sale_values.specs.declared.header.Header.{Header}
use Rattle.sale_values.specs.declared.names.Period.TheVariants.{AcquirerReconciliation}
use Rattle.sale_msg.specs.Path.{tree_at}
use Rattle.sale_reply.specs.Limits.{IsHeaderWithinLimits, IsToldWithinLimits}
use Rattle.sale_reply.specs.Reply.{message_tree, header_tree, result_tree, sale_data, poi_data, payment_result, approved_body, result_body}
use Rattle.sale_reply.specs.declared.reply.SaleReply.TheVariants as reply
use Rattle.sale_reply.specs.declared.reply.Told.TheVariants.{Reconciled}
use Rattle.jrn_record.specs.declared.records.Record.TheVariants.{Intent, Outcome, Settled}
use Rattle.gw_ledger.specs.History.{history}
use Rattle.gw_owes.specs.Calls.{Ask, Acknowledge, WriteBody, WriteGate}
use Rattle.gw_owes.specs.Reconciliations.{day_command}
use Rattle.gw_owes.specs.Replies.{failure, failure_reply, header_of_reply}
use Rattle.gw_owes.specs.Reply.{ReplyValue, reply_value_bytes, reply_value_tree}
use Rattle.gw_owes.specs.TerminalExample.{ack, completion, approved_status}
use Rattle.gw_rules.specs.DayLogExample.{day_request, day_header, day_key, logged_settled}
use Rattle.gw_rules.specs.Lawful.{IsCourse}
use Rattle.gw_rules.specs.RowExample.{example_pt}
use Rattle.gw_rules.specs.View.{View, Move, Make, after, view_from, at_first}
use Rattle.gw_rules.proofs.CourseLemmas.{course-append}
use Rattle.gw_rules.proofs.DayTextLemmas.{day-chunk, day-read}
use Rattle.gw_rules.proofs.RowExampleLemmas.{formed}
use Rattle.gw_rules.proofs.TestedLemmas.{passes_course, course-tested}
use Rattle.gw_rules.proofs.TextLemmas.{bytes-tested, ident-tested}
use Rattle.gw_books.specs.Agrees.{success_agrees, refusal_agrees, unaccepted_agrees, not_found_agrees, in_progress_agrees, EachSaid, Agrees}
use Rattle.gw_books.specs.Books.{Honest}
use Rattle.gw_books.specs.Example.{payment_text, paying_header, payment_occasion}
use Rattle.gw_books.specs.Past.{OfRequest, SentReply, Past, past_of}
use Rattle.gw_books.specs.ReversalExample.{aborting_header}
use Rattle.gw_books.specs.Said.{all_said, IsFramed}
use Rattle.gw_books.specs.SaidLaws.{said_by_reply}
use Rattle.gw_books.proofs.BrokenLemmas.{last-refused}
use Rattle.gw_books.proofs.CourseLemmas.{lean-tested, payment-chunk}
use Rattle.gw_books.proofs.ExampleLemmas.{Agreement, SaysSo, each-agrees, header-within}
use Rattle.gw_books.proofs.MessageLemmas.{reply-framed}
use Rattle.gw_books.proofs.PaymentTextLemmas.{payment-reads}
use Rattle.gw_books.proofs.SaidLemmas.{each-reply-says}
use Rattle.book_examples.specs.DayExample.{asked_day_moves, none_settled_reply, records_settled, settled_replies, hello_text}
use Rattle.book_examples.specs.DisagreeExample.{status_asking_header}
use Rattle.book_examples.specs.Example.{progress_reply}
use Rattle.book_examples.specs.QueuedExample.{queued_setup, queued_ready_moves, queued_opened_moves, queued_asked_moves, queued_again_moves, queued_intent, queued_begun_moves, queued_result_body, queued_reply, queued_approval, queued_paid_moves, queued_course, queued_progress, queued_totals, queued_success, queued_replies, queued_past, queued_entry, aborting_payment, taken_out_course, day_status, day_progress_reply, over_course, QueuedHasPast, QueuedAgrees, TakenOutDisagrees, DayIsInProgress}
use Rattle.book_examples.proofs.DayExampleLemmas.{day-heading}
use Rattle.book_examples.proofs.DisagreeLemmas.{asking-within}
use Rattle.book_examples.proofs.ExampleLemmas.{progress-framed}

-- ---- it is lawful

queued-formed : IsSetup queued_setup
queued-formed = record { name = formed.name; line = omega arith; wait = formed.wait; slots = formed.slots; count = formed.count; each = formed.each; distinct = formed.distinct }

abbrev after_start : List Move → List Move
after_start [] = []
after_start (move ∷ moves) = moves

from-start : (moves : List Move) → passes_course (after at_first (Make (Start queued_setup))) moves ≡ true → IsCourse at_first (Make (Start queued_setup) ∷ moves)
from-start moves e = ((refl, queued-formed), course-tested (after at_first (Make (Start queued_setup))) moves e)

abbrev ready_view : View
ready_view = view_from at_first queued_ready_moves

abbrev opened_view : View
opened_view = view_from ready_view queued_opened_moves

abbrev day_view : View
day_view = view_from opened_view asked_day_moves

abbrev queued_view : View
queued_view = view_from day_view queued_asked_moves

abbrev again_view : View
again_view = view_from queued_view queued_again_moves

abbrev begun_view : View
begun_view = view_from again_view queued_begun_moves

ready-lawful : IsCourse at_first queued_ready_moves
unfolding decode_apdus decode_apdus_within decode_pt_message history
ready-lawful = from-start (after_start queued_ready_moves) refl

opening-lawful : IsCourse ready_view queued_opened_moves
unfolding decode_apdus decode_apdus_within decode_pt_message history
opening-lawful = (record { running = refl; calls = refl; items = refl }, ((refl, leb-true 0 1 refl), (record { idle = record { round = refl; calls = refl }; first = refl }, (record { idle = record { round = refl; calls = refl }; first = refl }, tt))))

day-lawful : IsCourse opened_view asked_day_moves
unfolding decode_apdus decode_apdus_within decode_pt_message history day_request
day-lawful = (record { running = refl; calls = refl; items = refl }, ((record { polled = refl; connected_is = refl }, day-chunk), (record { idle = record { round = refl; calls = refl }; waits = refl; bytes = day_request; message = refl; reads = day-read }, (record { idle = record { round = refl; calls = refl }; first = refl }, (record { idle = record { round = refl; calls = refl }; first = refl }, ((Ask (day_command example_pt), refl, refl), (record { idle = record { round = refl; calls = refl }; first = refl }, (record { idle = record { round = refl; calls = refl }; first = refl }, tt))))))))

queueing-lawful : IsCourse day_view queued_asked_moves
unfolding decode_apdus decode_apdus_within decode_pt_message history day_request payment_text
queueing-lawful = (record { running = refl; calls = refl; items = refl }, ((record { polled = refl; connected_is = refl }, payment-chunk), (record { idle = record { round = refl; calls = refl }; waits = refl; bytes = payment_text; message = refl; reads = payment-reads }, (record { idle = record { round = refl; calls = refl }; first = refl }, (record { idle = record { round = refl; calls = refl }; first = refl }, (record { idle = record { round = refl; calls = refl }; first = refl }, (record { idle = record { round = refl; calls = refl }; first = refl }, tt)))))))

again-lawful : IsCourse queued_view queued_again_moves
unfolding decode_apdus decode_apdus_within decode_pt_message history day_request payment_text
again-lawful = (record { running = refl; calls = refl; items = refl }, ((record { polled = refl; connected_is = refl }, payment-chunk), (record { idle = record { round = refl; calls = refl }; waits = refl; bytes = payment_text; message = refl; reads = payment-reads }, (record { idle = record { round = refl; calls = refl }; first = refl }, ((progress_reply, refl, refl), (record { idle = record { round = refl; calls = refl }; first = refl }, (record { idle = record { round = refl; calls = refl }; first = refl }, (record { idle = record { round = refl; calls = refl }; first = refl }, tt))))))))

begun-lawful : IsCourse again_view queued_begun_moves
unfolding decode_apdus decode_apdus_within decode_pt_message decode_status decode_status_within decode_status_field decode_field_value history day_request payment_text
begun-lawful = (record { running = refl; calls = refl; items = refl }, ((record { polled = refl; connected_is = refl }, record { count = (omega arith, omega arith); bytes = bytes-tested (ack ++ completion) refl }), (record { idle = record { round = refl; calls = refl }; first = refl }, (record { idle = record { round = refl; calls = refl }; first = refl }, (record { idle = record { round = refl; calls = refl }; first = refl }, (record { idle = record { round = refl; calls = refl }; first = refl }, ((Acknowledge, refl, refl), (record { idle = record { round = refl; calls = refl }; first = refl }, ((WriteBody 0 (Settled logged_settled), refl, refl), (refl, ((WriteGate 0 (Settled logged_settled), refl, refl), (refl, ((none_settled_reply, refl, refl), (record { idle = record { round = refl; calls = refl }; first = refl }, ((WriteBody 1 (Intent queued_intent), refl, refl), (refl, ((WriteGate 1 (Intent queued_intent), refl, refl), (refl, ((Ask (commands.Authorise 1099 978), refl, refl), (record { idle = record { round = refl; calls = refl }; first = refl }, (record { idle = record { round = refl; calls = refl }; first = refl }, (record { idle = record { round = refl; calls = refl }; first = refl }, tt))))))))))))))))))))))

paid-lawful : IsCourse begun_view queued_paid_moves
unfolding decode_apdus decode_apdus_within decode_pt_message decode_status decode_status_within decode_status_field decode_field_value history day_request payment_text
paid-lawful = (record { running = refl; calls = refl; items = refl }, ((record { polled = refl; connected_is = refl }, record { count = (omega arith, omega arith); bytes = bytes-tested (ack ++ approved_status ++ completion) refl }), (record { idle = record { round = refl; calls = refl }; first = refl }, (record { idle = record { round = refl; calls = refl }; first = refl }, (record { idle = record { round = refl; calls = refl }; first = refl }, (record { idle = record { round = refl; calls = refl }; first = refl }, ((Acknowledge, refl, refl), (record { idle = record { round = refl; calls = refl }; first = refl }, (record { idle = record { round = refl; calls = refl }; first = refl }, (record { idle = record { round = refl; calls = refl }; first = refl }, ((Acknowledge, refl, refl), (record { idle = record { round = refl; calls = refl }; first = refl }, ((WriteBody 2 (Outcome queued_approval), refl, refl), (refl, ((WriteGate 2 (Outcome queued_approval), refl, refl), (refl, ((queued_reply, refl, refl), (record { idle = record { round = refl; calls = refl }; first = refl }, (record { idle = record { round = refl; calls = refl }; first = refl }, (record { idle = record { round = refl; calls = refl }; first = refl }, (record { running = refl; calls = refl; items = refl }, tt)))))))))))))))))))))

queued-lawful : IsCourse at_first queued_course
queued-lawful =
    course-append at_first queued_ready_moves (queued_opened_moves ++ asked_day_moves ++ queued_asked_moves ++ queued_again_moves ++ queued_begun_moves ++ queued_paid_moves) ready-lawful
    (course-append ready_view queued_opened_moves (asked_day_moves ++ queued_asked_moves ++ queued_again_moves ++ queued_begun_moves ++ queued_paid_moves) opening-lawful
    (course-append opened_view asked_day_moves (queued_asked_moves ++ queued_again_moves ++ queued_begun_moves ++ queued_paid_moves) day-lawful
    (course-append day_view queued_asked_moves (queued_again_moves ++ queued_begun_moves ++ queued_paid_moves) queueing-lawful
    (course-append queued_view queued_again_moves (queued_begun_moves ++ queued_paid_moves) again-lawful
    (course-append again_view queued_begun_moves queued_paid_moves begun-lawful paid-lawful)))))

queued-past : past_of queued_course ≡ queued_past
unfolding decode_apdus decode_apdus_within decode_pt_message decode_status decode_status_within decode_status_field decode_field_value history day_request payment_text
queued-past = refl

pub queued-has-past : QueuedHasPast
queued-has-past = record { moves = queued_course; lean = record { turns_are = refl; lawful = queued-lawful; lean = lean-tested queued_course refl }; past_is = sym queued-past }

-- ---- honest, and agrees

queued-within : IsToldWithinLimits queued_result_body
queued-within = (ident-tested 80 (codes "X1") refl, ident-tested 35 (codes "2026-11-27T12:00:00Z") refl, record { six_digits = omega arith; four_digits = omega arith; slot_fits = omega arith }, omega arith)

success-framed : IsFramed queued_success.bytes (reply_value_tree queued_reply)
success-framed = reply-framed queued_reply (reply.Told (header_of_reply paying_header) queued_result_body) refl (header-within, queued-within)

totals-framed : IsFramed queued_totals.bytes (reply_value_tree none_settled_reply)
totals-framed = reply-framed none_settled_reply (reply.Told (header_of_reply day_header) (Reconciled AcquirerReconciliation Eur (0, 0) (0, 0))) refl (day-heading, ((omega arith, omega arith), (omega arith, omega arith)))

-- a reply that is sent says only what agrees
says : (agrees : Agreement) (sent : SentReply) (own : ReplyValue) → IsFramed sent.bytes (reply_value_tree own) → list_all (agrees queued_past (queued_entry ∷ []) sent) (said_by_reply own) ≡ true → SaysSo agrees queued_past (queued_entry ∷ []) sent
says agrees sent own framed passes = record { message = reply_value_tree own; framed = framed; passes = ap (list_all (agrees queued_past (queued_entry ∷ []) sent)) (each-reply-says own) ∙ passes }

-- so do all
each : (agrees : Agreement) → list_all (agrees queued_past (queued_entry ∷ []) queued_success) (said_by_reply queued_reply) ≡ true → list_all (agrees queued_past (queued_entry ∷ []) queued_totals) (said_by_reply none_settled_reply) ≡ true
    → list_all (agrees queued_past (queued_entry ∷ []) queued_progress) (said_by_reply progress_reply) ≡ true → EachSaid agrees queued_past (queued_entry ∷ [])
each agrees success totals progress = each-agrees agrees queued_past (queued_entry ∷ []) queued_replies refl (
  says agrees queued_success queued_reply success-framed success,
  (says agrees queued_totals none_settled_reply totals-framed totals, (says agrees queued_progress progress_reply progress-framed progress, tt)),
)

queued-honest : Honest queued_past (queued_entry ∷ [])
queued-honest = record { caused = refl; linked = refl; ordered = refl; numbered = refl; true_ends = refl }

queued-book-agrees : Agrees queued_past (queued_entry ∷ [])
unfolding history message_tree header_tree result_tree sale_data poi_data payment_result approved_body result_body transaction_text money_text digits tree_at
queued-book-agrees = record {
  keyed = refl;
  sent_once = refl;
  booked_once = refl;
  success = each success_agrees refl refl refl;
  refusal = each refusal_agrees refl refl refl;
  unaccepted = each unaccepted_agrees refl refl refl;
  not_found = each not_found_agrees refl refl refl;
  in_progress = each in_progress_agrees refl refl refl;
  resolved = refl;
  inside = refl;
}

pub queued-agrees : QueuedAgrees
queued-agrees = record { honest = queued-honest; agrees = queued-book-agrees }

-- ---- what a till may not be sent

-- a failure with this header is framed
failure-framed : (header : Header) (condition : Condition) → IsHeaderWithinLimits (header_of_reply header) → IsFramed (reply_value_bytes (failure_reply header condition)) (reply_value_tree (failure_reply header condition))
failure-framed header condition within = reply-framed (failure_reply header condition) (reply.Plain (header_of_reply header) (failure condition)) refl (within, tt)

-- what it is said once it was taken out, while the end of day is served
abbrev taken_out_progress : SentReply
taken_out_progress = record { place = 26; bytes = reply_value_bytes progress_reply; occasion = payment_occasion; kept = []; waiting = day_key ∷ [] }

-- its Failure
abbrev taken_out_failure : SentReply
taken_out_failure = record { place = 23; bytes = reply_value_bytes (failure_reply paying_header Aborted); occasion = OfRequest aborting_header aborting_payment; kept = []; waiting = day_key ∷ [] }

taken-out-replies : (past_of taken_out_course).replies ≡ taken_out_progress ∷ taken_out_failure ∷ []
unfolding decode_apdus decode_apdus_within decode_pt_message decode_status decode_status_within decode_status_field decode_field_value history day_request payment_text
taken-out-replies = refl

taken-out-honest : Honest (past_of taken_out_course) []
unfolding decode_apdus decode_apdus_within decode_pt_message decode_status decode_status_within decode_status_field decode_field_value history day_request payment_text
taken-out-honest = record { caused = refl; linked = refl; ordered = refl; numbered = refl; true_ends = refl }

taken-out-false : (past : Past) → list_all (in_progress_agrees past [] taken_out_progress) (all_said (reply_value_tree progress_reply)) ≡ false
unfolding history message_tree header_tree result_tree tree_at
taken-out-false past = refl

pub taken-out-disagrees : TakenOutDisagrees
taken-out-disagrees = record {
  honest = taken-out-honest;
  disagrees = λ agrees. last-refused in_progress_agrees (past_of taken_out_course) [] taken_out_progress (taken_out_failure ∷ []) (reply_value_tree progress_reply) taken-out-replies progress-framed (taken-out-false (past_of taken_out_course)) agrees.in_progress;
}

-- what a status gets once the end of day is over
abbrev over_progress : SentReply
over_progress = record { place = 40; bytes = reply_value_bytes day_progress_reply; occasion = OfRequest status_asking_header day_status; kept = records_settled; waiting = [] }

over-replies : (past_of over_course).replies ≡ over_progress ∷ settled_replies
unfolding chars decode_apdus decode_apdus_within decode_pt_message decode_status decode_status_within decode_status_field decode_field_value history day_request hello_text
over-replies = refl

over-honest : Honest (past_of over_course) []
unfolding chars decode_apdus decode_apdus_within decode_pt_message decode_status decode_status_within decode_status_field decode_field_value history day_request hello_text
over-honest = record { caused = refl; linked = refl; ordered = refl; numbered = refl; true_ends = refl }

over-false : (past : Past) → list_all (in_progress_agrees past [] over_progress) (all_said (reply_value_tree day_progress_reply)) ≡ false
unfolding history message_tree header_tree result_tree tree_at
over-false past = refl

pub day-is-in-progress : DayIsInProgress
unfolding history
day-is-in-progress = record {
  served = refl;
  over = record {
    honest = over-honest;
    disagrees = λ agrees. last-refused in_progress_agrees (past_of over_course) [] over_progress settled_replies (reply_value_tree day_progress_reply) over-replies (failure-framed status_asking_header InProgress asking-within) (over-false (past_of over_course)) agrees.in_progress;
  };
}
