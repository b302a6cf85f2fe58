-- The examples of recovery.
use Rattle.std.proofs.Common.{◌≡◌, true, false, List, [], ◌∷◌, ◌++◌, refl, sym, ap, ◌∙◌, arith}
use Rattle.std.specs.Prelude.{ℕ, ℤ, pos, take, drop, codes, slice_get, Some, None}
use Rattle.std.specs.Fmt.{digits}
use Rattle.std.specs.List.{list_all}
use Rattle.gw_base.specs.Transaction.{transaction_text}
use Rattle.gw_site.specs.Sorts.{AreOfRound}
use Rattle.gw_site.specs.declared.turn.Turn.TheVariants.{Polled, HeardPt, Lost, Stopped, Linked, SentPt, Crash}
use Rattle.sale_values.specs.Money.{money_text}
use Rattle.sale_reply.specs.Limits.{IsHeaderWithinLimits, IsToldWithinLimits}
use Rattle.sale_reply.specs.declared.reply.SaleReply.TheVariants as reply
use Rattle.zvt_apdu.specs.DecodeStream.{decode_apdus, decode_apdus_within}
use Rattle.zvt_bmp.specs.Decode.{decode_field_value, decode_status_field, decode_status_within, decode_status}
use Rattle.zvt_msg.specs.Message.{Completion}
use Rattle.zvt_msg.specs.MessageDecode.{decode_pt_message}
use Rattle.zvt_msg.specs.declared.command.Command.TheVariants as commands
use Rattle.jrn_record.specs.declared.records.Record.TheVariants.{Intent, Outcome}
use Rattle.gw_ledger.specs.History.{history}
use Rattle.gw_owes.specs.Calls.{Ask, OwedCall, WriteBody, WriteGate}
use Rattle.gw_owes.specs.Items.{RoundItem}
use Rattle.gw_owes.specs.PaymentExample.{paid_header, till_header}
use Rattle.gw_owes.specs.Replies.{header_of_reply}
use Rattle.gw_owes.specs.Reply.{reply_value_bytes, reply_value_tree}
use Rattle.gw_owes.specs.TerminalExample.{ack, completion, abort, enquiry_sent}
use Rattle.gw_rules.specs.Laws.{IsLeanCourse}
use Rattle.gw_rules.specs.Lawful.{AllowedTurn, IsCourse, turns_of}
use Rattle.gw_rules.specs.PaymentLogExample.{payment_request, logged_intent, logged_outcome, logged_result, keep_moves, ready_none_course, begun_course}
use Rattle.gw_rules.specs.RecoveryLogExample.{open_status_request, resolved_status_request, intent_file, later_run_course, open_status_course, enquired_later_course, open_course, open_view, report_bytes, resolving_moves, resolved_status_course, resolved_status_reply, recovery_log}
use Rattle.gw_rules.specs.RowExample.{register_bytes}
use Rattle.gw_rules.specs.Scene.{Scene}
use Rattle.gw_rules.specs.TerminalLogExample.{items_begin}
use Rattle.gw_rules.specs.View.{View, Move, Begin, Make, begin, after, after_turn, view_from, at_first}
use Rattle.gw_rules.proofs.CourseLemmas.{course-append, course-prefix}
use Rattle.gw_rules.proofs.PaymentLogLemmas.{resolved-lawful}
use Rattle.gw_rules.proofs.PaymentTextLemmas.{payment-chunk, payment-read}
use Rattle.gw_rules.proofs.RecoveryLogLemmas.{recovery-lawful}
use Rattle.gw_rules.proofs.StageLemmas.{no-true}
use Rattle.gw_rules.proofs.TerminalLogLemmas.{ready-lawful}
use Rattle.gw_rules.proofs.TestedLemmas.{course-tested}
use Rattle.gw_rules.proofs.TextLemmas.{ident-tested}
use Rattle.gw_books.specs.Past.{HeardEnd, Past, no_past, past_after, past_from, past_of}
use Rattle.gw_books.specs.Books.{BookedEntry, Honest, is_true}
use Rattle.gw_books.specs.Said.{Said, IsFramed}
use Rattle.gw_books.specs.Example.{paid_figures, older_entry}
use Rattle.gw_books.specs.Headline.{HasPast}
use Rattle.gw_books.specs.RecoveryExample.{open_past, sent_resolved_status, recovered_past, RecoveredIsResolved, recovered_said, RecoveredIsRepeated, unperformed_outcome, unperformed_moves, unperformed_course, unperformed_past, UnperformedIsResolved, report_heard_course, saying_moves, RecoveredIsSaid, ready_last_course, later_logged_intent, begun_later_moves, below_moves, aside_course, AsideIsNotHonest}
use Rattle.gw_books.specs.RecoveryLaws.{IsSaidAlong}
use Rattle.gw_books.specs.RoundLaws.{EndsRound}
use Rattle.gw_books.proofs.CourseLemmas.{lean-tested}
use Rattle.gw_books.proofs.MessageLemmas.{reply-framed}
use Rattle.gw_books.proofs.RoundExampleLemmas.{course-rest, ends-round}
use Rattle.gw_books.proofs.SaidLemmas.{each-reply-says}

-- ---- what is due as the power fails doesn't begin

by_items : (scene : Scene) (calls : List OwedCall) (items : List RoundItem) (file : List ℕ) (rest : List Move) → AllowedTurn (begin scene items) (Crash file) → IsCourse (after_turn (begin scene items) (Crash file)) rest
    → IsCourse (record { scene = scene; calls = calls; items = items }) (Make (Crash file) ∷ rest)
by_items scene calls [] file rest allowed lawful = (allowed, lawful)
by_items scene calls (item ∷ items) file rest allowed lawful = (allowed, lawful)

-- a power failure may come before an item as after it
drop-begin : (v : View) (file : List ℕ) (rest : List Move) → IsCourse v (Begin ∷ Make (Crash file) ∷ rest) → IsCourse v (Make (Crash file) ∷ rest)
drop-begin v file rest lawful = by_items v.scene v.calls v.items file rest lawful.1.0 lawful.1.1

-- so a course is lawful without the two items that begin just before the power fails
drop-both : (first : List Move) (file : List ℕ) (rest : List Move) → IsCourse at_first (first ++ Begin ∷ Begin ∷ Make (Crash file) ∷ rest) → IsCourse at_first (first ++ Make (Crash file) ∷ rest)
drop-both first file rest lawful =
    let here : View = view_from at_first first in
    let both = course-rest at_first first (Begin ∷ Begin ∷ Make (Crash file) ∷ rest) lawful in
    course-append at_first first (Make (Crash file) ∷ rest) (course-prefix at_first first (Begin ∷ Begin ∷ Make (Crash file) ∷ rest) lawful) (drop-begin here file rest (both.0, drop-begin (after here Begin) file rest both.1))

-- ---- what has happened

-- along a course of two parts
past-append : (v : View) (past : Past) (xs ys : List Move) → past_from v past (xs ++ ys) ≡ past_from (view_from v xs) (past_from v past xs) ys
past-append v past [] ys = refl
past-append v past (x ∷ xs) ys = past-append (after v x) (past_after v past x) xs ys

-- the course until the payment is asked
abbrev asked_logged_course : List Move
asked_logged_course = ready_none_course ++ take 14 begun_course

-- the moves from the start of the later run on, until the terminal's enquiry is to report
abbrev restarted_moves : List Move
restarted_moves = drop 1 later_run_course ++ open_status_course ++ enquired_later_course

-- the lean course until then
abbrev open_lean_course : List Move
open_lean_course = asked_logged_course ++ Make (Crash intent_file) ∷ restarted_moves

open-past : past_of open_lean_course ≡ open_past
unfolding decode_apdus decode_apdus_within decode_pt_message history payment_request open_status_request
open-past = refl

-- along a course that goes on from there
past-later : (moves : List Move) (past : Past) → past_from (view_from at_first open_lean_course) open_past moves ≡ past → past_of (open_lean_course ++ moves) ≡ past
past-later moves past e = past-append at_first no_past open_lean_course moves ∙ ap (λ (one : Past). past_from (view_from at_first open_lean_course) one moves) open-past ∙ e

-- ---- it is reported as approved

-- the moves from there on
abbrev recovered_moves : List Move
recovered_moves = Make (HeardPt 0 report_bytes) ∷ (resolving_moves ++ resolved_status_course)

recovered-later : past_from (view_from at_first open_lean_course) open_past recovered_moves ≡ recovered_past
unfolding decode_apdus decode_apdus_within decode_pt_message decode_status decode_status_within decode_status_field decode_field_value history payment_request open_status_request resolved_status_request
recovered-later = refl

recovered-lean : IsLeanCourse recovery_log (open_lean_course ++ recovered_moves)
recovered-lean = record {
  turns_are = refl;
  lawful = drop-both asked_logged_course intent_file (restarted_moves ++ recovered_moves) recovery-lawful.leaves.along.lawful;
  lean = lean-tested (open_lean_course ++ recovered_moves) refl;
}

recovered-has-past : HasPast recovery_log recovered_past
recovered-has-past = record { moves = open_lean_course ++ recovered_moves; lean = recovered-lean; past_is = sym (past-later recovered_moves recovered_past recovered-later) }

pub recovered-is-resolved : RecoveredIsResolved
unfolding history
recovered-is-resolved = record {
  has_past = recovered-has-past;
  honest = record { caused = refl; linked = refl; ordered = refl; numbered = refl; true_ends = refl };
  reported = record { polled = 1; poll_is = refl; lasting = 0; link_is = refl; reported = refl; intent_is = refl; poi_is = refl; before = omega arith };
  resolved = record { outcome = logged_outcome 6; found = refl; true_outcome = refl };
  outcome_is = refl;
}

-- ---- and the status repeats it

status-within : IsHeaderWithinLimits (header_of_reply (till_header (codes "TransactionStatus") (codes "3")))
status-within = record { category = ident-tested 40 (codes "TransactionStatus") refl; service = ident-tested 10 (codes "3") refl; device = tt; sale = ident-tested 40 (codes "S1") refl; poi = ident-tested 40 (codes "T1") refl }

paid-within : IsHeaderWithinLimits (paid_header (codes "1"))
paid-within = record { category = ident-tested 40 (codes "Payment") refl; service = ident-tested 10 (codes "1") refl; device = tt; sale = ident-tested 40 (codes "S1") refl; poi = ident-tested 40 (codes "T1") refl }

result-within : IsToldWithinLimits (logged_result 6)
result-within = (ident-tested 80 (codes "27908") refl, ident-tested 35 (codes "2025-03-07T10:11:04+00:00") refl, record { six_digits = omega arith; four_digits = omega arith; slot_fits = omega arith }, omega arith)

resolved-framed : IsFramed (reply_value_bytes resolved_status_reply) (reply_value_tree resolved_status_reply)
resolved-framed = reply-framed resolved_status_reply (reply.Status (header_of_reply (till_header (codes "TransactionStatus") (codes "3"))) (paid_header (codes "1")) (logged_result 6)) refl (status-within, paid-within, result-within)

repeat-is-said : IsSaidAlong recovered_past recovered_said
unfolding digits transaction_text money_text
repeat-is-said = record {
  sent = 0;
  reply = sent_resolved_status;
  reply_is = refl;
  message = reply_value_tree resolved_status_reply;
  framed = resolved-framed;
  number = 1;
  says = ap (λ (list : List Said). slice_get list 1) (each-reply-says resolved_status_reply);
}

pub recovered-is-repeated : RecoveredIsRepeated
recovered-is-repeated = record { is_said = repeat-is-said; key_is = refl; transaction = refl; success = refl }

-- ---- nothing came of it

open-lawful : IsCourse at_first open_course
open-lawful = course-prefix at_first open_course recovered_moves recovery-lawful.leaves.along.lawful

-- what the terminal says, up to where the Abort is handled
abbrev none_heard_moves : List Move
none_heard_moves = Make (HeardPt 0 (ack ++ abort 0x64)) ∷ (items_begin 4 ++ Make (SentPt 0 ack true) ∷ [])

none-heard-lawful : IsCourse open_view none_heard_moves
unfolding decode_apdus decode_apdus_within decode_pt_message history payment_request open_status_request
none-heard-lawful = course-tested open_view none_heard_moves refl

-- and from there on
abbrev none_kept_moves : List Move
none_kept_moves = Begin ∷ (keep_moves 1 (Outcome unperformed_outcome) ++ (items_begin 3 ++ Make (Polled (pos 7)) ∷ []))

none-kept-lawful : IsCourse (view_from open_view none_heard_moves) none_kept_moves
unfolding decode_apdus decode_apdus_within decode_pt_message history payment_request open_status_request
none-kept-lawful = (record { idle = record { round = refl; calls = refl }; first = refl }, ((WriteBody 1 (Outcome unperformed_outcome), refl, refl), (refl, ((WriteGate 1 (Outcome unperformed_outcome), refl, refl), (refl, (record { idle = record { round = refl; calls = refl }; first = refl }, (record { idle = record { round = refl; calls = refl }; first = refl }, (record { idle = record { round = refl; calls = refl }; first = refl }, (record { running = refl; calls = refl; items = refl }, tt)))))))))

unperformed-lawful : IsCourse at_first unperformed_course
unperformed-lawful = course-append at_first open_course unperformed_moves open-lawful (course-append open_view none_heard_moves none_kept_moves none-heard-lawful none-kept-lawful)

unperformed-later : past_from (view_from at_first open_lean_course) open_past unperformed_moves ≡ unperformed_past
unfolding decode_apdus decode_apdus_within decode_pt_message history payment_request open_status_request
unperformed-later = refl

unperformed-lean : IsLeanCourse (turns_of unperformed_course) (open_lean_course ++ unperformed_moves)
unperformed-lean = record {
  turns_are = refl;
  lawful = drop-both asked_logged_course intent_file (restarted_moves ++ unperformed_moves) unperformed-lawful;
  lean = lean-tested (open_lean_course ++ unperformed_moves) refl;
}

unperformed-has-past : HasPast (turns_of unperformed_course) unperformed_past
unperformed-has-past = record { moves = open_lean_course ++ unperformed_moves; lean = unperformed-lean; past_is = sym (past-later unperformed_moves unperformed_past unperformed-later) }

pub unperformed-is-resolved : UnperformedIsResolved
unfolding history
unperformed-is-resolved = record {
  has_past = unperformed-has-past;
  honest = record { caused = refl; linked = refl; ordered = refl; numbered = refl; true_ends = refl };
  reported = record { polled = 0; poll_is = refl; lasting = 0; link_is = refl; reported = refl; intent_is = refl; poi_is = refl; before = omega arith };
  resolved = record { outcome = unperformed_outcome; found = refl; true_outcome = refl };
  outcome_is = refl;
}

-- ---- the till that asked is there

-- a lawful course goes on with these moves of a round, and then with a poll
round-then : (course more : List Move) (now : ℤ) (rest : List Move) → IsCourse at_first (course ++ (more ++ Make (Polled now) ∷ rest)) → AreOfRound (turns_of more) → EndsRound (turns_of course) (view_from at_first course) more
round-then course more now rest lawful round =
    let later = course-rest at_first course (more ++ Make (Polled now) ∷ rest) lawful in
    ends-round course more (course-prefix at_first course (more ++ Make (Polled now) ∷ rest) lawful) (course-prefix (view_from at_first course) more (Make (Polled now) ∷ rest) later) round
    (course-rest (view_from at_first course) more (Make (Polled now) ∷ rest) later).0

said-round : EndsRound (turns_of report_heard_course) (view_from at_first report_heard_course) saying_moves
said-round = round-then report_heard_course saying_moves (pos 12) (Make Stopped ∷ []) resolved-lawful.leaves.along.lawful (refl, (refl, (refl, (refl, (refl, tt)))))

pub recovered-is-said : RecoveredIsSaid
unfolding decode_apdus decode_apdus_within decode_pt_message decode_status decode_status_within decode_status_field decode_field_value history payment_request
recovered-is-said = record {
  ends = said-round;
  next = record { setup_is = refl; stage = refl; calls = refl; rest = _; items = refl };
  terminal = _;
  report = record { trace = 123; approved = Some paid_figures; result_code = 0 };
  entry = record { slot = 0; intent = logged_intent; result = None };
  reports = record { reports = record { found = refl; standing_is = refl; message = Completion; decoded = refl; means = refl }; opened = refl };
  not_below = omega arith;
  outcome_is = refl;
  asker_is = refl;
}

-- ---- a terminal is set aside

ready-last-lawful : IsCourse at_first ready_last_course
ready-last-lawful = course-prefix at_first ready_last_course (Make (Polled (pos 3)) ∷ Make Stopped ∷ []) ready-lawful.along.lawful

abbrev ready_last_view : View
ready_last_view = view_from at_first ready_last_course

begun-later-lawful : IsCourse ready_last_view begun_later_moves
unfolding decode_apdus decode_apdus_within decode_pt_message decode_status decode_status_within decode_status_field decode_field_value history payment_request
begun-later-lawful = (record { running = refl; calls = refl; items = refl }, ((refl, omega arith), (record { idle = record { round = refl; calls = refl }; first = refl }, (record { idle = record { round = refl; calls = refl }; first = refl }, (record { running = refl; calls = refl; items = refl }, ((record { polled = refl; connected_is = refl }, payment-chunk), (record { idle = record { round = refl; calls = refl }; waits = refl; bytes = payment_request; message = refl; reads = payment-read }, (record { idle = record { round = refl; calls = refl }; first = refl }, (record { idle = record { round = refl; calls = refl }; first = refl }, ((WriteBody 0 (Intent later_logged_intent), refl, refl), (refl, ((WriteGate 0 (Intent later_logged_intent), refl, refl), (refl, ((Ask (commands.Authorise 1099 978), refl, refl), (record { idle = record { round = refl; calls = refl }; first = refl }, (record { idle = record { round = refl; calls = refl }; first = refl }, tt))))))))))))))))

abbrev begun_later_view : View
begun_later_view = view_from ready_last_view begun_later_moves

-- the link is lost
abbrev lost_later_moves : List Move
lost_later_moves = Make (Polled (pos 4)) ∷ Make (Lost 0) ∷ items_begin 3

lost-later-lawful : IsCourse begun_later_view lost_later_moves
unfolding decode_apdus decode_apdus_within decode_pt_message decode_status decode_status_within decode_status_field decode_field_value history payment_request
lost-later-lawful = (record { running = refl; calls = refl; items = refl }, (record { polled = refl; connected_is = refl }, (record { idle = record { round = refl; calls = refl }; first = refl }, (record { idle = record { round = refl; calls = refl }; first = refl }, (record { idle = record { round = refl; calls = refl }; first = refl }, tt)))))

-- and made again, and the terminal reports
abbrev reported_below_moves : List Move
reported_below_moves =
    Make (Polled (pos 9)) ∷ (items_begin 2 ++ Make (Linked 0) ∷ Make (SentPt 0 register_bytes true) ∷ Make (Polled (pos 10)) ∷ Make (HeardPt 0 (ack ++ completion)) ∷ (items_begin 4 ++ Make (SentPt 0 ack true) ∷ Begin ∷ Make (SentPt 0 enquiry_sent true)
    ∷ (items_begin 3 ++ Make (Polled (pos 11)) ∷ Make (HeardPt 0 (ack ++ abort 0x64)) ∷ (items_begin 4 ++ Make (SentPt 0 ack true) ∷ (items_begin 4 ++ Make (Polled (pos 12)) ∷ [])))))

reported-below-lawful : IsCourse (view_from begun_later_view lost_later_moves) reported_below_moves
unfolding decode_apdus decode_apdus_within decode_pt_message decode_status decode_status_within decode_status_field decode_field_value history payment_request
reported-below-lawful = course-tested (view_from begun_later_view lost_later_moves) reported_below_moves refl

aside-lawful : IsCourse at_first aside_course
aside-lawful =
    course-append at_first ready_last_course (begun_later_moves ++ below_moves) ready-last-lawful
    (course-append ready_last_view begun_later_moves below_moves begun-later-lawful (course-append begun_later_view lost_later_moves reported_below_moves lost-later-lawful reported-below-lawful))

-- the end of each enquiry isn't true of the book
untrue-reports : (book : List BookedEntry) → list_all (λ (end : HeardEnd). is_true book end end.ending) (past_of aside_course).ends ≡ false → ¬ Honest (past_of aside_course) book
untrue-reports book f honest = no-true (sym f ∙ honest.true_ends)

booked-untrue : list_all (λ (end : HeardEnd). is_true (older_entry 123 ∷ []) end end.ending) (past_of aside_course).ends ≡ false
unfolding decode_apdus decode_apdus_within decode_pt_message decode_status decode_status_within decode_status_field decode_field_value history payment_request
booked-untrue = refl

empty-untrue : list_all (λ (end : HeardEnd). is_true [] end end.ending) (past_of aside_course).ends ≡ false
unfolding decode_apdus decode_apdus_within decode_pt_message decode_status decode_status_within decode_status_field decode_field_value history payment_request
empty-untrue = refl

pub aside-is-not-honest : AsideIsNotHonest
unfolding decode_apdus decode_apdus_within decode_pt_message decode_status decode_status_within decode_status_field decode_field_value history payment_request
aside-is-not-honest = record {
  lean = record { turns_are = refl; lawful = aside-lawful; lean = lean-tested aside_course refl };
  aside = record { terminal = _; found = refl; standing_is = refl };
  booked = untrue-reports (older_entry 123 ∷ []) booked-untrue;
  empty = untrue-reports [] empty-untrue;
}
