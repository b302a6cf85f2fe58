-- The examples of reversals and stops: the courses are lawful, what has happened along them, and the book that is honest and agrees.
use Rattle.std.proofs.Common.{◌≡◌, true, false, [], ◌∷◌, ◌++◌, refl, sym, arith}
use Rattle.std.specs.Fmt.{digits}
use Rattle.std.specs.List.{list_all}
use Rattle.std.specs.Prelude.{codes, pos}
use Rattle.gw_base.specs.Transaction.{transaction_text}
use Rattle.gw_site.specs.declared.turn.Turn.TheVariants.{Polled, HeardPt, HeardTill, SentTill}
use Rattle.sale_frame.specs.Grammar.{frame}
use Rattle.sale_values.specs.Money.{money_text}
use Rattle.sale_msg.specs.Path.{tree_at}
use Rattle.sale_reply.specs.Limits.{IsHeaderWithinLimits, IsToldWithinLimits}
use Rattle.sale_reply.specs.Reply.{message_tree, header_tree, result_tree, sale_data, poi_data, payment_result, approved_body, result_body}
use Rattle.sale_reply.specs.declared.reply.SaleReply.TheVariants as reply
use Rattle.zvt_apdu.specs.DecodeStream.{decode_apdus, decode_apdus_within}
use Rattle.zvt_bmp.specs.Decode.{decode_field_value, decode_status_field, decode_status_within, decode_status}
use Rattle.zvt_msg.specs.MessageDecode.{decode_pt_message}
use Rattle.zvt_msg.specs.declared.command.Command.TheVariants as commands
use Rattle.jrn_record.specs.declared.records.Record.TheVariants.{Intent, Outcome}
use Rattle.gw_ledger.specs.History.{history}
use Rattle.gw_owes.specs.Calls.{Ask, Acknowledge, WriteBody, WriteGate}
use Rattle.gw_owes.specs.Reply.{reply_value_bytes, reply_value_tree}
use Rattle.gw_owes.specs.Replies.{header_of_reply}
use Rattle.gw_owes.specs.TerminalExample.{ack, completion}
use Rattle.gw_rules.specs.Lawful.{IsCourse, IsChunk, MayPoll, turns_of}
use Rattle.gw_rules.specs.Laws.{IsLeanCourse}
use Rattle.gw_rules.specs.TerminalLogExample.{items_begin}
use Rattle.gw_rules.specs.View.{Make, view_from, at_first}
use Rattle.gw_rules.proofs.CourseLemmas.{course-append}
use Rattle.gw_rules.proofs.TextLemmas.{bytes-tested, ident-tested}
use Rattle.gw_books.specs.Kinds.{BookedReversal}
use Rattle.gw_books.specs.Past.{Past, SentReply, past_of}
use Rattle.gw_books.specs.Books.{Honest}
use Rattle.gw_books.specs.Said.{IsFramed, all_said}
use Rattle.gw_books.specs.Agrees.{Agrees, EachSaid, success_agrees, refusal_agrees, unaccepted_agrees, not_found_agrees, in_progress_agrees}
use Rattle.gw_books.specs.Example.{asked_course, asked_past, entry_in_time, paid_course, paid_entry, paid_moves, paying_intent, payment_command, payment_occasion, payment_text, sent_success, paid_reply}
use Rattle.gw_books.specs.ReversalExample.{abort_text, abort_asked_course, kept_reversal, misasked_course, paid_original, reversal_heard_course, reversal_kept, reversal_text, reversed_book, reversed_course, reversed_moves, reversed_past, reversing_reply, reversed_result_body, reversing_status, reversing_header, reversing_intent, reversing_moves, sent_reversal, stopping_moves, AbortedRoundIsStopped, ReversalIsNoPayment, ReversalRoundIsAsked, ReversedAgrees, ReversedHasPast, ReversedIsBooked}
use Rattle.gw_books.proofs.BrokenLemmas.{breaks-by, last-refused}
use Rattle.gw_books.proofs.CourseLemmas.{asked-lawful, lean-tested, paying-lawful}
use Rattle.gw_books.proofs.ExampleLemmas.{Agreement, each-agrees, success-framed}
use Rattle.gw_books.proofs.MessageLemmas.{reply-framed}
use Rattle.gw_books.proofs.ReversalTextLemmas.{abort-reads, reversal-reads}
use Rattle.gw_books.proofs.RoundExampleLemmas.{ends-round}

pub reversed-past : past_of reversed_course ≡ reversed_past
unfolding decode_apdus decode_apdus_within decode_pt_message decode_status decode_status_within decode_status_field decode_field_value history payment_text reversal_text transaction_text digits
reversed-past = refl

pub reversed-honest : Honest reversed_past reversed_book
reversed-honest = record { caused = refl; linked = refl; ordered = refl; numbered = refl; true_ends = refl }

-- ---- what is heard

reversal-chunk : IsChunk (frame reversal_text)
unfolding reversal_text
reversal-chunk = record { count = (omega arith, omega arith); bytes = bytes-tested (frame reversal_text) refl }

abort-chunk : IsChunk (frame abort_text)
unfolding abort_text
abort-chunk = record { count = (omega arith, omega arith); bytes = bytes-tested (frame abort_text) refl }

reversed-chunk : IsChunk (ack ++ reversing_status ++ completion)
reversed-chunk = record { count = (omega arith, omega arith); bytes = bytes-tested (ack ++ reversing_status ++ completion) refl }

ack-chunk : IsChunk ack
ack-chunk = record { count = (omega arith, omega arith); bytes = bytes-tested ack refl }

-- ---- the courses are lawful

reversal-heard-lawful : IsCourse (view_from at_first paid_course) (Make (HeardTill 1 (frame reversal_text)) ∷ [])
unfolding decode_apdus decode_apdus_within decode_pt_message decode_status decode_status_within decode_status_field decode_field_value history payment_text
reversal-heard-lawful = ((record { polled = refl; connected_is = refl }, reversal-chunk), tt)

heard-lawful : IsCourse at_first reversal_heard_course
heard-lawful = course-append at_first paid_course (Make (HeardTill 1 (frame reversal_text)) ∷ []) (course-append at_first asked_course (paid_moves ++ Make (Polled (pos 6)) ∷ []) asked-lawful paying-lawful) reversal-heard-lawful

reversing-lawful : IsCourse (view_from at_first reversal_heard_course) reversing_moves
unfolding decode_apdus decode_apdus_within decode_pt_message decode_status decode_status_within decode_status_field decode_field_value history payment_text reversal_text transaction_text digits
reversing-lawful = (record { idle = record { round = refl; calls = refl }; waits = refl; bytes = reversal_text; message = refl; reads = reversal-reads }, (record { idle = record { round = refl; calls = refl }; first = refl }, (record { idle = record { round = refl; calls = refl }; first = refl }, ((WriteBody 2 (Intent reversing_intent), refl, refl), (refl, ((WriteGate 2 (Intent reversing_intent), refl, refl), (refl, ((Ask (commands.Reverse (0x12 ∷ 0x34 ∷ 0x56 ∷ []) 17), refl, refl), (record { idle = record { round = refl; calls = refl }; first = refl }, (record { idle = record { round = refl; calls = refl }; first = refl }, tt))))))))))

approved-lawful : IsCourse (view_from (view_from at_first reversal_heard_course) reversing_moves) (reversed_moves ++ Make (Polled (pos 8)) ∷ [])
unfolding decode_apdus decode_apdus_within decode_pt_message decode_status decode_status_within decode_status_field decode_field_value history payment_text reversal_text transaction_text digits
approved-lawful = (record { running = refl; calls = refl; items = refl }, ((record { polled = refl; connected_is = refl }, reversed-chunk), (record { idle = record { round = refl; calls = refl }; first = refl }, (record { idle = record { round = refl; calls = refl }; first = refl }, (record { idle = record { round = refl; calls = refl }; first = refl }, (record { idle = record { round = refl; calls = refl }; first = refl }, ((Acknowledge, refl, refl), (record { idle = record { round = refl; calls = refl }; first = refl }, (record { idle = record { round = refl; calls = refl }; first = refl }, (record { idle = record { round = refl; calls = refl }; first = refl }, ((Acknowledge, refl, refl), (record { idle = record { round = refl; calls = refl }; first = refl }, ((WriteBody 3 (Outcome kept_reversal), refl, refl), (refl, ((WriteGate 3 (Outcome kept_reversal), refl, refl), (refl, ((reversing_reply, refl, refl), (record { idle = record { round = refl; calls = refl }; first = refl }, (record { idle = record { round = refl; calls = refl }; first = refl }, (record { idle = record { round = refl; calls = refl }; first = refl }, (record { running = refl; calls = refl; items = refl }, tt)))))))))))))))))))))

pub reversed-lean : IsLeanCourse (turns_of reversed_course) reversed_course
reversed-lean = record {
  turns_are = refl;
  lawful = course-append at_first reversal_heard_course (reversing_moves ++ reversed_moves ++ Make (Polled (pos 8)) ∷ []) heard-lawful
      (course-append (view_from at_first reversal_heard_course) reversing_moves (reversed_moves ++ Make (Polled (pos 8)) ∷ []) reversing-lawful approved-lawful);
  lean = lean-tested reversed_course refl;
}

pub reversed-has-past : ReversedHasPast
reversed-has-past = record { moves = reversed_course; lean = reversed-lean; past_is = sym reversed-past }

-- ---- the book agrees

reversing-within : IsHeaderWithinLimits (header_of_reply reversing_header)
reversing-within = record { category = ident-tested 40 (codes "Reversal") refl; service = ident-tested 10 (codes "8") refl; device = tt; sale = ident-tested 40 (codes "S1") refl; poi = ident-tested 40 (codes "T1") refl }

reversed-within : IsToldWithinLimits reversed_result_body
reversed-within = (record { six_digits = omega arith; four_digits = omega arith; slot_fits = omega arith }, omega arith)

reversed-framed : IsFramed sent_reversal.bytes (reply_value_tree reversing_reply)
reversed-framed = reply-framed reversing_reply (reply.Told (header_of_reply reversing_header) reversed_result_body) refl (reversing-within, reversed-within)

-- both replies say what agrees
both-say : (agrees : Agreement) → list_all (agrees reversed_past reversed_book sent_reversal) (all_said (reply_value_tree reversing_reply)) ≡ true
    → list_all (agrees reversed_past reversed_book sent_success) (all_said (reply_value_tree paid_reply)) ≡ true → EachSaid agrees reversed_past reversed_book
both-say agrees reversed paid = each-agrees agrees reversed_past reversed_book (sent_reversal ∷ sent_success ∷ []) refl (
  record { message = reply_value_tree reversing_reply; framed = reversed-framed; passes = reversed },
  (record { message = reply_value_tree paid_reply; framed = success-framed; passes = paid }, tt),
)

reversed-book-agrees : Agrees reversed_past reversed_book
unfolding history message_tree header_tree result_tree sale_data poi_data payment_result approved_body result_body transaction_text money_text digits tree_at
reversed-book-agrees = record {
  keyed = refl;
  sent_once = refl;
  booked_once = refl;
  success = both-say success_agrees refl refl;
  refusal = both-say refusal_agrees refl refl;
  unaccepted = both-say unaccepted_agrees refl refl;
  not_found = both-say not_found_agrees refl refl;
  in_progress = both-say in_progress_agrees refl refl;
  resolved = refl;
  inside = refl;
}

pub reversed-agrees : ReversedAgrees
reversed-agrees = record { honest = reversed-honest; agrees = reversed-book-agrees }

pub reversed-is-booked : ReversedIsBooked
unfolding decode_apdus decode_apdus_within decode_pt_message decode_status decode_status_within decode_status_field decode_field_value history payment_text reversal_text transaction_text digits
reversed-is-booked = record {
  lean = reversed-lean;
  reversed = record { reversal = reversal_kept; reverses = record { kept = refl; what = refl; original = refl }; key_is = refl; approved = refl };
  reversal_is = refl;
  paid = record {
    original = paid_original;
    kept_is = refl;
    is_original = record { what = refl; poi = refl; currency = refl; approved = (refl, refl) };
    at = 0;
    paid = paid_entry;
    found = refl;
    key_is = refl;
    approved = refl;
    is_payment = refl;
    whole = refl;
  };
}

-- ---- rounds

pub reversal-round-is-asked : ReversalRoundIsAsked
unfolding decode_apdus decode_apdus_within decode_pt_message decode_status decode_status_within decode_status_field decode_field_value history payment_text reversal_text transaction_text digits
reversal-round-is-asked = record {
  ends = ends-round reversal_heard_course reversing_moves heard-lawful reversing-lawful (refl, (refl, (refl, (refl, (refl, tt))))) approved-lawful.0;
  next = record { setup_is = refl; stage = refl; calls = refl; rest = _; items = refl };
  there = refl;
  reads = reversal-reads;
  named = _;
  named_is = refl;
  ready = refl;
  begins = refl;
  original = refl;
}

abort-heard-lawful : IsCourse (view_from at_first asked_course) (Make (Polled (pos 5)) ∷ Make (HeardPt 0 ack) ∷ (items_begin 5 ++ Make (Polled (pos 6)) ∷ Make (HeardTill 1 (frame abort_text)) ∷ []))
unfolding decode_apdus decode_apdus_within decode_pt_message history payment_text
abort-heard-lawful = (record { running = refl; calls = refl; items = refl }, ((record { polled = refl; connected_is = refl }, ack-chunk), (record { idle = record { round = refl; calls = refl }; first = refl }, (record { idle = record { round = refl; calls = refl }; first = refl }, (record { idle = record { round = refl; calls = refl }; first = refl }, (record { idle = record { round = refl; calls = refl }; first = refl }, (record { idle = record { round = refl; calls = refl }; first = refl }, (record { running = refl; calls = refl; items = refl }, ((record { polled = refl; connected_is = refl }, abort-chunk), tt)))))))))

stopping-lawful : IsCourse (view_from at_first abort_asked_course) stopping_moves
unfolding decode_apdus decode_apdus_within decode_pt_message history payment_text abort_text
stopping-lawful = (record { idle = record { round = refl; calls = refl }; waits = refl; bytes = abort_text; message = refl; reads = abort-reads }, (record { idle = record { round = refl; calls = refl }; first = refl }, (record { idle = record { round = refl; calls = refl }; first = refl }, ((Ask commands.Stop, refl, refl), (record { idle = record { round = refl; calls = refl }; first = refl }, (record { idle = record { round = refl; calls = refl }; first = refl }, tt))))))

stopped-may-poll : MayPoll (view_from (view_from at_first abort_asked_course) stopping_moves)
unfolding decode_apdus decode_apdus_within decode_pt_message history payment_text abort_text
stopped-may-poll = record { running = refl; calls = refl; items = refl }

pub aborted-round-is-stopped : AbortedRoundIsStopped
unfolding decode_apdus decode_apdus_within decode_pt_message history payment_text abort_text
aborted-round-is-stopped = record {
  ends = ends-round abort_asked_course stopping_moves (course-append at_first asked_course (Make (Polled (pos 5)) ∷ Make (HeardPt 0 ack) ∷ (items_begin 5 ++ Make (Polled (pos 6)) ∷ Make (HeardTill 1 (frame abort_text)) ∷ [])) asked-lawful abort-heard-lawful) stopping-lawful (refl, tt) stopped-may-poll;
  next = record { setup_is = refl; stage = refl; calls = refl; rest = _; items = refl };
  there = refl;
  reads = abort-reads;
  named = _;
  named_is = refl;
  served = refl;
  talk = _;
  talk_is = refl;
  may_stop = refl;
}

-- ---- a payment that was asked as a reversal

-- the reply after the command
abbrev misasked_sent : SentReply
misasked_sent = record { place = 23; bytes = reply_value_bytes paid_reply; occasion = payment_occasion; kept = Intent paying_intent ∷ []; waiting = [] }

-- what has happened until then
abbrev misasked_past : Past
misasked_past = record asked_past {
  place = 24;
  occasion = payment_occasion;
  commands = record payment_command { kind = BookedReversal } ∷ [];
  replies = misasked_sent ∷ [];
}

misasked-past : past_of (misasked_course ++ Make (SentTill 1 (reply_value_bytes paid_reply) true) ∷ []) ≡ misasked_past
unfolding decode_apdus decode_apdus_within decode_pt_message history payment_text
misasked-past = refl

misasked-booked : list_all (success_agrees misasked_past (record entry_in_time { kind = BookedReversal } ∷ []) misasked_sent) (all_said (reply_value_tree paid_reply)) ≡ false
unfolding history message_tree header_tree result_tree sale_data poi_data payment_result approved_body result_body transaction_text money_text digits tree_at
misasked-booked = refl

pub reversal-is-no-payment : ReversalIsNoPayment
reversal-is-no-payment =
    breaks-by (misasked_course ++ Make (SentTill 1 (reply_value_bytes paid_reply) true) ∷ []) misasked_past (record entry_in_time { kind = BookedReversal } ∷ []) misasked-past
    (record { caused = refl; linked = refl; ordered = refl; numbered = refl; true_ends = refl })
    (λ agrees. last-refused success_agrees misasked_past (record entry_in_time { kind = BookedReversal } ∷ []) misasked_sent [] (reply_value_tree paid_reply) refl success-framed misasked-booked agrees.success)
