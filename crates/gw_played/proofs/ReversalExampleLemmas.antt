-- The examples of played terminals with reversals and stops, by computing.
use Rattle.std.proofs.Common.{◌≡◌, ℕ, Bool, true, List, [], ◌∷◌, ◌++◌, refl, arith}
use Rattle.std.specs.Fmt.{digits}
use Rattle.std.specs.Prelude.{pos, bytes_eq, codes}
use Rattle.std.specs.Str.{is_utf8, chars}
use lib.Utf8.{encode}
use Rattle.gw_base.specs.Transaction.{transaction_text}
use Rattle.gw_site.specs.declared.turn.Turn.TheVariants.{Polled, HeardTill, HeardPt}
use Rattle.json_text.specs.Canonical.{canonical}
use Rattle.sale_frame.specs.Grammar.{frame}
use Rattle.sale_values.specs.declared.request.SaleRequest.TheVariants as requests
use Rattle.sale_msg.specs.Canonical.{request_tree}
use Rattle.zvt_apdu.specs.DecodeStream.{decode_apdus, decode_apdus_within}
use Rattle.zvt_bmp.specs.Decode.{decode_field_value, decode_status, decode_status_field, decode_status_within}
use Rattle.zvt_msg.specs.declared.command.Command.TheVariants as commands
use Rattle.zvt_msg.specs.CommandDecode.{decode_command}
use Rattle.zvt_msg.specs.MessageDecode.{decode_pt_message}
use Rattle.jrn_record.specs.declared.records.Record.TheVariants.{Intent, Outcome}
use Rattle.gw_ledger.specs.History.{history}
use Rattle.pt_core.specs.declared.play.Play.TheVariants as play
use Rattle.pt_core.specs.Example.{acknowledgement, approval}
use Rattle.pt_core.specs.Exchange.{Sends, Hears, HearsSent}
use Rattle.gw_owes.specs.Calls.{Ask, Acknowledge, WriteBody, WriteGate}
use Rattle.gw_owes.specs.ReadAs.{IsReadAs}
use Rattle.gw_owes.specs.TerminalExample.{ack, abort}
use Rattle.gw_rules.specs.Lawful.{IsCourse, IsChunk, turns_of}
use Rattle.gw_rules.specs.Laws.{IsLeanCourse}
use Rattle.gw_rules.specs.TerminalLogExample.{items_begin}
use Rattle.gw_rules.specs.View.{Make, view_from, at_first}
use Rattle.gw_rules.proofs.CourseLemmas.{course-append}
use Rattle.gw_rules.proofs.TextLemmas.{bytes-tested, ident-tested}
use Rattle.gw_books.specs.Example.{asked_course, first_link, payment_text}
use Rattle.gw_books.specs.Past.{past_of}
use Rattle.gw_books.specs.ReversalExample.{abort_asked_course, abort_text, reversing_header, stop, stopping_moves}
use Rattle.gw_books.proofs.CourseLemmas.{asked-lawful}
use Rattle.gw_books.proofs.PaymentTextLemmas.{is_spellable}
use Rattle.gw_books.proofs.ReversalTextLemmas.{abort-reads, reversal-reads-as}
use Rattle.gw_played.specs.Example.{approved_moves, first_approval, first_entry, first_payment_reply, first_unperformed, first_unperformed_reply, played_approved_course, plays_first}
use Rattle.gw_played.specs.Played.{PlacedExchange, exchanges_in, exchanges_of, book_along}
use Rattle.gw_played.specs.ReversalExample.{PlayedReversals, aborted_moves, approved_all_the_same_moves, first_reversal, first_reversal_ask, first_reversal_read, first_reversal_reply, first_reversal_text, first_reversing_intent, played_aborted_course, played_reversed_course, played_stopped_course, reversal_approval, reversal_approved_moves, reversal_asked_moves, reverse_first, second_entry, stop_wished_moves}
use Rattle.gw_played.proofs.PlayedExampleLemmas.{all-linked, approved_exchanges, approving-lawful, asked_exchanges, asked_view, booked-by, exchanged, lean-course, lean-tested, played-by}

-- ---- the till's reversal is read as it is meant

reversal-canonical : first_reversal_text ≡ canonical (request_tree reversing_header (requests.Reversal first_reversal_ask))
unfolding first_reversal_text
reversal-canonical = refl

reversal-spellable : is_spellable 0 (request_tree reversing_header (requests.Reversal first_reversal_ask)) ≡ true
unfolding is_utf8 chars encode
reversal-spellable = refl

reversal-reads : IsReadAs first_reversal_text first_reversal_read
reversal-reads = reversal-reads-as (codes "000001-0001-0") first_reversal_text (ident-tested 80 (codes "000001-0001-0") refl) reversal-canonical reversal-spellable

-- ---- what is heard

reversal-chunk : IsChunk (frame first_reversal_text)
unfolding first_reversal_text
reversal-chunk = record { count = (omega arith, omega arith); bytes = bytes-tested (frame first_reversal_text) refl }

reversed-chunk : IsChunk (acknowledgement ++ reversal_approval)
reversed-chunk = record { count = (omega arith, omega arith); bytes = bytes-tested (acknowledgement ++ reversal_approval) refl }

abort-chunk : IsChunk (frame abort_text)
unfolding abort_text
abort-chunk = record { count = (omega arith, omega arith); bytes = bytes-tested (frame abort_text) refl }

ack-chunk : IsChunk ack
ack-chunk = record { count = (omega arith, omega arith); bytes = bytes-tested ack refl }

approval-chunk : IsChunk approval
approval-chunk = record { count = (omega arith, omega arith); bytes = bytes-tested approval refl }

aborted-chunk : IsChunk (ack ++ abort 0x6C)
aborted-chunk = record { count = (omega arith, omega arith); bytes = bytes-tested (ack ++ abort 0x6C) refl }

-- ---- the courses are lawful, and lean

reversing-lawful : IsCourse (view_from at_first played_approved_course) reversal_asked_moves
unfolding decode_apdus decode_apdus_within decode_pt_message decode_status decode_status_within decode_status_field decode_field_value history payment_text first_reversal_text transaction_text digits
reversing-lawful = ((record { polled = refl; connected_is = refl }, reversal-chunk), (record { idle = record { round = refl; calls = refl }; waits = refl; bytes = first_reversal_text; message = refl; reads = reversal-reads }, (record { idle = record { round = refl; calls = refl }; first = refl }, (record { idle = record { round = refl; calls = refl }; first = refl }, ((WriteBody 2 (Intent first_reversing_intent), refl, refl), (refl, ((WriteGate 2 (Intent first_reversing_intent), refl, refl), (refl, ((Ask (commands.Reverse (0x12 ∷ 0x34 ∷ 0x56 ∷ []) 1), refl, refl), (record { idle = record { round = refl; calls = refl }; first = refl }, (record { idle = record { round = refl; calls = refl }; first = refl }, tt)))))))))))

reversed-lawful : IsCourse (view_from (view_from at_first played_approved_course) reversal_asked_moves) reversal_approved_moves
unfolding decode_apdus decode_apdus_within decode_pt_message decode_status decode_status_within decode_status_field decode_field_value history payment_text first_reversal_text transaction_text digits
reversed-lawful = (record { running = refl; calls = refl; items = refl }, ((record { polled = refl; connected_is = refl }, reversed-chunk), (record { idle = record { round = refl; calls = refl }; first = refl }, (record { idle = record { round = refl; calls = refl }; first = refl }, (record { idle = record { round = refl; calls = refl }; first = refl }, (record { idle = record { round = refl; calls = refl }; first = refl }, ((Acknowledge, refl, refl), (record { idle = record { round = refl; calls = refl }; first = refl }, (record { idle = record { round = refl; calls = refl }; first = refl }, (record { idle = record { round = refl; calls = refl }; first = refl }, ((Acknowledge, refl, refl), (record { idle = record { round = refl; calls = refl }; first = refl }, ((WriteBody 3 (Outcome first_reversal), refl, refl), (refl, ((WriteGate 3 (Outcome first_reversal), refl, refl), (refl, ((first_reversal_reply, refl, refl), (record { idle = record { round = refl; calls = refl }; first = refl }, (record { idle = record { round = refl; calls = refl }; first = refl }, (record { idle = record { round = refl; calls = refl }; first = refl }, (record { running = refl; calls = refl; items = refl }, tt)))))))))))))))))))))

reversed-lean : IsLeanCourse (turns_of played_reversed_course) played_reversed_course
reversed-lean = record {
  turns_are = refl;
  lawful = course-append at_first played_approved_course (reversal_asked_moves ++ reversal_approved_moves) (course-append at_first asked_course approved_moves asked-lawful approving-lawful)
      (course-append (view_from at_first played_approved_course) reversal_asked_moves reversal_approved_moves reversing-lawful reversed-lawful);
  lean = lean-tested played_reversed_course refl;
}

stop-heard-lawful : IsCourse asked_view (Make (Polled (pos 5)) ∷ Make (HeardPt 0 ack) ∷ (items_begin 5 ++ Make (Polled (pos 6)) ∷ Make (HeardTill 1 (frame abort_text)) ∷ []))
unfolding decode_apdus decode_apdus_within decode_pt_message decode_status decode_status_within decode_status_field decode_field_value history payment_text
stop-heard-lawful = (record { running = refl; calls = refl; items = refl }, ((record { polled = refl; connected_is = refl }, ack-chunk), (record { idle = record { round = refl; calls = refl }; first = refl }, (record { idle = record { round = refl; calls = refl }; first = refl }, (record { idle = record { round = refl; calls = refl }; first = refl }, (record { idle = record { round = refl; calls = refl }; first = refl }, (record { idle = record { round = refl; calls = refl }; first = refl }, (record { running = refl; calls = refl; items = refl }, ((record { polled = refl; connected_is = refl }, abort-chunk), tt)))))))))

stop-sent-lawful : IsCourse (view_from at_first abort_asked_course) stopping_moves
unfolding decode_apdus decode_apdus_within decode_pt_message decode_status decode_status_within decode_status_field decode_field_value history payment_text abort_text
stop-sent-lawful = (record { idle = record { round = refl; calls = refl }; waits = refl; bytes = abort_text; message = refl; reads = abort-reads }, (record { idle = record { round = refl; calls = refl }; first = refl }, (record { idle = record { round = refl; calls = refl }; first = refl }, ((Ask commands.Stop, refl, refl), (record { idle = record { round = refl; calls = refl }; first = refl }, (record { idle = record { round = refl; calls = refl }; first = refl }, tt))))))

stopped-approved-lawful : IsCourse (view_from (view_from at_first abort_asked_course) stopping_moves) approved_all_the_same_moves
unfolding decode_apdus decode_apdus_within decode_pt_message decode_status decode_status_within decode_status_field decode_field_value history payment_text abort_text
stopped-approved-lawful = (record { running = refl; calls = refl; items = refl }, ((record { polled = refl; connected_is = refl }, approval-chunk), (record { idle = record { round = refl; calls = refl }; first = refl }, ((Acknowledge, refl, refl), (record { idle = record { round = refl; calls = refl }; first = refl }, (record { idle = record { round = refl; calls = refl }; first = refl }, (record { idle = record { round = refl; calls = refl }; first = refl }, ((Acknowledge, refl, refl), (record { idle = record { round = refl; calls = refl }; first = refl }, ((WriteBody 1 (Outcome (first_approval 7)), refl, refl), (refl, ((WriteGate 1 (Outcome (first_approval 7)), refl, refl), (refl, ((first_payment_reply 7, refl, refl), (record { idle = record { round = refl; calls = refl }; first = refl }, (record { idle = record { round = refl; calls = refl }; first = refl }, (record { idle = record { round = refl; calls = refl }; first = refl }, (record { running = refl; calls = refl; items = refl }, tt))))))))))))))))))

stopped-lean : IsLeanCourse (turns_of played_stopped_course) played_stopped_course
stopped-lean = record {
  turns_are = refl;
  lawful = course-append at_first abort_asked_course (stopping_moves ++ approved_all_the_same_moves)
      (course-append at_first asked_course (Make (Polled (pos 5)) ∷ Make (HeardPt 0 ack) ∷ (items_begin 5 ++ Make (Polled (pos 6)) ∷ Make (HeardTill 1 (frame abort_text)) ∷ [])) asked-lawful stop-heard-lawful)
      (course-append (view_from at_first abort_asked_course) stopping_moves approved_all_the_same_moves stop-sent-lawful stopped-approved-lawful);
  lean = lean-tested played_stopped_course refl;
}

stop-wished-lawful : IsCourse asked_view stop_wished_moves
unfolding decode_apdus decode_apdus_within decode_pt_message decode_status decode_status_within decode_status_field decode_field_value history payment_text abort_text
stop-wished-lawful = (record { running = refl; calls = refl; items = refl }, ((record { polled = refl; connected_is = refl }, abort-chunk), (record { idle = record { round = refl; calls = refl }; waits = refl; bytes = abort_text; message = refl; reads = abort-reads }, (record { idle = record { round = refl; calls = refl }; first = refl }, (record { idle = record { round = refl; calls = refl }; first = refl }, (record { idle = record { round = refl; calls = refl }; first = refl }, (record { idle = record { round = refl; calls = refl }; first = refl }, tt)))))))

aborted-lawful : IsCourse (view_from asked_view stop_wished_moves) aborted_moves
unfolding decode_apdus decode_apdus_within decode_pt_message decode_status decode_status_within decode_status_field decode_field_value history payment_text abort_text
aborted-lawful = (record { running = refl; calls = refl; items = refl }, ((record { polled = refl; connected_is = refl }, aborted-chunk), (record { idle = record { round = refl; calls = refl }; first = refl }, (record { idle = record { round = refl; calls = refl }; first = refl }, ((Ask commands.Stop, refl, refl), (record { idle = record { round = refl; calls = refl }; first = refl }, (record { idle = record { round = refl; calls = refl }; first = refl }, ((Acknowledge, refl, refl), (record { idle = record { round = refl; calls = refl }; first = refl }, ((WriteBody 1 (Outcome (first_unperformed 6)), refl, refl), (refl, ((WriteGate 1 (Outcome (first_unperformed 6)), refl, refl), (refl, ((first_unperformed_reply 6, refl, refl), (record { idle = record { round = refl; calls = refl }; first = refl }, (record { idle = record { round = refl; calls = refl }; first = refl }, (record { idle = record { round = refl; calls = refl }; first = refl }, (record { running = refl; calls = refl; items = refl }, tt))))))))))))))))))

aborted-lean : IsLeanCourse (turns_of played_aborted_course) played_aborted_course
aborted-lean = lean-course (stop_wished_moves ++ aborted_moves) (course-append asked_view stop_wished_moves aborted_moves stop-wished-lawful aborted-lawful) refl

-- ---- what is heard was sent, and what is booked

-- the exchanges of the reversal
abbrev reversed_exchanges : Bool → List PlacedExchange
reversed_exchanges own =
    exchanged own 42 (Sends ack) (exchanged own 41 (Sends ack) (exchanged own 40 (Hears (acknowledgement ++ reversal_approval)) (exchanged own 38 (Sends reverse_first) (approved_exchanges own))))

-- of the payment that is stopped and approved
abbrev stopped_exchanges : Bool → List PlacedExchange
stopped_exchanges own = exchanged own 31 (Sends ack) (exchanged own 30 (Sends ack) (exchanged own 29 (Hears approval) (exchanged own 27 (Sends stop) (exchanged own 24 (Hears ack) (asked_exchanges own)))))

-- of the one that is aborted
abbrev aborted_exchanges : Bool → List PlacedExchange
aborted_exchanges own = exchanged own 28 (Sends ack) (exchanged own 27 (Sends stop) (exchanged own 26 (Hears (ack ++ abort 0x6C)) (asked_exchanges own)))

reversed-exchanges : (poi : List ℕ) → exchanges_of poi played_reversed_course ≡ reversed_exchanges (bytes_eq (codes "T1") poi)
unfolding decode_apdus decode_apdus_within decode_pt_message decode_status decode_status_within decode_status_field decode_field_value history payment_text first_reversal_text transaction_text digits
reversed-exchanges poi = refl

stopped-exchanges : (poi : List ℕ) → exchanges_of poi played_stopped_course ≡ stopped_exchanges (bytes_eq (codes "T1") poi)
unfolding decode_apdus decode_apdus_within decode_pt_message decode_status decode_status_within decode_status_field decode_field_value history payment_text abort_text
stopped-exchanges poi = refl

aborted-exchanges : (poi : List ℕ) → exchanges_of poi played_aborted_course ≡ aborted_exchanges (bytes_eq (codes "T1") poi)
unfolding decode_apdus decode_apdus_within decode_pt_message decode_status decode_status_within decode_status_field decode_field_value history payment_text abort_text
aborted-exchanges poi = refl

reversed-hears : HearsSent (plays_first play.Approve) (exchanges_in (reversed_exchanges true))
unfolding decode_apdus decode_apdus_within decode_command
reversed-hears = (([], refl), (([], refl), (([], refl), (([], refl), tt))))

-- of what it sent for the payment that is stopped the acknowledgement is heard first
stopped-hears : HearsSent (plays_first play.Approve) (exchanges_in (stopped_exchanges true))
unfolding decode_apdus decode_apdus_within decode_command
stopped-hears = (([], refl), ((approval, refl), (([], refl), (([], refl), tt))))

aborted-hears : HearsSent (plays_first (play.Decline 0x6C)) (exchanges_in (aborted_exchanges true))
unfolding decode_apdus decode_apdus_within decode_command
aborted-hears = (([], refl), (([], refl), (([], refl), tt)))

reversed-book : book_along (plays_first play.Approve) (codes "T1") (reversed_exchanges true) ≡ first_entry ∷ second_entry ∷ []
unfolding decode_apdus decode_apdus_within decode_command
reversed-book = refl

stopped-book : book_along (plays_first play.Approve) (codes "T1") (stopped_exchanges true) ≡ first_entry ∷ []
unfolding decode_apdus decode_apdus_within decode_command
stopped-book = refl

aborted-book : book_along (plays_first (play.Decline 0x6C)) (codes "T1") (aborted_exchanges true) ≡ []
unfolding decode_apdus decode_apdus_within decode_command
aborted-book = refl

-- ---- its link

reversed-links : (past_of played_reversed_course).links ≡ first_link ∷ []
unfolding decode_apdus decode_apdus_within decode_pt_message decode_status decode_status_within decode_status_field decode_field_value history payment_text first_reversal_text transaction_text digits
reversed-links = refl

stopped-links : (past_of played_stopped_course).links ≡ first_link ∷ []
unfolding decode_apdus decode_apdus_within decode_pt_message decode_status decode_status_within decode_status_field decode_field_value history payment_text abort_text
stopped-links = refl

aborted-links : (past_of played_aborted_course).links ≡ first_link ∷ []
unfolding decode_apdus decode_apdus_within decode_pt_message decode_status decode_status_within decode_status_field decode_field_value history payment_text abort_text
aborted-links = refl

-- ---- the examples

pub played-reversals : PlayedReversals
played-reversals = record {
  reversed = record {
    lean = reversed-lean;
    played = played-by played_reversed_course (plays_first play.Approve) reversed_exchanges reversed-exchanges reversed-hears tt;
    linked = all-linked (past_of played_reversed_course) (first_link ∷ []) reversed-links refl;
    book_is = booked-by played_reversed_course (plays_first play.Approve) reversed_exchanges (first_entry ∷ second_entry ∷ []) reversed-exchanges reversed-book;
  };
  stopped = record {
    lean = stopped-lean;
    played = played-by played_stopped_course (plays_first play.Approve) stopped_exchanges stopped-exchanges stopped-hears tt;
    linked = all-linked (past_of played_stopped_course) (first_link ∷ []) stopped-links refl;
    book_is = booked-by played_stopped_course (plays_first play.Approve) stopped_exchanges (first_entry ∷ []) stopped-exchanges stopped-book;
  };
  aborted = record {
    lean = aborted-lean;
    played = played-by played_aborted_course (plays_first (play.Decline 0x6C)) aborted_exchanges aborted-exchanges aborted-hears tt;
    linked = all-linked (past_of played_aborted_course) (first_link ∷ []) aborted-links refl;
    book_is = booked-by played_aborted_course (plays_first (play.Decline 0x6C)) aborted_exchanges [] aborted-exchanges aborted-book;
  };
}
