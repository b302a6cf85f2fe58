-- The example logs of an end of day, and the course of a display.
use Rattle.std.proofs.Common.{ℕ, List, [], ◌∷◌, ◌++◌, refl, arith}
use Rattle.std.specs.Prelude.{codes}
use Rattle.std.specs.Str.{chars}
use Rattle.gw_base.specs.declared.condition.Condition.TheVariants.{UnavailableDevice}
use Rattle.zvt_apdu.specs.DecodeStream.{decode_apdus, decode_apdus_within}
use Rattle.zvt_bmp.specs.Decode.{decode_field_value, decode_status_field, decode_status_within, decode_status}
use Rattle.zvt_msg.specs.MessageDecode.{decode_pt_message}
use Rattle.xlate.specs.Display.{show_lines}
use Rattle.jrn_record.specs.declared.records.Record.TheVariants.{Settled}
use Rattle.gw_ledger.specs.History.{history}
use Rattle.gw_owes.specs.Calls.{Ask, Acknowledge, WriteBody, WriteGate}
use Rattle.gw_owes.specs.Reconciliations.{day_command}
use Rattle.gw_owes.specs.Replies.{failure_reply}
use Rattle.gw_owes.specs.TerminalExample.{ack, completion}
use Rattle.gw_rules.specs.DayLogExample.{day_request, day_header, intermediate, shown_status, logged_settled, totals_reply, hello_reply}
use Rattle.gw_rules.specs.Lawful.{IsCourse}
use Rattle.gw_rules.specs.PaymentLogExample.{payment_request, ready_none_course, begun_course}
use Rattle.rule_examples.specs.PaymentLogExample.{replied_course, replied_view}
use Rattle.gw_rules.specs.RowExample.{example_pt}
use Rattle.gw_rules.specs.View.{View, Move, view_from, at_first}
use Rattle.gw_rules.proofs.CourseLemmas.{course-append}
use Rattle.gw_rules.proofs.DayTextLemmas.{day-chunk, day-read}
use Rattle.gw_rules.proofs.PaymentLogLemmas.{ready_none_view, ready-none-lawful, begun_view, begun-lawful}
use Rattle.rule_examples.proofs.PaymentLogLemmas.{replied-lawful}
use Rattle.gw_rules.proofs.TextLemmas.{bytes-tested}
use Rattle.rule_examples.specs.DayLogExample.{day_begun_course, day_said_course, day_kept_course, DayIsLawful, day_lost_course, LostDayIsLawful, DisplayIsLawful}

-- what the terminal says at once
abbrev said_bytes : List ℕ
said_bytes = ack ++ intermediate ++ completion

begun-day-lawful : IsCourse replied_view day_begun_course
unfolding decode_apdus decode_apdus_within decode_pt_message decode_status decode_status_within decode_status_field decode_field_value history payment_request day_request
begun-day-lawful = (record { idle = record { round = refl; calls = refl }; first = refl }, (record { idle = record { round = refl; calls = refl }; first = refl }, (record { idle = record { round = refl; calls = refl }; first = refl }, (record { running = refl; calls = refl; items = refl }, ((record { polled = refl; connected_is = refl }, day-chunk), (record { idle = record { round = refl; calls = refl }; waits = refl; bytes = day_request; message = refl; reads = day-read }, (record { idle = record { round = refl; calls = refl }; first = refl }, (record { idle = record { round = refl; calls = refl }; first = refl }, ((Ask (day_command example_pt), refl, refl), (record { idle = record { round = refl; calls = refl }; first = refl }, (record { idle = record { round = refl; calls = refl }; first = refl }, tt)))))))))))

abbrev begun_day_view : View
begun_day_view = view_from replied_view day_begun_course

said-lawful : IsCourse begun_day_view day_said_course
unfolding decode_apdus decode_apdus_within decode_pt_message decode_status decode_status_within decode_status_field decode_field_value history payment_request day_request
said-lawful = (record { running = refl; calls = refl; items = refl }, ((record { polled = refl; connected_is = refl }, record { count = (omega arith, omega arith); bytes = bytes-tested said_bytes refl }), (record { idle = record { round = refl; calls = refl }; first = refl }, (record { idle = record { round = refl; calls = refl }; first = refl }, (record { idle = record { round = refl; calls = refl }; first = refl }, (record { idle = record { round = refl; calls = refl }; first = refl }, ((Acknowledge, refl, refl), (record { idle = record { round = refl; calls = refl }; first = refl }, ((shown_status, refl, refl), (record { idle = record { round = refl; calls = refl }; first = refl }, (record { idle = record { round = refl; calls = refl }; first = refl }, ((Acknowledge, refl, refl), tt))))))))))))

kept-lawful : IsCourse (view_from begun_day_view day_said_course) day_kept_course
unfolding decode_apdus decode_apdus_within decode_pt_message decode_status decode_status_within decode_status_field decode_field_value history payment_request day_request
kept-lawful = (record { idle = record { round = refl; calls = refl }; first = refl }, ((WriteBody 2 (Settled logged_settled), refl, refl), (refl, ((WriteGate 2 (Settled logged_settled), refl, refl), (refl, ((totals_reply, refl, refl), (record { idle = record { round = refl; calls = refl }; first = refl }, (record { idle = record { round = refl; calls = refl }; first = refl }, (record { idle = record { round = refl; calls = refl }; first = refl }, (record { running = refl; calls = refl; items = refl }, (refl, tt)))))))))))

-- up to the reply to the payment, and from there on
from-payment : (moves : List Move) → IsCourse replied_view moves → IsCourse at_first (ready_none_course ++ begun_course ++ replied_course ++ moves)
from-payment moves lawful =
    course-append at_first ready_none_course (begun_course ++ replied_course ++ moves) ready-none-lawful
    (course-append ready_none_view begun_course (replied_course ++ moves) begun-lawful (course-append begun_view replied_course moves replied-lawful lawful))

pub day-lawful : DayIsLawful
unfolding decode_apdus decode_apdus_within decode_pt_message decode_status decode_status_within decode_status_field decode_field_value history payment_request day_request
day-lawful = record {
  leaves = record {
    along = record {
      turns = refl;
      lawful = from-payment (day_begun_course ++ day_said_course ++ day_kept_course)
          (course-append replied_view day_begun_course (day_said_course ++ day_kept_course) begun-day-lawful (course-append begun_day_view day_said_course day_kept_course said-lawful kept-lawful));
    };
    standing_is = refl;
  };
  kept_is = refl;
}

lost-lawful : IsCourse begun_day_view day_lost_course
unfolding decode_apdus decode_apdus_within decode_pt_message decode_status decode_status_within decode_status_field decode_field_value history payment_request day_request
lost-lawful = (record { running = refl; calls = refl; items = refl }, (record { polled = refl; connected_is = refl }, (record { idle = record { round = refl; calls = refl }; first = refl }, ((failure_reply day_header UnavailableDevice, refl, refl), (record { idle = record { round = refl; calls = refl }; first = refl }, (record { idle = record { round = refl; calls = refl }; first = refl }, (record { running = refl; calls = refl; items = refl }, (refl, tt))))))))

pub lost-day-lawful : LostDayIsLawful
unfolding decode_apdus decode_apdus_within decode_pt_message decode_status decode_status_within decode_status_field decode_field_value history payment_request day_request
lost-day-lawful = record {
  leaves = record {
    along = record {
      turns = refl;
      lawful = from-payment (day_begun_course ++ day_lost_course) (course-append replied_view day_begun_course day_lost_course begun-day-lawful lost-lawful);
    };
    standing_is = refl;
  };
  kept_is = refl;
}

pub display-lawful : DisplayIsLawful
unfolding decode_apdus decode_apdus_within decode_pt_message decode_status decode_status_within decode_status_field decode_field_value history payment_request chars
display-lawful = record {
  lawful = (record { idle = record { round = refl; calls = refl }; first = refl }, ((Ask (show_lines (codes "Hello" ∷ [])), refl, refl), (record { running = refl; calls = refl; items = refl }, ((record { polled = refl; connected_is = refl }, record { count = (omega arith, omega arith); bytes = bytes-tested ack refl }), (record { idle = record { round = refl; calls = refl }; first = refl }, (record { idle = record { round = refl; calls = refl }; first = refl }, ((hello_reply, refl, refl), tt)))))));
  standing_is = refl;
  calls_are = refl;
}
