-- The example logs of a till that closes in the middle of its device requests, and of an end of day that can't be sent.
use Rattle.std.proofs.Common.{[], ◌∷◌, ◌++◌, refl, arith}
use Rattle.gw_base.specs.declared.condition.Condition.TheVariants.{UnavailableDevice}
use Rattle.zvt_apdu.specs.DecodeStream.{decode_apdus, decode_apdus_within}
use Rattle.zvt_bmp.specs.Decode.{decode_field_value, decode_status_field, decode_status_within, decode_status}
use Rattle.zvt_msg.specs.MessageDecode.{decode_pt_message}
use Rattle.jrn_record.specs.declared.records.Record.TheVariants.{Outcome}
use Rattle.gw_ledger.specs.History.{history}
use Rattle.gw_owes.specs.Calls.{Ask, Acknowledge, WriteBody, WriteGate}
use Rattle.gw_owes.specs.Reconciliations.{day_command}
use Rattle.gw_owes.specs.Replies.{failure_reply}
use Rattle.gw_owes.specs.TerminalExample.{ack}
use Rattle.gw_rules.specs.DayLogExample.{day_request, day_header, intermediate}
use Rattle.gw_rules.specs.Lawful.{IsCourse}
use Rattle.gw_rules.specs.PaymentLogExample.{payment_request, logged_outcome, ready_none_course, begun_course}
use Rattle.rule_examples.specs.PaymentLogExample.{replied_course, replied_view}
use Rattle.gw_rules.specs.RowExample.{example_pt}
use Rattle.gw_rules.specs.View.{View, view_from, at_first}
use Rattle.gw_rules.proofs.CourseLemmas.{course-append}
use Rattle.gw_rules.proofs.DayTextLemmas.{day-chunk, day-read}
use Rattle.gw_rules.proofs.PaymentLogLemmas.{ready_none_view, ready-none-lawful, begun_view, begun-lawful}
use Rattle.rule_examples.proofs.PaymentLogLemmas.{replied-lawful}
use Rattle.gw_rules.proofs.TestedLemmas.{course-tested}
use Rattle.gw_rules.proofs.TextLemmas.{bytes-tested}
use Rattle.rule_examples.specs.TillLogExample.{shown_first, shown_course, gone_course, closed_said_course, closed_kept_course, ClosedTillIsLawful, day_unsent_course, UnsentDayIsLawful}

-- ---- a till that closes in the middle of its device requests

shown-lawful : IsCourse begun_view shown_course
unfolding decode_apdus decode_apdus_within decode_pt_message decode_status decode_status_within decode_status_field decode_field_value history payment_request
shown-lawful = (record { running = refl; calls = refl; items = refl }, ((record { polled = refl; connected_is = refl }, record { count = (omega arith, omega arith); bytes = bytes-tested (ack ++ intermediate) refl }), (record { idle = record { round = refl; calls = refl }; first = refl }, (record { idle = record { round = refl; calls = refl }; first = refl }, (record { idle = record { round = refl; calls = refl }; first = refl }, (record { idle = record { round = refl; calls = refl }; first = refl }, ((Acknowledge, refl, refl), (record { idle = record { round = refl; calls = refl }; first = refl }, ((shown_first, refl, refl), (record { idle = record { round = refl; calls = refl }; first = refl }, (record { idle = record { round = refl; calls = refl }; first = refl }, (record { idle = record { round = refl; calls = refl }; first = refl }, tt))))))))))))

abbrev shown_view : View
shown_view = view_from begun_view shown_course

gone-lawful : IsCourse shown_view gone_course
unfolding decode_apdus decode_apdus_within decode_pt_message decode_status decode_status_within decode_status_field decode_field_value history payment_request
gone-lawful = (record { running = refl; calls = refl; items = refl }, (record { polled = refl; connected_is = refl }, (record { idle = record { round = refl; calls = refl }; first = refl }, (record { idle = record { round = refl; calls = refl }; first = refl }, (record { idle = record { round = refl; calls = refl }; first = refl }, tt)))))

abbrev gone_view : View
gone_view = view_from shown_view gone_course

closed-said-lawful : IsCourse gone_view closed_said_course
unfolding decode_apdus decode_apdus_within decode_pt_message decode_status decode_status_within decode_status_field decode_field_value history payment_request
closed-said-lawful = course-tested gone_view closed_said_course refl

closed-kept-lawful : IsCourse (view_from gone_view closed_said_course) closed_kept_course
unfolding decode_apdus decode_apdus_within decode_pt_message decode_status decode_status_within decode_status_field decode_field_value history payment_request
closed-kept-lawful = (record { idle = record { round = refl; calls = refl }; first = refl }, ((WriteBody 1 (Outcome (logged_outcome 6)), refl, refl), (refl, ((WriteGate 1 (Outcome (logged_outcome 6)), refl, refl), (refl, (record { idle = record { round = refl; calls = refl }; first = refl }, (record { idle = record { round = refl; calls = refl }; first = refl }, (record { idle = record { round = refl; calls = refl }; first = refl }, (record { running = refl; calls = refl; items = refl }, (refl, tt))))))))))

closed-lawful : IsCourse shown_view (gone_course ++ closed_said_course ++ closed_kept_course)
closed-lawful = course-append shown_view gone_course (closed_said_course ++ closed_kept_course) gone-lawful (course-append gone_view closed_said_course closed_kept_course closed-said-lawful closed-kept-lawful)

pub closed-till-lawful : ClosedTillIsLawful
unfolding decode_apdus decode_apdus_within decode_pt_message decode_status decode_status_within decode_status_field decode_field_value history payment_request
closed-till-lawful = record {
  leaves = record {
    along = record {
      turns = refl;
      lawful = course-append at_first ready_none_course (begun_course ++ shown_course ++ gone_course ++ closed_said_course ++ closed_kept_course) ready-none-lawful
          (course-append ready_none_view begun_course (shown_course ++ gone_course ++ closed_said_course ++ closed_kept_course) begun-lawful
          (course-append begun_view shown_course (gone_course ++ closed_said_course ++ closed_kept_course) shown-lawful closed-lawful));
    };
    standing_is = refl;
  };
  kept_is = refl;
  asker_is = refl;
  owed_one = refl;
}

-- ---- an end of day that can't be sent

unsent-lawful : IsCourse replied_view day_unsent_course
unfolding decode_apdus decode_apdus_within decode_pt_message decode_status decode_status_within decode_status_field decode_field_value history payment_request day_request
unsent-lawful = (record { idle = record { round = refl; calls = refl }; first = refl }, (record { idle = record { round = refl; calls = refl }; first = refl }, (record { idle = record { round = refl; calls = refl }; first = refl }, (record { running = refl; calls = refl; items = refl }, ((record { polled = refl; connected_is = refl }, day-chunk), (record { idle = record { round = refl; calls = refl }; waits = refl; bytes = day_request; message = refl; reads = day-read }, (record { idle = record { round = refl; calls = refl }; first = refl }, (record { idle = record { round = refl; calls = refl }; first = refl }, ((Ask (day_command example_pt), refl, (0x03 ∷ 0x12 ∷ 0x34 ∷ 0x56 ∷ [], refl)), (refl, ((failure_reply day_header UnavailableDevice, refl, refl), (record { idle = record { round = refl; calls = refl }; first = refl }, (record { idle = record { round = refl; calls = refl }; first = refl }, (record { running = refl; calls = refl; items = refl }, (refl, tt)))))))))))))))

pub unsent-day-lawful : UnsentDayIsLawful
unfolding decode_apdus decode_apdus_within decode_pt_message decode_status decode_status_within decode_status_field decode_field_value history payment_request day_request
unsent-day-lawful = record {
  leaves = record {
    along = record {
      turns = refl;
      lawful = course-append at_first ready_none_course (begun_course ++ replied_course ++ day_unsent_course) ready-none-lawful
          (course-append ready_none_view begun_course (replied_course ++ day_unsent_course) begun-lawful (course-append begun_view replied_course day_unsent_course replied-lawful unsent-lawful));
    };
    standing_is = refl;
  };
  kept_is = refl;
}
