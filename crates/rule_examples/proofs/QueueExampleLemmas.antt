-- The example log of a request that waits.
use Rattle.std.proofs.Common.{◌++◌, refl, arith}
use Rattle.std.specs.Prelude.{drop}
use Rattle.gw_base.specs.Setup.{IsSetup}
use Rattle.gw_base.specs.declared.condition.Condition.TheVariants.{Aborted}
use Rattle.gw_site.specs.declared.turn.Turn.TheVariants.{Start}
use Rattle.zvt_apdu.specs.DecodeStream.{decode_apdus, decode_apdus_within}
use Rattle.zvt_msg.specs.MessageDecode.{decode_pt_message}
use Rattle.zvt_msg.specs.declared.command.Command.TheVariants as commands
use Rattle.jrn_record.specs.declared.records.Record.TheVariants.{Intent}
use Rattle.gw_ledger.specs.History.{history}
use Rattle.gw_owes.specs.Calls.{Ask, WriteBody, WriteGate}
use Rattle.gw_owes.specs.Replies.{failure_reply}
use Rattle.gw_rules.specs.DayLogExample.{day_header, day_request}
use Rattle.gw_rules.specs.Lawful.{IsCourse}
use Rattle.gw_rules.specs.PaymentLogExample.{begun_course, logged_intent, payment_request, ready_none_course}
use Rattle.gw_rules.specs.View.{View, Make, after, view_from, at_first}
use Rattle.gw_rules.proofs.CourseLemmas.{course-append}
use Rattle.gw_rules.proofs.DayTextLemmas.{day-chunk, day-read}
use Rattle.gw_rules.proofs.PaymentTextLemmas.{payment-chunk, payment-read}
use Rattle.gw_rules.proofs.RowExampleLemmas.{formed}
use Rattle.gw_rules.proofs.TestedLemmas.{course-tested}
use Rattle.rule_examples.specs.QueueExample.{ExampleQueues, early_course, joining_course, queue_setup, overdue_course, serving_course}

queue-formed : IsSetup queue_setup
queue-formed = record { name = formed.name; line = omega arith; wait = (omega arith, omega arith); slots = formed.slots; count = formed.count; each = formed.each; distinct = formed.distinct }

abbrev pub started_view : View
started_view = after at_first (Make (Start queue_setup))

ready-lawful : IsCourse started_view (drop 1 ready_none_course)
unfolding decode_apdus decode_apdus_within decode_pt_message history
ready-lawful = course-tested started_view (drop 1 ready_none_course) refl

abbrev pub ready_view : View
ready_view = view_from started_view (drop 1 ready_none_course)

begun-lawful : IsCourse ready_view begun_course
unfolding decode_apdus decode_apdus_within decode_pt_message history payment_request
begun-lawful = (record { running = refl; calls = refl; items = refl }, ((refl, omega arith), (record { idle = record { round = refl; calls = refl }; first = refl }, (record { idle = record { round = refl; calls = refl }; first = refl }, (record { running = refl; calls = refl; items = refl }, ((record { polled = refl; connected_is = refl }, payment-chunk), (record { idle = record { round = refl; calls = refl }; waits = refl; bytes = payment_request; message = refl; reads = payment-read }, (record { idle = record { round = refl; calls = refl }; first = refl }, (record { idle = record { round = refl; calls = refl }; first = refl }, ((WriteBody 0 (Intent logged_intent), refl, refl), (refl, ((WriteGate 0 (Intent logged_intent), refl, refl), (refl, ((Ask (commands.Authorise 1099 978), refl, refl), (record { idle = record { round = refl; calls = refl }; first = refl }, (record { idle = record { round = refl; calls = refl }; first = refl }, tt))))))))))))))))

abbrev pub serving_view : View
serving_view = view_from ready_view begun_course

pub joining-lawful : IsCourse serving_view joining_course
unfolding decode_apdus decode_apdus_within decode_pt_message history payment_request day_request
joining-lawful = (record { running = refl; calls = refl; items = refl }, ((record { polled = refl; connected_is = refl }, day-chunk), (record { idle = record { round = refl; calls = refl }; waits = refl; bytes = day_request; message = refl; reads = day-read }, (record { idle = record { round = refl; calls = refl }; first = refl }, (record { idle = record { round = refl; calls = refl }; first = refl }, (record { idle = record { round = refl; calls = refl }; first = refl }, (record { idle = record { round = refl; calls = refl }; first = refl }, tt)))))))

abbrev pub joined_view : View
joined_view = view_from serving_view joining_course

early-lawful : IsCourse joined_view early_course
unfolding decode_apdus decode_apdus_within decode_pt_message history payment_request day_request
early-lawful = (record { running = refl; calls = refl; items = refl }, (record { idle = record { round = refl; calls = refl }; first = refl }, (record { idle = record { round = refl; calls = refl }; first = refl }, (record { idle = record { round = refl; calls = refl }; first = refl }, (record { running = refl; calls = refl; items = refl }, tt)))))

refused-lawful : IsCourse (view_from joined_view early_course) overdue_course
unfolding decode_apdus decode_apdus_within decode_pt_message history payment_request day_request
refused-lawful = (record { idle = record { round = refl; calls = refl }; first = refl }, (record { idle = record { round = refl; calls = refl }; first = refl }, ((failure_reply day_header Aborted, refl, refl), (record { idle = record { round = refl; calls = refl }; first = refl }, (record { running = refl; calls = refl; items = refl }, (refl, tt))))))

pub serving-lawful : IsCourse at_first serving_course
serving-lawful = ((refl, queue-formed), course-append started_view (drop 1 ready_none_course) begun_course ready-lawful begun-lawful)

pub example-queues : ExampleQueues
unfolding decode_apdus decode_apdus_within decode_pt_message history payment_request day_request
example-queues = record {
  along = record {
    turns = refl;
    lawful = course-append at_first (serving_course ++ joining_course ++ early_course) overdue_course
        (course-append at_first (serving_course ++ joining_course) early_course (course-append at_first serving_course joining_course serving-lawful joining-lawful) early-lawful) refused-lawful;
  };
  empty = refl;
  waits = refl;
  joined = refl;
  still = refl;
  refused = refl;
}
