-- The example logs of a payment.
use Rattle.std.proofs.Common.{◌≡◌, List, [], ◌∷◌, ◌++◌, refl, true, arith}
use Rattle.std.specs.Prelude.{pos, slice_get, Option, Some, None}
use Rattle.gw_site.specs.declared.turn.Turn.TheVariants.{Polled, HeardPt, Lost, SentTill, SentPt, CutPt, Stopped}
use Rattle.zvt_apdu.specs.DecodeStream.{decode_apdus, decode_apdus_within}
use Rattle.zvt_bmp.specs.Decode.{decode_field_value, decode_status_field, decode_status_within, decode_status}
use Rattle.zvt_msg.specs.MessageDecode.{decode_pt_message}
use Rattle.jrn_record.specs.declared.records.Record.TheVariants.{Outcome}
use Rattle.gw_ledger.specs.History.{history}
use Rattle.gw_owes.specs.Calls.{WriteBody, WriteGate}
use Rattle.gw_rules.specs.Lawful.{IsCourse, Stands}
use Rattle.gw_rules.specs.PaymentLogExample.{payment_request, logged_intent, logged_outcome, logged_reply, ready_none_course, begun_course, keep_moves, ready_none_log, begun_log}
use Rattle.rule_examples.specs.PaymentLogExample.{serving_view, BegunIsServedOpen, replied_course, replied_view, PaidHasNoneOpen, late_moves, PaymentIsSilent, approved_course, PaymentIsLawful}
use Rattle.gw_owes.specs.Core.{new_terminal}
use Rattle.gw_owes.specs.Reply.{reply_value_bytes}
use Rattle.gw_owes.specs.TerminalExample.{ack, completion, approved_status}
use Rattle.gw_owes.specs.declared.terminal.Terminal.{Terminal}
use Rattle.gw_rules.specs.RowExample.{example_pt}
use Rattle.gw_rules.specs.TerminalLogExample.{items_begin}
use Rattle.gw_rules.specs.View.{Move, Begin, Make, view_from, at_first}
use Rattle.gw_rules.proofs.CourseLemmas.{course-append}
use Rattle.gw_rules.proofs.TestedLemmas.{course-tested}
use Rattle.gw_rules.proofs.PaymentLogLemmas.{ready_none_view, ready-none-lawful, begun-lawful, begun_view}

-- the terminal's messages, up to where the Completion is handled
abbrev reported_moves : List Move
reported_moves = Make (Polled (pos 4)) ∷ Make (HeardPt 0 (ack ++ approved_status ++ completion)) ∷ (items_begin 4 ++ Make (SentPt 0 ack true) ∷ (items_begin 3 ++ Make (SentPt 0 ack true) ∷ []))

reported-lawful : IsCourse begun_view reported_moves
unfolding decode_apdus decode_apdus_within decode_pt_message decode_status decode_status_within decode_status_field decode_field_value history payment_request
reported-lawful = course-tested begun_view reported_moves refl

-- and from there on
abbrev ended_moves : List Move
ended_moves = Begin ∷ (keep_moves 1 (Outcome (logged_outcome 4)) ++ Make (SentTill 1 (reply_value_bytes (logged_reply 4)) true) ∷ (items_begin 3 ++ Make (Polled (pos 5)) ∷ Make Stopped ∷ []))

ended-lawful : IsCourse (view_from begun_view reported_moves) ended_moves
unfolding decode_apdus decode_apdus_within decode_pt_message decode_status decode_status_within decode_status_field decode_field_value history payment_request
ended-lawful = (
  record { idle = record { round = refl; calls = refl }; first = refl },
  (
    (WriteBody 1 (Outcome (logged_outcome 4)), refl, refl),
    (
      refl,
      (
        (WriteGate 1 (Outcome (logged_outcome 4)), refl, refl),
        (
          refl,
          (
            (logged_reply 4, refl, refl),
            (
              record { idle = record { round = refl; calls = refl }; first = refl },
              (
                record { idle = record { round = refl; calls = refl }; first = refl },
                (
                  record { idle = record { round = refl; calls = refl }; first = refl },
                  (record { running = refl; calls = refl; items = refl }, (refl, tt)),
                ),
              ),
            ),
          ),
        ),
      ),
    ),
  ),
)

pub payment-lawful : PaymentIsLawful
unfolding decode_apdus decode_apdus_within decode_pt_message decode_status decode_status_within decode_status_field decode_field_value history payment_request
payment-lawful = record {
  leaves = record {
    along = record {
      turns = refl;
      lawful = course-append at_first ready_none_course (begun_course ++ approved_course) ready-none-lawful
          (course-append ready_none_view begun_course approved_course begun-lawful (course-append begun_view reported_moves ended_moves reported-lawful ended-lawful));
    };
    standing_is = refl;
  };
  kept_is = refl;
}

-- ---- what other laws say of them

abbrev pub found : Option Terminal → Terminal
found None = new_terminal example_pt
found (Some terminal) = terminal

serving-stands : Stands (ready_none_log ++ begun_log) serving_view
serving-stands = record { course = ready_none_course ++ begun_course; log_is = refl; lawful = course-append at_first ready_none_course begun_course ready-none-lawful begun-lawful; view_is = refl }

serving_terminal : Terminal
serving_terminal = found (slice_get serving_view.scene.core.terminals 0)

pub begun-served-open : BegunIsServedOpen
unfolding decode_apdus decode_apdus_within decode_pt_message decode_status decode_status_within decode_status_field decode_field_value history payment_request serving_terminal
begun-served-open = record {
  stands = serving-stands;
  between = record { running = refl; calls = refl };
  terminal = serving_terminal;
  found = refl;
  standing_is = refl;
  served = record { intent = logged_intent; is_open = refl; before = refl; not_below = omega arith };
}

-- the end of the payment, up to its reply
abbrev reply_moves : List Move
reply_moves = Begin ∷ (keep_moves 1 (Outcome (logged_outcome 4)) ++ Make (SentTill 1 (reply_value_bytes (logged_reply 4)) true) ∷ [])

reply-lawful : IsCourse (view_from begun_view reported_moves) reply_moves
unfolding decode_apdus decode_apdus_within decode_pt_message decode_status decode_status_within decode_status_field decode_field_value history payment_request
reply-lawful = (
  record { idle = record { round = refl; calls = refl }; first = refl },
  ((WriteBody 1 (Outcome (logged_outcome 4)), refl, refl), (refl, ((WriteGate 1 (Outcome (logged_outcome 4)), refl, refl), (refl, ((logged_reply 4, refl, refl), tt))))),
)

pub replied-lawful : IsCourse begun_view replied_course
replied-lawful = course-append begun_view reported_moves reply_moves reported-lawful reply-lawful

pub paid-none-open : PaidHasNoneOpen
unfolding decode_apdus decode_apdus_within decode_pt_message decode_status decode_status_within decode_status_field decode_field_value history payment_request
paid-none-open = record {
  stands = record {
    course = ready_none_course ++ begun_course ++ replied_course;
    log_is = refl;
    lawful = course-append at_first ready_none_course (begun_course ++ replied_course) ready-none-lawful
        (course-append ready_none_view begun_course replied_course begun-lawful replied-lawful);
    view_is = refl;
  };
  between = record { running = refl; calls = refl };
  terminal = found (slice_get replied_view.scene.core.terminals 0);
  found = refl;
  standing_is = refl;
  none_open = record { none_open = refl; not_below = omega arith; within = omega arith };
}

late-lawful : IsCourse begun_view (Make (Polled (pos 8)) ∷ late_moves)
unfolding decode_apdus decode_apdus_within decode_pt_message decode_status decode_status_within decode_status_field decode_field_value history payment_request
late-lawful = course-tested begun_view (Make (Polled (pos 8)) ∷ late_moves) refl

pub payment-silent : PaymentIsSilent
unfolding decode_apdus decode_apdus_within decode_pt_message decode_status decode_status_within decode_status_field decode_field_value history payment_request
payment-silent = record {
  before = serving-stands;
  may_poll = record { running = refl; calls = refl; items = refl };
  terminal = _;
  found = refl;
  standing_has = tt;
  facts = _;
  talk_is = refl;
  lawful = late-lawful;
  silent = record { quiet = tt; completes_none = tt; lasts = tt };
  late = refl;
  round = (refl, tt);
  completes_none = ((λ chunk e. absurd (let n : CutPt 0 ≡ HeardPt 0 chunk = e in cc)), tt);
  unlost = ((λ e. absurd (let n : CutPt 0 ≡ Lost 0 = e in cc)), tt);
  ends = record { running = refl; calls = refl; items = refl };
}
