-- The example logs of a payment.
use Rattle.std.proofs.Common.{List, [], ◌∷◌, ◌++◌, refl, true, arith}
use Rattle.std.specs.Prelude.{pos}
use Rattle.gw_site.specs.declared.turn.Turn.TheVariants.{Polled, HeardPt, Lost, Linked, SentTill, SentPt, Stopped}
use Rattle.zvt_apdu.specs.DecodeStream.{decode_apdus, decode_apdus_within}
use Rattle.zvt_bmp.specs.Decode.{decode_field_value, decode_status_field, decode_status_within, decode_status}
use Rattle.zvt_msg.specs.MessageDecode.{decode_pt_message}
use Rattle.zvt_msg.specs.declared.command.Command.TheVariants as commands
use Rattle.jrn_record.specs.declared.records.Record.TheVariants.{Intent, Outcome}
use Rattle.gw_ledger.specs.History.{history}
use Rattle.gw_owes.specs.Calls.{Ask, WriteBody, WriteGate}
use Rattle.gw_rules.specs.Lawful.{IsCourse}
use Rattle.gw_rules.specs.PaymentLogExample.{payment_request, logged_intent, logged_outcome, logged_reply, ready_none_course, begun_course, keep_moves, enquired_again_course, resolved_course, ResolvedIsLawful}
use Rattle.gw_owes.specs.Reply.{reply_value_bytes}
use Rattle.gw_owes.specs.TerminalExample.{ack, completion, approved_status, enquiry_sent}
use Rattle.gw_rules.specs.RowExample.{register_bytes}
use Rattle.gw_rules.specs.TerminalLogExample.{items_begin}
use Rattle.gw_rules.specs.View.{View, Move, Begin, Make, view_from, at_first}
use Rattle.gw_rules.proofs.CourseLemmas.{course-append}
use Rattle.gw_rules.proofs.PaymentTextLemmas.{payment-chunk, payment-read}
use Rattle.gw_rules.proofs.TestedLemmas.{course-tested}
use Rattle.gw_rules.proofs.TerminalLogLemmas.{after_start, from-start}

abbrev pub ready_none_view : View
ready_none_view = view_from at_first ready_none_course

pub ready-none-lawful : IsCourse at_first ready_none_course
unfolding decode_apdus decode_apdus_within decode_pt_message history
ready-none-lawful = from-start (after_start ready_none_course) refl

pub begun-lawful : IsCourse ready_none_view begun_course
unfolding decode_apdus decode_apdus_within decode_pt_message history payment_request
begun-lawful = (
  record { running = refl; calls = refl; items = refl },
  (
    (refl, omega arith),
    (
      record { idle = record { round = refl; calls = refl }; first = refl },
      (
        record { idle = record { round = refl; calls = refl }; first = refl },
        (
          record { running = refl; calls = refl; items = refl },
          (
            (record { polled = refl; connected_is = refl }, payment-chunk),
            (
              record { idle = record { round = refl; calls = refl }; waits = refl; bytes = payment_request; message = refl; reads = payment-read },
              (
                record { idle = record { round = refl; calls = refl }; first = refl },
                (
                  record { idle = record { round = refl; calls = refl }; first = refl },
                  (
                    (WriteBody 0 (Intent logged_intent), refl, refl),
                    (
                      refl,
                      (
                        (WriteGate 0 (Intent logged_intent), refl, refl),
                        (
                          refl,
                          (
                            (Ask (commands.Authorise 1099 978), refl, refl),
                            (
                              record { idle = record { round = refl; calls = refl }; first = refl },
                              (record { idle = record { round = refl; calls = refl }; first = refl }, tt),
                            ),
                          ),
                        ),
                      ),
                    ),
                  ),
                ),
              ),
            ),
          ),
        ),
      ),
    ),
  ),
)

abbrev pub begun_view : View
begun_view = view_from ready_none_view begun_course

-- ---- its key stays open until the terminal reports

-- its link is lost
abbrev lost_moves : List Move
lost_moves = Make (Polled (pos 4)) ∷ Make (Lost 0) ∷ items_begin 3

lost-lawful : IsCourse begun_view lost_moves
unfolding decode_apdus decode_apdus_within decode_pt_message history payment_request
lost-lawful = (
  record { running = refl; calls = refl; items = refl },
  (
    record { polled = refl; connected_is = refl },
    (
      record { idle = record { round = refl; calls = refl }; first = refl },
      (
        record { idle = record { round = refl; calls = refl }; first = refl },
        (record { idle = record { round = refl; calls = refl }; first = refl }, tt),
      ),
    ),
  ),
)

-- it is linked again, and reports, up to where the Completion is handled
abbrev again_moves : List Move
again_moves =
    Make (Polled (pos 9)) ∷ (items_begin 2 ++ Make (Linked 0) ∷ Make (SentPt 0 register_bytes true) ∷ Make (Polled (pos 10)) ∷ Make (HeardPt 0 (ack ++ completion)) ∷ (items_begin 4 ++ Make (SentPt 0 ack true) ∷ Begin ∷ Make (SentPt 0 enquiry_sent true)
    ∷ (items_begin 3 ++ Make (Polled (pos 11)) ∷ Make (HeardPt 0 (ack ++ approved_status ++ completion)) ∷ (items_begin 4 ++ Make (SentPt 0 ack true) ∷ (items_begin 3 ++ Make (SentPt 0 ack true) ∷ [])))))

again-lawful : IsCourse (view_from begun_view lost_moves) again_moves
unfolding decode_apdus decode_apdus_within decode_pt_message decode_status decode_status_within decode_status_field decode_field_value history payment_request
again-lawful = course-tested (view_from begun_view lost_moves) again_moves refl

-- and is resolved
abbrev resolve_moves : List Move
resolve_moves = Begin ∷ (keep_moves 1 (Outcome (logged_outcome 11)) ++ Make (SentTill 1 (reply_value_bytes (logged_reply 11)) true) ∷ (items_begin 3 ++ Make (Polled (pos 12)) ∷ Make Stopped ∷ []))

resolve-lawful : IsCourse (view_from (view_from begun_view lost_moves) again_moves) resolve_moves
unfolding decode_apdus decode_apdus_within decode_pt_message decode_status decode_status_within decode_status_field decode_field_value history payment_request
resolve-lawful = (
  record { idle = record { round = refl; calls = refl }; first = refl },
  (
    (WriteBody 1 (Outcome (logged_outcome 11)), refl, refl),
    (
      refl,
      (
        (WriteGate 1 (Outcome (logged_outcome 11)), refl, refl),
        (
          refl,
          (
            (logged_reply 11, refl, refl),
            (
              record { idle = record { round = refl; calls = refl }; first = refl },
              (
                record { idle = record { round = refl; calls = refl }; first = refl },
                (
                  record { idle = record { round = refl; calls = refl }; first = refl },
                  (record { running = refl; calls = refl; items = refl }, (refl, tt)),
                ),
              ),
            ),
          ),
        ),
      ),
    ),
  ),
)

pub resolved-lawful : ResolvedIsLawful
unfolding decode_apdus decode_apdus_within decode_pt_message decode_status decode_status_within decode_status_field decode_field_value history payment_request
resolved-lawful = record {
  leaves = record {
    along = record {
      turns = refl;
      lawful = course-append at_first ready_none_course (begun_course ++ enquired_again_course ++ resolved_course) ready-none-lawful
          (course-append ready_none_view begun_course (enquired_again_course ++ resolved_course) begun-lawful
          (course-append begun_view lost_moves (again_moves ++ resolve_moves) lost-lawful (course-append (view_from begun_view lost_moves) again_moves resolve_moves again-lawful resolve-lawful)));
    };
    standing_is = refl;
  };
  kept_is = refl;
}
