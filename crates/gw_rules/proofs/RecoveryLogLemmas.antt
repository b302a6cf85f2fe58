-- The example log of a recovery.
use Rattle.std.proofs.Common.{◌≡◌, List, [], ◌∷◌, ◌++◌, refl, true, arith}
use Rattle.std.specs.Prelude.{pos, codes}
use Rattle.std.specs.Str.{is_utf8, chars}
use lib.Utf8.{encode}
use Rattle.json_text.specs.Canonical.{canonical}
use Rattle.sale_frame.specs.Grammar.{frame}
use Rattle.gw_bytes.specs.Bytes.{AreBytes}
use Rattle.gw_site.specs.Image.{Image}
use Rattle.gw_site.specs.declared.turn.Turn.TheVariants.{Start, Polled, HeardPt, Linked, SentPt, Synced, Crash}
use Rattle.gw_site.proofs.ImageLemmas.{file_image}
use Rattle.zvt_apdu.specs.DecodeStream.{decode_apdus, decode_apdus_within}
use Rattle.zvt_bmp.specs.Decode.{decode_field_value, decode_status_field, decode_status_within, decode_status}
use Rattle.zvt_msg.specs.MessageDecode.{decode_pt_message}
use Rattle.jrn_record.specs.declared.records.Record.TheVariants.{Outcome}
use Rattle.gw_ledger.specs.History.{history}
use Rattle.gw_owes.specs.Calls.{WriteBody, WriteGate}
use Rattle.gw_owes.specs.ReadAs.{IsReadAs}
use Rattle.gw_owes.specs.TerminalExample.{ack}
use Rattle.gw_rules.specs.Lawful.{IsChunk, IsCourse}
use Rattle.gw_rules.specs.PaymentLogExample.{payment_request, logged_outcome, keep_moves, ready_none_log, ready_none_course, begun_log, begun_course}
use Rattle.gw_rules.specs.RecoveryLogExample.{open_status_request, resolved_status_request, asked_status, open_status_reply, resolved_status_reply, intent_file, later_run_course, open_status_course, enquired_later_course, open_course, open_view, report_bytes, resolving_moves, resolved_status_course, RecoveryIsLawful}
use Rattle.gw_rules.specs.RowExample.{terminal_setup, register_bytes}
use Rattle.gw_rules.specs.TerminalLogExample.{items_begin}
use Rattle.gw_rules.specs.View.{View, Move, Begin, Make, view_from, at_first}
use Rattle.gw_rules.proofs.CourseLemmas.{course-append}
use Rattle.gw_rules.proofs.PaymentLogLemmas.{ready_none_view, ready-none-lawful, begun_view, begun-lawful}
use Rattle.gw_rules.proofs.RowExampleLemmas.{formed}
use Rattle.gw_rules.proofs.TestedLemmas.{course-tested}
use Rattle.gw_rules.proofs.TextLemmas.{bytes-tested, ident-tested, is_spellable, asked_tree, status-read}

-- ---- the texts

open-canonical : open_status_request ≡ canonical (asked_tree (codes "2") (codes "1"))
unfolding open_status_request
open-canonical = refl

open-spellable : is_spellable 0 (asked_tree (codes "2") (codes "1")) ≡ true
unfolding is_utf8 chars encode
open-spellable = refl

open-read : IsReadAs open_status_request (asked_status (codes "2"))
open-read = status-read (codes "2") (codes "1") open_status_request open-canonical open-spellable (ident-tested 10 (codes "2") refl) (ident-tested 10 (codes "1") refl)

open-chunk : IsChunk (frame open_status_request)
unfolding open_status_request
open-chunk = record { count = (omega arith, omega arith); bytes = bytes-tested (frame open_status_request) refl }

resolved-canonical : resolved_status_request ≡ canonical (asked_tree (codes "3") (codes "1"))
unfolding resolved_status_request
resolved-canonical = refl

resolved-spellable : is_spellable 0 (asked_tree (codes "3") (codes "1")) ≡ true
unfolding is_utf8 chars encode
resolved-spellable = refl

resolved-read : IsReadAs resolved_status_request (asked_status (codes "3"))
resolved-read = status-read (codes "3") (codes "1") resolved_status_request resolved-canonical resolved-spellable (ident-tested 10 (codes "3") refl) (ident-tested 10 (codes "1") refl)

resolved-chunk : IsChunk (frame resolved_status_request)
unfolding resolved_status_request
resolved-chunk = record { count = (omega arith, omega arith); bytes = bytes-tested (frame resolved_status_request) refl }

-- ---- a later run

-- the power fails, and a run begins
abbrev crash_moves : List Move
crash_moves = Make (Crash intent_file) ∷ Make (Start terminal_setup) ∷ []

intent-image : Image begun_view.scene.outside intent_file
unfolding decode_apdus decode_apdus_within decode_pt_message history payment_request
intent-image = file_image (ready_none_log ++ begun_log)

intent-bytes : AreBytes intent_file
intent-bytes = bytes-tested intent_file refl

crash-lawful : IsCourse begun_view crash_moves
crash-lawful = ((intent-image, intent-bytes), ((refl, formed), tt))

abbrev started_view : View
started_view = view_from begun_view crash_moves

-- the terminal is linked
abbrev relinked_moves : List Move
relinked_moves = Make Synced ∷ Make (Polled (pos 4)) ∷ (items_begin 2 ++ Make (Linked 0) ∷ Make (SentPt 0 register_bytes true) ∷ [])

relinked-lawful : IsCourse started_view relinked_moves
unfolding decode_apdus decode_apdus_within decode_pt_message history payment_request
relinked-lawful = course-tested started_view relinked_moves refl

abbrev relinked_view : View
relinked_view = view_from started_view relinked_moves

open-status-lawful : IsCourse relinked_view open_status_course
unfolding decode_apdus decode_apdus_within decode_pt_message history payment_request open_status_request
open-status-lawful = (
  record { running = refl; calls = refl; items = refl },
  (
    (refl, omega arith),
    (
      record { idle = record { round = refl; calls = refl }; first = refl },
      (
        record { idle = record { round = refl; calls = refl }; first = refl },
        (
          record { running = refl; calls = refl; items = refl },
          (
            (record { polled = refl; connected_is = refl }, open-chunk),
            (
              record { idle = record { round = refl; calls = refl }; waits = refl; bytes = open_status_request; message = refl; reads = open-read },
              (
                record { idle = record { round = refl; calls = refl }; first = refl },
                (
                  (open_status_reply, refl, refl),
                  (record { idle = record { round = refl; calls = refl }; first = refl }, (record { idle = record { round = refl; calls = refl }; first = refl }, tt)),
                ),
              ),
            ),
          ),
        ),
      ),
    ),
  ),
)

abbrev status_view : View
status_view = view_from relinked_view open_status_course

enquired-later-lawful : IsCourse status_view enquired_later_course
unfolding decode_apdus decode_apdus_within decode_pt_message history payment_request open_status_request
enquired-later-lawful = course-tested status_view enquired_later_course refl

-- from where the payment is begun to where the terminal reports
abbrev later_moves : List Move
later_moves = later_run_course ++ open_status_course ++ enquired_later_course

later-lawful : IsCourse begun_view later_moves
later-lawful =
    course-append begun_view crash_moves (relinked_moves ++ open_status_course ++ enquired_later_course) crash-lawful
    (course-append started_view relinked_moves (open_status_course ++ enquired_later_course) relinked-lawful (course-append relinked_view open_status_course enquired_later_course open-status-lawful enquired-later-lawful))

pub open-lawful : IsCourse at_first open_course
open-lawful = course-append at_first ready_none_course (begun_course ++ later_moves) ready-none-lawful (course-append ready_none_view begun_course later_moves begun-lawful later-lawful)

-- ---- the terminal reports

-- what it says, up to where the Completion is handled
abbrev reported_moves : List Move
reported_moves = Make (HeardPt 0 report_bytes) ∷ (items_begin 4 ++ Make (SentPt 0 ack true) ∷ (items_begin 3 ++ Make (SentPt 0 ack true) ∷ []))

reported-lawful : IsCourse open_view reported_moves
unfolding decode_apdus decode_apdus_within decode_pt_message decode_status decode_status_within decode_status_field decode_field_value history payment_request open_status_request
reported-lawful = course-tested open_view reported_moves refl

-- and from there on
abbrev kept_moves : List Move
kept_moves = Begin ∷ (keep_moves 1 (Outcome (logged_outcome 6)) ++ items_begin 3)

kept-lawful : IsCourse (view_from open_view reported_moves) kept_moves
unfolding decode_apdus decode_apdus_within decode_pt_message decode_status decode_status_within decode_status_field decode_field_value history payment_request open_status_request
kept-lawful = (
  record { idle = record { round = refl; calls = refl }; first = refl },
  (
    (WriteBody 1 (Outcome (logged_outcome 6)), refl, refl),
    (
      refl,
      (
        (WriteGate 1 (Outcome (logged_outcome 6)), refl, refl),
        (
          refl,
          (
            record { idle = record { round = refl; calls = refl }; first = refl },
            (record { idle = record { round = refl; calls = refl }; first = refl }, (record { idle = record { round = refl; calls = refl }; first = refl }, tt)),
          ),
        ),
      ),
    ),
  ),
)

pub resolving-lawful : IsCourse open_view (Make (HeardPt 0 report_bytes) ∷ resolving_moves)
resolving-lawful = course-append open_view reported_moves kept_moves reported-lawful kept-lawful

-- ---- the till asks again

abbrev resolved_view : View
resolved_view = view_from open_view (Make (HeardPt 0 report_bytes) ∷ resolving_moves)

resolved-status-lawful : IsCourse resolved_view resolved_status_course
unfolding decode_apdus decode_apdus_within decode_pt_message decode_status decode_status_within decode_status_field decode_field_value history payment_request open_status_request resolved_status_request
resolved-status-lawful = (
  record { running = refl; calls = refl; items = refl },
  (
    (record { polled = refl; connected_is = refl }, resolved-chunk),
    (
      record { idle = record { round = refl; calls = refl }; waits = refl; bytes = resolved_status_request; message = refl; reads = resolved-read },
      (
        record { idle = record { round = refl; calls = refl }; first = refl },
        (
          (resolved_status_reply, refl, refl),
          (
            record { idle = record { round = refl; calls = refl }; first = refl },
            (record { idle = record { round = refl; calls = refl }; first = refl }, (record { running = refl; calls = refl; items = refl }, (refl, tt))),
          ),
        ),
      ),
    ),
  ),
)

pub recovery-lawful : RecoveryIsLawful
unfolding decode_apdus decode_apdus_within decode_pt_message decode_status decode_status_within decode_status_field decode_field_value history payment_request open_status_request resolved_status_request
recovery-lawful = record {
  leaves = record {
    along = record {
      turns = refl;
      lawful = course-append at_first open_course (Make (HeardPt 0 report_bytes) ∷ (resolving_moves ++ resolved_status_course)) open-lawful
          (course-append open_view (Make (HeardPt 0 report_bytes) ∷ resolving_moves) resolved_status_course resolving-lawful resolved-status-lawful);
    };
    standing_is = refl;
  };
  open_is = refl;
  kept_is = refl;
}
