-- The example logs of malformed bytes.
use Rattle.std.proofs.Common.{List, [], ◌∷◌, ◌++◌, refl, inl, inr, arith}
use Rattle.std.specs.Prelude.{pos}
use Rattle.gw_ledger.specs.History.{history}
use Rattle.gw_site.specs.Outside.{outside_of}
use Rattle.gw_site.specs.declared.turn.Turn.TheVariants.{Polled, HeardPt, CutPt, CutTill, Stopped}
use Rattle.json_text.specs.Grammar.{Spells}
use Rattle.json_text.specs.Tree.{object, no_members}
use Rattle.json_text.proofs.CanonicalLemmas.{spellable_written}
use Rattle.sale_frame.specs.Grammar.{BeginsWithBadLength, frame}
use Rattle.gw_owes.specs.ReadAs.{IsReadAs}
use Rattle.gw_owes.specs.TerminalExample.{ack, outside_status}
use Rattle.gw_rules.specs.CauseExample.{outside_apdu, too_long_log, too_long_course}
use Rattle.gw_rules.specs.Example.{heard_log}
use Rattle.gw_rules.specs.Lawful.{IsChunk, IsCourse, IsLawful}
use Rattle.gw_rules.specs.MalformedLaws.{HasFramed}
use Rattle.gw_rules.specs.TerminalLogExample.{linked_log, items_begin}
use Rattle.gw_rules.specs.View.{Move, Begin, Read, Make, at_first}
use Rattle.gw_rules.proofs.CauseExampleLemmas.{begun, ack_apdu, outside-cause, outside-said, too-long-said, is-too-long, too-long-cut}
use Rattle.gw_rules.proofs.CourseLemmas.{makes, course-append}
use Rattle.gw_rules.proofs.ExampleLemmas.{heard_view, heard-course}
use Rattle.gw_rules.proofs.MalformedLemmas.{each-apdu-changes-no-books, each-frame-changes-no-books, each-message-changes-no-books, each-too-long-changes-no-books}
use Rattle.gw_rules.proofs.PrefixLemmas.{lawful-along}
use Rattle.gw_rules.proofs.TextLemmas.{bytes-tested, spellable-tree}
use Rattle.rule_examples.specs.CauseExample.{outside_course}
use Rattle.rule_examples.specs.MalformedExample.{ApduIsHarmless, FrameIsHarmless, MessageIsHarmless, TooLongIsHarmless, empty_message, headless, headless_reply, no_frame, polled_log, reject_course, reject_turns, too_long_rest, unframed_course}
use Rattle.rule_examples.proofs.CauseExampleLemmas.{outside-cut}

-- ---- a message without a header

empty-spelled : Spells (object no_members) empty_message
empty-spelled = spellable_written (object no_members) (spellable-tree 0 (object no_members) refl)

pub empty-read : IsReadAs empty_message headless
empty-read = record { tree = object no_members; spelled = empty-spelled; faulty = inl (record { request = refl; response = refl }, refl) }

pub empty-chunk : IsChunk (frame empty_message)
empty-chunk = record { count = (omega arith, omega arith); bytes = bytes-tested (frame empty_message) refl }

empty-said : HasFramed (outside_of polled_log) 1 (frame empty_message) (empty_message ∷ []) []
empty-said = record {
  before = [];
  rest = [];
  spelled = record { whole = refl; each = tt; ended = inl (inl (omega arith)) };
  all = record { whole = refl; each = ((omega arith, omega arith), tt); ended = inl (inl (omega arith)) };
}

abbrev reject_moves : List Move
reject_moves = Read headless ∷ Begin ∷ (makes reject_turns ++ makes (Polled (pos 0) ∷ Stopped ∷ []))

reject-course : IsCourse (heard_view (frame empty_message)) reject_moves
unfolding history
reject-course = (
  record { idle = record { round = refl; calls = refl }; waits = refl; bytes = empty_message; message = refl; reads = empty-read },
  (
    record { idle = record { round = refl; calls = refl }; first = refl },
    ((headless_reply, refl, refl), (record { running = refl; calls = refl; items = refl }, (refl, tt))),
  ),
)

reject-lawful : IsCourse at_first reject_course
reject-lawful = course-append at_first (makes (heard_log (frame empty_message))) reject_moves (heard-course (frame empty_message) empty-chunk) reject-course

pub message-is-harmless : MessageIsHarmless
message-is-harmless = record {
  along = record { turns = refl; lawful = reject-lawful };
  round = (refl, tt);
  said = empty-said;
  reads = empty-read;
  outside = tt;
  alone =
      each-message-changes-no-books polled_log reject_turns (Stopped ∷ []) 1 (frame empty_message) (pos 0) [] [] empty_message [] headless
      (lawful-along (heard_log (frame empty_message) ++ reject_turns ++ Polled (pos 0) ∷ Stopped ∷ []) reject_course refl reject-lawful) (refl, tt) empty-said empty-read tt;
}

-- ---- bytes that begin no frame

pub no-frame-chunk : IsChunk no_frame
no-frame-chunk = record { count = (omega arith, omega arith); bytes = bytes-tested no_frame refl }

no-frame-bad : BeginsWithBadLength no_frame
no-frame-bad = (0, (omega arith, refl), λ length. omega (arith, length.0))

no-frame-said : HasFramed (outside_of polled_log) 1 no_frame [] no_frame
no-frame-said = record {
  before = [];
  rest = [];
  spelled = record { whole = refl; each = tt; ended = inl (inl (omega arith)) };
  all = record { whole = refl; each = tt; ended = inr no-frame-bad };
}

abbrev unframed_moves : List Move
unframed_moves = Begin ∷ makes (CutTill 1 ∷ Polled (pos 0) ∷ Stopped ∷ [])

unframed-course : IsCourse (heard_view no_frame) unframed_moves
unframed-course = (
  record { idle = record { round = refl; calls = refl }; first = refl },
  (refl, (record { running = refl; calls = refl; items = refl }, (refl, tt))),
)

unframed-lawful : IsCourse at_first unframed_course
unframed-lawful = course-append at_first (makes (heard_log no_frame)) unframed_moves (heard-course no_frame no-frame-chunk) unframed-course

pub frame-is-harmless : FrameIsHarmless
frame-is-harmless = record {
  along = record { turns = refl; lawful = unframed-lawful };
  round = (refl, tt);
  said = no-frame-said;
  bad = no-frame-bad;
  alone =
      each-frame-changes-no-books polled_log (CutTill 1 ∷ []) (Stopped ∷ []) 1 no_frame (pos 0) [] no_frame
      (lawful-along (heard_log no_frame ++ CutTill 1 ∷ Polled (pos 0) ∷ Stopped ∷ []) unframed_course refl unframed-lawful) (refl, tt) no-frame-said no-frame-bad;
}

-- ---- a terminal

apdu-lawful : IsLawful ((linked_log ++ Polled (pos 1) ∷ []) ++ HeardPt 0 outside_status ∷ CutPt 0 ∷ Polled (pos 2) ∷ Stopped ∷ [])
apdu-lawful =
    lawful-along (linked_log ++ Polled (pos 1) ∷ HeardPt 0 outside_status ∷ CutPt 0 ∷ Polled (pos 2) ∷ Stopped ∷ []) (outside_course ++ Begin ∷ Make (CutPt 0) ∷ (items_begin 4 ++ Make (Polled (pos 2)) ∷ Make Stopped ∷ [])) outside-cut.along.turns outside-cut.along.lawful

pub apdu-is-harmless : ApduIsHarmless
apdu-is-harmless = record {
  lawful = apdu-lawful;
  round = (refl, tt);
  said = outside-said;
  fault = outside-cause.1.0;
  outside = outside-cause.1.1;
  alone = each-apdu-changes-no-books (linked_log ++ Polled (pos 1) ∷ []) (CutPt 0 ∷ []) (Stopped ∷ []) 0 outside_status (pos 2) [] [] outside_apdu [] outside-cause.1.0 apdu-lawful (refl, tt) outside-said outside-cause.1.1;
}

too-long-lawful : IsLawful ((linked_log ++ Polled (pos 1) ∷ []) ++ HeardPt 0 (ack ++ too_long_rest) ∷ CutPt 0 ∷ Polled (pos 2) ∷ Stopped ∷ [])
too-long-lawful =
    lawful-along (too_long_log ++ CutPt 0 ∷ Polled (pos 2) ∷ Stopped ∷ []) (too_long_course ++ items_begin 4 ++ Make (CutPt 0) ∷ (items_begin 2 ++ Make (Polled (pos 2)) ∷ Make Stopped ∷ [])) too-long-cut.along.turns too-long-cut.along.lawful

pub too-long-is-harmless : TooLongIsHarmless
too-long-is-harmless = record {
  lawful = too-long-lawful;
  round = (refl, tt);
  said = too-long-said;
  long = is-too-long;
  alone = each-too-long-changes-no-books (linked_log ++ Polled (pos 1) ∷ []) (CutPt 0 ∷ []) (Stopped ∷ []) 0 (ack ++ begun) (pos 2) (ack_apdu ∷ []) begun 12001 too-long-lawful (refl, tt) too-long-said is-too-long;
}
