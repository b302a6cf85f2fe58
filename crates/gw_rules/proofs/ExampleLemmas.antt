-- The example logs that are lawful.
use Rattle.std.proofs.Common.{◌≡◌, ℕ, true, List, [], ◌∷◌, ◌++◌, refl, arith}
use Rattle.std.specs.Prelude.{pos}
use Rattle.gw_base.specs.Setup.{IsSetup}
use Rattle.gw_base.specs.declared.setup.Setup.{Setup}
use Rattle.gw_site.specs.declared.turn.Turn.TheVariants.{Start, Polled, Opened, HeardTill, Stopped, SentTill}
use Rattle.sale_frame.specs.Grammar.{frame}
use Rattle.gw_ledger.specs.History.{history}
use Rattle.gw_rules.specs.Example.{example_setup, status_request, status_reply_bytes, status_asked, not_found, heard_log, asked_log, StatusIsLawful, first_turns, began_moves}
use Rattle.gw_rules.specs.Lawful.{IsClear, IsCourse, IsChunk}
use Rattle.gw_rules.specs.View.{View, Move, Begin, Read, Make, after_turn, view_from, at_first}
use Rattle.gw_rules.proofs.CourseLemmas.{makes, course-append}
use Rattle.gw_rules.proofs.TestedLemmas.{passes_course, course-tested}
use Rattle.gw_rules.proofs.TextLemmas.{bytes-tested, request-read, reply-bytes, setup-formed}

-- ---- a run begins

pub began-course : (v : View) (setup : Setup) → IsClear v → IsSetup setup → passes_course (after_turn v (Start setup)) (makes first_turns) ≡ true → IsCourse v (began_moves setup)
began-course v setup clear formed e = ((clear, formed), course-tested (after_turn v (Start setup)) (makes first_turns) e)

-- ---- a till has opened and said these bytes

abbrev pub heard_view : List ℕ → View
heard_view bytes = view_from at_first (makes (heard_log bytes))

pub heard-course : (bytes : List ℕ) → IsChunk bytes → IsCourse at_first (makes (heard_log bytes))
heard-course bytes chunk =
    course-append at_first (began_moves example_setup) (makes (Polled (pos 0) ∷ Opened 1 ∷ Polled (pos 0) ∷ HeardTill 1 bytes ∷ [])) (began-course at_first example_setup refl setup-formed refl) (
      record { running = refl; calls = refl; items = refl },
      ((refl, omega arith), (record { running = refl; calls = refl; items = refl }, ((record { polled = refl; connected_is = refl }, chunk), tt))),
    )

pub request-chunk : IsChunk (frame status_request)
unfolding status_request
request-chunk = record { count = (omega arith, omega arith); bytes = bytes-tested (frame status_request) refl }

-- ---- the request is read, and begins

abbrev pub reading_moves : List Move
reading_moves = Read status_asked ∷ Begin ∷ []

abbrev pub replying_view : View
replying_view = view_from (heard_view (frame status_request)) reading_moves

pub reading-course : IsCourse (heard_view (frame status_request)) reading_moves
unfolding status_request
reading-course = (
  record { idle = record { round = refl; calls = refl }; waits = refl; bytes = status_request; message = refl; reads = request-read },
  (record { idle = record { round = refl; calls = refl }; first = refl }, tt),
)

abbrev replied_moves : List Move
replied_moves = Make (SentTill 1 (frame status_reply_bytes) true) ∷ Make (Polled (pos 0)) ∷ Make Stopped ∷ []

replied-course : IsCourse replying_view replied_moves
unfolding status_request history
replied-course = ((not_found, refl, reply-bytes), (record { running = refl; calls = refl; items = refl }, (refl, tt)))

pub status-lawful : StatusIsLawful
status-lawful = record {
  turns = refl;
  lawful = course-append at_first (makes asked_log) (reading_moves ++ replied_moves) (heard-course (frame status_request) request-chunk)
      (course-append (heard_view (frame status_request)) reading_moves replied_moves reading-course replied-course);
}
