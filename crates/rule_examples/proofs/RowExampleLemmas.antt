-- The examples of a terminal that is linked, and of turns that no row owes yet.
use Rattle.std.proofs.Common.{◌≡◌, List, [], ◌∷◌, ◌++◌, refl, arith, inl, inr}
use Rattle.std.proofs.lemmas.Bool.{leb-true, ltb-true}
use Rattle.std.specs.Prelude.{pos}
use Rattle.gw_bytes.specs.Bytes.{AreBytes}
use Rattle.gw_site.specs.Image.{Image}
use Rattle.gw_site.specs.declared.turn.Turn.{Turn}
use Rattle.gw_site.specs.declared.turn.Turn.TheVariants.{Start, Polled, Opened, HeardTill, HeardPt, Lost, LinkFailed, CutTill, Wrote, Synced, DiskFailed, Crash, Stopped}
use Rattle.gw_site.proofs.ImageLemmas.{file_image, stable_image}
use Rattle.jrn_record.specs.Grammar.{record_body}
use Rattle.sale_frame.specs.Grammar.{BeginsWithBadLength}
use Rattle.zvt_apdu.specs.DecodeStream.{decode_apdus, decode_apdus_within}
use Rattle.gw_owes.specs.Calls.{Ask, WriteBody, WriteGate}
use Rattle.gw_owes.specs.Terminals.{registration}
use Rattle.gw_rules.specs.Example.{began, began_moves}
use Rattle.gw_rules.specs.Lawful.{IsCourse, IsChunk}
use Rattle.gw_rules.specs.RowExample.{example_pt, terminal_setup, link_view, keep_view, gate_moves, example_record}
use Rattle.rule_examples.specs.RowExample.{unlinked_log, unframed_log, linked_moves, both_bytes, UnlinkedIsLawful, UnframedIsLawful, PollBeforeUnframedCut, RowItemsComeFirst, LinkRegisters, LinkIsDueAgain, FailedSendCutsLink, LostIsDue, LostEndOfDayReplies, LostTransactionKeepsAsker, BothAreItems, SendingsAreSpelled, GoneTillIsForgotten, WaitsByDeadline, GateIsInFlight, SyncKeeps, StartLeavesFlight, FailedSyncCrashes, ClosedGateDrops, OpenGateKeeps}
use Rattle.gw_rules.specs.View.{Move, Begin, Make, view_from, at_first}
use Rattle.gw_rules.proofs.CourseLemmas.{course-append}
use Rattle.gw_rules.proofs.CutLemmas.{bad-frame-cuts}
use Rattle.gw_rules.proofs.ExampleLemmas.{began-course}
use Rattle.gw_rules.proofs.PrefixLemmas.{lawful-along}
use Rattle.gw_rules.proofs.TextLemmas.{bytes-tested}
use Rattle.gw_rules.proofs.RowExampleLemmas.{formed}

-- ---- a terminal

abbrev unlinked_moves : List Move
unlinked_moves = Make (Polled (pos 0)) ∷ Begin ∷ Begin ∷ Make (LinkFailed 0) ∷ Make (Polled (pos 1)) ∷ Make Stopped ∷ []

pub unlinked-lawful : UnlinkedIsLawful
unlinked-lawful = lawful-along unlinked_log
    (began_moves terminal_setup ++ unlinked_moves) refl
    (course-append at_first (began_moves terminal_setup) unlinked_moves (began-course at_first terminal_setup refl formed refl) (
      record { running = refl; calls = refl; items = refl },
      (
        record { idle = record { round = refl; calls = refl }; first = refl },
        (record { idle = record { round = refl; calls = refl }; first = refl }, (refl, (record { running = refl; calls = refl; items = refl }, (refl, tt)))),
      ),
    ))

unframed-chunk : IsChunk (0 ∷ 0 ∷ 0 ∷ 0 ∷ [])
unframed-chunk = record { count = (omega arith, omega arith); bytes = bytes-tested (0 ∷ 0 ∷ 0 ∷ 0 ∷ []) refl }

-- after the till has opened the terminal's link is tried
abbrev opened_moves : List Move
opened_moves = Make (Polled (pos 0)) ∷ Make (Opened 1) ∷ Begin ∷ Begin ∷ Make (LinkFailed 0) ∷ Make (Polled (pos 0)) ∷ Make (HeardTill 1 (0 ∷ 0 ∷ 0 ∷ 0 ∷ [])) ∷ []

abbrev unframed_moves : List Move
unframed_moves = began_moves terminal_setup ++ opened_moves

unframed-course : IsCourse at_first unframed_moves
unframed-course = course-append at_first (began_moves terminal_setup) opened_moves (began-course at_first terminal_setup refl formed refl) (
  record { running = refl; calls = refl; items = refl },
  (
    (refl, leb-true 0 1 refl),
    (
      record { idle = record { round = refl; calls = refl }; first = refl },
      (record { idle = record { round = refl; calls = refl }; first = refl }, (refl, (record { running = refl; calls = refl; items = refl }, ((record { polled = refl; connected_is = refl }, unframed-chunk), tt)))),
    ),
  ),
)

abbrev cut_moves : List Move
cut_moves = Begin ∷ Make (CutTill 1) ∷ Begin ∷ Begin ∷ Make (Polled (pos 0)) ∷ Make Stopped ∷ []

cut-course : IsCourse (view_from at_first unframed_moves) cut_moves
cut-course = (
  record { idle = record { round = refl; calls = refl }; first = refl },
  (
    refl,
    (
      record { idle = record { round = refl; calls = refl }; first = refl },
      (record { idle = record { round = refl; calls = refl }; first = refl }, (record { running = refl; calls = refl; items = refl }, (refl, tt))),
    ),
  ),
)

pub unframed-lawful : UnframedIsLawful
unframed-lawful = lawful-along (unframed_log ++ CutTill 1 ∷ Polled (pos 0) ∷ Stopped ∷ []) (unframed_moves ++ cut_moves) refl (course-append at_first unframed_moves cut_moves unframed-course cut-course)

-- four zeros spell the length 0, which no message has
zeros-are-bad : BeginsWithBadLength (0 ∷ 0 ∷ 0 ∷ 0 ∷ [])
zeros-are-bad = (0, (ltb-true 0 4294967296 refl, refl), λ h. let lt = h.0 in omega arith)

pub poll-before-unframed-cut : PollBeforeUnframedCut
poll-before-unframed-cut = record {
  before = lawful-along unframed_log unframed_moves refl unframed-course;
  with_turn = λ lawful.
      let cut = bad-frame-cuts (began terminal_setup ++ Polled (pos 0) ∷ Opened 1 ∷ LinkFailed 0 ∷ Polled (pos 0) ∷ []) [] [] 1 (0 ∷ 0 ∷ 0 ∷ 0 ∷ []) (pos 0) [] (0 ∷ 0 ∷ 0 ∷ 0 ∷ []) lawful tt
      (record { whole = refl; each = tt; ended = inr zeros-are-bad }) zeros-are-bad in
      none cut.0 cut.1 cut.2;
}
  where
    none : (first rest : List Turn) → [] ≡ first ++ CutTill 1 ∷ rest → ⊥
    none [] rest e = cc
    none (turn ∷ first) rest e = cc

pub row-items-come-first : RowItemsComeFirst
row-items-come-first = refl

linked-course : IsCourse link_view linked_moves
linked-course = (refl, ((Ask (registration example_pt), refl, refl), tt))

pub link-registers : LinkRegisters
link-registers = record { registers = record { lawful = linked-course; standing_is = refl; calls_are = refl }; awaited = refl }

pub link-is-due-again : LinkIsDueAgain
link-is-due-again = record { lawful = (refl, tt); standing_is = refl; calls_are = refl }

pub failed-send-cuts-link : FailedSendCutsLink
failed-send-cuts-link = record { cuts = record { lawful = (refl, ((Ask (registration example_pt), refl, (_, refl)), (refl, tt))); standing_is = refl; calls_are = refl }; awaited = refl; talk = refl }

pub lost-is-due : LostIsDue
lost-is-due = record {
  lawful = course-append link_view linked_moves (Make (Polled (pos 2)) ∷ Make (Lost 0) ∷ Begin ∷ []) linked-course
      (record { running = refl; calls = refl; items = refl }, (record { polled = refl; connected_is = refl }, (record { idle = record { round = refl; calls = refl }; first = refl }, tt)));
  standing_is = refl;
  calls_are = refl;
}

pub lost-end-of-day-replies : LostEndOfDayReplies
lost-end-of-day-replies header period = record { lawful = (refl, tt); calls_are = refl; asker_is = refl }

pub lost-transaction-keeps-asker : LostTransactionKeepsAsker
lost-transaction-keeps-asker = record { lawful = (refl, tt); calls_are = refl; asker_is = refl }

both-chunk : IsChunk both_bytes
both-chunk = record { count = (omega arith, omega arith); bytes = bytes-tested both_bytes refl }

pub both-are-items : BothAreItems
unfolding decode_apdus decode_apdus_within
both-are-items = record {
  lawful = course-append link_view linked_moves (Make (Polled (pos 1)) ∷ Make (HeardPt 0 both_bytes) ∷ []) linked-course (record { running = refl; calls = refl; items = refl }, ((record { polled = refl; connected_is = refl }, both-chunk), tt));
  items = refl;
}

pub sendings-are-spelled : SendingsAreSpelled
sendings-are-spelled = record { acknowledged = refl; refused = refl }

-- ---- who waits for a terminal

pub gone-till-is-forgotten : GoneTillIsForgotten
gone-till-is-forgotten = refl

pub sorted-waits : WaitsByDeadline
sorted-waits = refl

-- ---- a record

gate-course : IsCourse keep_view gate_moves
gate-course = ((WriteBody 0 example_record, refl, refl), (refl, ((WriteGate 0 example_record, refl, refl), tt)))

pub gate-in-flight : GateIsInFlight
gate-in-flight = record { lawful = gate-course; kept_are = refl; flight_is = refl }

pub sync-keeps : SyncKeeps
sync-keeps = record { lawful = course-append keep_view gate_moves (Make Synced ∷ []) gate-course (refl, tt); kept_are = refl; flight_is = refl }

pub start-leaves-flight : StartLeavesFlight
start-leaves-flight = record { lawful = course-append keep_view gate_moves (Make (Start terminal_setup) ∷ []) gate-course ((refl, formed), tt); kept_are = refl; flight_is = refl }

-- the log up to the gate, from which the images are
abbrev gate_log : List Turn
gate_log = began terminal_setup ++ Polled (pos 0) ∷ Wrote 1 (record_body example_record ++ 0 ∷ []) ∷ Synced ∷ Wrote 0 (165 ∷ []) ∷ []

open-image : Image (view_from keep_view gate_moves).scene.outside (165 ∷ (record_body example_record ++ 0 ∷ []))
open-image = file_image gate_log

closed-image : Image (view_from keep_view gate_moves).scene.outside (0 ∷ (record_body example_record ++ 0 ∷ []))
closed-image = stable_image gate_log

open-bytes : AreBytes (165 ∷ (record_body example_record ++ 0 ∷ []))
open-bytes = bytes-tested (165 ∷ (record_body example_record ++ 0 ∷ [])) refl

closed-bytes : AreBytes (0 ∷ (record_body example_record ++ 0 ∷ []))
closed-bytes = bytes-tested (0 ∷ (record_body example_record ++ 0 ∷ [])) refl

pub closed-gate-drops : ClosedGateDrops
closed-gate-drops = record { lawful = course-append keep_view gate_moves (Make (Crash (0 ∷ (record_body example_record ++ 0 ∷ []))) ∷ []) gate-course ((closed-image, closed-bytes), tt); kept_are = refl; flight_is = refl }

pub open-gate-keeps : OpenGateKeeps
open-gate-keeps = record { lawful = course-append keep_view gate_moves (Make (Crash (165 ∷ (record_body example_record ++ 0 ∷ []))) ∷ []) gate-course ((open-image, open-bytes), tt); kept_are = refl; flight_is = refl }

pub failed-sync-crashes : FailedSyncCrashes
failed-sync-crashes = record {
  lawful = course-append keep_view gate_moves (Make DiskFailed ∷ Make (Crash (0 ∷ (record_body example_record ++ 0 ∷ []))) ∷ Make (Start terminal_setup) ∷ []) gate-course (inl refl, ((closed-image, closed-bytes), ((refl, formed), tt)));
  kept_are = refl;
  flight_is = refl;
}
