-- The courses of the examples are lawful, and lean.
use Rattle.std.proofs.Common.{◌≡◌, Bool, true, List, [], ◌∷◌, ◌++◌, refl, arith, leb-true}
use Rattle.std.proofs.lemmas.Bool.{and_parts}
use Rattle.std.specs.Prelude.{◌&&◌, pos}
use Rattle.gw_site.specs.declared.turn.Turn.TheVariants.{Start, Polled, Opened}
use Rattle.sale_frame.specs.Grammar.{frame}
use Rattle.zvt_apdu.specs.DecodeStream.{decode_apdus, decode_apdus_within}
use Rattle.zvt_bmp.specs.Decode.{decode_field_value, decode_status_field, decode_status_within, decode_status}
use Rattle.zvt_msg.specs.MessageDecode.{decode_pt_message}
use Rattle.zvt_msg.specs.declared.command.Command.TheVariants as commands
use Rattle.jrn_record.specs.declared.records.Record.TheVariants.{Intent, Outcome}
use Rattle.gw_ledger.specs.History.{history}
use Rattle.gw_owes.specs.Calls.{Ask, Acknowledge, WriteBody, WriteGate}
use Rattle.gw_owes.specs.TerminalExample.{ack, completion, abort, approved_status}
use Rattle.gw_rules.specs.Lawful.{IsCourse, IsChunk, turns_of}
use Rattle.gw_rules.specs.Laws.{IsLeanCourse}
use Rattle.gw_rules.specs.Lean.{goes_on, IsLean}
use Rattle.gw_rules.specs.RowExample.{terminal_setup}
use Rattle.gw_rules.specs.TerminalLogExample.{items_begin}
use Rattle.gw_rules.specs.View.{Move, Begin, Read, Make, after, view_from, at_first}
use Rattle.gw_rules.proofs.CourseLemmas.{course-append}
use Rattle.gw_rules.proofs.RowExampleLemmas.{formed}
use Rattle.gw_rules.proofs.TestedLemmas.{passes_course, course-tested}
use Rattle.gw_rules.proofs.TextLemmas.{bytes-tested}
use Rattle.gw_books.specs.Example.{payment_text, paying_intent, ready_moves, opened_moves, asked_moves, asked_course, kept_approval, paid_reply, paid_moves, kept_decline, refusal_reply, refused_moves, refused_course}
use Rattle.gw_books.proofs.PaymentTextLemmas.{payment-reads}

-- ---- lean

abbrev pub is_lean : List Move → Bool
is_lean [] = true
is_lean (Begin ∷ moves) = goes_on moves && is_lean moves
is_lean (Read as_read ∷ moves) = goes_on moves && is_lean moves
is_lean (Make turn ∷ moves) = is_lean moves

-- a course that passes the test is lean
pub lean-tested : (moves : List Move) → is_lean moves ≡ true → IsLean moves
lean-tested [] e = tt
lean-tested (Begin ∷ moves) e = let p = and_parts (goes_on moves) (is_lean moves) e in (p.0, lean-tested moves p.1)
lean-tested (Read as_read ∷ moves) e = let p = and_parts (goes_on moves) (is_lean moves) e in (p.0, lean-tested moves p.1)
lean-tested (Make turn ∷ moves) e = lean-tested moves e

-- ---- what is heard

pub payment-chunk : IsChunk (frame payment_text)
unfolding payment_text
payment-chunk = record { count = (omega arith, omega arith); bytes = bytes-tested (frame payment_text) refl }

approving-chunk : IsChunk (ack ++ approved_status ++ completion)
approving-chunk = record { count = (omega arith, omega arith); bytes = bytes-tested (ack ++ approved_status ++ completion) refl }

declining-chunk : IsChunk (ack ++ abort 0x6C)
declining-chunk = record { count = (omega arith, omega arith); bytes = bytes-tested (ack ++ abort 0x6C) refl }

-- ---- lawful

-- the moves after the start
abbrev after_start : List Move → List Move
after_start [] = []
after_start (move ∷ moves) = moves

-- a course from the start on
from-start : (moves : List Move) → passes_course (after at_first (Make (Start terminal_setup))) moves ≡ true → IsCourse at_first (Make (Start terminal_setup) ∷ moves)
from-start moves e = ((refl, formed), course-tested (after at_first (Make (Start terminal_setup))) moves e)

ready-lawful : IsCourse at_first ready_moves
unfolding decode_apdus decode_apdus_within decode_pt_message history
ready-lawful = from-start (after_start ready_moves) refl

opening-lawful : IsCourse (view_from at_first ready_moves) (Make (Polled (pos 3)) ∷ Make (Opened 1) ∷ items_begin 2)
unfolding decode_apdus decode_apdus_within decode_pt_message history
opening-lawful = (record { running = refl; calls = refl; items = refl }, ((refl, leb-true 0 1 refl), (record { idle = record { round = refl; calls = refl }; first = refl }, (record { idle = record { round = refl; calls = refl }; first = refl }, tt))))

pub asking-lawful : IsCourse (view_from at_first opened_moves) asked_moves
unfolding decode_apdus decode_apdus_within decode_pt_message history payment_text
asking-lawful = (record { running = refl; calls = refl; items = refl }, ((record { polled = refl; connected_is = refl }, payment-chunk), (record { idle = record { round = refl; calls = refl }; waits = refl; bytes = payment_text; message = refl; reads = payment-reads }, (record { idle = record { round = refl; calls = refl }; first = refl }, (record { idle = record { round = refl; calls = refl }; first = refl }, ((WriteBody 0 (Intent paying_intent), refl, refl), (refl, ((WriteGate 0 (Intent paying_intent), refl, refl), (refl, ((Ask (commands.Authorise 1099 978), refl, refl), (record { idle = record { round = refl; calls = refl }; first = refl }, (record { idle = record { round = refl; calls = refl }; first = refl }, tt))))))))))))

pub paying-lawful : IsCourse (view_from at_first asked_course) (paid_moves ++ Make (Polled (pos 6)) ∷ [])
unfolding decode_apdus decode_apdus_within decode_pt_message decode_status decode_status_within decode_status_field decode_field_value history payment_text
paying-lawful = (record { running = refl; calls = refl; items = refl }, ((record { polled = refl; connected_is = refl }, approving-chunk), (record { idle = record { round = refl; calls = refl }; first = refl }, (record { idle = record { round = refl; calls = refl }; first = refl }, (record { idle = record { round = refl; calls = refl }; first = refl }, (record { idle = record { round = refl; calls = refl }; first = refl }, ((Acknowledge, refl, refl), (record { idle = record { round = refl; calls = refl }; first = refl }, (record { idle = record { round = refl; calls = refl }; first = refl }, (record { idle = record { round = refl; calls = refl }; first = refl }, ((Acknowledge, refl, refl), (record { idle = record { round = refl; calls = refl }; first = refl }, ((WriteBody 1 (Outcome kept_approval), refl, refl), (refl, ((WriteGate 1 (Outcome kept_approval), refl, refl), (refl, ((paid_reply, refl, refl), (record { idle = record { round = refl; calls = refl }; first = refl }, (record { idle = record { round = refl; calls = refl }; first = refl }, (record { idle = record { round = refl; calls = refl }; first = refl }, (record { running = refl; calls = refl; items = refl }, tt)))))))))))))))))))))

pub declining-lawful : IsCourse (view_from at_first asked_course) (refused_moves ++ Make (Polled (pos 6)) ∷ [])
unfolding decode_apdus decode_apdus_within decode_pt_message history payment_text
declining-lawful = (record { running = refl; calls = refl; items = refl }, ((record { polled = refl; connected_is = refl }, declining-chunk), (record { idle = record { round = refl; calls = refl }; first = refl }, (record { idle = record { round = refl; calls = refl }; first = refl }, (record { idle = record { round = refl; calls = refl }; first = refl }, (record { idle = record { round = refl; calls = refl }; first = refl }, ((Acknowledge, refl, refl), (record { idle = record { round = refl; calls = refl }; first = refl }, ((WriteBody 1 (Outcome kept_decline), refl, refl), (refl, ((WriteGate 1 (Outcome kept_decline), refl, refl), (refl, ((refusal_reply, refl, refl), (record { idle = record { round = refl; calls = refl }; first = refl }, (record { idle = record { round = refl; calls = refl }; first = refl }, (record { idle = record { round = refl; calls = refl }; first = refl }, (record { running = refl; calls = refl; items = refl }, tt)))))))))))))))))

pub opened-lawful : IsCourse at_first opened_moves
opened-lawful = course-append at_first ready_moves (Make (Polled (pos 3)) ∷ Make (Opened 1) ∷ items_begin 2) ready-lawful opening-lawful

pub asked-lawful : IsCourse at_first asked_course
asked-lawful = course-append at_first opened_moves asked_moves opened-lawful asking-lawful

-- a course that goes on once the terminal was asked
pub lean-course : (moves : List Move) → IsCourse (view_from at_first asked_course) moves → is_lean (asked_course ++ moves) ≡ true → IsLeanCourse (turns_of (asked_course ++ moves)) (asked_course ++ moves)
lean-course moves lawful e = record { turns_are = refl; lawful = course-append at_first asked_course moves asked-lawful lawful; lean = lean-tested (asked_course ++ moves) e }

pub refused-lean : IsLeanCourse (turns_of refused_course) refused_course
refused-lean = lean-course (refused_moves ++ Make (Polled (pos 6)) ∷ []) declining-lawful refl
