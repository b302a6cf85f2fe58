-- Example logs after which a terminal is cut, one for each cause, with the cause as the law of cuts has it.
use Rattle.std.specs.Prelude.{◌≡◌, pos, false, true, List, [], ◌∷◌, ◌++◌, Some, None, Err}
use Rattle.gw_site.specs.declared.turn.Turn.{Turn}
use Rattle.gw_site.specs.declared.turn.Turn.TheVariants.{Polled, HeardPt, SentPt, CutPt, Stopped}
use Rattle.zvt_apdu.specs.Grammar.{ApduValue}
use Rattle.zvt_msg.specs.MessageDecode.{decode_pt_message}
use Rattle.zvt_msg.specs.declared.fault.PtFault.{PtFault}
use Rattle.zvt_talk.specs.declared.meaning.Heard.TheVariants as heard
use Rattle.gw_owes.specs.Handling.{meaning_at}
use Rattle.gw_owes.specs.Items.{Greet, Handle, Oversized, Late}
use Rattle.gw_owes.specs.Row.{Known}
use Rattle.gw_owes.specs.TerminalExample.{ack, abort, completion}
use Rattle.gw_owes.specs.TerminalLaws.{BreaksDialogue, IsLateAt}
use Rattle.gw_owes.specs.declared.terminal.Standing.TheVariants.{Unlinked}
use Rattle.gw_rules.specs.CauseExample.{outside_log, outside_apdu, too_long_log, too_long_course}
use Rattle.rule_examples.specs.CauseExample.{outside_course}
use Rattle.gw_rules.specs.CutCauses.{HasSaidApdu, HasBegunTooLong, BeginsCut, CutCause, SendFailed, SaidOutside, BegunTooLong, BrokeDialogue, DeadlineCame}
use Rattle.gw_rules.specs.Lawful.{IsLawful}
use Rattle.gw_rules.specs.RowExample.{terminal_setup}
use Rattle.gw_rules.specs.Scene.{known_in}
use Rattle.gw_rules.specs.TerminalLogExample.{linked_log, linked_course, items_begin, LeavesStanding}
use Rattle.gw_rules.specs.View.{Move, Begin, Make, view_from, at_first}
use Rattle.gw_rules.specs.CutCauseExample.{completion_apdu}

-- what is known at the end of this course, in the run with the one terminal
abbrev pub known_along : List Move → Known
known_along course = known_in (view_from at_first course).scene terminal_setup

-- ---- an unclear end

-- the terminal says that its registration is done before it has acknowledged it, which is acknowledged
abbrev pub unclear_log : List Turn
unclear_log = linked_log ++ Polled (pos 1) ∷ HeardPt 0 completion ∷ SentPt 0 ack true ∷ []

-- its course, up to where the APDU is handled
abbrev pub unclear_course : List Move
unclear_course = linked_course ++ Make (Polled (pos 1)) ∷ Make (HeardPt 0 completion) ∷ Begin ∷ Make (SentPt 0 ack true) ∷ []

-- the terminal is cut, and due five seconds later, because that leaves its registration unclear
pub record ExampleUnclearCut : Type 0 where
  pub is_cut : LeavesStanding (unclear_log ++ CutPt 0 ∷ Polled (pos 2) ∷ Stopped ∷ []) (unclear_course ++ Begin ∷ Make (CutPt 0) ∷ (items_begin 3 ++ Make (Polled (pos 2)) ∷ Make Stopped ∷ [])) (Unlinked (Some 6))
  pub said : HasSaidApdu unclear_log 0 completion_apdu
  pub begins : BeginsCut unclear_log 0 (Handle 0 completion_apdu) (known_along unclear_course)
  pub breaks : BreaksDialogue (known_along unclear_course) 0 completion_apdu
  pub unclear : meaning_at breaks.terminal breaks.message ≡ heard.Unclear
  pub cause : CutCause unclear_log 0
  pub cause_is : cause ≡ BrokeDialogue completion_apdu (known_along unclear_course) said begins breaks

-- ---- a registration that is declined

-- the terminal acknowledges its registration and aborts it, which is acknowledged
abbrev pub aborted_log : List Turn
aborted_log = linked_log ++ Polled (pos 1) ∷ HeardPt 0 (ack ++ abort 0x6C) ∷ SentPt 0 ack true ∷ []

-- its course, up to where the Abort is handled
abbrev pub aborted_course : List Move
aborted_course = linked_course ++ Make (Polled (pos 1)) ∷ Make (HeardPt 0 (ack ++ abort 0x6C)) ∷ (items_begin 4 ++ Make (SentPt 0 ack true) ∷ [])

-- that APDU
abbrev pub abort_apdu : ApduValue
abort_apdu = record { class = 0x06; instr = 0x1E; body = 0x6C ∷ [] }

-- the terminal is cut because that declines its registration
pub record ExampleDeclinedCut : Type 0 where
  pub is_cut : IsLawful (aborted_log ++ CutPt 0 ∷ [])
  pub said : HasSaidApdu aborted_log 0 abort_apdu
  pub begins : BeginsCut aborted_log 0 (Handle 0 abort_apdu) (known_along aborted_course)
  pub breaks : BreaksDialogue (known_along aborted_course) 0 abort_apdu
  pub declined : meaning_at breaks.terminal breaks.message ≡ heard.Declined 0x6C None
  pub cause : CutCause aborted_log 0
  pub cause_is : cause ≡ BrokeDialogue abort_apdu (known_along aborted_course) said begins breaks

-- ---- an APDU outside the grammar

-- the terminal is cut because it has said one
pub record ExampleOutsideCut : Type 0 where
  pub is_cut : IsLawful (outside_log ++ CutPt 0 ∷ [])
  pub said : HasSaidApdu outside_log 0 outside_apdu
  pub begins : BeginsCut outside_log 0 (Greet 0 outside_apdu) (known_along outside_course)
  pub fault : PtFault
  pub outside : decode_pt_message outside_apdu ≡ Err fault
  pub cause : CutCause outside_log 0
  pub cause_is : cause ≡ SaidOutside outside_apdu fault (known_along outside_course) said begins outside

-- ---- an APDU above the limit

-- the course of the log up to where the item of that APDU begins: the three of the Ack come before
abbrev pub oversized_course : List Move
oversized_course = too_long_course ++ items_begin 3

-- the terminal is cut because it has begun one
pub record ExampleTooLongCut : Type 0 where
  pub is_cut : IsLawful (too_long_log ++ CutPt 0 ∷ [])
  pub begun : HasBegunTooLong too_long_log 0
  pub begins : BeginsCut too_long_log 0 (Oversized 0) (known_along oversized_course)
  pub cause : CutCause too_long_log 0
  pub cause_is : cause ≡ BegunTooLong (known_along oversized_course) begun begins

-- ---- a deadline

-- the terminal doesn't acknowledge its registration for five seconds
abbrev pub late_log : List Turn
late_log = linked_log ++ Polled (pos 5) ∷ []

-- its course
abbrev pub late_course : List Move
late_course = linked_course ++ Make (Polled (pos 5)) ∷ []

-- the terminal is cut because the deadline of its registration has come
pub record ExampleLateCut : Type 0 where
  pub is_cut : IsLawful (late_log ++ CutPt 0 ∷ [])
  pub begins : BeginsCut late_log 0 (Late 0) (known_along late_course)
  pub late : IsLateAt (known_along late_course) 0
  pub cause : CutCause late_log 0
  pub cause_is : cause ≡ DeadlineCame (known_along late_course) begins late

-- ---- a send that has failed

-- the log before a send of the acknowledgement that its registration is done
abbrev pub unsent_log : List Turn
unsent_log = linked_log ++ Polled (pos 1) ∷ HeardPt 0 (ack ++ completion) ∷ []

-- the registration is done, and that can't be acknowledged
abbrev pub unacknowledged_done_log : List Turn
unacknowledged_done_log = linked_log ++ Polled (pos 1) ∷ HeardPt 0 (ack ++ completion) ∷ SentPt 0 (0x80 ∷ []) false ∷ []

-- its course
abbrev pub unacknowledged_done_course : List Move
unacknowledged_done_course = linked_course ++ Make (Polled (pos 1)) ∷ Make (HeardPt 0 (ack ++ completion)) ∷ (items_begin 4 ++ Make (SentPt 0 (0x80 ∷ []) false) ∷ [])

-- the terminal is cut because that has failed
pub record ExampleFailedCut : Type 0 where
  pub is_cut : IsLawful (unacknowledged_done_log ++ CutPt 0 ∷ [])
  pub failed : unacknowledged_done_log ≡ unsent_log ++ SentPt 0 (0x80 ∷ []) false ∷ []
  pub cause : CutCause unacknowledged_done_log 0
  pub cause_is : cause ≡ SendFailed unsent_log (0x80 ∷ []) failed
