-- Example logs of why a terminal is cut or is ready: what no other turn may come before, and a report that comes in two parts.
use Rattle.std.specs.Prelude.{◌≡◌, pos, true, List, [], ◌∷◌, ◌++◌, Some}
use Rattle.gw_site.specs.declared.turn.Turn.{Turn}
use Rattle.gw_site.specs.declared.turn.Turn.TheVariants.{Polled, HeardPt, SentPt, CutPt, Stopped}
use Rattle.gw_owes.specs.TerminalExample.{ack, approved_status, outside_status}
use Rattle.gw_owes.specs.declared.terminal.Standing.TheVariants.{Unlinked, Enquiring, Ready}
use Rattle.gw_owes.specs.declared.terminal.Terminal.{Terminal}
use Rattle.gw_rules.specs.CutCauses.{HasBegunTooLong}
use Rattle.gw_rules.specs.DialogueLaws.{EndsAlong, IsReport, HasStanding, view_along}
use Rattle.gw_rules.specs.Example.{IsUnlawfulAfter}
use Rattle.gw_rules.specs.TerminalLogExample.{linked_course, enquired_log, enquired_course, items_begin, LeavesStanding}
use Rattle.gw_rules.specs.View.{View, Move, Begin, Make, view_from, at_first}
use Rattle.gw_rules.specs.CauseExample.{outside_log, too_long_log}

-- ---- an APDU outside the grammar

-- its course
abbrev pub outside_course : List Move
outside_course = linked_course ++ Make (Polled (pos 1)) ∷ Make (HeardPt 0 outside_status) ∷ []

-- the terminal is cut
abbrev pub OutsideIsCut : Type 0
OutsideIsCut = LeavesStanding (outside_log ++ CutPt 0 ∷ Polled (pos 2) ∷ Stopped ∷ []) (outside_course ++ Begin ∷ Make (CutPt 0) ∷ (items_begin 4 ++ Make (Polled (pos 2)) ∷ Make Stopped ∷ [])) (Unlinked (Some 6))

-- and no poll comes before
abbrev pub PollBeforeOutsideCut : Type 0
PollBeforeOutsideCut = IsUnlawfulAfter outside_log (Polled (pos 2))

-- ---- an APDU above the limit

-- it has begun that APDU with the bytes that began the round
abbrev pub TooLongIsCause : Type 0
TooLongIsCause = HasBegunTooLong too_long_log 0

-- and no poll comes before
abbrev pub PollBeforeTooLongCut : Type 0
PollBeforeTooLongCut = IsUnlawfulAfter too_long_log (Polled (pos 2))

-- ---- a report in two parts

-- a terminal that is enquired acknowledges that, says the Status of its last transaction, and the first byte of its Completion
abbrev pub report_log : List Turn
report_log = enquired_log ++ Polled (pos 2) ∷ HeardPt 0 (ack ++ approved_status ++ 0x06 ∷ []) ∷ SentPt 0 ack true ∷ Polled (pos 3) ∷ []

-- its course
abbrev pub report_course : List Move
report_course = enquired_course ++ Make (Polled (pos 2)) ∷ Make (HeardPt 0 (ack ++ approved_status ++ 0x06 ∷ [])) ∷ (items_begin 4 ++ Make (SentPt 0 ack true) ∷ (items_begin 4 ++ Make (Polled (pos 3)) ∷ []))

-- the view at its end
abbrev pub report_view : View
report_view = view_from at_first report_course

-- the moves after the rest of the Completion, which is acknowledged
abbrev pub report_moves : List Move
report_moves = Begin ∷ Make (SentPt 0 ack true) ∷ items_begin 4

-- the rest ends the enquiry with the report of that transaction, and the terminal is ready
pub record SplitReport : Type 0 where
  pub terminal : Terminal
  pub ends : EndsAlong (IsReport 123) report_log report_view report_moves 0 terminal Enquiring
  pub chunk_is : ends.chunk ≡ 0x0F ∷ 0x00 ∷ []
  pub ready : HasStanding (view_along report_view 0 ends.chunk report_moves).scene.core 0 (Ready 123)
