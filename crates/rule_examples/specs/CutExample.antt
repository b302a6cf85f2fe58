-- Example logs of cuts: of two terminals whose deadlines come at one moment, and of one to which an acknowledgement can't be sent. Each is along a course that the checker computes.
use Rattle.std.specs.Prelude.{◌≡◌, pos, true, List, [], ◌∷◌, ◌++◌, Some}
use Rattle.gw_site.specs.declared.turn.Turn.{Turn}
use Rattle.gw_site.specs.declared.turn.Turn.TheVariants.{Polled, SentPt, CutPt, Stopped}
use Rattle.gw_owes.specs.declared.terminal.Standing.{Standing}
use Rattle.gw_owes.specs.declared.terminal.Standing.TheVariants.{Unlinked, Registering}
use Rattle.gw_owes.specs.TerminalExample.{enquiry_sent}
use Rattle.gw_rules.specs.AloneExample.{two_setup, other_standing, both_linked, both_linked_moves}
use Rattle.rule_examples.specs.CutCauseExample.{unacknowledged_done_log, unacknowledged_done_course}
use Rattle.gw_rules.specs.Example.{IsCourseAlong, IsUnlawfulAfter, began, began_moves}
use Rattle.gw_rules.specs.RowExample.{first_standing}
use Rattle.gw_rules.specs.TerminalLogExample.{items_begin, LeavesStanding}
use Rattle.gw_rules.specs.View.{Move, Begin, Make, view_from, at_first}

-- ---- two terminals

-- the log is lawful by this course, and at its end both terminals have this standing
pub record LeavesBoth (log : List Turn) (course : List Move) (standing : Standing) : Type 0 where
  pub along : IsCourseAlong log course
  pub first_is : first_standing (view_from at_first course) ≡ Some standing
  pub other_is : other_standing (view_from at_first course) ≡ Some standing

-- both are silent until their deadlines come at moment 5
abbrev pub both_silent_log : List Turn
both_silent_log = began two_setup ++ Polled (pos 0) ∷ (both_linked ++ Polled (pos 5) ∷ [])

-- its course
abbrev pub both_silent_course : List Move
both_silent_course = began_moves two_setup ++ Make (Polled (pos 0)) ∷ (both_linked_moves ++ Make (Polled (pos 5)) ∷ [])

-- both are cut, in the order of the setup, and neither is linked at once
abbrev pub both_cut_log : List Turn
both_cut_log = both_silent_log ++ CutPt 0 ∷ CutPt 1 ∷ Polled (pos 9) ∷ []

-- its course: each is late, and neither is due
abbrev pub both_cut_course : List Move
both_cut_course = both_silent_course ++ Begin ∷ Make (CutPt 0) ∷ Begin ∷ Make (CutPt 1) ∷ (items_begin 2 ++ Make (Polled (pos 9)) ∷ [])

-- both are due five seconds after the cuts
abbrev pub BothAreCut : Type 0
BothAreCut = LeavesBoth both_cut_log both_cut_course (Unlinked (Some 10))

-- and are linked and registered then, again in the order of the setup
abbrev pub BothAreLinkedAgain : Type 0
BothAreLinkedAgain = LeavesBoth (both_cut_log ++ Polled (pos 10) ∷ (both_linked ++ Polled (pos 11) ∷ Stopped ∷ [])) (both_cut_course ++ items_begin 4 ++ Make (Polled (pos 10)) ∷ (both_linked_moves ++ Make (Polled (pos 11)) ∷ Make Stopped ∷ [])) Registering

-- the other isn't cut first
abbrev pub OtherIsNotCutFirst : Type 0
OtherIsNotCutFirst = IsUnlawfulAfter both_silent_log (CutPt 1)

-- nor does a poll come once the first is cut
abbrev pub PollBeforeOtherCut : Type 0
PollBeforeOtherCut = IsUnlawfulAfter (both_silent_log ++ CutPt 0 ∷ []) (Polled (pos 5))

-- ---- an acknowledgement that can't be sent

-- the terminal is cut, and isn't enquired after that
abbrev pub UnacknowledgedDoneIsCut : Type 0
UnacknowledgedDoneIsCut =
    LeavesStanding (unacknowledged_done_log ++ CutPt 0 ∷ Polled (pos 2) ∷ Stopped ∷ []) (unacknowledged_done_course ++ Make (CutPt 0) ∷ (items_begin 4 ++ Make (Polled (pos 2)) ∷ Make Stopped ∷ [])) (Unlinked (Some 6))

-- nor before
abbrev pub EnquiryUnacknowledged : Type 0
EnquiryUnacknowledged = IsUnlawfulAfter unacknowledged_done_log (SentPt 0 enquiry_sent true)
