-- Example logs of a gateway with one terminal, from its start on: the way to ready. Each is along a course that the checker computes.
use Rattle.std.specs.Prelude.{◌≡◌, ℕ, suc, zero, pos, true, List, [], ◌∷◌, ◌++◌, Some}
use Rattle.gw_site.specs.declared.turn.Turn.{Turn}
use Rattle.gw_site.specs.declared.turn.Turn.TheVariants.{Polled, HeardPt, Linked, SentPt, CutPt, Stopped}
use Rattle.gw_owes.specs.declared.terminal.Standing.{Standing}
use Rattle.gw_owes.specs.declared.terminal.Standing.TheVariants.{Ready}
use Rattle.gw_owes.specs.TerminalExample.{ack, completion, abort, approved_status, enquiry_sent}
use Rattle.gw_rules.specs.Example.{IsCourseAlong, first_turns, began, began_moves}
use Rattle.gw_rules.specs.RowExample.{terminal_setup, first_standing, register_bytes}
use Rattle.gw_rules.specs.View.{Move, Begin, Make, view_from, at_first}

-- so many items begin, one after the other
abbrev pub items_begin : ℕ → List Move
items_begin zero = []
items_begin (suc count) = Begin ∷ items_begin count

-- the log is lawful by this course, and at its end the terminal has this standing
pub record LeavesStanding (log : List Turn) (course : List Move) (standing : Standing) : Type 0 where
  pub along : IsCourseAlong log course
  pub standing_is : first_standing (view_from at_first course) ≡ Some standing

-- ---- the way to ready

-- the turns of the run before the terminal is linked
abbrev pub before_link : List Turn
before_link = first_turns ++ Polled (pos 0) ∷ []

-- the terminal is due at once: its link is made, and the registration sent
abbrev pub linked_log : List Turn
linked_log = began terminal_setup ++ Polled (pos 0) ∷ Linked 0 ∷ SentPt 0 register_bytes true ∷ []

-- its course: the terminal isn't late, and is due
abbrev pub linked_course : List Move
linked_course = began_moves terminal_setup ++ Make (Polled (pos 0)) ∷ (items_begin 2 ++ Make (Linked 0) ∷ Make (SentPt 0 register_bytes true) ∷ [])

-- the registration is acknowledged and done, which is acknowledged too, and the enquiry sent
abbrev pub enquired_log : List Turn
enquired_log = linked_log ++ Polled (pos 1) ∷ HeardPt 0 (ack ++ completion) ∷ SentPt 0 ack true ∷ SentPt 0 enquiry_sent true ∷ []

-- its course: three items of each APDU, and then the two that may be due
abbrev pub enquired_course : List Move
enquired_course = linked_course ++ Make (Polled (pos 1)) ∷ Make (HeardPt 0 (ack ++ completion)) ∷ (items_begin 4 ++ Make (SentPt 0 ack true) ∷ Begin ∷ Make (SentPt 0 enquiry_sent true) ∷ items_begin 3)

-- the enquiry is acknowledged, reports the last transaction, and is done
abbrev pub ready_log : List Turn
ready_log = enquired_log ++ Polled (pos 2) ∷ HeardPt 0 (ack ++ approved_status ++ completion) ∷ SentPt 0 ack true ∷ SentPt 0 ack true ∷ Polled (pos 3) ∷ Stopped ∷ []

-- its course
abbrev pub ready_course : List Move
ready_course = enquired_course ++ Make (Polled (pos 2)) ∷ Make (HeardPt 0 (ack ++ approved_status ++ completion)) ∷ (items_begin 4 ++ Make (SentPt 0 ack true) ∷ (items_begin 3 ++ Make (SentPt 0 ack true) ∷ (items_begin 4 ++ Make (Polled (pos 3)) ∷ Make Stopped ∷ [])))

-- the terminal is ready with the trace number that it has reported
abbrev pub ReadyIsLawful : Type 0
ReadyIsLawful = LeavesStanding ready_log ready_course (Ready 123)

-- ---- a registration that is declined

-- its course
abbrev pub declined_course : List Move
declined_course = linked_course ++ Make (Polled (pos 1)) ∷ Make (HeardPt 0 (ack ++ abort 0x6C)) ∷ (items_begin 4 ++ Make (SentPt 0 ack true) ∷ Begin ∷ Make (CutPt 0) ∷ (items_begin 3 ++ Make (Polled (pos 2)) ∷ Make Stopped ∷ []))
