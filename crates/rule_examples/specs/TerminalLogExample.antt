-- Example logs of a gateway with one terminal, from its start on: what ends its way to ready. Each is along a course that the checker computes.
use Rattle.std.specs.Prelude.{pos, false, true, List, [], ◌∷◌, ◌++◌, Some}
use Rattle.gw_site.specs.declared.turn.Turn.{Turn}
use Rattle.gw_site.specs.declared.turn.Turn.TheVariants.{Polled, HeardPt, Linked, LinkFailed, SentPt, CutPt, Stopped}
use Rattle.gw_owes.specs.declared.terminal.Standing.TheVariants.{Unlinked, Registering, Enquiring}
use Rattle.gw_owes.specs.TerminalExample.{ack, completion, abort, enquiry_sent}
use Rattle.gw_rules.specs.DayLogExample.{intermediate}
use Rattle.gw_rules.specs.Example.{IsUnlawfulAfter, began, began_moves}
use Rattle.gw_rules.specs.RowExample.{terminal_setup, register_bytes}
use Rattle.gw_rules.specs.View.{Move, Begin, Make}
use Rattle.gw_rules.specs.TerminalLogExample.{items_begin, LeavesStanding, linked_log, linked_course, enquired_log, enquired_course, declined_course}

-- ---- a link that fails

-- the link can't be made; it is tried again five seconds later, and not before
abbrev pub due_again_log : List Turn
due_again_log = began terminal_setup ++ Polled (pos 0) ∷ LinkFailed 0 ∷ Polled (pos 4) ∷ Polled (pos 5) ∷ Linked 0 ∷ SentPt 0 register_bytes true ∷ Polled (pos 5) ∷ Stopped ∷ []

-- its course
abbrev pub due_again_course : List Move
due_again_course = began_moves terminal_setup ++ Make (Polled (pos 0)) ∷ (items_begin 2 ++ Make (LinkFailed 0) ∷ Make (Polled (pos 4)) ∷ (items_begin 2 ++ Make (Polled (pos 5)) ∷ (items_begin 2 ++ Make (Linked 0) ∷ Make (SentPt 0 register_bytes true) ∷ Make (Polled (pos 5)) ∷ Make Stopped ∷ [])))

-- the terminal registers
abbrev pub DueAgainIsLawful : Type 0
DueAgainIsLawful = LeavesStanding due_again_log due_again_course Registering

-- ---- a registration that is declined

-- the terminal acknowledges the registration and aborts it: the abort is acknowledged, and the connection cut
abbrev pub declined_log : List Turn
declined_log = linked_log ++ Polled (pos 1) ∷ HeardPt 0 (ack ++ abort 0x6C) ∷ SentPt 0 ack true ∷ CutPt 0 ∷ Polled (pos 2) ∷ Stopped ∷ []

-- the terminal is due five seconds after the cut
abbrev pub DeclinedIsLawful : Type 0
DeclinedIsLawful = LeavesStanding declined_log declined_course (Unlinked (Some 6))

-- ---- an enquiry with a deadline

-- The terminal doesn't acknowledge the enquiry: five seconds after it was sent the connection is cut, and not before.
abbrev pub silent_enquiry_log : List Turn
silent_enquiry_log = enquired_log ++ Polled (pos 5) ∷ Polled (pos 6) ∷ CutPt 0 ∷ Polled (pos 7) ∷ Stopped ∷ []

-- its course
abbrev pub silent_enquiry_course : List Move
silent_enquiry_course = enquired_course ++ Make (Polled (pos 5)) ∷ (items_begin 2 ++ Make (Polled (pos 6)) ∷ Begin ∷ Make (CutPt 0) ∷ Begin ∷ Make (Polled (pos 7)) ∷ Make Stopped ∷ [])

-- the terminal is due five seconds after the cut
abbrev pub SilentEnquiryIsLawful : Type 0
SilentEnquiryIsLawful = LeavesStanding silent_enquiry_log silent_enquiry_course (Unlinked (Some 11))

-- ---- a registration with a deadline

-- The terminal doesn't acknowledge its registration: five seconds after it was sent the connection is cut, and not before.
abbrev pub silent_registration_log : List Turn
silent_registration_log = linked_log ++ Polled (pos 4) ∷ Polled (pos 5) ∷ CutPt 0 ∷ Polled (pos 6) ∷ Stopped ∷ []

-- its course
abbrev pub silent_registration_course : List Move
silent_registration_course = linked_course ++ Make (Polled (pos 4)) ∷ (items_begin 2 ++ Make (Polled (pos 5)) ∷ Begin ∷ Make (CutPt 0) ∷ Begin ∷ Make (Polled (pos 6)) ∷ Make Stopped ∷ [])

-- the terminal is due five seconds after the cut
abbrev pub SilentRegistrationIsLawful : Type 0
SilentRegistrationIsLawful = LeavesStanding silent_registration_log silent_registration_course (Unlinked (Some 10))

-- ---- a registration that is acknowledged, and done later

-- the terminal acknowledges the registration, and with the next poll says that it is done, which is acknowledged
abbrev pub done_log : List Turn
done_log = linked_log ++ Polled (pos 1) ∷ HeardPt 0 ack ∷ Polled (pos 2) ∷ HeardPt 0 completion ∷ SentPt 0 ack true ∷ []

-- its course: five items after the Ack, the last two of which may be due
abbrev pub done_course : List Move
done_course = linked_course ++ Make (Polled (pos 1)) ∷ Make (HeardPt 0 ack) ∷ (items_begin 5 ++ Make (Polled (pos 2)) ∷ Make (HeardPt 0 completion) ∷ Begin ∷ Make (SentPt 0 ack true) ∷ [])

-- then the enquiry is sent
abbrev pub DoneIsEnquired : Type 0
DoneIsEnquired = LeavesStanding (done_log ++ SentPt 0 enquiry_sent true ∷ Polled (pos 3) ∷ Stopped ∷ []) (done_course ++ Begin ∷ Make (SentPt 0 enquiry_sent true) ∷ (items_begin 3 ++ Make (Polled (pos 3)) ∷ Make Stopped ∷ [])) Enquiring

-- the terminal doesn't acknowledge the enquiry, which was sent at moment 2: it is cut at moment 7
abbrev pub DoneThenSilentIsCut : Type 0
DoneThenSilentIsCut =
    LeavesStanding (done_log ++ SentPt 0 enquiry_sent true ∷ Polled (pos 7) ∷ CutPt 0 ∷ Polled (pos 8) ∷ Stopped ∷ []) (done_course ++ Begin ∷ Make (SentPt 0 enquiry_sent true) ∷ (items_begin 3 ++ Make (Polled (pos 7)) ∷ Begin ∷ Make (CutPt 0) ∷ Begin ∷ Make (Polled (pos 8)) ∷ Make Stopped ∷ []))
    (Unlinked (Some 12))

-- one that acknowledges the registration at moment 1, and says nothing more, is cut sixty seconds later, and not before
abbrev pub UnfinishedIsCut : Type 0
UnfinishedIsCut =
    LeavesStanding (linked_log ++ Polled (pos 1) ∷ HeardPt 0 ack ∷ Polled (pos 60) ∷ Polled (pos 61) ∷ CutPt 0 ∷ Polled (pos 62) ∷ Stopped ∷ [])
    (linked_course ++ Make (Polled (pos 1)) ∷ Make (HeardPt 0 ack) ∷ (items_begin 5 ++ Make (Polled (pos 60)) ∷ (items_begin 2 ++ Make (Polled (pos 61)) ∷ Begin ∷ Make (CutPt 0) ∷ Begin ∷ Make (Polled (pos 62)) ∷ Make Stopped ∷ []))) (Unlinked (Some 66))

-- ---- an acknowledgement that can't be sent

-- The terminal says two APDUs at once. The acknowledgement of the first can't be sent: the connection is cut, and neither is handled, so that no enquiry follows.
abbrev pub unacknowledged_log : List Turn
unacknowledged_log = linked_log ++ Polled (pos 1) ∷ HeardPt 0 ack ∷ Polled (pos 2) ∷ HeardPt 0 (intermediate ++ completion) ∷ SentPt 0 (0x80 ∷ []) false ∷ CutPt 0 ∷ Polled (pos 3) ∷ Stopped ∷ []

-- its course: after the cut the items that are left owe nothing
abbrev pub unacknowledged_course : List Move
unacknowledged_course = linked_course ++ Make (Polled (pos 1)) ∷ Make (HeardPt 0 ack) ∷ (items_begin 5 ++ Make (Polled (pos 2)) ∷ Make (HeardPt 0 (intermediate ++ completion)) ∷ Begin ∷ Make (SentPt 0 (0x80 ∷ []) false) ∷ Make (CutPt 0) ∷ (items_begin 7 ++ Make (Polled (pos 3)) ∷ Make Stopped ∷ []))

-- the terminal is due five seconds after the cut
abbrev pub UnacknowledgedIsLawful : Type 0
UnacknowledgedIsLawful = LeavesStanding unacknowledged_log unacknowledged_course (Unlinked (Some 7))

-- ---- what isn't lawful

-- no poll comes before the link of the terminal, which is due at once
abbrev pub PollBeforeLink : Type 0
PollBeforeLink = IsUnlawfulAfter (began terminal_setup ++ Polled (pos 0) ∷ []) (Polled (pos 1))

-- a link that couldn't be made isn't made four seconds later
abbrev pub LinkTooEarly : Type 0
LinkTooEarly = IsUnlawfulAfter (began terminal_setup ++ Polled (pos 0) ∷ LinkFailed 0 ∷ Polled (pos 4) ∷ []) (Linked 0)

-- no enquiry is sent once the terminal is linked, but the registration
abbrev pub EnquiryBeforeRegistration : Type 0
EnquiryBeforeRegistration = IsUnlawfulAfter (began terminal_setup ++ Polled (pos 0) ∷ Linked 0 ∷ []) (SentPt 0 enquiry_sent true)

-- the registration can't be sent, and the connection is cut
abbrev pub cut_log : List Turn
cut_log = began terminal_setup ++ Polled (pos 0) ∷ Linked 0 ∷ SentPt 0 (0x06 ∷ []) false ∷ CutPt 0 ∷ []

-- its course
abbrev pub cut_course : List Move
cut_course = began_moves terminal_setup ++ Make (Polled (pos 0)) ∷ (items_begin 2 ++ Make (Linked 0) ∷ Make (SentPt 0 (0x06 ∷ []) false) ∷ Make (CutPt 0) ∷ [])

-- nothing is sent to the terminal then
abbrev pub EnquiryAfterCut : Type 0
EnquiryAfterCut = IsUnlawfulAfter cut_log (SentPt 0 enquiry_sent true)

-- no poll comes before the cut of a terminal that hasn't acknowledged its registration in time
abbrev pub PollBeforeSilentCut : Type 0
PollBeforeSilentCut = IsUnlawfulAfter (linked_log ++ Polled (pos 5) ∷ []) (Polled (pos 6))

-- nor before the enquiry of one whose registration is done
abbrev pub PollBeforeEnquiry : Type 0
PollBeforeEnquiry = IsUnlawfulAfter done_log (Polled (pos 3))
