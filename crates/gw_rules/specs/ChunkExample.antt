-- An example log of a registration that is acknowledged and done with the same bytes, after a first byte that came alone.
use Rattle.std.specs.Prelude.{pos, true, List, [], ◌∷◌, ◌++◌}
use Rattle.gw_site.specs.declared.turn.Turn.{Turn}
use Rattle.gw_site.specs.declared.turn.Turn.TheVariants.{Polled, HeardPt, SentPt, Stopped}
use Rattle.gw_owes.specs.declared.terminal.Standing.TheVariants.{Enquiring}
use Rattle.gw_owes.specs.TerminalExample.{ack, completion, enquiry_sent}
use Rattle.gw_rules.specs.Example.{IsUnlawfulAfter}
use Rattle.gw_rules.specs.TerminalLogExample.{linked_log, linked_course, items_begin, LeavesStanding}
use Rattle.gw_rules.specs.View.{Move, Begin, Make}

-- the first byte of the Ack comes alone, and then the rest of it with the Completion, which is acknowledged
abbrev pub split_log : List Turn
split_log = linked_log ++ Polled (pos 1) ∷ HeardPt 0 (0x80 ∷ []) ∷ Polled (pos 2) ∷ HeardPt 0 (0x00 ∷ 0x00 ∷ completion) ∷ SentPt 0 ack true ∷ []

-- its course: the first byte brings no item
abbrev pub split_course : List Move
split_course = linked_course ++ Make (Polled (pos 1)) ∷ Make (HeardPt 0 (0x80 ∷ [])) ∷ (items_begin 2 ++ Make (Polled (pos 2)) ∷ Make (HeardPt 0 (0x00 ∷ 0x00 ∷ completion)) ∷ (items_begin 4 ++ Make (SentPt 0 ack true) ∷ []))

-- then the enquiry is sent
abbrev pub SplitIsEnquired : Type 0
SplitIsEnquired = LeavesStanding (split_log ++ SentPt 0 enquiry_sent true ∷ Polled (pos 3) ∷ Stopped ∷ []) (split_course ++ Begin ∷ Make (SentPt 0 enquiry_sent true) ∷ (items_begin 3 ++ Make (Polled (pos 3)) ∷ Make Stopped ∷ [])) Enquiring

-- and no poll comes before
abbrev pub PollBeforeSplitEnquiry : Type 0
PollBeforeSplitEnquiry = IsUnlawfulAfter split_log (Polled (pos 3))
