-- An example log of a terminal that says a single byte with each poll, and no whole APDU, until the deadline of its registration comes.
use Rattle.std.specs.Prelude.{pos, List, [], ◌∷◌, ◌++◌, Some}
use Rattle.gw_site.specs.declared.turn.Turn.{Turn}
use Rattle.gw_site.specs.declared.turn.Turn.TheVariants.{Polled, HeardPt, CutPt, Stopped}
use Rattle.gw_owes.specs.declared.terminal.Standing.TheVariants.{Unlinked}
use Rattle.gw_rules.specs.Example.{IsUnlawfulAfter}
use Rattle.gw_rules.specs.SilenceLaws.{IsSilentAlong}
use Rattle.gw_rules.specs.TerminalLogExample.{linked_log, linked_course, items_begin, LeavesStanding}
use Rattle.gw_rules.specs.View.{View, Move, Begin, Make, view_from, at_first}

-- one byte of an Ack comes at moment 1, and the next at moment 5
abbrev pub trickle_log : List Turn
trickle_log = linked_log ++ Polled (pos 1) ∷ HeardPt 0 (0x80 ∷ []) ∷ Polled (pos 5) ∷ HeardPt 0 (0x00 ∷ []) ∷ []

-- the moves before the poll at moment 5
abbrev pub trickle_first : List Move
trickle_first = Make (Polled (pos 1)) ∷ Make (HeardPt 0 (0x80 ∷ [])) ∷ items_begin 2

-- and those after it: the terminal is late
abbrev pub trickle_second : List Move
trickle_second = Make (HeardPt 0 (0x00 ∷ [])) ∷ Begin ∷ Make (CutPt 0) ∷ Begin ∷ []

-- the view once the terminal was linked
abbrev pub linked_view : View
linked_view = view_from at_first linked_course

-- five seconds after its registration was sent it is cut
abbrev pub TrickleIsCut : Type 0
TrickleIsCut = LeavesStanding (trickle_log ++ CutPt 0 ∷ Polled (pos 6) ∷ Stopped ∷ []) (linked_course ++ trickle_first ++ Make (Polled (pos 5)) ∷ (trickle_second ++ Make (Polled (pos 6)) ∷ Make Stopped ∷ [])) (Unlinked (Some 10))

-- it was silent, though each poll has brought a byte of it
abbrev pub TrickleIsSilent : Type 0
TrickleIsSilent = IsSilentAlong linked_log linked_view trickle_first trickle_second (pos 5) 0

-- and no poll comes before its cut
abbrev pub PollBeforeTrickleCut : Type 0
PollBeforeTrickleCut = IsUnlawfulAfter trickle_log (Polled (pos 6))
