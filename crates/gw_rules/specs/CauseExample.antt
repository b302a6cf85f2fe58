-- Example logs of why a terminal is cut: an APDU outside the grammar, and one above the limit.
use Rattle.std.specs.Prelude.{◌≡◌, pos, List, [], ◌∷◌, ◌++◌, Some, Err}
use Rattle.gw_site.specs.declared.turn.Turn.{Turn}
use Rattle.gw_site.specs.declared.turn.Turn.TheVariants.{Polled, HeardPt, CutPt, Stopped}
use Rattle.zvt_apdu.specs.Grammar.{ApduValue}
use Rattle.zvt_msg.specs.MessageDecode.{decode_pt_message}
use Rattle.zvt_msg.specs.declared.fault.PtFault.{PtFault}
use Rattle.gw_owes.specs.TerminalExample.{ack, outside_status}
use Rattle.gw_owes.specs.declared.terminal.Standing.TheVariants.{Unlinked}
use Rattle.gw_rules.specs.CutCauses.{HasSaidApdu}
use Rattle.gw_rules.specs.TerminalLogExample.{linked_log, linked_course, items_begin, LeavesStanding}
use Rattle.gw_rules.specs.View.{Move, Make}

-- ---- an APDU outside the grammar

-- the terminal says a Status whose fields are truncated
abbrev pub outside_log : List Turn
outside_log = linked_log ++ Polled (pos 1) ∷ HeardPt 0 outside_status ∷ []

-- that APDU
abbrev pub outside_apdu : ApduValue
outside_apdu = record { class = 0x04; instr = 0x0F; body = 0x27 ∷ [] }

-- it has said that APDU, which is outside the grammar, with the bytes that began the round
abbrev pub OutsideIsCause : Type 0
OutsideIsCause = HasSaidApdu outside_log 0 outside_apdu × ((fault : PtFault) × (decode_pt_message outside_apdu ≡ Err fault))

-- ---- an APDU above the limit

-- the terminal acknowledges its registration, and begins an APDU of 12,001 bytes
abbrev pub too_long_log : List Turn
too_long_log = linked_log ++ Polled (pos 1) ∷ HeardPt 0 (ack ++ 0x06 ∷ 0xD1 ∷ 0xFF ∷ 0xE1 ∷ 0x2E ∷ []) ∷ []

-- its course
abbrev pub too_long_course : List Move
too_long_course = linked_course ++ Make (Polled (pos 1)) ∷ Make (HeardPt 0 (ack ++ 0x06 ∷ 0xD1 ∷ 0xFF ∷ 0xE1 ∷ 0x2E ∷ [])) ∷ []

-- the terminal is cut
abbrev pub TooLongIsCut : Type 0
TooLongIsCut = LeavesStanding (too_long_log ++ CutPt 0 ∷ Polled (pos 2) ∷ Stopped ∷ []) (too_long_course ++ items_begin 4 ++ Make (CutPt 0) ∷ (items_begin 2 ++ Make (Polled (pos 2)) ∷ Make Stopped ∷ [])) (Unlinked (Some 6))
