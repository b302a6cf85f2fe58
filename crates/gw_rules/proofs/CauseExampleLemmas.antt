-- The example logs of why a terminal is cut.
use Rattle.std.proofs.Common.{ℕ, List, [], ◌∷◌, ◌++◌, refl, inr, arith}
use Rattle.std.specs.Prelude.{pos}
use Rattle.gw_site.specs.Outside.{outside_of}
use Rattle.gw_site.specs.declared.turn.Turn.TheVariants.{Polled, CutPt, Stopped}
use Rattle.zvt_apdu.specs.DecodeStream.{decode_apdus, decode_apdus_within}
use Rattle.zvt_apdu.specs.Grammar.{ApduValue, BeginsTooLongApdu}
use Rattle.zvt_apdu.proofs.DecodeStreamLemmas.{split_is}
use Rattle.zvt_bmp.specs.Decode.{decode_field_value, decode_status_field, decode_status_within, decode_status}
use Rattle.zvt_msg.specs.MessageDecode.{decode_pt_message}
use Rattle.gw_owes.specs.TerminalExample.{ack, outside_status}
use Rattle.gw_rules.specs.CauseExample.{outside_apdu, OutsideIsCause, too_long_course, TooLongIsCut}
use Rattle.gw_rules.specs.LinkLaws.{HasSaid, HasOutside}
use Rattle.gw_rules.specs.TerminalLogExample.{linked_log, items_begin}
use Rattle.gw_rules.specs.View.{Make}
use Rattle.gw_rules.proofs.TerminalLogLemmas.{after_start, from-start}
use Rattle.gw_rules.proofs.TextLemmas.{bytes-tested}

-- ---- an APDU outside the grammar

pub outside-said : HasSaid (outside_of (linked_log ++ Polled (pos 1) ∷ [])) 0 outside_status (outside_apdu ∷ []) []
unfolding decode_apdus decode_apdus_within
outside-said = record { before = []; rest = []; spelled = split_is [] tt; all = split_is outside_status (bytes-tested outside_status refl) }

pub is-outside : HasOutside (outside_apdu ∷ [])
unfolding decode_pt_message decode_status decode_status_within decode_status_field decode_field_value
is-outside = ([], outside_apdu, [], _, refl, refl)

pub outside-cause : OutsideIsCause
unfolding is-outside
outside-cause = (
  record {
    earlier = [];
    later = [];
    left = [];
    said = record { before = linked_log ++ Polled (pos 1) ∷ []; chunk = outside_status; inside = []; log_is = refl; round = tt; said = outside-said };
  },
  (is-outside.3, is-outside.5),
)

-- ---- an APDU above the limit

abbrev pub begun : List ℕ
begun = 0x06 ∷ 0xD1 ∷ 0xFF ∷ 0xE1 ∷ 0x2E ∷ []

abbrev pub ack_apdu : ApduValue
ack_apdu = record { class = 0x80; instr = 0x00; body = [] }

pub too-long-cut : TooLongIsCut
unfolding decode_apdus decode_apdus_within decode_pt_message
too-long-cut = record {
  along = record { turns = refl; lawful = from-start (after_start (too_long_course ++ items_begin 4 ++ Make (CutPt 0) ∷ (items_begin 2 ++ Make (Polled (pos 2)) ∷ Make Stopped ∷ []))) refl };
  standing_is = refl;
}

pub too-long-said : HasSaid (outside_of (linked_log ++ Polled (pos 1) ∷ [])) 0 (ack ++ begun) (ack_apdu ∷ []) begun
unfolding decode_apdus decode_apdus_within
too-long-said = record { before = []; rest = []; spelled = split_is [] tt; all = split_is (ack ++ begun) (bytes-tested (ack ++ begun) refl) }

pub is-too-long : BeginsTooLongApdu begun 12001
is-too-long = (0x06, 0xD1, 0xFF ∷ 0xE1 ∷ 0x2E ∷ [], [], inr (0xE1, 0x2E, refl, refl), omega arith, refl)
