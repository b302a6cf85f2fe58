-- The example logs of what an APDU outside the grammar, and one above the limit, change.
use Rattle.std.proofs.Common.{◌≡◌, ◌≢◌, ℕ, true, List, [], ◌∷◌, ◌++◌, refl, ap, arith}
use Rattle.std.proofs.lemmas.List.Elements.{All-from_recursion}
use Rattle.std.specs.Prelude.{pos, slice_get, Option, Some, None}
use Rattle.gw_base.specs.Setup.{IsPt, IsSetup}
use Rattle.gw_base.specs.declared.setup.Pt.{Pt}
use Rattle.gw_site.specs.Outside.{outside_of}
use Rattle.gw_site.specs.declared.turn.Turn.TheVariants.{Start, Polled, CutPt, Stopped}
use Rattle.zvt_apdu.specs.DecodeStream.{decode_apdus, decode_apdus_within}
use Rattle.zvt_apdu.proofs.DecodeStreamLemmas.{split_is}
use Rattle.zvt_bmp.specs.Decode.{decode_field_value, decode_status_field, decode_status_within, decode_status}
use Rattle.zvt_msg.specs.MessageDecode.{decode_pt_message}
use Rattle.gw_owes.specs.TerminalExample.{ack}
use Rattle.gw_rules.specs.CutCauseExample.{completion_apdu}
use Rattle.gw_rules.specs.AloneExample.{other_pt, two_setup, both_polled, alone_chunk, alone_cut_log, alone_cut_course, OutsideLeavesOther, TooLongEndsOwnLink}
use Rattle.gw_rules.specs.CauseExample.{outside_apdu, too_long_log, too_long_course}
use Rattle.gw_rules.specs.Lawful.{IsCourse}
use Rattle.gw_rules.specs.LinkLaws.{HasSaid}
use Rattle.gw_rules.specs.RowExample.{example_pt}
use Rattle.gw_rules.specs.TerminalLogExample.{linked_log, items_begin}
use Rattle.gw_rules.specs.View.{Move, Make, after, at_first}
use Rattle.gw_rules.proofs.AloneLemmas.{outside-is-alone, too-long-is-alone}
use Rattle.gw_rules.proofs.CauseExampleLemmas.{begun, ack_apdu, outside-cause, too-long-said, is-too-long, too-long-cut}
use Rattle.gw_rules.proofs.PrefixLemmas.{lawful-along}
use Rattle.gw_rules.proofs.RowExampleLemmas.{pt-formed, formed}
use Rattle.gw_rules.proofs.TerminalLogLemmas.{after_start}
use Rattle.gw_rules.proofs.TestedLemmas.{passes_course, course-tested}
use Rattle.gw_rules.proofs.TextLemmas.{bytes-tested, ident-tested}

-- ---- two terminals

two-formed : IsSetup two_setup
two-formed = record {
  name = formed.name;
  line = formed.line;
  wait = formed.wait;
  slots = formed.slots;
  count = omega arith;
  each = All-from_recursion IsPt (example_pt ∷ other_pt ∷ []) (pt-formed, (other-formed, tt));
  distinct = (All-from_recursion (λ (other : Pt). example_pt.poi ≢ other.poi) (other_pt ∷ []) (differs, tt), (All-from_recursion _ [] tt, tt));
}
  where
    code : Option ℕ → ℕ
    code None = 0
    code (Some byte) = byte

    differs : example_pt.poi ≡ other_pt.poi → ⊥
    differs same = let codes_are : ◌≡◌ {A = ℕ} 49 50 = ap (λ l. code (slice_get l 1)) same in omega (arith, codes_are)

    other-formed : IsPt other_pt
    other-formed = record { poi = ident-tested 40 other_pt.poi refl; password = pt-formed.password; config = pt-formed.config; none = pt-formed.none; answer = pt-formed.answer; command = pt-formed.command }

-- a course of both from the start on
pub from-two : (moves : List Move) → passes_course (after at_first (Make (Start two_setup))) moves ≡ true → IsCourse at_first (Make (Start two_setup) ∷ moves)
from-two moves e = ((refl, two-formed), course-tested (after at_first (Make (Start two_setup))) moves e)

-- ---- an APDU outside the grammar

alone-said : HasSaid (outside_of both_polled) 0 alone_chunk (outside_apdu ∷ completion_apdu ∷ []) []
unfolding decode_apdus decode_apdus_within
alone-said = record { before = []; rest = []; spelled = split_is [] tt; all = split_is alone_chunk (bytes-tested alone_chunk refl) }

pub outside-leaves-other : OutsideLeavesOther
unfolding decode_apdus decode_apdus_within decode_pt_message decode_status decode_status_within decode_status_field decode_field_value
outside-leaves-other = record {
  along = record { turns = refl; lawful = from-two (after_start alone_cut_course) refl };
  first_is = refl;
  other_is = refl;
  said = alone-said;
  alone =
      outside-is-alone both_polled (CutPt 0 ∷ []) (Stopped ∷ []) 0 alone_chunk (pos 2) [] (completion_apdu ∷ []) outside_apdu [] outside-cause.1.0 (lawful-along alone_cut_log alone_cut_course refl (from-two (after_start alone_cut_course) refl)) (refl, tt) alone-said
      outside-cause.1.1;
}

pub too-long-ends-own-link : TooLongEndsOwnLink
too-long-ends-own-link =
    too-long-is-alone (linked_log ++ Polled (pos 1) ∷ []) (CutPt 0 ∷ []) (Stopped ∷ []) 0 (ack ++ begun) (pos 2) (ack_apdu ∷ []) begun 12001
    (lawful-along (too_long_log ++ CutPt 0 ∷ Polled (pos 2) ∷ Stopped ∷ []) (too_long_course ++ items_begin 4 ++ Make (CutPt 0) ∷ (items_begin 2 ++ Make (Polled (pos 2)) ∷ Make Stopped ∷ [])) too-long-cut.along.turns too-long-cut.along.lawful) (refl, tt) too-long-said is-too-long
