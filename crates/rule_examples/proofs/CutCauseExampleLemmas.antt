-- The example logs after which a terminal is cut, one for each cause.
use Rattle.std.proofs.Common.{List, [], ◌∷◌, ◌++◌, refl, true, inl, inr}
use Rattle.std.specs.Prelude.{pos, slice_get, Option, Some, None}
use Rattle.gw_site.specs.declared.turn.Turn.{Turn}
use Rattle.gw_site.specs.declared.turn.Turn.TheVariants.{Polled, SentPt, CutPt, Stopped}
use Rattle.zvt_apdu.specs.DecodeStream.{decode_apdus, decode_apdus_within}
use Rattle.zvt_apdu.proofs.DecodeStreamLemmas.{split_is}
use Rattle.zvt_bmp.specs.Decode.{decode_field_value, decode_status_field, decode_status_within, decode_status}
use Rattle.zvt_msg.specs.Message.{Abort, Completion}
use Rattle.zvt_msg.specs.MessageDecode.{decode_pt_message}
use Rattle.gw_owes.specs.Core.{new_terminal}
use Rattle.gw_owes.specs.Items.{Greet, Handle, Oversized, Late}
use Rattle.gw_owes.specs.TerminalExample.{ack, abort, completion}
use Rattle.gw_owes.specs.TerminalLaws.{BreaksDialogue, IsLateAt}
use Rattle.gw_owes.specs.declared.terminal.Terminal.{Terminal}
use Rattle.gw_rules.specs.CauseExample.{outside_log, outside_apdu, too_long_log}
use Rattle.rule_examples.specs.CauseExample.{outside_course}
use Rattle.gw_rules.specs.CutCauseExample.{completion_apdu}
use Rattle.rule_examples.specs.CutCauseExample.{known_along, unclear_log, unclear_course, ExampleUnclearCut, aborted_log, aborted_course, abort_apdu, ExampleDeclinedCut, ExampleOutsideCut, oversized_course, ExampleTooLongCut, late_log, late_course, ExampleLateCut, unsent_log, unacknowledged_done_log, unacknowledged_done_course, ExampleFailedCut}
use Rattle.gw_rules.specs.CutCauses.{HasSaidApdu, BeginsCut, SendFailed, SaidOutside, BegunTooLong, BrokeDialogue, DeadlineCame}
use Rattle.gw_rules.specs.RowExample.{example_pt, terminal_setup}
use Rattle.gw_rules.specs.TerminalLogExample.{linked_log, items_begin}
use Rattle.gw_rules.specs.View.{Move, Begin, Make, view_from, at_first}
use Rattle.gw_rules.proofs.CauseExampleLemmas.{outside-cause}
use Rattle.rule_examples.proofs.CauseExampleLemmas.{too-long-cause}
use Rattle.gw_rules.proofs.PrefixLemmas.{lawful-along}
use Rattle.gw_rules.proofs.TerminalLogLemmas.{after_start, from-start}
use Rattle.gw_rules.proofs.TextLemmas.{bytes-tested}

abbrev found : Option Terminal → Terminal
found None = new_terminal example_pt
found (Some terminal) = terminal

-- the terminal at the end of a course
abbrev terminal_along : List Move → Terminal
terminal_along course = found (slice_get (view_from at_first course).scene.core.terminals 0)

-- what is newly said once a poll has come after the link
abbrev heard_log : List Turn
heard_log = linked_log ++ Polled (pos 1) ∷ []

-- ---- an unclear end

unclear-said : HasSaidApdu unclear_log 0 completion_apdu
unfolding decode_apdus decode_apdus_within
unclear-said = record {
  earlier = [];
  later = [];
  left = [];
  said = record {
    before = heard_log;
    chunk = completion;
    inside = SentPt 0 ack true ∷ [];
    log_is = refl;
    round = (refl, tt);
    said = record { before = []; rest = []; spelled = split_is [] tt; all = split_is completion (bytes-tested completion refl) };
  };
}

unclear-begins : BeginsCut unclear_log 0 (Handle 0 completion_apdu) (known_along unclear_course)
unfolding decode_apdus decode_apdus_within decode_pt_message
unclear-begins = record {
  view = view_from at_first unclear_course;
  along = record { course = unclear_course; log_is = refl; lawful = from-start (after_start unclear_course) refl; view_is = refl };
  begins = record { idle = record { round = refl; calls = refl }; first = refl };
  rest = _;
  items_are = refl;
  setup = terminal_setup;
  setup_is = refl;
  known_is = refl;
  owed = refl;
}

unclear-breaks : BreaksDialogue (known_along unclear_course) 0 completion_apdu
unfolding decode_apdus decode_apdus_within decode_pt_message
unclear-breaks = record { terminal = terminal_along unclear_course; found = refl; message = Completion; decoded = refl; why = inl refl }

pub unclear-cut : ExampleUnclearCut
unfolding decode_apdus decode_apdus_within decode_pt_message unclear-breaks
unclear-cut = record {
  is_cut = record {
    along = record { turns = refl; lawful = from-start (after_start (unclear_course ++ Begin ∷ Make (CutPt 0) ∷ (items_begin 3 ++ Make (Polled (pos 2)) ∷ Make Stopped ∷ []))) refl };
    standing_is = refl;
  };
  said = unclear-said;
  begins = unclear-begins;
  breaks = unclear-breaks;
  unclear = refl;
  cause = BrokeDialogue completion_apdu (known_along unclear_course) unclear-said unclear-begins unclear-breaks;
  cause_is = refl;
}

-- ---- a registration that is declined

declined-said : HasSaidApdu aborted_log 0 abort_apdu
unfolding decode_apdus decode_apdus_within
declined-said = record {
  earlier = record { class = 0x80; instr = 0x00; body = [] } ∷ [];
  later = [];
  left = [];
  said = record {
    before = heard_log;
    chunk = ack ++ abort 0x6C;
    inside = SentPt 0 ack true ∷ [];
    log_is = refl;
    round = (refl, tt);
    said = record { before = []; rest = []; spelled = split_is [] tt; all = split_is (ack ++ abort 0x6C) (bytes-tested (ack ++ abort 0x6C) refl) };
  };
}

declined-begins : BeginsCut aborted_log 0 (Handle 0 abort_apdu) (known_along aborted_course)
unfolding decode_apdus decode_apdus_within decode_pt_message
declined-begins = record {
  view = view_from at_first aborted_course;
  along = record { course = aborted_course; log_is = refl; lawful = from-start (after_start aborted_course) refl; view_is = refl };
  begins = record { idle = record { round = refl; calls = refl }; first = refl };
  rest = _;
  items_are = refl;
  setup = terminal_setup;
  setup_is = refl;
  known_is = refl;
  owed = refl;
}

declined-breaks : BreaksDialogue (known_along aborted_course) 0 abort_apdu
unfolding decode_apdus decode_apdus_within decode_pt_message
declined-breaks = record { terminal = terminal_along aborted_course; found = refl; message = Abort (Some 0x6C); decoded = refl; why = inr (0x6C, None, refl, inl refl) }

pub declined-cut : ExampleDeclinedCut
unfolding decode_apdus decode_apdus_within decode_pt_message declined-breaks
declined-cut = record {
  is_cut = lawful-along (aborted_log ++ CutPt 0 ∷ []) (aborted_course ++ Begin ∷ Make (CutPt 0) ∷ []) refl (from-start (after_start (aborted_course ++ Begin ∷ Make (CutPt 0) ∷ [])) refl);
  said = declined-said;
  begins = declined-begins;
  breaks = declined-breaks;
  declined = refl;
  cause = BrokeDialogue abort_apdu (known_along aborted_course) declined-said declined-begins declined-breaks;
  cause_is = refl;
}

-- ---- an APDU outside the grammar

outside-begins : BeginsCut outside_log 0 (Greet 0 outside_apdu) (known_along outside_course)
unfolding decode_apdus decode_apdus_within decode_pt_message decode_status decode_status_within decode_status_field decode_field_value
outside-begins = record {
  view = view_from at_first outside_course;
  along = record { course = outside_course; log_is = refl; lawful = from-start (after_start outside_course) refl; view_is = refl };
  begins = record { idle = record { round = refl; calls = refl }; first = refl };
  rest = _;
  items_are = refl;
  setup = terminal_setup;
  setup_is = refl;
  known_is = refl;
  owed = refl;
}

pub outside-cut-cause : ExampleOutsideCut
unfolding decode_apdus decode_apdus_within decode_pt_message decode_status decode_status_within decode_status_field decode_field_value
outside-cut-cause = record {
  is_cut = lawful-along (outside_log ++ CutPt 0 ∷ []) (outside_course ++ Begin ∷ Make (CutPt 0) ∷ []) refl (from-start (after_start (outside_course ++ Begin ∷ Make (CutPt 0) ∷ [])) refl);
  said = outside-cause.0;
  begins = outside-begins;
  fault = outside-cause.1.0;
  outside = outside-cause.1.1;
  cause = SaidOutside outside_apdu outside-cause.1.0 (known_along outside_course) outside-cause.0 outside-begins outside-cause.1.1;
  cause_is = refl;
}

-- ---- an APDU above the limit

too-long-begins : BeginsCut too_long_log 0 (Oversized 0) (known_along oversized_course)
unfolding decode_apdus decode_apdus_within decode_pt_message
too-long-begins = record {
  view = view_from at_first oversized_course;
  along = record { course = oversized_course; log_is = refl; lawful = from-start (after_start oversized_course) refl; view_is = refl };
  begins = record { idle = record { round = refl; calls = refl }; first = refl };
  rest = _;
  items_are = refl;
  setup = terminal_setup;
  setup_is = refl;
  known_is = refl;
  owed = refl;
}

pub too-long-cut-cause : ExampleTooLongCut
unfolding decode_apdus decode_apdus_within decode_pt_message
too-long-cut-cause = record {
  is_cut = lawful-along (too_long_log ++ CutPt 0 ∷ []) (oversized_course ++ Begin ∷ Make (CutPt 0) ∷ []) refl (from-start (after_start (oversized_course ++ Begin ∷ Make (CutPt 0) ∷ [])) refl);
  begun = too-long-cause;
  begins = too-long-begins;
  cause = BegunTooLong (known_along oversized_course) too-long-cause too-long-begins;
  cause_is = refl;
}

-- ---- a deadline

late-begins : BeginsCut late_log 0 (Late 0) (known_along late_course)
late-begins = record {
  view = view_from at_first late_course;
  along = record { course = late_course; log_is = refl; lawful = from-start (after_start late_course) refl; view_is = refl };
  begins = record { idle = record { round = refl; calls = refl }; first = refl };
  rest = _;
  items_are = refl;
  setup = terminal_setup;
  setup_is = refl;
  known_is = refl;
  owed = refl;
}

late-is : IsLateAt (known_along late_course) 0
late-is = record { terminal = terminal_along late_course; found = refl; talk = _; talk_is = refl; late = refl }

pub late-cut : ExampleLateCut
late-cut = record {
  is_cut = lawful-along (late_log ++ CutPt 0 ∷ []) (late_course ++ Begin ∷ Make (CutPt 0) ∷ []) refl (from-start (after_start (late_course ++ Begin ∷ Make (CutPt 0) ∷ [])) refl);
  begins = late-begins;
  late = late-is;
  cause = DeadlineCame (known_along late_course) late-begins late-is;
  cause_is = refl;
}

-- ---- a send that has failed

pub failed-cut : ExampleFailedCut
unfolding decode_apdus decode_apdus_within decode_pt_message
failed-cut = record {
  is_cut = lawful-along (unacknowledged_done_log ++ CutPt 0 ∷ []) (unacknowledged_done_course ++ Make (CutPt 0) ∷ []) refl (from-start (after_start (unacknowledged_done_course ++ Make (CutPt 0) ∷ [])) refl);
  failed = refl;
  cause = SendFailed unsent_log (0x80 ∷ []) refl;
  cause_is = refl;
}
