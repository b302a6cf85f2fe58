-- The example logs of why a terminal is cut or is ready.
use Rattle.std.proofs.Common.{ℕ, List, [], ◌∷◌, ◌++◌, refl, inl, inr}
use Rattle.std.specs.Prelude.{pos, slice_get, Option, Some, None}
use Rattle.gw_base.specs.declared.figures.Figures.{Figures}
use Rattle.gw_ledger.specs.History.{history}
use Rattle.gw_site.specs.Outside.{heard_on, outside_of}
use Rattle.gw_site.specs.declared.turn.Turn.TheVariants.{Polled, HeardPt, CutPt, Stopped}
use Rattle.zvt_apdu.specs.DecodeStream.{decode_apdus, decode_apdus_within}
use Rattle.zvt_apdu.proofs.DecodeStreamLemmas.{split_is}
use Rattle.zvt_bmp.specs.Decode.{decode_field_value, decode_status_field, decode_status_within, decode_status}
use Rattle.zvt_msg.specs.Message.{Completion}
use Rattle.zvt_msg.specs.MessageDecode.{decode_pt_message}
use Rattle.gw_owes.specs.Core.{new_terminal}
use Rattle.gw_owes.specs.TerminalExample.{ack, outside_status}
use Rattle.gw_owes.specs.declared.terminal.Standing.TheVariants.{Enquiring, Ready}
use Rattle.gw_owes.specs.declared.terminal.Terminal.{Terminal}
use Rattle.gw_rules.specs.CauseExample.{outside_log, outside_apdu, too_long_log, too_long_course}
use Rattle.rule_examples.specs.CauseExample.{outside_course, OutsideIsCut, PollBeforeOutsideCut, TooLongIsCause, PollBeforeTooLongCut, report_log, report_course, report_view, report_moves, SplitReport}
use Rattle.gw_rules.specs.DialogueLaws.{EndsAlong, HasStanding, IsReport, view_along}
use Rattle.gw_rules.specs.RowExample.{example_pt}
use Rattle.gw_rules.specs.TerminalLogExample.{linked_log, items_begin}
use Rattle.gw_rules.specs.View.{Begin, Make}
use Rattle.gw_rules.proofs.ChunkExampleLemmas.{sent-lasts}
use Rattle.gw_rules.proofs.OutsideCutLemmas.{outside-cuts}
use Rattle.gw_rules.proofs.PrefixLemmas.{lawful-along}
use Rattle.gw_rules.proofs.TerminalLogLemmas.{after_start, from-start}
use Rattle.rule_examples.proofs.TerminalLogLemmas.{none-cut}
use Rattle.gw_rules.proofs.TestedLemmas.{course-tested}
use Rattle.gw_rules.proofs.TextLemmas.{bytes-tested}
use Rattle.gw_rules.proofs.CauseExampleLemmas.{outside-said, is-outside, begun, ack_apdu, too-long-said, is-too-long}

-- ---- an APDU outside the grammar

pub outside-cut : OutsideIsCut
unfolding decode_apdus decode_apdus_within decode_pt_message decode_status decode_status_within decode_status_field decode_field_value
outside-cut = record {
  along = record { turns = refl; lawful = from-start (after_start (outside_course ++ Begin ∷ Make (CutPt 0) ∷ (items_begin 4 ++ Make (Polled (pos 2)) ∷ Make Stopped ∷ []))) refl };
  standing_is = refl;
}

pub poll-before-outside-cut : PollBeforeOutsideCut
unfolding decode_apdus decode_apdus_within
poll-before-outside-cut = record {
  before = lawful-along outside_log outside_course refl (from-start (after_start outside_course) refl);
  with_turn = λ lawful. none-cut 0 (outside-cuts (linked_log ++ Polled (pos 1) ∷ []) [] [] 0 outside_status (pos 2) (outside_apdu ∷ []) [] lawful tt outside-said (inl is-outside));
}

-- ---- an APDU above the limit

pub too-long-cause : TooLongIsCause
too-long-cause = record {
  new = ack_apdu ∷ [];
  left = begun;
  length = 12001;
  said = record { before = linked_log ++ Polled (pos 1) ∷ []; chunk = ack ++ begun; inside = []; log_is = refl; round = tt; said = too-long-said };
  too_long = is-too-long;
}

pub poll-before-too-long-cut : PollBeforeTooLongCut
unfolding decode_apdus decode_apdus_within
poll-before-too-long-cut = record {
  before = lawful-along too_long_log too_long_course refl (from-start (after_start too_long_course) refl);
  with_turn = λ lawful. none-cut 0 (outside-cuts (linked_log ++ Polled (pos 1) ∷ []) [] [] 0 (ack ++ begun) (pos 2) (ack_apdu ∷ []) begun lawful tt too-long-said (inr (12001, is-too-long)));
}

-- ---- a report in two parts

abbrev found : Option Terminal → Terminal
found None = new_terminal example_pt
found (Some terminal) = terminal

abbrev reported : Figures
reported = record { number = 123; receipt = 17; amount = 1099 }

abbrev heard_before : List ℕ
heard_before = heard_on (outside_of report_log).links 0

abbrev rest_chunk : List ℕ
rest_chunk = 0x0F ∷ 0x00 ∷ []

report-ends : EndsAlong (IsReport 123) report_log report_view report_moves 0 (found (slice_get report_view.scene.core.terminals 0)) Enquiring
unfolding decode_apdus decode_apdus_within decode_pt_message decode_status decode_status_within decode_status_field decode_field_value history
report-ends = record {
  chunk = rest_chunk;
  new = record { class = 0x06; instr = 0x0F; body = [] } ∷ [];
  left = [];
  before = record { course = report_course; log_is = refl; lawful = from-start (after_start report_course) refl; view_is = refl };
  lawful = course-tested report_view (Make (HeardPt 0 rest_chunk) ∷ report_moves) refl;
  round = (refl, tt);
  lasts = (sent-lasts ack, tt);
  found = refl;
  standing_is = refl;
  said = record {
    before = (decode_apdus heard_before).apdus;
    rest = (decode_apdus heard_before).rest;
    spelled = split_is heard_before (bytes-tested heard_before refl);
    all = split_is (heard_before ++ rest_chunk) (bytes-tested (heard_before ++ rest_chunk) refl);
  };
  ends = (Completion, refl, inl (Some reported, 0, refl));
  may_poll = record { running = refl; calls = refl; items = refl };
}

report-ready : HasStanding (view_along report_view 0 rest_chunk report_moves).scene.core 0 (Ready 123)
unfolding decode_apdus decode_apdus_within decode_pt_message decode_status decode_status_within decode_status_field decode_field_value history
report-ready = (found (slice_get (view_along report_view 0 rest_chunk report_moves).scene.core.terminals 0), refl, refl)

pub split-report : SplitReport
unfolding report-ends history
split-report = record {
  terminal = found (slice_get report_view.scene.core.terminals 0);
  ends = report-ends;
  chunk_is = refl;
  ready = report-ready;
}
